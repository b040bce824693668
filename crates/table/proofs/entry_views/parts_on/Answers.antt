-- `entry_views::parts_on`: the test of the cursor, nowhere, a node that cannot be read, or one that can.
use Rattle.table.proofs.EntryViewsLaws.{parts_left_by, parts_refused, parts_nowhere, parts_bad, parts_got}
use Rattle.table.proofs.entry_views.parts_on.Goals as goal

pub returns-in_err-table : goal.returns-in_err-table
returns-in_err-table c = parts_left_by _ _ c.from_residual.result _ c.from_residual.ensures.1 (parts_refused _ _ _ c.in_err-table.ensures)

pub returns-in_default : goal.returns-in_default
returns-in_default c = parts_nowhere _ c.in_ok-table.table c.in_ok-table.ensures c.in_default.is

pub returns-in_err-node_of : goal.returns-in_err-node_of
returns-in_err-node_of c =
    parts_left_by _ _ c.from_residual-in_err-node_of.result _ c.from_residual-in_err-node_of.ensures.1
    (parts_bad _ c.in_ok-table.table c.in_ok-table.ensures c.in-On.is c.in_err-node_of.ensures.exact)

pub returns : goal.returns
returns c =
    let node = c.in_ok-node_of.ensures in
    parts_got _ c.in_ok-table.table c.in_ok-table.ensures c.in-On.is c.in_ok-node_of.field-0 node.exact node.kind
