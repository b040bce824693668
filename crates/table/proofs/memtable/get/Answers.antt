use Rattle.std.specs.Prelude.{Some, None, Ok, Err}
use Rattle.table.proofs.MemtableLaws.{not_opened, gets, gets_refused, get_header, get_probe, get_stands, get_said}
use Rattle.table.proofs.memtable.get.Goals as goal

pub returns-in_err-table : goal.returns-in_err-table
returns-in_err-table c =
    gets_refused _ _ _ c.from_residual.result _ c.from_residual.ensures.1
    (get_header _ _ _ _ (not_opened _ _ c.open.ensures _ c.in_err-table.ensures.ok_part c.in_err-table.ensures.value))

pub returns-in_err-probe : goal.returns-in_err-probe
returns-in_err-probe c =
    gets_refused _ _ _ c.from_residual-in_err-probe.result _ c.from_residual-in_err-probe.ensures.1
    (get_probe _ _ _ c.in_ok-table.table c.open.ensures c.in_ok-table.ensures.ok_part _ c.in_err-probe.ensures)

pub returns-in_err-stands : goal.returns-in_err-stands
returns-in_err-stands c =
    gets_refused _ _ _ c.from_residual-in_err-stands.result _ c.from_residual-in_err-stands.ensures.1
    (get_stands _ _ _ c.in_ok-table.table c.open.ensures c.in_ok-table.ensures.ok_part c.in_ok-probe.probe c.in_ok-probe.ensures _ c.in_err-stands.ensures)

pub returns-in_err-said : goal.returns-in_err-said
returns-in_err-said c =
    gets_refused _ _ _ c.from_residual-in_err-said.result _ c.from_residual-in_err-said.ensures.1
    (get_said _ _ _ c.in_ok-table.table c.open.ensures c.in_ok-table.ensures.ok_part c.in_ok-probe.probe c.in_ok-probe.ensures
    c.in_ok-stands.stands c.in_ok-stands.ensures (Err _) c.in_err-said.ensures.exact)

pub returns-in_default : goal.returns-in_default
returns-in_default c =
    let said = rw c.in_default.is at c.in_ok-said.ensures.exact in
    gets _ _ _ _ (get_said _ _ _ c.in_ok-table.table c.open.ensures c.in_ok-table.ensures.ok_part c.in_ok-probe.probe c.in_ok-probe.ensures
    c.in_ok-stands.stands c.in_ok-stands.ensures (Ok None) said)

pub returns-in-Value : goal.returns-in-Value
returns-in-Value c =
    gets _ _ _ _ (rw c.in-Value.is at (get_said _ _ _ c.in_ok-table.table c.open.ensures c.in_ok-table.ensures.ok_part c.in_ok-probe.probe c.in_ok-probe.ensures
    c.in_ok-stands.stands c.in_ok-stands.ensures (Ok (Some c.in-Some.said)) (rw c.in-Some.is at c.in_ok-said.ensures.exact)))

pub returns-in-Deletion : goal.returns-in-Deletion
returns-in-Deletion c =
    gets _ _ _ _ (rw c.in-Deletion.is at (get_said _ _ _ c.in_ok-table.table c.open.ensures c.in_ok-table.ensures.ok_part c.in_ok-probe.probe c.in_ok-probe.ensures
    c.in_ok-stands.stands c.in_ok-stands.ensures (Ok (Some c.in-Some.said)) (rw c.in-Some.is at c.in_ok-said.ensures.exact)))
