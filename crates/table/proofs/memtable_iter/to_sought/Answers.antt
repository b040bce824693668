use Rattle.std.proofs.Common.{ap, ◌∙◌}
use Rattle.image.specs.Refusals.{given}
use Rattle.image.specs.EntryMoves.{Cursor, seek}
use Rattle.table.specs.MemtableIter.{cursor_is}
use Rattle.table.proofs.MemtableIterLaws.{left_by, move_refused, seek_refused, sought}
use Rattle.image.specs.Search.{to_stop}
use Rattle.table.proofs.NeighboursLaws.{lands_standing}
use Rattle.table.proofs.memtable_iter.to_sought.Goals as goal

pub returns-in_err-table : goal.returns-in_err-table
returns-in_err-table c = left_by cursor_is c.from_residual.result _ c.from_residual.ensures.1 (move_refused _ (seek _ _) _ _ c.in_err-table.ensures)

pub returns-in_err-probe : goal.returns-in_err-probe
returns-in_err-probe c =
    left_by cursor_is c.from_residual-in_err-probe.result _ c.from_residual-in_err-probe.ensures.1 (seek_refused _ _ _ _ c.in_ok-table.table c.in_ok-table.ensures _ c.in_err-probe.ensures)

pub returns-in_err-stands : goal.returns-in_err-stands
returns-in_err-stands c =
    let leads = lands_standing _ to_stop _ _ c.in_err-stands.ensures in
    left_by cursor_is c.from_residual-in_err-stands.result _ c.from_residual-in_err-stands.ensures.1
    (sought _ c.args.key.now c.args.number _ c.in_ok-table.table c.in_ok-table.ensures c.in_ok-probe.probe c.in_ok-probe.ensures leads)

pub returns-in_err-to : goal.returns-in_err-to
returns-in_err-to c =
    let leads = lands_standing _ to_stop _ _ c.in_ok-stands.ensures in
    left_by cursor_is c.from_residual-in_err-to.result _ c.from_residual-in_err-to.ensures.1
    (sought _ c.args.key.now c.args.number _ c.in_ok-table.table c.in_ok-table.ensures c.in_ok-probe.probe c.in_ok-probe.ensures (c.in_err-to.ensures ∙ leads))

pub returns : goal.returns
returns c =
    let leads = lands_standing _ to_stop _ _ c.in_ok-stands.ensures in
    ap (λ (d : Cursor). given d) c.from.ensures
    ∙ sought _ c.args.key.now c.args.number _ c.in_ok-table.table c.in_ok-table.ensures c.in_ok-probe.probe c.in_ok-probe.ensures (c.in_ok-to.ensures ∙ leads)
