use Rattle.std.proofs.Common.{refl, ap, ◌∙◌}
use Rattle.image.specs.Refusals.{given}
use Rattle.image.specs.EntryMoves.{Cursor, first}
use Rattle.table.specs.MemtableIter.{cursor_is}
use Rattle.table.proofs.MemtableIterLaws.{left_by, move_refused, move_made}
use Rattle.table.proofs.memtable_iter.to_first.Goals as goal

pub returns-in_err-table : goal.returns-in_err-table
returns-in_err-table c = left_by cursor_is c.from_residual.result _ c.from_residual.ensures.1 (move_refused _ first _ _ c.in_err-table.ensures)

pub returns-in_err-to : goal.returns-in_err-to
returns-in_err-to c = left_by cursor_is c.from_residual-in_err-to.result _ c.from_residual-in_err-to.ensures.1 (move_made _ first _ c.in_ok-table.table c.in_ok-table.ensures (λ a. refl) refl c.in_err-to.ensures)

pub returns : goal.returns
returns c = ap (λ (d : Cursor). given d) c.from.ensures ∙ move_made _ first _ c.in_ok-table.table c.in_ok-table.ensures (λ a. refl) refl c.in_ok-to.ensures
