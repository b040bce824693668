use Rattle.std.proofs.Common.{refl, ap, ◌∙◌}
use Rattle.image.specs.Refusals.{given}
use Rattle.image.specs.EntryMoves.{Cursor, previous}
use Rattle.table.specs.MemtableIter.{cursor_is}
use Rattle.table.proofs.MemtableIterLaws.{left_by, move_refused, move_made}
use Rattle.table.proofs.memtable_iter.to_previous.Goals.{in-Nowhere, in-On+in_ok-to-in-On}
use Rattle.table.proofs.memtable_iter.to_previous.Goals as goal

pub returns-in_err-table : goal.returns-in_err-table
returns-in_err-table c = left_by cursor_is c.from_residual.result _ c.from_residual.ensures.1 (move_refused _ previous _ _ c.in_err-table.ensures)

pub returns-in_err-to-in-On : goal.returns-in_err-to-in-On
returns-in_err-to-in-On c =
    left_by cursor_is c.from_residual-in_err-to-in-On.result _ c.from_residual-in_err-to-in-On.ensures.1 (move_made _ previous _ c.in_ok-table.table c.in_ok-table.ensures (λ a. refl) (ap cursor_is c.in-On.is) c.in_err-to-in-On.ensures)

pub returns : goal.returns
returns c = ap (λ (d : Cursor). given d) c.from.ensures ∙ elim c.match-c.branch [
  | in-Nowhere w ↦ rw w.to-is (move_made _ previous _ c.in_ok-table.table c.in_ok-table.ensures (λ a. refl) (ap cursor_is w.in-Nowhere.is) refl)
  | in-On+in_ok-to-in-On w ↦ rw w.to-is (move_made _ previous _ c.in_ok-table.table c.in_ok-table.ensures (λ a. refl) (ap cursor_is w.in-On.is) w.in_ok-to-in-On.ensures)
]
