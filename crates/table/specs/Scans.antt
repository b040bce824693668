-- Scans of the entry cursor: the same move again and again, over bytes that stay.
use Rattle.std.specs.Prelude.{ℕ, suc, List, Ok}
use Rattle.image.specs.EntryMoves.{EntryMove, first, seek, next, previous}
use Rattle.table.specs.MemtableIter.{MovesEntry}
use Rattle.table.specs.declared.memtable_iter.EntryCursor.{EntryCursor}
use Rattle.table.specs.declared.memtable_iter.EntryCursor.TheVariants.{On}

-- a move that goes on from where the cursor stands
abbrev pub EntryGoesOn : EntryMove → Type 0
EntryGoesOn first = ⊥
EntryGoesOn (seek k n) = ⊥
EntryGoesOn next = Unit
EntryGoesOn previous = Unit

-- so many moves in a row, each of which ends on a node: any answers that the promise of the move allows, from any cursor and on any bytes
pub data EntryScan (xs : List ℕ) (m : EntryMove) : EntryCursor → ℕ → Type 0 where
  stopped : {c : EntryCursor} → EntryScan xs m c 0
  went : {c : EntryCursor} {k : ℕ} (j : ℕ) → MovesEntry xs m c (Ok (On j)) → EntryScan xs m (On j) k → EntryScan xs m c (suc k)
