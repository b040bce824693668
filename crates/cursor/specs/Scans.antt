-- Scans of the visible cursor: the same move again and again, over bytes that stay.
use Rattle.std.specs.Prelude.{ℕ, suc, List, Ok}
use Rattle.rule.specs.Moves.{Move, first, seek, next, previous}
use Rattle.cursor.specs.Moves.{Moves}
use Rattle.cursor.specs.declared.places.Place.{Place}
use Rattle.cursor.specs.declared.places.Cursor.{Cursor}
use Rattle.cursor.specs.declared.places.Cursor.TheVariants.{On}

-- a move that goes on from where the cursor stands
abbrev pub GoesOn : Move → Type 0
GoesOn first = ⊥
GoesOn (seek t) = ⊥
GoesOn next = Unit
GoesOn previous = Unit

-- so many moves in a row, each of which ends on a place: any answers that the promise of the move allows, from any cursor and on any bytes
pub data Scan (v : Move) (f g : List ℕ) (s : ℕ) : Cursor → ℕ → Type 0 where
  stopped : {c : Cursor} → Scan v f g s c 0
  went : {c : Cursor} {k : ℕ} (p : Place) → Moves v f g s c (Ok (On p)) → Scan v f g s (On p) k → Scan v f g s c (suc k)
