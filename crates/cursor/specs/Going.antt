-- What the inner functions of a move promise each other.
use Rattle.std.specs.Prelude.{ℕ, ◌≡◌, List, true, Result}
use Rattle.image.specs.Sound.{Sound, header_holds}
use Rattle.image.specs.Cuts.{Cut}
use Rattle.table.specs.declared.refusals.Refusal.{Refusal}
use Rattle.cursor.specs.Places.{entry_at, PlaceIn}
use Rattle.cursor.specs.Walks.{WalkDamaged, best_of, LandsOn}
use Rattle.cursor.specs.Moves.{went_as, LeadsTo, EndsOn, DamagedFrom}
use Rattle.cursor.specs.declared.places.Place.{Place}
use Rattle.cursor.specs.declared.places.Cursor.{Cursor}

-- what a walk behind a cut comes to
pub record Went (f g : List ℕ) (s : ℕ) (c : Cut) (t : List ℕ) (r : Result Cursor Refusal) : Type 0 where
  pub rule : (at : Cursor) → Sound f → Sound g → LeadsTo f g s (best_of f g s c t) (went_as at r)
  pub lands : (at : Cursor) → EndsOn (LandsOn f g s c t) (WalkDamaged f g s c t) at (went_as at r)

-- and behind a cut at the key of a place
pub record WentFrom (f g : List ℕ) (s : ℕ) (c : Cut) (p : Place) (r : Result Cursor Refusal) : Type 0 where
  pub rule : (at : Cursor) → Sound f → Sound g → PlaceIn f g p → LeadsTo f g s (best_of f g s c (entry_at f g p).key) (went_as at r)
  pub lands : (at : Cursor) → EndsOn (LandsOn f g s c (entry_at f g p).key) (DamagedFrom f g s c p) at (went_as at r)

-- the headers of both tables hold
pub record HeadersHold (f g : List ℕ) : Type 0 where
  pub first : header_holds f ≡ true
  pub second : header_holds g ≡ true
