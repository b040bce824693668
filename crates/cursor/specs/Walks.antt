-- What a walk keeps and where it ends.
use Rattle.std.specs.Prelude.{ℕ, ◌+◌, ◌-◌, ◌≤◌, ◌≡◌, ◌⊎◌, List, Bool, true, false, ltb, Option, Some, None, Result, Ok, Err}
use Rattle.rule.specs.Lists.{cond, Maybe, none, some, is_some}
use Rattle.rule.specs.Order.{is_less}
use Rattle.rule.specs.Entries.{value_kind}
use Rattle.rule.specs.Rows.{row}
use Rattle.rule.specs.Moves.{best}
use Rattle.rule.specs.Nearest.{Least}
use Rattle.image.specs.Sound.{Sound}
use Rattle.image.specs.Cuts.{Cut, cmp_of, admits, past_of}
use Rattle.cursor.specs.Places.{all_entries, entry_at, key_at, Gives}
use Rattle.cursor.specs.Merging.{PlaceReads, MeetingIn, NearDamaged, NewestDamaged}
use Rattle.cursor.specs.declared.places.Place.{Place}
use Rattle.cursor.specs.declared.merging_iter.Meeting.{Meeting}
use Rattle.cursor.specs.declared.walk.Step.{Step}
use Rattle.cursor.specs.declared.walk.Step.TheVariants as step
use Rattle.cursor.specs.declared.walk.Left.{Left}
use Rattle.table.specs.declared.refusals.Damage.{Damage}

-- on any bytes: p can be read whole, the cut admits its key, and its entry is a value up to s
pub record LandsOn (f g : List ℕ) (s : ℕ) (c : Cut) (t : List ℕ) (p : Place) : Type 0 where
  pub reads : PlaceReads f g p
  pub admitted : admits c t (entry_at f g p).key ≡ true
  pub value_is : (entry_at f g p).kind ≡ value_kind
  pub number_most : (entry_at f g p).number ≤ s

-- ---- a turn

-- of the keys behind the cut, the first: it has a row, or none; or there is no such key
abbrev pub StepRule : List ℕ → List ℕ → ℕ → Cut → List ℕ → Result Step Damage → Type 0
StepRule f g s c t (Ok (step.Done p)) = (k : List ℕ) × Least (cmp_of c) (admits c t) (all_entries f g) (some k) × Gives f g s k p
StepRule f g s c t (Ok (step.Pass m)) = Least (cmp_of c) (admits c t) (all_entries f g) (some (key_at f g m.place)) × (is_some (row (key_at f g m.place) s (all_entries f g)) ≡ false)
StepRule f g s c t (Ok step.End) = Least (cmp_of c) (admits c t) (all_entries f g) none
StepRule f g s c t (Err d) = ⊥

-- damage is met in a turn: in the question to one of the tables for the next key, or for the newest entry of the key that is next
abbrev pub TurnDamaged : List ℕ → List ℕ → ℕ → Cut → List ℕ → Type 0
TurnDamaged f g s c t = NearDamaged f g c t ⊎ ((m : Meeting) × MeetingIn f g c t m × NewestDamaged f g (entry_at f g m.place).key s)

-- what it names on any bytes
abbrev pub StepIn : List ℕ → List ℕ → ℕ → Cut → List ℕ → Result Step Damage → Type 0
StepIn f g s c t (Ok (step.Done p)) = LandsOn f g s c t p
StepIn f g s c t (Ok (step.Pass m)) = MeetingIn f g c t m
StepIn f g s c t (Ok step.End) = Unit
StepIn f g s c t (Err d) = TurnDamaged f g s c t

-- what a turn promises
pub record Stepped (f g : List ℕ) (s : ℕ) (c : Cut) (t : List ℕ) (r : Result Step Damage) : Type 0 where
  pub rule : Sound f → Sound g → StepRule f g s c t r
  pub lands : StepIn f g s c t r

-- the cut where a walk has come to
abbrev pub cut_from : Cut → Option Place → Cut
cut_from c None = c
cut_from c (Some p) = past_of c

-- the key that it is at there
abbrev pub key_from : List ℕ → List ℕ → List ℕ → Option Place → List ℕ
key_from f g t None = t
key_from f g t (Some p) = key_at f g p

-- ---- what it counts

-- one node, if the key was met there
abbrev pub tick_of : Bool → ℕ
tick_of true = 1
tick_of false = 0

-- what is left of both counts, or that one is used up
abbrev pub spent_of : Left → Meeting → Option Left
spent_of l m =
    cond (ltb l.first (tick_of m.first)) None (cond (ltb l.second (tick_of m.second)) None (Some (record { first = l.first - tick_of m.first; second = l.second - tick_of m.second })))

-- ---- the keys that it passes

-- a string of turns that pass a key, each any answer that the promise of a turn allows from where the one before left off, on any bytes; with how many of the
-- keys were met in the first table, and in the second
pub data Passes (f g : List ℕ) (s : ℕ) (c : Cut) (t : List ℕ) : Option Place → ℕ → ℕ → Type 0 where
  start : Passes f g s c t None 0 0
  more : {at : Option Place} {i j : ℕ} (m : Meeting) → Passes f g s c t at i j → Stepped f g s (cut_from c at) (key_from f g t at) (Ok (step.Pass m))
      → Passes f g s c t (Some m.place) (tick_of m.first + i) (tick_of m.second + j)

-- ---- where it ends

-- of the keys behind the cut that have a row, the one that comes first
abbrev pub best_of : List ℕ → List ℕ → ℕ → Cut → List ℕ → Maybe (List ℕ)
best_of f g s c t = best (λ a b. is_less (cmp_of c a b)) (admits c t) s (all_entries f g)

-- the place that gives the row of the key, or that there is none
abbrev pub Ends : List ℕ → List ℕ → ℕ → Maybe (List ℕ) → Result (Option Place) Damage → Type 0
Ends f g s none (Ok (Some p)) = ⊥
Ends f g s none (Ok None) = Unit
Ends f g s none (Err d) = ⊥
Ends f g s (some k) (Ok (Some p)) = Gives f g s k p
Ends f g s (some k) (Ok None) = ⊥
Ends f g s (some k) (Err d) = ⊥

-- damage is met in a turn from where a walk has come to, past the keys that it passed
abbrev pub WalkDamaged : List ℕ → List ℕ → ℕ → Cut → List ℕ → Type 0
WalkDamaged f g s c t = (at : Option Place) × (i : ℕ) × (j : ℕ) × Passes f g s c t at i j × TurnDamaged f g s (cut_from c at) (key_from f g t at)

-- where it ends on any bytes; damage was met in some turn, so the count is never what ends a walk
abbrev pub FoundLands : List ℕ → List ℕ → ℕ → Cut → List ℕ → Result (Option Place) Damage → Type 0
FoundLands f g s c t (Ok (Some p)) = LandsOn f g s c t p
FoundLands f g s c t (Ok None) = Unit
FoundLands f g s c t (Err d) = WalkDamaged f g s c t

-- what a walk promises
pub record Walked (f g : List ℕ) (s : ℕ) (c : Cut) (t : List ℕ) (r : Result (Option Place) Damage) : Type 0 where
  pub rule : Sound f → Sound g → Ends f g s (best_of f g s c t) r
  pub lands : FoundLands f g s c t r
