-- Answers of two tables: looks, keys that count, and spans within their limits.
use Rattle.std.specs.Prelude.{ℕ, ◌+◌, ◌≤◌, ◌<◌, Bool, true, false, Option, IfSome, Result, IfOk}
use Rattle.moving.specs.declared.refusals.Refusal.{Refusal}
use Rattle.moving.specs.declared.refusals.Damage.{Damage}
use Rattle.moving.specs.declared.places.Side.{Side}
use Rattle.moving.specs.declared.places.Side.TheVariants as side
use Rattle.moving.specs.declared.merging_iter.Meeting.{Meeting}
use Rattle.moving.specs.declared.merging_iter.PairLookup.{PairLookup}
use Rattle.moving.specs.declared.merging_iter.PairLookup.TheVariants as pair
use Rattle.moving.specs.declared.walk.Step.{Step}
use Rattle.moving.specs.declared.walk.Step.TheVariants as step
use Rattle.moving.specs.declared.walk.Left.{Left}
use Rattle.moving.specs.declared.row_views.RowSpan.{RowSpan}

-- what a key counts against a table: one node if it was met there
abbrev pub tick_of : Bool → ℕ
tick_of true = 1
tick_of false = 0

-- a key counts against one table at least
pub record Counts (m : Meeting) : Type 0 where
  pub some : 1 ≤ tick_of m.first + tick_of m.second

-- a key, if there is one, does
abbrev pub MeetingFits : Option Meeting → Type 0
MeetingFits at = IfSome at Counts

-- the key that comes next does
abbrev pub NearestFits : Result (Option Meeting) Damage → Type 0
NearestFits r = IfOk r MeetingFits

-- a key that is passed does
abbrev pub PassCounts : Step → Type 0
PassCounts (step.Done p) = Unit
PassCounts (step.Pass m) = Counts m
PassCounts step.End = Unit

-- in a turn that met no damage
abbrev pub StepFits : Result Step Damage → Type 0
StepFits r = IfOk r PassCounts

-- how many nodes may still be met
abbrev pub left_in : Left → ℕ
left_in l = l.first + l.second

-- they are fewer after a key is passed
abbrev pub SpentFits : Left → Option Left → Type 0
SpentFits l r = IfSome r (λ rest. left_in rest < left_in l)

-- a lookup in a pair took at most this many looks
abbrev pub PairLooks : ℕ → PairLookup → Type 0
PairLooks most (pair.Found p looks) = looks ≤ most
PairLooks most (pair.Deleted looks) = looks ≤ most
PairLooks most (pair.Absent looks) = looks ≤ most

-- one that is not refused did
abbrev pub PairFits : ℕ → Result PairLookup Refusal → Type 0
PairFits most r = IfOk r (PairLooks most)

-- the length of the one image or the other
abbrev pub side_of : Side → ℕ → ℕ → ℕ
side_of side.First a b = a
side_of side.Second a b = b

-- a span lies inside its image
abbrev pub RowSpanFits : ℕ → ℕ → Result (Option RowSpan) Refusal → Type 0
RowSpanFits a b r = IfOk r (λ on. IfSome on (λ part. part.span.at + part.span.len ≤ side_of part.table a b))
