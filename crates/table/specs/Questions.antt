-- What the questions of the layer above promise: `exact`, the answer on any bytes, `rule`, what it means on a sound image, and `lands`, on any bytes: the node that it names
-- is one of the table, can be read whole, and has a key and a number that were asked for.
use Rattle.std.specs.Prelude.{ℕ, ◌≡◌, List, Option, Some, None, Result, Ok, Err, IfOk}
use Rattle.rule.specs.Lists.{cond}
use Rattle.image.specs.Nodes.{count}
use Rattle.image.specs.Sound.{header_holds, Sound}
use Rattle.image.specs.Refusals.{Answer, refused, given, reading}
use Rattle.image.specs.EntryMoves.{Cursor, cursor_at, landing}
use Rattle.image.specs.Cuts.{Cut as CutIs, all, from, above, below, near_at, nearest, NearestIs, NearLands}
use Rattle.image.specs.Newest.{NewestAt as NewestAtIs, value, deletion, nothing, newest_at, NewestIs, NewestLandsOn}
use Rattle.table.specs.Refusals.{refusal_is, damage_as}
use Rattle.table.specs.Neighbours.{NodeIn, node_or_0}
use Rattle.table.specs.MemtableIter.{node_cursor}
use Rattle.table.specs.declared.refusals.Refusal.{Refusal}
use Rattle.table.specs.declared.refusals.Damage.{Damage}
use Rattle.table.specs.declared.neighbours.Neighbour.{Neighbour}
use Rattle.table.specs.declared.key_types.Kind.{Kind}
use Rattle.table.specs.declared.key_types.Kind.TheVariants.{Deletion, Value}
use Rattle.table.specs.declared.memtable.Newest.{Newest}
use Rattle.table.specs.declared.questions.Cut.{Cut}
use Rattle.table.specs.declared.questions.Cut.TheVariants.{All, From, Above, Below}

-- ---- what is promised of an answer

-- it is given, and has P
abbrev pub GivenWith {ℓ} : {A : Type ℓ} → (A → Type 0) → Answer A → Type 0
GivenWith P (given a) = P a
GivenWith P (refused q) = ⊥

-- if it is given, it has P
abbrev pub IfGiven {ℓ} : {A : Type ℓ} → (A → Type 0) → Answer A → Type 0
IfGiven P (given a) = P a
IfGiven P (refused q) = Unit

-- ---- population

-- how many nodes the table has, none if its header does not hold
abbrev pub nodes_of : List ℕ → ℕ
nodes_of xs = cond (header_holds xs) (count xs) 0

-- ---- near

-- the cut
abbrev pub cut_of : Cut → CutIs
cut_of All = all
cut_of From = from
cut_of Above = above
cut_of Below = below

-- where a neighbour leads: nowhere, or to a node that can be read whole
abbrev pub lands_on : List ℕ → Result Neighbour Refusal → Answer Cursor
lands_on xs (Ok b) = reading (landing xs (cursor_at (node_or_0 b.node))) given
lands_on xs (Err q) = refused (refusal_is q)

-- the neighbour behind a cut
pub record Behind (xs : List ℕ) (c : CutIs) (t : List ℕ) (r : Result Neighbour Refusal) : Type 0 where
  pub exact : lands_on xs r ≡ reading (near_at xs c t) given
  pub inside : IfOk r (λ b. NodeIn (count xs) b.node)

-- the answer
abbrev pub hit_as : Result (Option ℕ) Damage → Answer Cursor
hit_as r = damage_as node_cursor r

-- what the question for the nearest key promises
pub record Nears (xs : List ℕ) (c : CutIs) (t : List ℕ) (r : Result (Option ℕ) Damage) : Type 0 where
  pub exact : hit_as r ≡ nearest xs c t
  pub rule : Sound xs → GivenWith (NearestIs xs c t) (hit_as r)
  pub lands : IfGiven (NearLands xs c t) (hit_as r)

-- ---- newest

-- a node with an entry of this type
abbrev pub version_of : ℕ → Kind → NewestAtIs
version_of i Value = value i
version_of i Deletion = deletion i

-- the newest entry, or none
abbrev pub newest_is : Option Newest → NewestAtIs
newest_is None = nothing
newest_is (Some a) = version_of a.node a.kind

-- the answer
abbrev pub newest_as : Result (Option Newest) Damage → Answer NewestAtIs
newest_as r = damage_as newest_is r

-- what the question for the newest entry promises
pub record TellsNewest (xs k : List ℕ) (s : ℕ) (r : Result (Option Newest) Damage) : Type 0 where
  pub exact : newest_as r ≡ newest_at xs k s
  pub rule : Sound xs → GivenWith (NewestIs xs k s) (newest_as r)
  pub lands : IfGiven (NewestLandsOn xs k s) (newest_as r)
