-- The search: what stays inside while it looks, and where it ends.
use Rattle.std.specs.Prelude.{ℕ, ◌+◌, ◌*◌, ◌≤◌, ◌<◌, ◌≡◌, List, length, get_or, Result, IfOk}
use Rattle.moving.specs.declared.refusals.Fault.{Fault}
use Rattle.moving.specs.declared.refusals.Refusal.{Refusal}
use Rattle.moving.specs.declared.key_types.LookupKey.{LookupKey}
use Rattle.moving.specs.declared.skipmap.Turn.{Turn}
use Rattle.moving.specs.declared.skipmap.Turn.TheVariants as turn
use Rattle.moving.specs.declared.skipmap.Spot.{Spot}
use Rattle.moving.specs.declared.skipmap.Spot.TheVariants as spot
use Rattle.moving.specs.declared.skipmap.Searched.{Searched}

-- what is looked for has a key of this length, which is within the limit
abbrev pub ProbeFits : ℕ → Result LookupKey Refusal → Type 0
ProbeFits len r = IfOk r (λ p. (length p.key.now ≡ len) × (len ≤ 1024))

-- a node that is passed hands on the place of its links
abbrev pub LinksFrom : ℕ → Turn → Type 0
LinksFrom links (turn.Onward at) = at ≡ links
LinksFrom links turn.Halt = Unit
LinksFrom links turn.Below = Unit

-- the link at this level of a node that is passed lies inside; a node at which a search stops is one
abbrev pub TurnInside : ℕ → ℕ → ℕ → Turn → Type 0
TurnInside len level x (turn.Onward at) = at + 4 * level + 4 ≤ len
TurnInside len level x turn.Halt = 1 ≤ x
TurnInside len level x turn.Below = Unit

-- the same of a look that could be made
abbrev pub TurnFits : ℕ → ℕ → ℕ → Result Turn Fault → Type 0
TurnFits len level x r = IfOk r (TurnInside len level x)

-- each place has the four bytes of a link
pub record PlacesInside (len : ℕ) (places : List ℕ) : Type 0 where
  pub each : (l : ℕ) → l < length places → get_or places l 0 + 4 ≤ len

-- a search over n nodes ends at numbers up to n
abbrev pub SpotFits : ℕ → Spot → Type 0
SpotFits n (spot.Hit node) = (1 ≤ node) × (node ≤ n)
SpotFits n (spot.Ends before after) = (before ≤ n) × (after ≤ n)

-- after at most n + 12 looks, and the places that it hands on lie inside
pub record Found (len n : ℕ) (f : Searched) : Type 0 where
  pub spot : SpotFits n f.spot
  pub looks : f.looks ≤ n + 12
  pub places : PlacesInside len f.places

-- what a search promises
abbrev pub Searches : ℕ → ℕ → Result Searched Fault → Type 0
Searches len n r = IfOk r (Found len n)

-- where a search stands: the link that it is to look at is inside, and so are those that it went down from
pub record Looking (len n : ℕ) (places : List ℕ) (before links level : ℕ) : Type 0 where
  pub inside : links + 4 * level + 4 ≤ len
  pub low : level ≤ 11
  pub back : before ≤ n
  pub kept : PlacesInside len places
