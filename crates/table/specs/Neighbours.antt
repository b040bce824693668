-- Neighbours in the list, as the code names them.
use Rattle.std.specs.Prelude.{ℕ, ◌≤◌, ◌≡◌, List, Bool, true, false, leb, Option, Some, None, Result, IfOk, IfSome}
use Rattle.image.specs.Nodes.{count, link_of}
use Rattle.image.specs.Search.{OnEqual, Found, hit, ends, searched, looks_of, standing, passed}
use Rattle.image.specs.Refusals.{damaged, Answer, given, demand, reading}
use Rattle.table.specs.Refusals.{answer_as}
use Rattle.table.specs.declared.refusals.Refusal.{Refusal}
use Rattle.table.specs.declared.neighbours.Neighbour.{Neighbour}

-- the node, 0 for none, whether it is equal to the probe, and the looks
pub record Beside : Type 0 where
  pub node : ℕ
  pub equal : Bool
  pub looks : ℕ

-- the number of a node, 0 for none
abbrev pub node_or_0 : Option ℕ → ℕ
node_or_0 None = 0
node_or_0 (Some i) = i

-- a neighbour
abbrev pub beside_is : Neighbour → Beside
beside_is b = record { node = node_or_0 b.node; equal = b.equal; looks = b.looks }

-- whether a search stopped at a node equal to its probe
abbrev pub stopped : Found → Bool
stopped (hit x looks) = true
stopped (ends p x looks prev) = false

-- the first node that a search does not pass
abbrev pub stood : Found → Beside
stood r = record { node = standing r; equal = stopped r; looks = looks_of r }

-- the last node that it passed
abbrev pub left : Found → Beside
left r = record { node = passed r; equal = false; looks = looks_of r }

-- where a search stands
abbrev pub stands_at : List ℕ → OnEqual → List ℕ → ℕ → Answer Beside
stands_at xs mode k n = reading (searched xs mode k n) (λ r. given (stood r))

-- what it left behind it
abbrev pub passed_at : List ℕ → OnEqual → List ℕ → ℕ → Answer Beside
passed_at xs mode k n = reading (searched xs mode k n) (λ r. given (left r))

-- where the head's lowest link leads; a link above n is damage
abbrev pub first_at : List ℕ → Answer Beside
first_at xs = demand (leb (link_of xs 0 0) (count xs)) damaged (given (record { node = link_of xs 0 0; equal = false; looks = 1 }))

-- it is the number of one of so many nodes, or none
abbrev pub NodeIn : ℕ → Option ℕ → Type 0
NodeIn n at = IfSome at (λ i. (1 ≤ i) × (i ≤ n))

-- what a function that finds a neighbour promises
pub record Finds (xs : List ℕ) (what : Answer Beside) (r : Result Neighbour Refusal) : Type 0 where
  pub exact : answer_as beside_is r ≡ what
  pub inside : IfOk r (λ b. NodeIn (count xs) b.node)

-- the node that a link names; 0 is none
abbrev pub Links : ℕ → Option ℕ → Type 0
Links link at = (node_or_0 at ≡ link) × IfSome at (λ i. 1 ≤ i)
