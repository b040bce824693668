-- Neighbours: numbers up to the count, and few looks.
use Rattle.std.specs.Prelude.{ℕ, ◌+◌, ◌≤◌, Bool, true, false, Option, IfSome, IsSome, Result, IfOk}
use Rattle.moving.specs.declared.refusals.Refusal.{Refusal}
use Rattle.moving.specs.declared.neighbours.Neighbour.{Neighbour}

-- the number of one of this many nodes, or none; so, too, what a link up to this number names
abbrev pub NodeIn : ℕ → Option ℕ → Type 0
NodeIn n at = IfSome at (λ i. (1 ≤ i) × (i ≤ n))

-- one that is equal to the probe is a node
abbrev pub SomeIf : Bool → Option ℕ → Type 0
SomeIf true at = IsSome at
SomeIf false at = Unit

-- a neighbour is a node of the table, or none, and it took at most n + 12 looks to find
pub record Beside (n : ℕ) (b : Neighbour) : Type 0 where
  pub inside : NodeIn n b.node
  pub looks : b.looks ≤ n + 12
  pub equal : SomeIf b.equal b.node

-- what a function that finds a neighbour promises
abbrev pub NeighbourFits : ℕ → Result Neighbour Refusal → Type 0
NeighbourFits n r = IfOk r (Beside n)
