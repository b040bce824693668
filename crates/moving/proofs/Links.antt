-- The places of links that a search hands on lie inside.
use Rattle.std.proofs.Common.{ℕ, ◌+◌, ◌≤◌, List, slice_set, arith}
use Rattle.std.proofs.lemmas.Grind.{common_steps}
use Rattle.moving.specs.Search.{PlacesInside}

-- one more of them
pub one_more : (len : ℕ) (ps : List ℕ) (i place : ℕ) → PlacesInside len ps → place + 4 ≤ len → PlacesInside len (slice_set ps i place)
one_more len ps i place h p = record { each = λ l k. let a = h.each l (grind (arith, k, common_steps)) in grind (arith, common_steps) }
