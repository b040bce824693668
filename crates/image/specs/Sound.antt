-- Sound images, and what they hold: document 01, 'The image'.
use Rattle.std.specs.Prelude.{ℕ, zero, suc, ◌+◌, ◌-◌, ◌*◌, ◌≤◌, ◌≡◌, List, [], ◌∷◌, ◌++◌, Bool, length, leb, eqb}
use Rattle.rule.specs.Lists.{cond, both, All, Pairwise}
use Rattle.rule.specs.Order.{less}
use Rattle.rule.specs.Entries.{Entry, order}
use Rattle.image.specs.Limits.{header_size, max_image, max_nodes, levels}
use Rattle.image.specs.Words.{word}
use Rattle.image.specs.Nodes.{count, free, slot, size_of, NodeIs, height_of, entry_of, link_of}
use Rattle.image.specs.Chains.{met, Chained}

-- the header holds: L is 64 to 65,536 and equals the slice's length, there are 12 levels, n is at most 4,096, F is at least 64 and at most L - 4n
pub record Header (xs : List ℕ) : Type 0 where
  pub long : header_size ≤ length xs
  pub short : length xs ≤ max_image
  pub total : word xs 0 ≡ length xs
  pub leveled : word xs 12 ≡ levels
  pub few : count xs ≤ max_nodes
  pub low : header_size ≤ free xs
  pub high : free xs ≤ length xs - 4 * count xs

-- the same as a test
unfoldable pub header_holds : List ℕ → Bool
header_holds xs =
    both (both (leb header_size (length xs)) (leb (length xs) max_image))
    (both (both (eqb (word xs 0) (length xs)) (eqb (word xs 12) levels))
    (both (leb (count xs) max_nodes) (both (leb header_size (free xs)) (leb (free xs) (length xs - 4 * count xs)))))

-- where node i starts, and behind the last node the first free byte
abbrev pub place_of : List ℕ → ℕ → ℕ
place_of xs i = cond (leb i (count xs)) (slot xs i) (free xs)

-- how many bytes node i takes
abbrev pub size_at : List ℕ → ℕ → ℕ
size_at xs i = size_of (height_of xs i) (entry_of xs i)

-- the nodes that the lowest chain meets from the head on, as many as there are
unfoldable pub lowest : List ℕ → List ℕ
lowest xs = met (λ i. link_of xs i 0) (count xs) (link_of xs 0 0)

-- document 01's paragraph, in its order
pub record Sound (xs : List ℕ) : Type 0 where
  -- the header holds
  pub header : Header xs
  -- nodes run from 64 to F and the slots agree: each starts where the one before it ends, and F is where the last ends
  pub begins : place_of xs 1 ≡ header_size
  pub follows : (i : ℕ) → 1 ≤ i → i ≤ count xs → place_of xs (suc i) ≡ slot xs i + size_at xs i
  -- heights are 1 to 12; each entry fills its length exactly, within the limits, its type 0 or 1
  pub reads : (i : ℕ) → 1 ≤ i → i ≤ count xs → NodeIs xs i (height_of xs i) (entry_of xs i)
  -- the lowest chain meets every node once in strictly ascending order: it meets as many as there are, and each comes before the next
  pub within : All (λ x. (1 ≤ x) × (x ≤ count xs)) (lowest xs)
  pub ascending : Pairwise (λ x y. order (entry_of xs x) (entry_of xs y) ≡ less) (lowest xs)
  -- and the chain at each level meets, in that order, exactly the nodes tall enough for it, and ends; at the lowest that is all of them
  pub chained : Chained levels (height_of xs) (link_of xs) (lowest xs)

-- the entries of nodes 1 to i, in order of arrival
abbrev pub held_up_to : List ℕ → ℕ → List Entry
held_up_to xs zero = []
held_up_to xs (suc i) = held_up_to xs i ++ (entry_of xs (suc i) ∷ [])

-- the entries that an image holds
abbrev pub held : List ℕ → List Entry
held xs = held_up_to xs (count xs)
