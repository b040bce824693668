-- The order of keys, and of the entries of a table: document 01, 'Entries and their order'.
use Rattle.std.specs.Prelude.{ℕ, List, [], ◌∷◌, Bool, true, false, ltb}
use Rattle.rule.specs.Lists.{cond}

-- what a comparison answers of its first side
pub data Ord : Type 0 where
  less : Ord
  equal : Ord
  greater : Ord

-- the first answer, and if it is equal the second
abbrev pub then : Ord → Ord → Ord
then less o = less
then equal o = o
then greater o = greater

-- numbers ascending
abbrev pub compare_numbers : ℕ → ℕ → Ord
compare_numbers m n = cond (ltb m n) less (cond (ltb n m) greater equal)

-- user keys ascending by unsigned bytes, a proper prefix first
unfoldable pub compare_keys : List ℕ → List ℕ → Ord
compare_keys [] [] = equal
compare_keys [] (y ∷ ys) = less
compare_keys (x ∷ xs) [] = greater
compare_keys (x ∷ xs) (y ∷ ys) = then (compare_numbers x y) (compare_keys xs ys)

-- a key with its number: keys ascending, equal keys by number descending; the type plays no part
unfoldable pub compare_entries : List ℕ → ℕ → List ℕ → ℕ → Ord
compare_entries k m l n = then (compare_keys k l) (compare_numbers n m)

-- the answer is less
abbrev pub is_less : Ord → Bool
is_less less = true
is_less equal = false
is_less greater = false

-- the answer is equal
abbrev pub is_equal : Ord → Bool
is_equal less = false
is_equal equal = true
is_equal greater = false
