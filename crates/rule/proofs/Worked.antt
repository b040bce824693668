-- What document 01's words come to on the smallest entries, by computation.
use Prim.Native.Nat.{ℕ}
use mathlib.Core.Path.{◌≡◌, refl}
use mathlib.Core.List.{[], ◌∷◌}
use Rattle.rule.specs.Lists.{none, some}
use Rattle.rule.specs.Order.{less, compare_keys, compare_entries}
use Rattle.rule.specs.Entries.{Entry, together}
use Rattle.rule.specs.Rows.{newest, row}
use Rattle.rule.specs.Moves.{first, seek, next, previous, target}

abbrev entry : ℕ → ℕ → ℕ → ℕ → Entry
entry k n kind v = record { key = k ∷ []; number = n; kind = kind; value = v ∷ [] }

-- equal keys by number descending, and the number decides nothing between two keys
pub descending : (compare_entries (7 ∷ []) 3 (7 ∷ []) 1 ≡ less) × (compare_entries (7 ∷ []) 1 (8 ∷ []) 3 ≡ less) × (compare_entries (7 ∷ []) 3 (8 ∷ []) 1 ≡ less)
unfolding compare_keys compare_entries
descending = (refl, refl, refl)

-- the highest number up to the snapshot, the snapshot itself included
pub highest : (newest (7 ∷ []) 2 (entry 7 1 1 10 ∷ entry 7 2 1 20 ∷ entry 7 3 1 30 ∷ []) ≡ some (entry 7 2 1 20)) × (newest (7 ∷ []) 0 (entry 7 1 1 10 ∷ []) ≡ none)
unfolding compare_keys
highest = (refl, refl)

-- a tie between tables goes to the first
pub first_table : newest (7 ∷ []) 5 (together ((entry 7 1 1 10 ∷ []) ∷ (entry 7 1 1 20 ∷ []) ∷ [])) ≡ some (entry 7 1 1 10)
unfolding compare_keys
first_table = refl

-- a deletion gives no row, whatever value it carries
pub hidden : row (7 ∷ []) 2 (entry 7 1 1 10 ∷ entry 7 2 0 20 ∷ []) ≡ none
unfolding compare_keys
hidden = refl

-- seek stops at its key, next and previous leave it, and both pass over a deletion
pub passed_over : (target (seek (7 ∷ [])) 9 none (entry 7 1 1 10 ∷ entry 8 1 1 20 ∷ []) ≡ some (7 ∷ [])) ×
    (target next 9 (some (6 ∷ [])) (entry 6 1 1 1 ∷ entry 7 2 0 1 ∷ entry 8 3 1 1 ∷ []) ≡ some (8 ∷ []))
    × (target previous 9 (some (8 ∷ [])) (entry 6 1 1 1 ∷ entry 7 2 0 1 ∷ entry 8 3 1 1 ∷ []) ≡ some (6 ∷ [])) ×
    (target previous 9 none (entry 6 1 1 1 ∷ []) ≡ none) × (target first 9 (some (8 ∷ [])) (entry 6 1 1 1 ∷ []) ≡ some (6 ∷ []))
unfolding compare_keys
passed_over = (refl, refl, refl, refl, refl)
