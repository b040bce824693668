-- The key that each move of the visible cursor ends on: document 01, 'Looking, moving, showing'.
use Rattle.std.specs.Prelude.{ℕ, List, [], ◌∷◌, map, Bool, true, not}
use Rattle.rule.specs.Lists.{cond, Maybe, none, some, is_some, keep}
use Rattle.rule.specs.Order.{compare_keys, is_less}
use Rattle.rule.specs.Entries.{Entry}
use Rattle.rule.specs.Rows.{row}

-- a comes before b: upward
abbrev pub below : List ℕ → List ℕ → Bool
below a b = is_less (compare_keys a b)

-- downward
abbrev pub above : List ℕ → List ℕ → Bool
above a b = is_less (compare_keys b a)

-- of two keys the one that comes before the other
abbrev pub earlier : (List ℕ → List ℕ → Bool) → List ℕ → Maybe (List ℕ) → List ℕ
earlier before k none = k
earlier before k (some l) = cond (before l k) l k

-- of all keys the one that comes before the others
abbrev pub foremost : (List ℕ → List ℕ → Bool) → List (List ℕ) → Maybe (List ℕ)
foremost before [] = none
foremost before (k ∷ ks) = some (earlier before k (foremost before ks))

-- the keys with a row at snapshot s
abbrev pub shown_keys : ℕ → List Entry → List (List ℕ)
shown_keys s es = keep (λ k. is_some (row k s es)) (map (λ e. e.key) es)

-- of the keys with a row that the cut admits, the one that comes before the others
abbrev pub best : (List ℕ → List ℕ → Bool) → (List ℕ → Bool) → ℕ → List Entry → Maybe (List ℕ)
best before cut s es = foremost before (keep cut (shown_keys s es))

-- the cut that admits every key
abbrev pub every : List ℕ → Bool
every k = true

-- the moves of the visible cursor
pub data Move : Type 0 where
  first : Move
  seek : List ℕ → Move
  next : Move
  previous : Move

-- the key that a move ends on at snapshot s, from the key c that it starts on; none is nowhere
abbrev pub target : Move → ℕ → Maybe (List ℕ) → List Entry → Maybe (List ℕ)
target first s c es = best below every s es
target (seek t) s c es = best below (λ k. not (below k t)) s es
target next s none es = best below every s es
target next s (some k) es = best below (λ l. below k l) s es
target previous s none es = none
target previous s (some k) es = best above (λ l. below l k) s es

-- a key with its row's value
pub record Row : Type 0 where
  pub key : List ℕ
  pub value : List ℕ

abbrev with_key : List ℕ → Maybe (List ℕ) → Maybe Row
with_key k none = none
with_key k (some v) = some (record { key = k; value = v })

-- the row shown at a key, or at none
abbrev pub row_at : ℕ → Maybe (List ℕ) → List Entry → Maybe Row
row_at s none es = none
row_at s (some k) es = with_key k (row k s es)

-- the rows that a string of moves shows, one after the other
abbrev pub rows_after : List Move → ℕ → Maybe (List ℕ) → List Entry → List (Maybe Row)
rows_after [] s c es = []
rows_after (m ∷ ms) s c es = row_at s (target m s c es) es ∷ rows_after ms s (target m s c es) es
