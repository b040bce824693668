-- The row of a key at a snapshot: document 01, 'Entries and their order'.
use Rattle.std.specs.Prelude.{ℕ, List, [], ◌∷◌, Bool, ltb, leb, eqb}
use Rattle.rule.specs.Lists.{cond, both, Maybe, none, some}
use Rattle.rule.specs.Order.{compare_keys, is_equal}
use Rattle.rule.specs.Entries.{Entry, value_kind}

-- an entry of k, numbered s or less
abbrev pub fits : List ℕ → ℕ → Entry → Bool
fits k s e = both (is_equal (compare_keys e.key k)) (leb e.number s)

-- the one with the higher number; in a tie the first
abbrev pub newer : Entry → Maybe Entry → Entry
newer e none = e
newer e (some f) = cond (ltb e.number f.number) f e

-- among the entries of k numbered s or less, the one with the highest number; in a tie the first in the list
abbrev pub newest : List ℕ → ℕ → List Entry → Maybe Entry
newest k s [] = none
newest k s (e ∷ es) = cond (fits k s e) (some (newer e (newest k s es))) (newest k s es)

-- a value gives a row; a deletion, or no such entry, gives none
abbrev pub shown : Maybe Entry → Maybe (List ℕ)
shown none = none
shown (some e) = cond (eqb e.kind value_kind) (some e.value) none

-- the row of k at snapshot s: its value
abbrev pub row : List ℕ → ℕ → List Entry → Maybe (List ℕ)
row k s es = shown (newest k s es)
