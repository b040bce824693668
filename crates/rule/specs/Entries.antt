-- What a table holds: document 01, 'Entries and their order'.
use Rattle.std.specs.Prelude.{ℕ, ◌≤◌, ◌≡◌, ◌↔◌}
use mathlib.Core.List.{List, [], ◌∷◌, ◌++◌, Memᴰ}
use Rattle.rule.specs.Lists.{Pairwise}
use Rattle.rule.specs.Order.{Ord, less, compare_entries}

-- an entry; its kind is document 01's type
pub record Entry : Type 0 where
  pub key : List ℕ
  pub number : ℕ
  pub kind : ℕ
  pub value : List ℕ

-- a deletion
abbrev pub deletion_kind : ℕ
deletion_kind = 0

-- a value
abbrev pub value_kind : ℕ
value_kind = 1

-- one entry beside another
abbrev pub order : Entry → Entry → Ord
order e f = compare_entries e.key e.number f.key f.number

-- two entries with equal key and number are duplicates, whatever their types
abbrev pub Duplicates : Entry → Entry → Type 0
Duplicates d e = (d.key ≡ e.key) × (d.number ≡ e.number)

-- strictly ascending
abbrev pub Ascending : List Entry → Type 0
Ascending es = Pairwise (λ e f. order e f ≡ less) es

-- several tables in their fixed order are one list of entries, the first table's first
abbrev pub together : List (List Entry) → List Entry
together [] = []
together (es ∷ rest) = es ++ together rest

-- the same entries up to the number s
abbrev pub Agree : ℕ → List Entry → List Entry → Type 0
Agree s es fs = (e : Entry) → e.number ≤ s → Memᴰ e es ↔ Memᴰ e fs

-- up to the number s two entries of one key and number are the same entry; that asks less than that no key and number is there twice
abbrev pub Single : ℕ → List Entry → Type 0
Single s es = (e f : Entry) → Memᴰ e es → Memᴰ f es → e.number ≤ s → e.key ≡ f.key → e.number ≡ f.number → e ≡ f
