-- What the answers of a table mean over the entries that it holds: the promises on sound images say this.
use Rattle.std.specs.Prelude.{ℕ, ◌≤◌, ◌≡◌, Bool, true, false, not, length}
use mathlib.Core.List.{List, Memᴰ}
use Rattle.rule.specs.Lists.{none, some, All}
use Rattle.rule.specs.Order.{Ord, less, compare_entries, is_less}
use Rattle.rule.specs.Entries.{Entry, order, value_kind, deletion_kind}
use Rattle.rule.specs.Rows.{newest}
use Rattle.image.specs.Limits.{max_key, max_number}
use Rattle.image.specs.Nodes.{count, entry_of}
use Rattle.image.specs.Sound.{held}
use Rattle.image.specs.Lookup.{Looked, found, deleted, absent}
use Rattle.image.specs.EntryMoves.{Cursor, nowhere, on, EntryMove, first, seek, next, previous, view_refusal}

-- i is a node of the table
pub record IsNode (xs : List ℕ) (i : ℕ) : Type 0 where
  pub some : 1 ≤ i
  pub most : i ≤ count xs

-- a cursor in the table
abbrev pub Stands : List ℕ → Cursor → Type 0
Stands xs nowhere = Unit
Stands xs (on i) = IsNode xs i

-- arguments of a move within their limits
abbrev pub Fitting : EntryMove → Type 0
Fitting first = Unit
Fitting (seek k n) = (n ≤ max_number) × (length k ≤ max_key)
Fitting next = Unit
Fitting previous = Unit

-- a lookup tells of the newest entry of k up to s: its node if it is a value, that it is a deletion, or that there is none
abbrev pub Tells : List ℕ → List ℕ → ℕ → Looked → Type 0
Tells xs k s (found i) = IsNode xs i × (newest k s (held xs) ≡ some (entry_of xs i)) × ((entry_of xs i).kind ≡ value_kind)
Tells xs k s deleted = (e : Entry) × (newest k s (held xs) ≡ some e) × (e.kind ≡ deletion_kind)
Tells xs k s absent = newest k s (held xs) ≡ none

-- an entry of this key, number and type is held
abbrev pub IsHeld : List ℕ → List ℕ → ℕ → ℕ → Type 0
IsHeld xs k n kind = (e : Entry) × Memᴰ e (held xs) × (e.key ≡ k) × (e.number ≡ n) × (e.kind ≡ kind)

-- of the entries held that the cut admits, the cursor stands on the one that comes first; cmp is the order of entries, or its opposite
abbrev pub Foremost : (Entry → Entry → Ord) → (Entry → Bool) → List ℕ → Cursor → Type 0
Foremost cmp cut xs nowhere = All (λ e. cut e ≡ true → ⊥) (held xs)
Foremost cmp cut xs (on i) = IsNode xs i × (cut (entry_of xs i) ≡ true) × All (λ e. cut e ≡ true → is_less (cmp e (entry_of xs i)) ≡ false) (held xs)

-- where a move of the entry cursor leads
abbrev pub Leads : List ℕ → EntryMove → Cursor → Cursor → Type 0
Leads xs first c d = Foremost order (λ e. true) xs d
Leads xs (seek k n) c d = Foremost order (λ e. not (is_less (compare_entries e.key e.number k n))) xs d
Leads xs next nowhere d = Foremost order (λ e. true) xs d
Leads xs next (on i) d = Foremost order (λ e. is_less (order (entry_of xs i) e)) xs d
Leads xs previous nowhere d = d ≡ nowhere
Leads xs previous (on i) d = Foremost (λ e f. order f e) (λ e. is_less (order e (entry_of xs i))) xs d

-- ---- on any bytes

-- the entry of node j lies onward of where a move started
abbrev pub EntryAhead : List ℕ → EntryMove → Cursor → ℕ → Type 0
EntryAhead xs first c j = Unit
EntryAhead xs (seek k n) c j = is_less (compare_entries (entry_of xs j).key (entry_of xs j).number k n) ≡ false
EntryAhead xs next nowhere j = Unit
EntryAhead xs next (on i) j = order (entry_of xs i) (entry_of xs j) ≡ less
EntryAhead xs previous nowhere j = ⊥
EntryAhead xs previous (on i) j = order (entry_of xs j) (entry_of xs i) ≡ less

-- where a move of the entry cursor may end: nowhere, or on a node that can be read whole and lies onward
abbrev pub EntryLands : List ℕ → EntryMove → Cursor → Cursor → Type 0
EntryLands xs m c nowhere = Unit
EntryLands xs m c (on j) = IsNode xs j × (view_refusal xs (on j) ≡ 0) × EntryAhead xs m c j
