-- The key that comes next behind a cut, in one table and on any bytes: what a walk over the keys asks of it.
use Rattle.std.specs.Prelude.{ℕ, ◌≡◌, List, Bool, true, not}
use Rattle.rule.specs.Lists.{none, some}
use Rattle.rule.specs.Order.{Ord, compare_keys, is_less}
use Rattle.rule.specs.Nearest.{Least}
use Rattle.image.specs.Limits.{max_number}
use Rattle.image.specs.Readers.{Read}
use Rattle.image.specs.Nodes.{entry_of}
use Rattle.image.specs.Sound.{header_holds, held}
use Rattle.image.specs.Search.{to_stop, to_pass}
use Rattle.image.specs.Refusals.{Answer, given, damaged, demand, reading}
use Rattle.image.specs.EntryMoves.{Cursor, nowhere, on, view_refusal, first_entry, first_not_passed, last_before}
use Rattle.image.specs.Meaning.{IsNode}

-- a cut at a key: upward every key, the keys from it on or those above it; downward the keys below it
pub data Cut : Type 0 where
  all : Cut
  from : Cut
  above : Cut
  below : Cut

-- the order of keys on the way of a cut
abbrev pub cmp_of : Cut → List ℕ → List ℕ → Ord
cmp_of all = compare_keys
cmp_of from = compare_keys
cmp_of above = compare_keys
cmp_of below = λ a b. compare_keys b a

-- whether a cut at the key t admits the key k
abbrev pub admits : Cut → List ℕ → List ℕ → Bool
admits all t k = true
admits from t k = not (is_less (compare_keys k t))
admits above t k = is_less (compare_keys t k)
admits below t k = is_less (compare_keys k t)

-- the cut just past a key, on the same way
abbrev pub past_of : Cut → Cut
past_of all = above
past_of from = above
past_of above = above
past_of below = below

-- the node that answers: upward the first that the search does not pass, downward the last that it passes
abbrev pub near_at : List ℕ → Cut → List ℕ → Read Cursor
near_at xs all t = first_entry xs
near_at xs from t = first_not_passed xs to_stop t max_number
near_at xs above t = first_not_passed xs to_pass t 0
near_at xs below t = last_before xs t max_number

-- the whole question; a bad header is damage
unfoldable pub nearest : List ℕ → Cut → List ℕ → Answer Cursor
nearest xs c t = demand (header_holds xs) damaged (reading (near_at xs c t) given)

-- what the answer means: of the keys held that the cut admits, the cursor's entry has the one that comes first; nowhere, there is none
abbrev pub NearestIs : List ℕ → Cut → List ℕ → Cursor → Type 0
NearestIs xs c t nowhere = Least (cmp_of c) (admits c t) (held xs) none
NearestIs xs c t (on i) = IsNode xs i × Least (cmp_of c) (admits c t) (held xs) (some (entry_of xs i).key)

-- what it means on any bytes: the cursor's node can be read whole, and its key is one that the cut admits
abbrev pub NearLands : List ℕ → Cut → List ℕ → Cursor → Type 0
NearLands xs c t nowhere = Unit
NearLands xs c t (on i) = IsNode xs i × (view_refusal xs (on i) ≡ 0) × (admits c t (entry_of xs i).key ≡ true)
