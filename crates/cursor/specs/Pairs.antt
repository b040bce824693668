-- Lookup in a pair of tables: document 01, 'Looking, moving, showing'.
use Rattle.std.specs.Prelude.{ℕ, ◌+◌, ◌≤◌, ◌<◌, ◌≡◌, ◌⊎◌, List, Bool, true, false, length, Result}
use Rattle.rule.specs.Lists.{cond}
use Rattle.image.specs.Limits.{max_key, max_number, levels}
use Rattle.image.specs.Nodes.{count}
use Rattle.image.specs.Sound.{Sound, header_holds}
use Rattle.image.specs.Readers.{got}
use Rattle.image.specs.Search.{to_stop, Found, searched, looks_of}
use Rattle.image.specs.Refusals.{Answer, refused, given, demand, bad_image}
use Rattle.image.specs.Lookup.{Looked, Lookup, get}
use Rattle.image.specs.Lookup as one
use Rattle.image.specs.Meaning.{Tells}
use Rattle.table.specs.Refusals.{answer_as}
use Rattle.table.specs.declared.refusals.Refusal.{Refusal}
use Rattle.cursor.specs.Places.{place}
use Rattle.cursor.specs.declared.places.Side.{Side}
use Rattle.cursor.specs.declared.places.Side.TheVariants.{First, Second}
use Rattle.cursor.specs.declared.places.Place.{Place}
use Rattle.cursor.specs.declared.merging_iter.PairLookup.{PairLookup}
use Rattle.cursor.specs.declared.merging_iter.PairLookup.TheVariants as pair

-- found names the table and the node
pub data PairSays : Type 0 where
  found : Place → PairSays
  deleted : PairSays
  absent : PairSays

-- with the looks that it took over the tables asked
pub record PairLooked : Type 0 where
  pub says : PairSays
  pub looks : ℕ

-- what it says, with the looks
abbrev pub pair_is : PairLookup → PairLooked
pair_is (pair.Found p looks) = record { says = found p; looks = looks }
pair_is (pair.Deleted looks) = record { says = deleted; looks = looks }
pair_is (pair.Absent looks) = record { says = absent; looks = looks }

-- the answer
abbrev pub pair_as : Result PairLookup Refusal → Answer PairLooked
pair_as r = answer_as pair_is r

-- what one table says
abbrev pub says_in : Side → Looked → PairSays
says_in side (one.found i) = found (place side i)
says_in side one.deleted = deleted
says_in side one.absent = absent

-- what one table says, with the looks that were taken before it
abbrev pub told_of : Side → ℕ → Lookup → PairLooked
told_of side n a = record { says = says_in side a.says; looks = n + a.looks }

-- one table's answer
abbrev pub told_by : Side → ℕ → Answer Lookup → Answer PairLooked
told_by side n (refused q) = refused q
told_by side n (given a) = given (told_of side n a)

-- it says more than absent
abbrev pub is_said : Looked → Bool
is_said (one.found i) = true
is_said one.deleted = true
is_said one.absent = false

-- the first table answers unless it says absent
abbrev pub answers_of : Answer Lookup → Bool
answers_of (refused q) = true
answers_of (given a) = is_said a.says

-- the looks that were taken
abbrev pub looks_taken : Answer Lookup → ℕ
looks_taken (refused q) = 0
looks_taken (given a) = a.looks

-- their sum is a small number
pub record FewLooks (before : ℕ) (a : Lookup) : Type 0 where
  pub few : before + a.looks < 4294967296

-- the rule of the pair: the first table is asked, the second only if the first says absent
abbrev pub first_or_second : Answer Lookup → Answer Lookup → Answer PairLooked
first_or_second a b = cond (answers_of a) (told_by First 0 a) (told_by Second (looks_taken a) b)

-- the whole lookup; refusals 1 (first table, then second), 3, 4, 9
unfoldable pub get_pair : List ℕ → List ℕ → List ℕ → ℕ → Answer PairLooked
get_pair f g k s = demand (header_holds f) bad_image (demand (header_holds g) bad_image (first_or_second (get f k s) (get g k s)))

-- what it tells of the tables: the first table's newest entry, or the second's if the first has none
abbrev pub FoundIn : List ℕ → List ℕ → List ℕ → ℕ → Side → ℕ → Type 0
FoundIn f g k s First i = Tells f k s (one.found i)
FoundIn f g k s Second i = Tells f k s one.absent × Tells g k s (one.found i)

-- what the whole answer tells
abbrev pub TellsPair : List ℕ → List ℕ → List ℕ → ℕ → PairSays → Type 0
TellsPair f g k s (found p) = FoundIn f g k s p.table p.node
TellsPair f g k s deleted = Tells f k s one.deleted ⊎ (Tells f k s one.absent × Tells g k s one.deleted)
TellsPair f g k s absent = Tells f k s one.absent × Tells g k s one.absent

-- on sound tables, with a key and a snapshot within their limits: never refused
abbrev pub PairRule : List ℕ → List ℕ → List ℕ → ℕ → Result PairLookup Refusal → Type 0
PairRule f g k s r = (a : PairLooked) × (pair_as r ≡ given a) × TellsPair f g k s a.says

-- n + 12 for each table asked
abbrev pub most_looks : List ℕ → List ℕ → List ℕ → ℕ → ℕ
most_looks f g k s = cond (answers_of (get f k s)) (count f + levels) ((count f + levels) + (count g + levels))

-- what the lookup in a pair promises; `looks` on any bytes
pub record GetsPair (f g k : List ℕ) (s : ℕ) (r : Result PairLookup Refusal) : Type 0 where
  pub exact : pair_as r ≡ get_pair f g k s
  pub rule : Sound f → Sound g → s ≤ max_number → length k ≤ max_key → PairRule f g k s r
  pub looks : (a : PairLooked) → pair_as r ≡ given a → a.looks ≤ most_looks f g k s

-- ---- whose looks they are

-- so many looks were made by the search for k and s, link by link
abbrev pub SearchLooks : List ℕ → List ℕ → ℕ → ℕ → Type 0
SearchLooks xs k s n = (f : Found) × (searched xs to_stop k s ≡ got f) × (n ≡ looks_of f)

-- and so many by the searches in the tables that a lookup in a pair asks: the first alone if it answers, else both
abbrev pub PairLooks : List ℕ → List ℕ → List ℕ → ℕ → ℕ → Type 0
PairLooks f g k s n = ((answers_of (get f k s) ≡ true) × SearchLooks f k s n) ⊎ ((answers_of (get f k s) ≡ false) × (a : ℕ) × (b : ℕ) × SearchLooks f k s a × SearchLooks g k s b × (n ≡ a + b))
