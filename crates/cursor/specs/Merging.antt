-- What the two tables answer together: the fold of two answers, and what it means.
use Rattle.std.specs.Prelude.{ℕ, ◌≤◌, ◌≡◌, ◌⊎◌, List, true, false, ltb, Option, Some, None, Result, Ok, Err}
use Rattle.rule.specs.Lists.{cond, none, some}
use Rattle.rule.specs.Order.{is_less}
use Rattle.rule.specs.Entries.{Entry}
use Rattle.rule.specs.Rows.{newest}
use Rattle.rule.specs.Nearest.{Least}
use Rattle.image.specs.Nodes.{entry_of}
use Rattle.image.specs.Sound.{Sound}
use Rattle.image.specs.Refusals.{refused, damaged}
use Rattle.image.specs.EntryMoves.{on, number_view, view_refusal}
use Rattle.image.specs.Meaning.{IsNode}
use Rattle.image.specs.Cuts.{Cut, cmp_of, admits, nearest as nearest_in}
use Rattle.image.specs.Newest.{newest_at as newest_in}
use Rattle.table.specs.KeyTypes.{code_of}
use Rattle.table.specs.EntryViews.{shown_number}
use Rattle.table.specs.declared.refusals.Damage.{Damage}
use Rattle.table.specs.declared.memtable.Newest.{Newest}
use Rattle.cursor.specs.Places.{image_of, all_entries, place, entry_at, key_at, refusal_at, PlaceIn, FirstAsNew}
use Rattle.cursor.specs.declared.places.Side.{Side}
use Rattle.cursor.specs.declared.places.Side.TheVariants.{First, Second}
use Rattle.cursor.specs.declared.places.Place.{Place}
use Rattle.cursor.specs.declared.merging_iter.Meeting.{Meeting}
use Rattle.cursor.specs.declared.merging_iter.Version.{Version}

-- ---- places

-- the place names a node of its table that can be read whole: its views are not refused
pub record PlaceReads (f g : List ℕ) (p : Place) : Type 0 where
  pub inside : PlaceIn f g p
  pub readable : refusal_at f g p ≡ 0

-- the number at a place as its table shows it
abbrev pub number_at : List ℕ → List ℕ → Place → ℕ
number_at f g p = shown_number (number_view (image_of p.table f g) (on p.node))

-- ---- the key that comes next

-- a key met in one table
abbrev pub met_at : Side → ℕ → Meeting
met_at First i = record { place = place First i; first = true; second = false }
met_at Second i = record { place = place Second i; first = false; second = true }

-- of two keys the one that comes before the other; equal ones are met in both tables, at the first's place
abbrev pub nearer_of : (Place → List ℕ) → Cut → Meeting → Meeting → Meeting
nearer_of key c x y =
    cond (is_less (cmp_of c (key y.place) (key x.place))) y (cond (is_less (cmp_of c (key x.place) (key y.place))) x (record { place = x.place; first = true; second = true }))

-- the sooner of two keys that may be missing
abbrev pub sooner_of : (Place → List ℕ) → Cut → Option Meeting → Option Meeting → Option Meeting
sooner_of key c None b = b
sooner_of key c (Some x) None = Some x
sooner_of key c (Some x) (Some y) = Some (nearer_of key c x y)

-- among some entries: of the keys that the cut admits the one that comes first, or that there is none
abbrev pub NearestAmong : List Entry → List ℕ → List ℕ → Cut → List ℕ → Result (Option Meeting) Damage → Type 0
NearestAmong es f g c t (Ok (Some m)) = Least (cmp_of c) (admits c t) es (some (key_at f g m.place))
NearestAmong es f g c t (Ok None) = Least (cmp_of c) (admits c t) es none
NearestAmong es f g c t (Err d) = ⊥

-- on any bytes: a node of the table can be read whole and has the key
pub record HasNode (xs k : List ℕ) : Type 0 where
  pub node : ℕ
  pub inside : IsNode xs node
  pub readable : view_refusal xs (on node) ≡ 0
  pub key_is : (entry_of xs node).key ≡ k

-- on any bytes: the place can be read whole, the cut admits its key, the key is met in one table at least, and a table that it is met in has it
pub record MeetingIn (f g : List ℕ) (c : Cut) (t : List ℕ) (m : Meeting) : Type 0 where
  pub reads : PlaceReads f g m.place
  pub admitted : admits c t (entry_at f g m.place).key ≡ true
  pub somewhere : (m.first ≡ true) ⊎ (m.second ≡ true)
  pub in_first : m.first ≡ true → HasNode f (entry_at f g m.place).key
  pub in_second : m.second ≡ true → HasNode g (entry_at f g m.place).key

-- on any bytes: one of the tables cannot tell its nearest key, for damage
abbrev pub NearDamaged : List ℕ → List ℕ → Cut → List ℕ → Type 0
NearDamaged f g c t = (nearest_in f c t ≡ refused damaged) ⊎ (nearest_in g c t ≡ refused damaged)

-- the same of an answer
abbrev pub NearestIn : List ℕ → List ℕ → Cut → List ℕ → Result (Option Meeting) Damage → Type 0
NearestIn f g c t (Ok (Some m)) = MeetingIn f g c t m
NearestIn f g c t (Ok None) = Unit
NearestIn f g c t (Err d) = NearDamaged f g c t

-- what is promised of an answer about some of the entries
pub record NearestOver (es : List Entry) (f g : List ℕ) (c : Cut) (t : List ℕ) (r : Result (Option Meeting) Damage) : Type 0 where
  pub rule : Sound f → Sound g → NearestAmong es f g c t r
  pub lands : NearestIn f g c t r

-- and about all of them
abbrev pub NearestOfAll : List ℕ → List ℕ → Cut → List ℕ → Result (Option Meeting) Damage → Type 0
NearestOfAll f g = NearestOver (all_entries f g) f g

-- ---- the newest entry of a key

-- an entry of one table
abbrev pub version_in : Side → Newest → Version
version_in side a = record { place = place side a.node; kind = a.kind }

-- the newer of two entries that may be missing; of equal numbers the first
abbrev pub newer_of : (Place → ℕ) → Option Version → Option Version → Option Version
newer_of number None b = b
newer_of number (Some x) None = Some x
newer_of number (Some x) (Some y) = cond (ltb (number x.place) (number y.place)) (Some y) (Some x)

-- the newest entry of k up to s among some entries, or that there is none
abbrev pub NewestAmong : List Entry → List ℕ → List ℕ → List ℕ → ℕ → Result (Option Version) Damage → Type 0
NewestAmong es f g k s (Ok (Some v)) = (newest k s es ≡ some (entry_at f g v.place)) × ((entry_at f g v.place).kind ≡ code_of v.kind)
NewestAmong es f g k s (Ok None) = newest k s es ≡ none
NewestAmong es f g k s (Err d) = ⊥

-- on any bytes: the place can be read whole, and has an entry of k up to s, of the type that is told
pub record VersionIn (f g : List ℕ) (k : List ℕ) (s : ℕ) (v : Version) : Type 0 where
  pub reads : PlaceReads f g v.place
  pub key_is : (entry_at f g v.place).key ≡ k
  pub number_most : (entry_at f g v.place).number ≤ s
  pub kind_is : (entry_at f g v.place).kind ≡ code_of v.kind

-- on any bytes: one of the tables cannot tell its newest entry of k up to s, for damage
abbrev pub NewestDamaged : List ℕ → List ℕ → List ℕ → ℕ → Type 0
NewestDamaged f g k s = (newest_in f k s ≡ refused damaged) ⊎ (newest_in g k s ≡ refused damaged)

-- the same of an answer
abbrev pub NewestIn : List ℕ → List ℕ → List ℕ → ℕ → Result (Option Version) Damage → Type 0
NewestIn f g k s (Ok (Some v)) = VersionIn f g k s v
NewestIn f g k s (Ok None) = Unit
NewestIn f g k s (Err d) = NewestDamaged f g k s

-- the same of an answer
abbrev pub NewestFirst : List ℕ → List ℕ → List ℕ → ℕ → Result (Option Version) Damage → Type 0
NewestFirst f g k s (Ok (Some v)) = FirstAsNew f g s k v.place
NewestFirst f g k s (Ok None) = Unit
NewestFirst f g k s (Err d) = Unit

-- what is promised of an answer about some of the entries
pub record NewestOver (es : List Entry) (f g : List ℕ) (k : List ℕ) (s : ℕ) (r : Result (Option Version) Damage) : Type 0 where
  pub rule : Sound f → Sound g → NewestAmong es f g k s r
  pub lands : NewestIn f g k s r

-- and about all of them
pub record NewestOfAll (f g : List ℕ) (k : List ℕ) (s : ℕ) (r : Result (Option Version) Damage) : Type 0 where
  pub over : NewestOver (all_entries f g) f g k s r
  pub first : Sound f → Sound g → NewestFirst f g k s r
