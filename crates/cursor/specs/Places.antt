-- Places in two tables, what stands there, and the place that gives a row.
use Rattle.std.specs.Prelude.{ℕ, ◌<◌, ◌≡◌, List, [], ◌++◌, Bool, true}
use Rattle.rule.specs.Lists.{some, All}
use Rattle.rule.specs.Entries.{Entry, value_kind}
use Rattle.rule.specs.Rows.{fits, newest}
use Rattle.image.specs.Nodes.{entry_of}
use Rattle.image.specs.Sound.{held}
use Rattle.image.specs.EntryMoves.{on, in_table, viewed, key_view, value_view, view_refusal}
use Rattle.image.specs.Meaning.{IsNode}
use Rattle.cursor.specs.declared.places.Side.{Side}
use Rattle.cursor.specs.declared.places.Side.TheVariants.{First, Second}
use Rattle.cursor.specs.declared.places.Place.{Place}
use Rattle.cursor.specs.declared.places.Cursor.{Cursor}
use Rattle.cursor.specs.declared.places.Cursor.TheVariants.{Nowhere, On}

-- the image of a table
abbrev pub image_of : Side → List ℕ → List ℕ → List ℕ
image_of First f g = f
image_of Second f g = g

-- the entries of the tables before it
abbrev pub held_before : Side → List ℕ → List Entry
held_before First f = []
held_before Second f = held f

-- the entries of both, the first table's first
abbrev pub all_entries : List ℕ → List ℕ → List Entry
all_entries f g = held f ++ held g

-- a place of a table
abbrev pub place : Side → ℕ → Place
place side i = record { table = side; node = i }

-- the entry at a place
abbrev pub entry_at : List ℕ → List ℕ → Place → Entry
entry_at f g p = entry_of (image_of p.table f g) p.node

-- the key at a place as its table shows it; on a sound table that is the key of the entry
abbrev pub key_at : List ℕ → List ℕ → Place → List ℕ
key_at f g p = viewed (image_of p.table f g) (key_view (image_of p.table f g) (on p.node))

-- the value at a place as its table shows it; a deletion's is empty
abbrev pub value_at : List ℕ → List ℕ → Place → List ℕ
value_at f g p = viewed (image_of p.table f g) (value_view (image_of p.table f g) (on p.node))

-- the place names a node of its table
abbrev pub PlaceIn : List ℕ → List ℕ → Place → Type 0
PlaceIn f g p = IsNode (image_of p.table f g) p.node

-- the cursor does, or is nowhere
abbrev pub CursorIn : List ℕ → List ℕ → Cursor → Type 0
CursorIn f g Nowhere = Unit
CursorIn f g (On p) = PlaceIn f g p

-- the refusal that the views get at a place, or 0
abbrev pub refusal_at : List ℕ → List ℕ → Place → ℕ
refusal_at f g p = view_refusal (image_of p.table f g) (on p.node)

-- the cursor names a node of its table, or none
abbrev pub inside : List ℕ → List ℕ → Cursor → Bool
inside f g Nowhere = true
inside f g (On p) = in_table (image_of p.table f g) (on p.node)

-- no table before that of the place has an entry of k up to s that is as new
abbrev pub FirstAsNew : List ℕ → List ℕ → ℕ → List ℕ → Place → Type 0
FirstAsNew f g s k p = All (λ e. fits k s e ≡ true → e.number < (entry_at f g p).number) (held_before p.table f)

-- p is the place of the entry that gives the row of k at s; in a tie between the tables it is the first's. `newest_is` fixes the entry, and `first` the
-- table where the very same entry stands in both
pub record Gives (f g : List ℕ) (s : ℕ) (k : List ℕ) (p : Place) : Type 0 where
  pub inside : PlaceIn f g p
  pub newest_is : newest k s (all_entries f g) ≡ some (entry_at f g p)
  pub value_is : (entry_at f g p).kind ≡ value_kind
  pub first : FirstAsNew f g s k p
