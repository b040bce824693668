-- The entry cursor of one table and what it shows, on any bytes: document 01, 'Looking, moving, showing'.
use Rattle.std.specs.Prelude.{ℕ, zero, suc, ◌%◌, List, [], Bool, true, length, leb, eqb}
use Rattle.rule.specs.Lists.{cond, both, Maybe, none, some}
use Rattle.rule.specs.Order.{is_less}
use Rattle.rule.specs.Entries.{value_kind}
use Rattle.image.specs.Limits.{max_key, max_number}
use Rattle.image.specs.Words.{part}
use Rattle.image.specs.Readers.{Read, got, bind, check}
use Rattle.image.specs.Entries.{Keyed, Parts, key_in, number_in, compare_keyed}
use Rattle.image.specs.Nodes.{count, node_at, link_place, link_of}
use Rattle.image.specs.Sound.{header_holds}
use Rattle.image.specs.Search.{OnEqual, to_stop, to_go_down, searched, standing, passed}
use Rattle.image.specs.Refusals.{bad_image, bad_number, long_key, no_node, Answer, refused, given, demand, reading, refusal_of}

-- nowhere, or on a node
pub data Cursor : Type 0 where
  nowhere : Cursor
  on : ℕ → Cursor

-- a node number as a cursor; 0 is none
abbrev pub cursor_at : ℕ → Cursor
cursor_at zero = nowhere
cursor_at (suc i) = on (suc i)

-- a cursor names a node of the table, or none
abbrev pub in_table : List ℕ → Cursor → Bool
in_table xs nowhere = true
in_table xs (on i) = both (leb 1 i) (leb i (count xs))

-- the moves of the entry cursor
pub data EntryMove : Type 0 where
  first : EntryMove
  seek : List ℕ → ℕ → EntryMove
  next : EntryMove
  previous : EntryMove

-- where the lowest link of a node leads; a link above n is bad
abbrev pub follow : List ℕ → ℕ → Read Cursor
follow xs i = check (leb (link_of xs i 0) (count xs)) (link_place xs i 0) (got (cursor_at (link_of xs i 0)))

-- the end of a move: nowhere, or on a node that can be read whole
abbrev pub landing : List ℕ → Cursor → Read Cursor
landing xs nowhere = got nowhere
landing xs (on i) = bind (node_at xs i) (λ m. got (on i))

-- the same behind an entry: a node that does not come after it makes the link at o bad
abbrev pub landing_after : List ℕ → Keyed → ℕ → Cursor → Read Cursor
landing_after xs k o nowhere = got nowhere
landing_after xs k o (on i) = bind (node_at xs i) (λ m. check (is_less (compare_keyed xs k m.parts.keyed)) o (got (on i)))

-- the first node of all
abbrev pub first_entry : List ℕ → Read Cursor
first_entry xs = bind (follow xs 0) (landing xs)

-- the last node before a key and a number
abbrev pub last_before : List ℕ → List ℕ → ℕ → Read Cursor
last_before xs k n = bind (searched xs to_go_down k n) (λ r. landing xs (cursor_at (passed r)))

-- the first node that a search does not pass; of one that stops on equality, the first at or after a key and a number
abbrev pub first_not_passed : List ℕ → OnEqual → List ℕ → ℕ → Read Cursor
first_not_passed xs mode k n = bind (searched xs mode k n) (λ r. landing xs (cursor_at (standing r)))

-- where a move leads from a cursor in the table
abbrev pub moved : List ℕ → EntryMove → Cursor → Read Cursor
moved xs first c = first_entry xs
moved xs (seek k n) c = first_not_passed xs to_stop k n
moved xs next nowhere = first_entry xs
moved xs next (on i) = bind (node_at xs i) (λ m. bind (follow xs i) (landing_after xs m.parts.keyed (link_place xs i 0)))
moved xs previous nowhere = got nowhere
moved xs previous (on i) = bind (node_at xs i) (λ m. last_before xs (key_in xs m.parts.keyed) (number_in m.parts.keyed))

-- what a move demands of its arguments
abbrev pub allowed {ℓ} : {A : Type ℓ} → EntryMove → Answer A → Answer A
allowed first a = a
allowed (seek k n) a = demand (leb n max_number) bad_number (demand (leb (length k) max_key) long_key a)
allowed next a = a
allowed previous a = a

-- the call; refusals 1, 10, 3, 4, 9. A refused move hands back the cursor that it was handed
unfoldable pub entry_move : List ℕ → EntryMove → Cursor → Answer Cursor
entry_move xs m c = demand (header_holds xs) bad_image (demand (in_table xs c) no_node (allowed m (reading (moved xs m c) given)))

-- ---- what stands at a cursor

-- a part of the image
pub record Span : Type 0 where
  pub at : ℕ
  pub len : ℕ

-- an empty part
abbrev pub empty_span : Span
empty_span = record { at = 0; len = 0 }

-- the bytes of a view: a refused one is empty
abbrev pub viewed : List ℕ → Answer Span → List ℕ
viewed xs (refused r) = []
viewed xs (given s) = part xs s.at s.len

-- the parts of the node at a cursor, none if nowhere; refusals 1, 10, 9
unfoldable pub parts_on : List ℕ → Cursor → Answer (Maybe Parts)
parts_on xs nowhere = demand (header_holds xs) bad_image (given none)
parts_on xs (on i) = demand (header_holds xs) bad_image (demand (in_table xs (on i)) no_node (reading (node_at xs i) (λ m. given (some m.parts))))

-- what is shown of them, and what nowhere shows
abbrev pub view {ℓ} : {A : Type ℓ} → (Parts → A) → A → Answer (Maybe Parts) → Answer A
view show empty (refused r) = refused r
view show empty (given none) = given empty
view show empty (given (some p)) = given (show p)

-- the type of an entry
abbrev pub kind_in : Parts → ℕ
kind_in p = p.keyed.tag_is % 256

-- where its key stands
abbrev pub key_span : Parts → Span
key_span p = record { at = p.keyed.key_at; len = p.keyed.key_len }

-- where its value stands; a deletion's is empty
abbrev pub value_span : Parts → Span
value_span p = cond (eqb (kind_in p) value_kind) (record { at = p.value_at; len = p.value_len }) empty_span

-- the views at a cursor: of the key of its entry
abbrev pub key_view : List ℕ → Cursor → Answer Span
key_view xs c = view key_span empty_span (parts_on xs c)

-- of its value
abbrev pub value_view : List ℕ → Cursor → Answer Span
value_view xs c = view value_span empty_span (parts_on xs c)

-- of its number
abbrev pub number_view : List ℕ → Cursor → Answer ℕ
number_view xs c = view (λ p. number_in p.keyed) 0 (parts_on xs c)

-- of its type
abbrev pub kind_view : List ℕ → Cursor → Answer ℕ
kind_view xs c = view kind_in 0 (parts_on xs c)

-- their companion: the refusal's number, or 0; it is the same for all four
abbrev pub view_refusal : List ℕ → Cursor → ℕ
view_refusal xs c = refusal_of (parts_on xs c)
