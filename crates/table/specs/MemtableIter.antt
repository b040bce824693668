-- What the entry cursor promises: `exact` on any bytes, `handed`, that a refused move hands back its cursor, `rule` on a sound image, and
-- `lands`: on any bytes a move ends on a node that can be read whole and lies onward, or nowhere.
use Rattle.std.specs.Prelude.{ℕ, ◌≡◌, ◌⊎◌, List, true, false, Option, Some, None, Result, Ok, Err, IfErr}
use Rattle.image.specs.Sound.{header_holds, Sound}
use Rattle.image.specs.Refusals.{bad_image, no_node, Answer, refused, given}
use Rattle.image.specs.EntryMoves.{Cursor, nowhere, on, in_table, EntryMove, entry_move}
use Rattle.image.specs.Meaning.{Stands, Fitting, Leads, EntryLands}
use Rattle.table.specs.Refusals.{refusal_is}
use Rattle.table.specs.declared.refusals.Refusal.{Refusal}
use Rattle.table.specs.Framed.{Framed}
use Rattle.table.specs.declared.tested.Frame.{Frame}
use Rattle.table.specs.declared.tested.Table.{Table}
use Rattle.table.specs.declared.memtable_iter.EntryCursor.{EntryCursor}
use Rattle.table.specs.declared.memtable_iter.EntryCursor.TheVariants.{Nowhere, On}
use Rattle.table.specs.declared.memtable_iter.Stays.{Stays}

-- the cursor
abbrev pub cursor_is : EntryCursor → Cursor
cursor_is Nowhere = nowhere
cursor_is (On i) = on i

-- a node as a cursor, or nowhere
abbrev pub node_cursor : Option ℕ → Cursor
node_cursor None = nowhere
node_cursor (Some i) = on i

-- a cursor that may be used on a table, with the frame that was read, or the first of the two tests that it fails
abbrev pub Tested : List ℕ → Cursor → Result Frame Refusal → Type 0
Tested xs c (Ok f) = (header_holds xs ≡ true) × (in_table xs c ≡ true) × Framed xs f
Tested xs c (Err q) = ((header_holds xs ≡ false) × (refusal_is q ≡ bad_image)) ⊎ ((header_holds xs ≡ true) × (in_table xs c ≡ false) × (refusal_is q ≡ no_node))

-- the same with the table, opened
abbrev pub OpensAt : List ℕ → Cursor → Result Table Refusal → Type 0
OpensAt xs c (Ok t) = (t.bytes.now ≡ xs) × (in_table xs c ≡ true)
OpensAt xs c (Err q) = ((header_holds xs ≡ false) × (refusal_is q ≡ bad_image)) ⊎ ((header_holds xs ≡ true) × (in_table xs c ≡ false) × (refusal_is q ≡ no_node))

-- the answer of a move
abbrev pub moved_as : Result EntryCursor (Stays EntryCursor) → Answer Cursor
moved_as (Ok c) = given (cursor_is c)
moved_as (Err r) = refused (refusal_is r.why)

-- the answer of a move from a cursor, which a refused one takes with it
abbrev pub HandedOn : {C : Type 0} → C → Result C Refusal → Result C (Stays C) → Type 0
HandedOn at (Ok to) r = r ≡ Ok to
HandedOn at (Err q) r = r ≡ Err (record { why = q; at = at })

-- a refused move hands back the cursor
abbrev pub HandsBack : EntryCursor → Result EntryCursor (Stays EntryCursor) → Type 0
HandsBack c r = IfErr r (λ s. s.at ≡ c)

-- what a move of the entry cursor promises; `lands` holds on any bytes, so no scan goes round
pub record MovesEntry (xs : List ℕ) (m : EntryMove) (c : EntryCursor) (r : Result EntryCursor (Stays EntryCursor)) : Type 0 where
  pub exact : moved_as r ≡ entry_move xs m (cursor_is c)
  pub handed : HandsBack c r
  pub rule : Sound xs → Stands xs (cursor_is c) → Fitting m → (d : Cursor) × (moved_as r ≡ given d) × Leads xs m (cursor_is c) d
  pub lands : (d : Cursor) → moved_as r ≡ given d → EntryLands xs m (cursor_is c) d
