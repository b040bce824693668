-- Two answers that a promise allows are one: for each call on one table, on any bytes.
use Prim.Native.Nat.{ℕ}
use mathlib.Core.Path.{◌≡◌, refl, sym, ap, ◌∙◌}
use mathlib.Core.Logic.{◌⊎◌, inl, inr}
use mathlib.Core.List.{List, [], ◌∷◌}
use lib.ListN.{get_or}
use mathlib.Core.Bool.{Bool, true, false, true≢false}
use Rattle.std.specs.Prelude.{Option, Some, None, Result, Ok, Err, IfErr}
use Rattle.rule.specs.Order.{Ord, less, equal, greater}
use Rattle.rule.specs.Entries.{Entry}
use Rattle.image.specs.Readers.{Read, got, bad}
use Rattle.image.specs.Refusals as is
use Rattle.image.specs.Refusals.{Answer, refused, given}
use Rattle.image.specs.Sound.{header_holds}
use Rattle.image.specs.Add.{Grown}
use Rattle.image.specs.Lookup.{Looked, found, deleted, absent, Lookup as LookupIs, Presence as PresenceIs}
use Rattle.image.specs.EntryMoves.{Cursor, nowhere, on, in_table, EntryMove, Span}
use Rattle.image.specs.Search.{Turn as TurnIs, onward, halt, below as down}
use Rattle.image.specs.Cuts.{Cut, all, from, above, below}
use Rattle.image.specs.Newest.{NewestAt as NewestAtIs, value, deletion, nothing}
use Rattle.table.specs.Refusals.{refusal_is, refusal_number, read_as, damage_as, answer_as}
use Rattle.table.specs.KeyTypes.{ord_of}
use Rattle.table.specs.Framed.{Framed}
use Rattle.table.specs.Skipmap.{turn_is, LinksFrom, TurnLinks}
use Rattle.table.specs.Memtable.{Freshens, Adds, lookup_is, Gets}
use Rattle.table.specs.EntryViews.{span_is, Spans}
use Rattle.table.specs.Presence.{Contains, ShowsRow}
use Rattle.table.specs.MemtableIter.{cursor_is, node_cursor, Tested, moved_as, HandedOn, MovesEntry}
use Rattle.table.specs.Check.{Checked}
use Rattle.table.specs.Questions.{cut_of, Nears, newest_is, TellsNewest}
use Rattle.std.specs.declared.cmp.Ordering.{Ordering}
use Rattle.std.specs.declared.cmp.Ordering.TheVariants.{Less, Equal, Greater}
use Rattle.table.specs.declared.tested.Frame.{Frame}
use Rattle.table.specs.declared.skipmap.Turn.{Turn}
use Rattle.table.specs.declared.skipmap.Turn.TheVariants as turn
use Rattle.table.specs.declared.refusals.Fault.{Fault}
use Rattle.table.specs.declared.refusals.Damage.{Damage}
use Rattle.table.specs.declared.refusals.Refusal.{Refusal}
use Rattle.table.specs.declared.refusals.Refusal.TheVariants.{BadImage, BadKind, BadNumber, LongKey, LongValue, BadHeight, NoRoom, Duplicate, Damaged, NoNode}
use Rattle.table.specs.declared.key_types.Kind.{Kind}
use Rattle.table.specs.declared.key_types.Kind.TheVariants as kind
use Rattle.table.specs.declared.memtable.Newest.{Newest}
use Rattle.table.specs.declared.memtable.Lookup.{Lookup}
use Rattle.table.specs.declared.memtable.Lookup.TheVariants as lookup
use Rattle.table.specs.declared.presence.Presence.{Presence}
use Rattle.table.specs.declared.memtable_iter.EntryCursor.{EntryCursor}
use Rattle.table.specs.declared.memtable_iter.EntryCursor.TheVariants.{Nowhere, On}
use Rattle.table.specs.declared.memtable_iter.Stays.{Stays}
use Rattle.table.specs.declared.entry_views.Span.{Span as SpanHere}
use Rattle.table.specs.declared.questions.Cut.{Cut as CutHere}
use Rattle.table.specs.declared.questions.Cut.TheVariants as cut

-- what is taken back from its image is what it was
recovered {ℓ κ} : {A : Type ℓ} {B : Type κ} (f : A → B) (back : B → A) → ((a : A) → back (f a) ≡ a) → (a b : A) → f a ≡ f b → a ≡ b
recovered f back law a b e = sym (law a) ∙ ap back e ∙ law b

-- ---- from the answers of the definitions back to those of the code

unfoldable pub refusal_from : is.Refusal → Refusal
refusal_from is.bad_image = BadImage
refusal_from is.bad_kind = BadKind
refusal_from is.bad_number = BadNumber
refusal_from is.long_key = LongKey
refusal_from is.long_value = LongValue
refusal_from is.bad_height = BadHeight
refusal_from is.no_room = NoRoom
refusal_from is.duplicate = Duplicate
refusal_from is.damaged = Damaged
refusal_from is.no_node = NoNode

pub refusal_back : (q : Refusal) → refusal_from (refusal_is q) ≡ q
unfolding refusal_from
refusal_back BadImage = refl
refusal_back BadKind = refl
refusal_back BadNumber = refl
refusal_back LongKey = refl
refusal_back LongValue = refl
refusal_back BadHeight = refl
refusal_back NoRoom = refl
refusal_back Duplicate = refl
refusal_back Damaged = refl
refusal_back NoNode = refl

-- what the definitions answer fixes what the code answers, where an answer that is given fixes the value
module _ {A B : Type 0} (view : A → B) (back : B → A) (law : (a : A) → back (view a) ≡ a) where
  answer_from : Answer B → Result A Refusal
  answer_from (given b) = Ok (back b)
  answer_from (refused r) = Err (refusal_from r)

  answer_back : (r : Result A Refusal) → answer_from (answer_as view r) ≡ r
  unfolding answer_from
  answer_back (Ok a) = ap {B = Result A Refusal} Ok (law a)
  answer_back (Err q) = ap {B = Result A Refusal} Err (refusal_back q)

  pub answer_one : (r q : Result A Refusal) → answer_as view r ≡ answer_as view q → r ≡ q
  answer_one = recovered (answer_as view) answer_from answer_back

  -- the same where damage alone refuses
  found_from : Answer B → Result A Damage
  found_from (given b) = Ok (back b)
  found_from (refused r) = Err (record {})

  found_back : (r : Result A Damage) → found_from (damage_as view r) ≡ r
  unfolding found_from
  found_back (Ok a) = ap {B = Result A Damage} Ok (law a)
  found_back (Err d) = refl

  found_one : (r q : Result A Damage) → damage_as view r ≡ damage_as view q → r ≡ q
  found_one = recovered (damage_as view) found_from found_back

said_from : Looked → ℕ → Lookup
said_from (found i) looks = lookup.Found i looks
said_from deleted looks = lookup.Deleted looks
said_from absent looks = lookup.Absent looks

cursor_from : Cursor → EntryCursor
cursor_from nowhere = Nowhere
cursor_from (on i) = On i

cursor_back : (c : EntryCursor) → cursor_from (cursor_is c) ≡ c
unfolding cursor_from
cursor_back Nowhere = refl
cursor_back (On i) = refl

node_from : Cursor → Option ℕ
node_from nowhere = None
node_from (on i) = Some i

newest_from : NewestAtIs → Option Newest
newest_from (value i) = Some (record { node = i; kind = kind.Value })
newest_from (deletion i) = Some (record { node = i; kind = kind.Deletion })
newest_from nothing = None

-- a refused move hands back the cursor c
moved_from : EntryCursor → Answer Cursor → Result EntryCursor (Stays EntryCursor)
moved_from c (given d) = Ok (cursor_from d)
moved_from c (refused r) = Err (record { why = refusal_from r; at = c })

ordering_from : Ord → Ordering
ordering_from less = Less
ordering_from equal = Equal
ordering_from greater = Greater

cut_from : Cut → CutHere
cut_from all = cut.All
cut_from from = cut.From
cut_from above = cut.Above
cut_from below = cut.Below

-- by the numbers of document 01
companion_from : ℕ → Option Refusal
companion_from n =
    get_or (None ∷ Some BadImage ∷ Some BadKind ∷ Some BadNumber ∷ Some LongKey ∷ Some LongValue ∷ Some BadHeight ∷ Some NoRoom ∷ Some Duplicate ∷ Some Damaged ∷ Some NoNode ∷ []) n None

-- ---- one answer

pub fresh_one : (xs : List ℕ) (r q : Result Unit Refusal) (ys zs : List ℕ) → Freshens xs r ys → Freshens xs q zs → (r ≡ q) × (ys ≡ zs)
fresh_one xs r q ys zs a b =
    let same = a.bytes ∙ sym b.bytes in
    (answer_one (λ (done : Unit). ys) (λ (zs : List ℕ). tt) (λ done. refl) r q (a.exact ∙ sym b.exact ∙ rw same), same)

pub add_one_answer : (xs : List ℕ) (e : Entry) (h : ℕ) (r q : Result ℕ Refusal) (ys zs : List ℕ) → Adds xs e h r ys → Adds xs e h q zs → (r ≡ q) × (ys ≡ zs)
add_one_answer xs e h r q ys zs a b =
    let same = a.bytes ∙ sym b.bytes in
    (answer_one {B = Grown} (λ (i : ℕ). record { node = i; image = ys }) (λ (g : Grown). g.node) (λ i. refl) r q (a.exact ∙ sym b.exact ∙ rw same), same)

pub get_one : (xs k : List ℕ) (s : ℕ) (r q : Result Lookup Refusal) → Gets xs k s r → Gets xs k s q → r ≡ q
unfolding said_from
get_one xs k s r q a b = answer_one lookup_is (λ (a : LookupIs). said_from a.says a.looks) back r q (a.exact ∙ sym b.exact)
  where
    back : (r : Lookup) → said_from (lookup_is r).says (lookup_is r).looks ≡ r
    back (lookup.Found i looks) = refl
    back (lookup.Deleted looks) = refl
    back (lookup.Absent looks) = refl

pub contains_one : (xs k : List ℕ) (n kind : ℕ) (r q : Result Presence Refusal) → Contains xs k n kind r → Contains xs k n kind q → r ≡ q
contains_one xs k n kind r q a b =
    answer_one {B = PresenceIs} (λ (a : Presence). record { held = a.held; looks = a.looks }) (λ (a : PresenceIs). record { held = a.held; looks = a.looks }) (λ a. refl) r q (a.exact ∙ sym b.exact)

pub move_one : (xs : List ℕ) (m : EntryMove) (c : EntryCursor) (r q : Result EntryCursor (Stays EntryCursor)) → MovesEntry xs m c r → MovesEntry xs m c q → r ≡ q
unfolding moved_from
move_one xs m c r q a b = sym (back r a.handed) ∙ ap (moved_from c) (a.exact ∙ sym b.exact) ∙ back q b.handed
  where
    back : (r : Result EntryCursor (Stays EntryCursor)) → IfErr r (λ s. s.at ≡ c) → moved_from c (moved_as r) ≡ r
    back (Ok d) h = ap {B = Result EntryCursor (Stays EntryCursor)} Ok (cursor_back d)
    back (Err s) h = rw (refusal_back s.why, ← h)

-- `hand_back`
pub handed_one : {C : Type 0} (c : C) (moved : Result C Refusal) (r q : Result C (Stays C)) → HandedOn c moved r → HandedOn c moved q → r ≡ q
handed_one c (Ok to) r q a b = a ∙ sym b
handed_one c (Err why) r q a b = a ∙ sym b

-- a header is read in one way
frame_one : (xs : List ℕ) (f g : Frame) → Framed xs f → Framed xs g → f ≡ g
frame_one xs f g a b =
    let p : f.count ≡ g.count = a.count_is ∙ sym b.count_is in
    let q : f.free ≡ g.free = a.free_is ∙ sym b.free_is in
    ap {B = Frame} (λ (n : ℕ). record { count = n; free = f.free }) p ∙ ap {B = Frame} (λ (n : ℕ). record { count = g.count; free = n }) q

pub test_one : (xs : List ℕ) (c : Cursor) (r q : Result Frame Refusal) → Tested xs c r → Tested xs c q → r ≡ q
test_one xs c (Ok f) (Ok g) (_, _, a) (_, _, b) = ap {B = Result Frame Refusal} Ok (frame_one xs f g a b)
test_one xs c (Ok f) (Err q) (h, i, _) (inl (j, _)) = absurd (true≢false (sym h ∙ j))
test_one xs c (Ok f) (Err q) (h, i, _) (inr (_, j, _)) = absurd (true≢false (sym i ∙ j))
test_one xs c (Err q) (Ok f) (inl (j, _)) (h, i, _) = absurd (true≢false (sym h ∙ j))
test_one xs c (Err q) (Ok f) (inr (_, j, _)) (h, i, _) = absurd (true≢false (sym i ∙ j))
test_one xs c (Err p) (Err q) a b = ap {B = Result Frame Refusal} Err (recovered refusal_is refusal_from refusal_back p q (go a b))
  where
    go : ((header_holds xs ≡ false) × (refusal_is p ≡ is.bad_image)) ⊎ ((header_holds xs ≡ true) × (in_table xs c ≡ false) × (refusal_is p ≡ is.no_node))
        → ((header_holds xs ≡ false) × (refusal_is q ≡ is.bad_image)) ⊎ ((header_holds xs ≡ true) × (in_table xs c ≡ false) × (refusal_is q ≡ is.no_node))
        → refusal_is p ≡ refusal_is q
    go (inl (_, e)) (inl (_, f)) = e ∙ sym f
    go (inl (h, _)) (inr (i, _, _)) = absurd (true≢false (sym i ∙ h))
    go (inr (i, _, _)) (inl (h, _)) = absurd (true≢false (sym i ∙ h))
    go (inr (_, _, e)) (inr (_, _, f)) = e ∙ sym f

pub check_one : (xs : List ℕ) (r q : Bool) → Checked xs r → Checked xs q → r ≡ q
check_one xs r q a b = a.exact ∙ sym b.exact

pub span_one : (xs : List ℕ) (v : Answer Span) (r q : Result SpanHere Refusal) → Spans xs v r → Spans xs v q → r ≡ q
span_one xs v r q a b = answer_one span_is (λ (s : Span). record { at = s.at; len = s.len }) (λ s. refl) r q (a.exact ∙ sym b.exact)

pub row_span_one : (xs k : List ℕ) (s : ℕ) (r q : Result SpanHere Refusal) → ShowsRow xs k s r → ShowsRow xs k s q → r ≡ q
row_span_one xs k s r q a b = answer_one span_is (λ (s : Span). record { at = s.at; len = s.len }) (λ s. refl) r q (a.exact ∙ sym b.exact)

pub near_one : (xs : List ℕ) (c : Cut) (t : List ℕ) (r q : Result (Option ℕ) Damage) → Nears xs c t r → Nears xs c t q → r ≡ q
unfolding node_from
near_one xs c t r q a b = found_one node_cursor node_from back r q (a.exact ∙ sym b.exact)
  where
    back : (r : Option ℕ) → node_from (node_cursor r) ≡ r
    back None = refl
    back (Some i) = refl

pub newest_one : (xs k : List ℕ) (s : ℕ) (r q : Result (Option Newest) Damage) → TellsNewest xs k s r → TellsNewest xs k s q → r ≡ q
unfolding newest_from
newest_one xs k s r q a b = found_one newest_is newest_from back r q (a.exact ∙ sym b.exact)
  where
    kinds : (i : ℕ) (k : Kind) → newest_from (newest_is (Some (record { node = i; kind = k }))) ≡ Some (record { node = i; kind = k })
    kinds i kind.Value = refl
    kinds i kind.Deletion = refl

    back : (r : Option Newest) → newest_from (newest_is r) ≡ r
    back None = refl
    back (Some a) = kinds a.node a.kind

-- ---- where a promise is an equation through a definition, the definition takes no two answers to one

-- `compare_keys`, `LookupKey::compare`
pub ordering_one : (r q : Ordering) → ord_of r ≡ ord_of q → r ≡ q
unfolding ordering_from
ordering_one r q e = recovered ord_of ordering_from back r q e
  where
    back : (r : Ordering) → ordering_from (ord_of r) ≡ r
    back Less = refl
    back Equal = refl
    back Greater = refl

-- `past`
pub cut_one : (r q : CutHere) → cut_of r ≡ cut_of q → r ≡ q
unfolding cut_from
cut_one r q e = recovered cut_of cut_from back r q e
  where
    back : (r : CutHere) → cut_from (cut_of r) ≡ r
    back cut.All = refl
    back cut.From = refl
    back cut.Above = refl
    back cut.Below = refl

-- a cursor made of a node, or of none
pub cursor_one : (r q : EntryCursor) → cursor_is r ≡ cursor_is q → r ≡ q
cursor_one r q e = recovered cursor_is cursor_from cursor_back r q e

-- `entry_refusal`, `value_refusal`: a refusal is known by its number, which is not 0
pub companion_one : (r q : Option Refusal) → refusal_number r ≡ refusal_number q → r ≡ q
unfolding companion_from
companion_one r q e = recovered refusal_number companion_from back r q e
  where
    back : (r : Option Refusal) → companion_from (refusal_number r) ≡ r
    back None = refl
    back (Some BadImage) = refl
    back (Some BadKind) = refl
    back (Some BadNumber) = refl
    back (Some LongKey) = refl
    back (Some LongValue) = refl
    back (Some BadHeight) = refl
    back (Some NoRoom) = refl
    back (Some Duplicate) = refl
    back (Some Damaged) = refl
    back (Some NoNode) = refl

-- `turn_by`: together with where the links of a passed node stand
turn_from : ℕ → TurnIs → Turn
turn_from links onward = turn.Onward links
turn_from links halt = turn.Halt
turn_from links down = turn.Below

turn_back : (links : ℕ) (r : Turn) → LinksFrom links r → turn_from links (turn_is r) ≡ r
unfolding turn_from
turn_back links (turn.Onward at) h = ap {B = Turn} turn.Onward (sym h)
turn_back links turn.Halt h = refl
turn_back links turn.Below h = refl

pub turn_one : (links : ℕ) (r q : Turn) → turn_is r ≡ turn_is q → LinksFrom links r → LinksFrom links q → r ≡ q
turn_one links r q e a b = sym (turn_back links r a) ∙ ap (turn_from links) e ∙ turn_back links q b

-- and of a look that may meet a byte at fault
pub look_one : (links : ℕ) (r q : Result Turn Fault) → read_as turn_is r ≡ read_as turn_is q → TurnLinks links r → TurnLinks links q → r ≡ q
look_one links r q e a b = sym (back r a) ∙ ap from e ∙ back q b
  where
    from : Read TurnIs → Result Turn Fault
    from (got t) = Ok (turn_from links t)
    from (bad o) = Err (record { at = o })

    back : (r : Result Turn Fault) → TurnLinks links r → from (read_as turn_is r) ≡ r
    back (Ok t) h = ap {B = Result Turn Fault} Ok (turn_back links t h)
    back (Err f) h = refl
