-- The ways out of the views at an entry cursor and of the questions where they stand, and that the part there is what the view shows.
use Prim.Native.Nat.{ℕ, ◌%◌}
use mathlib.Core.Path.{◌≡◌, refl, sym, ap, ◌∙◌}
use mathlib.Core.List.{List}
use Rattle.std.specs.Prelude.{Option, Some, None, Result, Ok, Err}
use Rattle.std.specs.Result.{IsErrAnd}
use Rattle.std.proofs.lemmas.Result.{err_from_is_err_and}
use Rattle.rule.specs.Lists.{none, some, Maybe}
use Rattle.image.specs.Readers.{got, bad}
use Rattle.image.specs.Entries.{Parts as PartsIs}
use Rattle.image.specs.Nodes.{node_at}
use Rattle.image.specs.Refusals.{refusal_of, Answer, refused, given, reading}
use Rattle.image.specs.EntryMoves.{Cursor, nowhere, on, parts_on, Span, empty_span, view, viewed, key_span, value_span, key_view, value_view, view_refusal}
use Rattle.table.specs.KeyTypes.{code_of}
use Rattle.table.specs.Nodes.{node_is}
use Rattle.table.specs.Refusals.{refusal_is}
use Rattle.table.specs.MemtableIter.{cursor_is, OpensAt}
use Rattle.table.specs.EntryViews.{PartsOnIs, span_as, Spans}
use Rattle.table.proofs.MemtableLaws.{holds_in, parts_inside}
use Rattle.table.proofs.MemtableIterLaws.{test_refuses}
use Rattle.table.specs.declared.tested.Table.{Table}
use Rattle.table.specs.declared.refusals.Refusal.{Refusal}
use Rattle.table.specs.declared.refusals.Refusal.TheVariants.{Damaged}
use Rattle.table.specs.declared.entries.Parts.{Parts}
use Rattle.table.specs.declared.nodes.Node.{Node}
use Rattle.table.specs.declared.memtable_iter.EntryCursor.{EntryCursor}
use Rattle.table.specs.declared.memtable_iter.EntryCursor.TheVariants.{Nowhere, On}
use Rattle.table.specs.declared.entry_views.Span.{Span as SpanHere}

-- ---- the parts

-- what leaves by `?`
pub parts_left_by : (xs : List ℕ) (d : Cursor) (r : Result (Option Parts) Refusal) (q : Refusal) → IsErrAnd r (λ y. y ≡ q) → PartsOnIs xs d (Err q) → PartsOnIs xs d r
parts_left_by xs d r q e is = let p = err_from_is_err_and r e in rw (p.1, p.2) is

refuses_parts : (xs : List ℕ) (d : Cursor) (q : Refusal) → OpensAt xs d (Err q) → refused (refusal_is q) ≡ parts_on xs d
unfolding parts_on
refuses_parts xs nowhere q f = test_refuses xs nowhere q f _
refuses_parts xs (on i) q f = test_refuses xs (on i) q f _

pub parts_refused : (xs : List ℕ) (d : Cursor) (q : Refusal) → OpensAt xs d (Err q) → PartsOnIs xs d (Err q)
parts_refused xs d q f = record { exact = refuses_parts xs d q f; lie = tt }

module _ (xs : List ℕ) {c : EntryCursor} (t : Table) (tested : OpensAt xs (cursor_is c) (Ok t)) where
  pub parts_nowhere : c ≡ Nowhere → PartsOnIs xs (cursor_is c) (Ok None)
  unfolding parts_on
  parts_nowhere f = record { exact = rw (f, holds_in t tested.0); lie = tt }

  module _ {i : ℕ} (f : c ≡ On i) where
    -- what is read of the node
    on_node : {a : Answer (Maybe PartsIs)} → a ≡ reading (node_at t.bytes.now i) (λ m. given (some m.parts)) → a ≡ parts_on xs (cursor_is c)
    unfolding parts_on
    on_node e = let in_it = rw f at tested.1 in (rw tested.0 at e) ∙ sym (rw (f, holds_in t tested.0, in_it))

    pub parts_bad : {o : ℕ} → bad o ≡ node_at t.bytes.now i → PartsOnIs xs (cursor_is c) (Err Damaged)
    parts_bad e = record { exact = on_node (rw (← e)); lie = tt }

    pub parts_got : (n : Node) → got (node_is n) ≡ node_at t.bytes.now i → code_of n.parts.kind ≡ n.parts.keyed.tag.word % 256 → PartsOnIs xs (cursor_is c) (Ok (Some n.parts))
    parts_got n e k = let (a, b) = rw tested.0 at (parts_inside t.bytes.now i t.framed.header e) in record { exact = on_node (rw (← e)); lie = record { key = a; value = b; kind = k } }

-- ---- what stands there

-- the part at this offset and length is what the view shows
pub span_shows : {xs : List ℕ} {v : Answer Span} {r : Result SpanHere Refusal} → Spans xs v r → viewed xs (span_as r) ≡ viewed xs v
span_shows {xs} s = ap (viewed xs) s.exact

-- a view is refused as its companion says
pub same_refusal {ℓ} : {A : Type ℓ} (show : PartsIs → A) (empty : A) (a : Answer (Maybe PartsIs)) → refusal_of (view show empty a) ≡ refusal_of a
same_refusal show empty (refused q) = refl
same_refusal show empty (given none) = refl
same_refusal show empty (given (some p)) = refl

pub key_refusal : (xs : List ℕ) (c : Cursor) {r : Result SpanHere Refusal} → Spans xs (key_view xs c) r → refusal_of (span_as r) ≡ view_refusal xs c
key_refusal xs c s = ap refusal_of s.exact ∙ same_refusal key_span empty_span (parts_on xs c)

pub value_refusal : (xs : List ℕ) (c : Cursor) {r : Result SpanHere Refusal} → Spans xs (value_view xs c) r → refusal_of (span_as r) ≡ view_refusal xs c
value_refusal xs c s = ap refusal_of s.exact ∙ same_refusal value_span empty_span (parts_on xs c)
