-- The views for C are fixed on any bytes: the struct follows from the view's definition, the part at its offset and length is what the
-- view shows and lies in its image, and its refusal is the one that the companion gives.
use Prim.Native.Nat.{ℕ, ◌+◌, ◌≤◌}
use native.Mathlib.Omega.{arith}
use mathlib.Core.Path.{◌≡◌, refl, ap, ◌∙◌}
use mathlib.Core.List.{List}
use lib.ListN.{length}
use Rattle.std.specs.Prelude.{Option, Some, None, Result, Ok, Err}
use Rattle.rule.specs.Lists.{Maybe, none, some}
use Rattle.image.specs.Words.{part}
use Rattle.image.specs.Refusals.{Answer, refused, given, number_of, refusal_of}
use Rattle.image.specs.EntryMoves.{Cursor, Span, empty_span, key_span, value_span, parts_on, viewed, key_view, value_view, view_refusal}
use Rattle.table.specs.EntryViews.{span_as, SpanLies, Spans}
use Rattle.table.proofs.EntryViewsLaws.{same_refusal}
use Rattle.cursor.specs.Places.{image_of}
use Rattle.cursor.specs.Rows.{ShowsKey, ShowsValue, Refuses}
use Rattle.cursor.specs.RowSpans.{PartIn, row_span_as, View, row_span, part_bytes, RowSpanLies, RowSpans}
use Rattle.cursor.proofs.RowSpans as rows
use Rattle.capi.specs.Plain.{Plainly}
use Rattle.capi.specs.Memtable.{plain_view}
use Rattle.capi.specs.DbIter.{side_number}
use Rattle.capi.specs.RowViews.{plain_row_view, numbered}
use Rattle.table.specs.declared.refusals.Refusal.{Refusal}
use Rattle.table.specs.declared.entry_views.Span.{Span as SpanHere}
use Rattle.cursor.specs.declared.places.Side.{Side}
use Rattle.cursor.specs.declared.places.Side.TheVariants.{First, Second}
use Rattle.cursor.specs.declared.places.Cursor.{Cursor as Visible}
use Rattle.cursor.specs.declared.row_views.RowSpan.{RowSpan}
use Rattle.capi.specs.declared.memtable.BavoView.{BavoView}
use Rattle.capi.specs.declared.row_views.BavoRowView.{BavoRowView}

-- ---- one table

-- the struct of a view
unfoldable pub view_of : Answer Span → BavoView
view_of (refused q) = record { refusal = number_of q; offset = 0; length = 0 }
view_of (given s) = record { refusal = 0; offset = s.at; length = s.len }

plain_view_lem : (a : Result SpanHere Refusal) → plain_view a ≡ view_of (span_as a)
unfolding view_of
plain_view_lem (Ok s) = refl
plain_view_lem (Err q) = refl

part_shown : (xs : List ℕ) (v : Answer Span) → part xs (view_of v).offset (view_of v).length ≡ viewed xs v
unfolding view_of
part_shown xs (refused q) = refl
part_shown xs (given s) = refl

number_shown : (v : Answer Span) → (view_of v).refusal ≡ refusal_of v
unfolding view_of
number_shown (refused q) = refl
number_shown (given s) = refl

plain_lies : (xs : List ℕ) (a : Result SpanHere Refusal) → SpanLies xs a → (plain_view a).offset + (plain_view a).length ≤ length xs
plain_lies xs (Ok s) l = l
plain_lies xs (Err q) l = omega arith

module _ (xs : List ℕ) (v : Answer Span) {r : BavoView} (p : Plainly plain_view (λ a. Spans xs v a) r) where
  -- the struct is fixed
  pub view_is : r ≡ view_of v
  view_is = p.is ∙ plain_view_lem p.answer ∙ ap view_of p.kept.exact

  -- the part there is what the view shows
  pub view_shows : part xs r.offset r.length ≡ viewed xs v
  view_shows = ap (λ (w : BavoView). part xs w.offset w.length) view_is ∙ part_shown xs v

  pub view_inside : r.offset + r.length ≤ length xs
  view_inside = rw p.is (plain_lies xs p.answer p.kept.lies)

  pub view_refusal_lem : r.refusal ≡ refusal_of v
  view_refusal_lem = ap (λ (w : BavoView). w.refusal) view_is ∙ number_shown v

-- the companion's number
pub key_refusal : (xs : List ℕ) (c : Cursor) {r : BavoView} → Plainly plain_view (λ a. Spans xs (key_view xs c) a) r → r.refusal ≡ view_refusal xs c
key_refusal xs c p = view_refusal_lem xs (key_view xs c) p ∙ same_refusal key_span empty_span (parts_on xs c)

pub value_refusal : (xs : List ℕ) (c : Cursor) {r : BavoView} → Plainly plain_view (λ a. Spans xs (value_view xs c) a) r → r.refusal ≡ view_refusal xs c
value_refusal xs c p = view_refusal_lem xs (value_view xs c) p ∙ same_refusal value_span empty_span (parts_on xs c)

-- ---- two tables

numbered_side : (side : Side) (f g : List ℕ) → numbered (side_number side) f g ≡ image_of side f g
numbered_side First f g = refl
numbered_side Second f g = refl

-- the struct of a row's view
unfoldable pub row_view_of : Answer (Maybe PartIn) → BavoRowView
row_view_of (refused q) = record { refusal = number_of q; table = 0; offset = 0; length = 0 }
row_view_of (given none) = record { refusal = 0; table = 0; offset = 0; length = 0 }
row_view_of (given (some p)) = record { refusal = 0; table = side_number p.side; offset = p.span.at; length = p.span.len }

plain_row : (a : Result (Option RowSpan) Refusal) → plain_row_view a ≡ row_view_of (row_span_as a)
unfolding row_view_of
plain_row (Ok None) = refl
plain_row (Ok (Some s)) = refl
plain_row (Err q) = refl

row_part : (f g : List ℕ) (a : Answer (Maybe PartIn)) → part (numbered (row_view_of a).table f g) (row_view_of a).offset (row_view_of a).length ≡ part_bytes f g a
unfolding row_view_of
row_part f g (refused q) = refl
row_part f g (given none) = refl
row_part f g (given (some p)) = rw (numbered_side p.side f g)

row_number : (a : Answer (Maybe PartIn)) → (row_view_of a).refusal ≡ refusal_of a
unfolding row_view_of
row_number (refused q) = refl
row_number (given none) = refl
row_number (given (some p)) = refl

row_lies : (f g : List ℕ) (a : Result (Option RowSpan) Refusal) → RowSpanLies f g a → (plain_row_view a).offset + (plain_row_view a).length ≤ length (numbered (plain_row_view a).table f g)
row_lies f g (Ok None) l = omega arith
row_lies f g (Ok (Some s)) l = rw (numbered_side s.table f g) l
row_lies f g (Err q) l = omega arith

module _ (v : View) (f g : List ℕ) (c : Visible) {r : BavoRowView} (p : Plainly plain_row_view (λ a. RowSpans v f g c a) r) where
  -- the struct is fixed
  pub row_view_is : r ≡ row_view_of (row_span v f g c)
  row_view_is = p.is ∙ plain_row p.answer ∙ ap row_view_of p.kept.exact

  row_bytes : part (numbered r.table f g) r.offset r.length ≡ part_bytes f g (row_span_as p.answer)
  row_bytes = ap (λ (w : BavoRowView). part (numbered w.table f g) w.offset w.length) (p.is ∙ plain_row p.answer) ∙ row_part f g (row_span_as p.answer)

  pub row_view_inside : r.offset + r.length ≤ length (numbered r.table f g)
  row_view_inside = rw p.is (row_lies f g p.answer p.kept.lies)

  row_refused : r.refusal ≡ refusal_of (row_span_as p.answer)
  row_refused = ap (λ (w : BavoRowView). w.refusal) (p.is ∙ plain_row p.answer) ∙ row_number (row_span_as p.answer)

module _ (f g : List ℕ) (c : Visible) {r : BavoRowView} where
  -- the part there is the key that `row_key` shows, and its refusal that of `row_refusal`
  pub row_key_shows : Plainly plain_row_view (λ a. RowSpans key_view f g c a) r → {k : List ℕ} → ShowsKey f g c k → part (numbered r.table f g) r.offset r.length ≡ k
  row_key_shows p s = row_bytes key_view f g c p ∙ rows.key_shown p.kept s

  pub row_key_refusal : Plainly plain_row_view (λ a. RowSpans key_view f g c a) r → {n : ℕ} → Refuses f g c n → r.refusal ≡ n
  row_key_refusal p s = row_refused key_view f g c p ∙ rows.key_refusal p.kept s

  -- and so for the value
  pub row_value_shows : Plainly plain_row_view (λ a. RowSpans value_view f g c a) r → {k : List ℕ} → ShowsValue f g c k → part (numbered r.table f g) r.offset r.length ≡ k
  row_value_shows p s = row_bytes value_view f g c p ∙ rows.value_shown p.kept s

  pub row_value_refusal : Plainly plain_row_view (λ a. RowSpans value_view f g c a) r → {n : ℕ} → Refuses f g c n → r.refusal ≡ n
  row_value_refusal p s = row_refused value_view f g c p ∙ rows.value_refusal p.kept s
