-- The ways out of the questions where a row's view stands, and that the part there is what the view shows.
use Prim.Native.Nat.{ℕ}
use mathlib.Core.Path.{◌≡◌, refl, sym, ap, ◌∙◌}
use mathlib.Core.List.{List, []}
use mathlib.Core.Bool.{Bool, true, false, not}
use borrow.Author.Tests.{not-true, not-false}
use Rattle.std.specs.Prelude.{Option, Some, None, Result, Ok, Err}
use Rattle.rule.specs.Lists.{cond, both, none}
use Rattle.image.specs.Sound.{header_holds}
use Rattle.image.specs.Refusals.{Answer, refused, given, refusal_of, number_of, bad_image}
use Rattle.image.specs.EntryMoves.{Span as SpanIs, on, viewed, empty_span, key_span, value_span, parts_on, key_view, value_view}
use Rattle.table.specs.EntryViews.{Spans}
use Rattle.table.proofs.EntryViewsLaws.{same_refusal}
use Rattle.cursor.proofs.Rows.{shows_key, shows_value}
use Rattle.cursor.specs.Places.{image_of}
use Rattle.cursor.specs.Rows.{shown_on, ShowsKey, ShowsValue, refusal_on, Refuses}
use Rattle.cursor.specs.RowSpans.{row_span_as, part_in, View, span_at, span_on, row_span, part_bytes, RowSpans}
use Rattle.table.specs.declared.refusals.Refusal.{Refusal}
use Rattle.table.specs.declared.refusals.Refusal.TheVariants.{BadImage}
use Rattle.table.specs.declared.entry_views.Span.{Span}
use Rattle.cursor.specs.declared.places.Side.{Side}
use Rattle.cursor.specs.declared.places.Place.{Place}
use Rattle.cursor.specs.declared.places.Cursor.{Cursor}
use Rattle.cursor.specs.declared.places.Cursor.TheVariants as cursor
use Rattle.cursor.specs.declared.row_views.RowSpan.{RowSpan}

-- ---- each way out

module _ (v : View) (f g : List ℕ) (c : Cursor) {b : Bool} (eb : b ≡ both (header_holds f) (header_holds g)) where
  pub spans_headers : not b ≡ true → RowSpans v f g c (Err BadImage)
  unfolding row_span
  spans_headers h = record { exact = rw (← eb, not-true b h); lies = tt }

  module _ (h : not b ≡ false) where
    pub spans_nowhere : c ≡ cursor.Nowhere → RowSpans v f g c (Ok None)
    unfolding row_span
    spans_nowhere e = record { exact = rw (e, ← eb, not-false b h); lies = tt }

    -- the answer of the place's table
    module _ {p : Place} (e : c ≡ cursor.On p) {xs : List ℕ} (i : xs ≡ image_of p.table f g) where
      pub spans_refused : {q : Refusal} → Spans xs (v xs (on p.node)) (Err q) → RowSpans v f g c (Err q)
      unfolding row_span
      spans_refused is = let is = rw i at is in record { exact = rw (e, ← eb, not-false b h, ← is.exact); lies = tt }

      pub spans_on : {s : Span} → Spans xs (v xs (on p.node)) (Ok s) → RowSpans v f g c (Ok (Some (record { table = p.table; span = s })))
      unfolding row_span
      spans_on is = let is = rw i at is in record { exact = rw (e, ← eb, not-false b h, ← is.exact); lies = is.lies }

-- ---- what stands there

part_shows : (f g : List ℕ) (side : Side) (a : Answer SpanIs) → part_bytes f g (part_in side a) ≡ viewed (image_of side f g) a
part_shows f g side (refused q) = refl
part_shows f g side (given s) = refl

-- what a view shows at a place
abbrev shown_at : View → List ℕ → List ℕ → Place → List ℕ
shown_at v f g p = viewed (image_of p.table f g) (v (image_of p.table f g) (on p.node))

-- by whether the headers hold
bytes_by : (v : View) (f g : List ℕ) (p : Place) (b : Bool) → part_bytes f g (cond b (span_at v f g p) (refused bad_image)) ≡ cond b (shown_at v f g p) []
bytes_by v f g p true = part_shows f g p.table (v (image_of p.table f g) (on p.node))
bytes_by v f g p false = refl

none_by : (f g : List ℕ) (b : Bool) → part_bytes f g (cond b (given none) (refused bad_image)) ≡ []
none_by f g true = refl
none_by f g false = refl

bytes_shown : (v : View) (f g : List ℕ) (c : Cursor) → part_bytes f g (row_span v f g c) ≡ shown_on (shown_at v) f g c
unfolding row_span
bytes_shown v f g cursor.Nowhere = none_by f g (both (header_holds f) (header_holds g))
bytes_shown v f g (cursor.On p) = bytes_by v f g p (both (header_holds f) (header_holds g))

-- the part there is what the view promises
pub key_part : (f g : List ℕ) (c : Cursor) {r : Result (Option RowSpan) Refusal} → RowSpans key_view f g c r → {k : List ℕ} → k ≡ part_bytes f g (row_span_as r) → ShowsKey f g c k
key_part f g c s {k} e = shows_key f g c k (e ∙ ap (part_bytes f g) s.exact ∙ bytes_shown key_view f g c)

pub value_part : (f g : List ℕ) (c : Cursor) {r : Result (Option RowSpan) Refusal} → RowSpans value_view f g c r → {v : List ℕ} → v ≡ part_bytes f g (row_span_as r) → ShowsValue f g c v
value_part f g c s {v} e = shows_value f g c v (e ∙ ap (part_bytes f g) s.exact ∙ bytes_shown value_view f g c)

-- the part there is the key that `row_key` shows
pub key_shown : {f g : List ℕ} {c : Cursor} {r : Result (Option RowSpan) Refusal} → RowSpans key_view f g c r → {k : List ℕ} → ShowsKey f g c k → part_bytes f g (row_span_as r) ≡ k
key_shown {f} {g} {c} s k = ap (part_bytes f g) s.exact ∙ bytes_shown key_view f g c ∙ sym k.exact

-- the part there is the value that `row_value` shows
pub value_shown : {f g : List ℕ} {c : Cursor} {r : Result (Option RowSpan) Refusal} → RowSpans value_view f g c r → {v : List ℕ} → ShowsValue f g c v → part_bytes f g (row_span_as r) ≡ v
value_shown {f} {g} {c} s k = ap (part_bytes f g) s.exact ∙ bytes_shown value_view f g c ∙ sym k.exact

-- ---- its refusal is the companion's

in_refusal : (side : Side) (a : Answer SpanIs) → refusal_of (part_in side a) ≡ refusal_of a
in_refusal side (refused q) = refl
in_refusal side (given s) = refl

refusal_by : {A : Type 0} (b : Bool) (a : Answer A) (n : ℕ) → refusal_of a ≡ n → refusal_of (cond b a (refused bad_image)) ≡ cond b n (number_of bad_image)
refusal_by true a n e = e
refusal_by false a n e = refl

key_on : (f g : List ℕ) (c : Cursor) → refusal_of (span_on key_view f g c) ≡ refusal_on f g c
key_on f g cursor.Nowhere = refl
key_on f g (cursor.On p) = in_refusal p.table (key_view (image_of p.table f g) (on p.node)) ∙ same_refusal key_span empty_span (parts_on (image_of p.table f g) (on p.node))

value_on : (f g : List ℕ) (c : Cursor) → refusal_of (span_on value_view f g c) ≡ refusal_on f g c
value_on f g cursor.Nowhere = refl
value_on f g (cursor.On p) = in_refusal p.table (value_view (image_of p.table f g) (on p.node)) ∙ same_refusal value_span empty_span (parts_on (image_of p.table f g) (on p.node))

pub key_refusal : {f g : List ℕ} {c : Cursor} {r : Result (Option RowSpan) Refusal} → RowSpans key_view f g c r → {n : ℕ} → Refuses f g c n → refusal_of (row_span_as r) ≡ n
unfolding row_span
key_refusal {f} {g} {c} s n = ap refusal_of s.exact ∙ refusal_by (both (header_holds f) (header_holds g)) (span_on key_view f g c) (refusal_on f g c) (key_on f g c) ∙ sym n.exact

pub value_refusal : {f g : List ℕ} {c : Cursor} {r : Result (Option RowSpan) Refusal} → RowSpans value_view f g c r → {n : ℕ} → Refuses f g c n → refusal_of (row_span_as r) ≡ n
unfolding row_span
value_refusal {f} {g} {c} s n = ap refusal_of s.exact ∙ refusal_by (both (header_holds f) (header_holds g)) (span_on value_view f g c) (refusal_on f g c) (value_on f g c) ∙ sym n.exact
