-- Where the views at the visible cursor stand: which image, offset and length; a view is the part there.
use Rattle.std.specs.Prelude.{ℕ, ◌+◌, ◌≤◌, ◌≡◌, List, [], length, Option, Some, None, Result, IfOk, IfSome}
use Rattle.rule.specs.Lists.{cond, both, Maybe, none, some}
use Rattle.image.specs.Words.{part}
use Rattle.image.specs.Sound.{header_holds}
use Rattle.image.specs.Refusals.{Answer, refused, given, bad_image}
use Rattle.image.specs.EntryMoves as one
use Rattle.image.specs.EntryMoves.{Span, on}
use Rattle.table.specs.Refusals.{answer_as}
use Rattle.table.specs.EntryViews.{span_is}
use Rattle.table.specs.declared.refusals.Refusal.{Refusal}
use Rattle.cursor.specs.Places.{image_of}
use Rattle.cursor.specs.declared.places.Side.{Side}
use Rattle.cursor.specs.declared.places.Place.{Place}
use Rattle.cursor.specs.declared.places.Cursor.{Cursor}
use Rattle.cursor.specs.declared.places.Cursor.TheVariants as cursor
use Rattle.cursor.specs.declared.row_views.RowSpan.{RowSpan}

-- a part of one of the two images
pub record PartIn : Type 0 where
  pub side : Side
  pub span : Span

-- a part of one of them, or none
abbrev pub part_is : Option RowSpan → Maybe PartIn
part_is None = none
part_is (Some s) = some (record { side = s.table; span = span_is s.span })

-- the answer
abbrev pub row_span_as : Result (Option RowSpan) Refusal → Answer (Maybe PartIn)
row_span_as r = answer_as part_is r

-- one table's answer
abbrev pub part_in : Side → Answer Span → Answer (Maybe PartIn)
part_in side (refused q) = refused q
part_in side (given s) = given (some (record { side = side; span = s }))

-- a view of one table: that of the key or that of the value
abbrev pub View : Type 0
View = List ℕ → one.Cursor → Answer Span

-- where a view at a place stands
abbrev pub span_at : View → List ℕ → List ℕ → Place → Answer (Maybe PartIn)
span_at view f g p = part_in p.table (view (image_of p.table f g) (on p.node))

-- where it stands at a cursor in good tables; nowhere it has no part
abbrev pub span_on : View → List ℕ → List ℕ → Cursor → Answer (Maybe PartIn)
span_on view f g cursor.Nowhere = given none
span_on view f g (cursor.On p) = span_at view f g p

-- the whole question; refusals 1 (first table, then second), 10, 9
unfoldable pub row_span : View → List ℕ → List ℕ → Cursor → Answer (Maybe PartIn)
row_span view f g c = cond (both (header_holds f) (header_holds g)) (span_on view f g c) (refused bad_image)

-- the bytes of a part
abbrev pub part_bytes : List ℕ → List ℕ → Answer (Maybe PartIn) → List ℕ
part_bytes f g (refused q) = []
part_bytes f g (given none) = []
part_bytes f g (given (some p)) = part (image_of p.side f g) p.span.at p.span.len

-- the part lies in its image
abbrev pub RowSpanLies : List ℕ → List ℕ → Result (Option RowSpan) Refusal → Type 0
RowSpanLies f g r = IfOk r (λ at. IfSome at (λ s. s.span.at + s.span.len ≤ length (image_of s.table f g)))

-- where a view at a cursor stands, in its image
pub record RowSpans (view : View) (f g : List ℕ) (c : Cursor) (r : Result (Option RowSpan) Refusal) : Type 0 where
  pub exact : row_span_as r ≡ row_span view f g c
  pub lies : RowSpanLies f g r
