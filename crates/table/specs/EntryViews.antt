-- What stands at an entry cursor, and where, as the code tells it.
use Rattle.std.specs.Prelude.{ℕ, ◌+◌, ◌%◌, ◌≤◌, ◌≡◌, List, length, Option, Some, None, Result, IfOk, IfSome}
use Rattle.rule.specs.Lists.{Maybe, none, some}
use Rattle.image.specs.Entries.{Parts as PartsIs}
use Rattle.image.specs.Refusals.{Answer, refused, given}
use Rattle.image.specs.EntryMoves.{Cursor, parts_on, Span as SpanIs, key_view, value_view}
use Rattle.table.specs.Entries.{parts_of}
use Rattle.table.specs.KeyTypes.{code_of}
use Rattle.table.specs.Refusals.{answer_as}
use Rattle.table.specs.declared.refusals.Refusal.{Refusal}
use Rattle.table.specs.declared.entries.Parts.{Parts}
use Rattle.table.specs.declared.entry_views.Span.{Span}
use Rattle.table.specs.declared.entry_views.Shown.{Shown}
use Rattle.table.specs.declared.entry_views.Shown.TheVariants.{Key, Value}

-- the parts at a cursor, or none
abbrev pub parts_or_none : Option Parts → Maybe PartsIs
parts_or_none None = none
parts_or_none (Some p) = some (parts_of p)

-- key and value lie in the image, and the type is that of the tag
pub record PartsLie (xs : List ℕ) (p : Parts) : Type 0 where
  pub key : p.keyed.key_at + p.keyed.key_len ≤ length xs
  pub value : p.value_at + p.value_len ≤ length xs
  pub kind : code_of p.kind ≡ p.keyed.tag.word % 256

-- the parts of the node at a cursor, or none
pub record PartsOnIs (xs : List ℕ) (c : Cursor) (r : Result (Option Parts) Refusal) : Type 0 where
  pub exact : answer_as parts_or_none r ≡ parts_on xs c
  pub lie : IfOk r (λ at. IfSome at (PartsLie xs))

-- a number that a view shows; a refused one is 0
abbrev pub shown_number : Answer ℕ → ℕ
shown_number (refused r) = 0
shown_number (given n) = n

-- a part of the image
abbrev pub span_is : Span → SpanIs
span_is s = record { at = s.at; len = s.len }

-- the view that shows it
abbrev pub view_of : Shown → List ℕ → Cursor → Answer SpanIs
view_of Key = key_view
view_of Value = value_view

-- where a view stands
abbrev pub span_as : Result Span Refusal → Answer SpanIs
span_as r = answer_as span_is r

-- the part lies in the image
abbrev pub SpanLies : List ℕ → Result Span Refusal → Type 0
SpanLies xs r = IfOk r (λ s. s.at + s.len ≤ length xs)

-- it is what the view v says, and lies in the image
pub record Spans (xs : List ℕ) (v : Answer SpanIs) (r : Result Span Refusal) : Type 0 where
  pub exact : span_as r ≡ v
  pub lies : SpanLies xs r
