-- The views at the visible cursor as plain numbers.
use Rattle.std.specs.Prelude.{ℕ, List, [], eqb, Option, Some, None, Result, Ok, Err}
use Rattle.rule.specs.Lists.{cond}
use Rattle.image.specs.Refusals.{number_of}
use Rattle.table.specs.Refusals.{refusal_is}
use Rattle.cursor.specs.declared.row_views.RowSpan.{RowSpan}
use Rattle.table.specs.declared.refusals.Refusal.{Refusal}
use Rattle.capi.specs.DbIter.{side_number}
use Rattle.capi.specs.declared.row_views.BavoRowView.{BavoRowView}

-- table, offset and length, all 0 if refused or nowhere
abbrev pub plain_row_view : Result (Option RowSpan) Refusal → BavoRowView
plain_row_view (Ok None) = record { refusal = 0; table = 0; offset = 0; length = 0 }
plain_row_view (Ok (Some s)) = record { refusal = 0; table = side_number s.table; offset = s.span.at; length = s.span.len }
plain_row_view (Err q) = record { refusal = number_of (refusal_is q); table = 0; offset = 0; length = 0 }

-- the image that a table's number names: 1 the first, 2 the second, else no byte
abbrev pub numbered : ℕ → List ℕ → List ℕ → List ℕ
numbered n f g = cond (eqb n 1) f (cond (eqb n 2) g [])
