-- What the question for presence promises, and the question where the value of a key stands.
use Rattle.std.specs.Prelude.{ℕ, ◌+◌, ◌≤◌, ◌≡◌, ◌↔◌, List, true, length, Result, Ok, Err}
use Rattle.rule.specs.Lists.{Maybe, none, some}
use Rattle.rule.specs.Rows.{row}
use Rattle.image.specs.Limits.{max_number, max_key, levels, header_size}
use Rattle.image.specs.Words.{part}
use Rattle.image.specs.Nodes.{count}
use Rattle.image.specs.Sound.{Sound, held}
use Rattle.image.specs.Refusals.{Answer, refused, given}
use Rattle.image.specs.Lookup.{Looked, found, deleted, absent, Lookup as LookupIs, get, Presence as PresenceIs, presence}
use Rattle.image.specs.EntryMoves.{on, Span, empty_span, value_view}
use Rattle.image.specs.Meaning.{IsHeld}
use Rattle.table.specs.Refusals.{answer_as}
use Rattle.table.specs.EntryViews.{span_as, SpanLies}
use Rattle.table.specs.declared.refusals.Refusal.{Refusal}
use Rattle.table.specs.declared.entry_views.Span.{Span as SpanHere}
use Rattle.table.specs.declared.presence.Presence.{Presence}

-- the answer
abbrev pub presence_as : Result Presence Refusal → Answer PresenceIs
presence_as r = answer_as (λ a. record { held = a.held; looks = a.looks }) r

-- on a sound image, with arguments within their limits: yes exactly if that entry is held
abbrev pub PresenceRule : List ℕ → List ℕ → ℕ → ℕ → Result Presence Refusal → Type 0
PresenceRule xs k n kind r = (a : PresenceIs) × (presence_as r ≡ given a) × ((a.held ≡ true) ↔ IsHeld xs k n kind)

-- what `contains` promises
pub record Contains (xs k : List ℕ) (n kind : ℕ) (r : Result Presence Refusal) : Type 0 where
  pub exact : presence_as r ≡ presence xs k n kind
  -- on any bytes an answer takes at most n + 12 looks
  pub looks : (a : PresenceIs) → presence_as r ≡ given a → a.looks ≤ count xs + levels
  pub rule : Sound xs → kind ≤ 1 → n ≤ max_number → length k ≤ max_key → PresenceRule xs k n kind r

-- where the value stands of what a lookup says; without a row it is the empty part at 0
abbrev pub said_span : List ℕ → Looked → Answer Span
said_span xs (found i) = value_view xs (on i)
said_span xs deleted = given empty_span
said_span xs absent = given empty_span

-- the same of its answer
abbrev pub found_span : List ℕ → Answer LookupIs → Answer Span
found_span xs (refused r) = refused r
found_span xs (given a) = said_span xs a.says

-- the value of a row, which stands behind the header; without a row it is the empty part at 0, so that no row is told from an empty value
abbrev pub RowAt : List ℕ → Maybe (List ℕ) → Result SpanHere Refusal → Type 0
RowAt xs none (Ok s) = (s.at ≡ 0) × (s.len ≡ 0)
RowAt xs none (Err q) = ⊥
RowAt xs (some v) (Ok s) = (header_size ≤ s.at) × (part xs s.at s.len ≡ v)
RowAt xs (some v) (Err q) = ⊥

-- what `get_span` promises; `apart`: on any bytes a found value stands behind the header
pub record ShowsRow (xs k : List ℕ) (s : ℕ) (r : Result SpanHere Refusal) : Type 0 where
  pub exact : span_as r ≡ found_span xs (get xs k s)
  pub lies : SpanLies xs r
  pub apart : (i looks o n : ℕ) → get xs k s ≡ given (record { says = found i; looks = looks }) → span_as r ≡ given (record { at = o; len = n }) → header_size ≤ o
  pub rule : Sound xs → s ≤ max_number → length k ≤ max_key → RowAt xs (row k s (held xs)) r
