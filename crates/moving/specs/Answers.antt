-- Answers of one table: looks, numbers of nodes and spans within their limits.
use Rattle.std.specs.Prelude.{ℕ, ◌+◌, ◌≤◌, ◌≡◌, length, Option, IfSome, Result, IfOk}
use Rattle.moving.specs.Within.{Within}
use Rattle.moving.specs.Entries.{KeyInside, PartsInside}
use Rattle.moving.specs.declared.refusals.Refusal.{Refusal}
use Rattle.moving.specs.declared.tested.Frame.{Frame}
use Rattle.moving.specs.declared.tested.Table.{Table}
use Rattle.moving.specs.declared.entries.Keyed.{Keyed}
use Rattle.moving.specs.declared.entries.Parts.{Parts}
use Rattle.moving.specs.declared.memtable.Lookup.{Lookup}
use Rattle.moving.specs.declared.memtable.Lookup.TheVariants as lookup
use Rattle.moving.specs.declared.presence.Presence.{Presence}
use Rattle.moving.specs.declared.memtable_iter.EntryCursor.{EntryCursor}
use Rattle.moving.specs.declared.memtable_iter.EntryCursor.TheVariants as cursor
use Rattle.moving.specs.declared.entry_views.Span.{Span}

-- a lookup took at most this many looks
abbrev pub LooksAtMost : ℕ → Lookup → Type 0
LooksAtMost most (lookup.Found node looks) = looks ≤ most
LooksAtMost most (lookup.Deleted looks) = looks ≤ most
LooksAtMost most (lookup.Absent looks) = looks ≤ most

-- one that is not refused did
abbrev pub LookupFits : ℕ → Result Lookup Refusal → Type 0
LookupFits most r = IfOk r (LooksAtMost most)

-- and so does the question whether an entry is held
abbrev pub PresenceFits : ℕ → Result Presence Refusal → Type 0
PresenceFits most r = IfOk r (λ p. p.looks ≤ most)

-- a cursor names no node, or one up to the count
abbrev pub Names : ℕ → EntryCursor → Type 0
Names n cursor.Nowhere = Unit
Names n (cursor.On node) = (1 ≤ node) × (node ≤ n)

-- a cursor on which the table of bytes of this length was opened names a node of it, or none
abbrev pub OpensAt : ℕ → EntryCursor → Result Table Refusal → Type 0
OpensAt len c r = IfOk r (λ t. (length t.bytes.now ≡ len) × Names t.frame.count c)

-- a cursor that passed its test names a node of a frame that is within, or none
abbrev pub TestFits : ℕ → EntryCursor → Result Frame Refusal → Type 0
TestFits len c r = IfOk r (λ f. Within len f × Names f.count c)

-- the parts of the node at a cursor lie inside
abbrev pub PartsOnFit : ℕ → Result (Option Parts) Refusal → Type 0
PartsOnFit len r = IfOk r (λ on. IfSome on (PartsInside len))

-- a span lies inside
abbrev pub SpanFits : ℕ → Result Span Refusal → Type 0
SpanFits len r = IfOk r (λ p. p.at + p.len ≤ len)

-- the node that was met last has its key inside
abbrev pub LastInside : ℕ → Option Keyed → Type 0
LastInside len last = IfSome last (KeyInside len)
