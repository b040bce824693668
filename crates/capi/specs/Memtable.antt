-- The answers of one table as plain numbers.
use Rattle.std.specs.Prelude.{ℕ, Result, Ok, Err}
use Rattle.rule.specs.Lists.{cond}
use Rattle.image.specs.Refusals.{number_of}
use Rattle.table.specs.Refusals.{refusal_is}
use Rattle.table.specs.declared.refusals.Refusal.{Refusal}
use Rattle.table.specs.declared.memtable.Lookup.{Lookup}
use Rattle.table.specs.declared.memtable.Lookup.TheVariants as lookup
use Rattle.table.specs.declared.presence.Presence.{Presence}
use Rattle.table.specs.declared.entry_views.Span.{Span}
use Rattle.capi.specs.declared.memtable.BavoAdded.{BavoAdded}
use Rattle.capi.specs.declared.memtable.BavoPresence.{BavoPresence}
use Rattle.capi.specs.declared.memtable.BavoLookup.{BavoLookup}
use Rattle.capi.specs.declared.memtable.BavoView.{BavoView}

-- the refusal's number, or 0
abbrev pub plain_freshened : Result Unit Refusal → ℕ
plain_freshened (Ok done) = 0
plain_freshened (Err q) = number_of (refusal_is q)

-- the new node, 0 if refused
abbrev pub plain_added : Result ℕ Refusal → BavoAdded
plain_added (Ok i) = record { refusal = 0; node = i }
plain_added (Err q) = record { refusal = number_of (refusal_is q); node = 0 }

-- 1 for yes, 0 for no
abbrev pub plain_presence : Result Presence Refusal → BavoPresence
plain_presence (Ok a) = record { refusal = 0; held = cond a.held 1 0; looks = a.looks }
plain_presence (Err q) = record { refusal = number_of (refusal_is q); held = 0; looks = 0 }

-- 0 absent, 1 found, 2 deleted
abbrev pub plain_lookup : Result Lookup Refusal → BavoLookup
plain_lookup (Ok (lookup.Found i looks)) = record { refusal = 0; answer = 1; node = i; looks = looks }
plain_lookup (Ok (lookup.Deleted looks)) = record { refusal = 0; answer = 2; node = 0; looks = looks }
plain_lookup (Ok (lookup.Absent looks)) = record { refusal = 0; answer = 0; node = 0; looks = looks }
plain_lookup (Err q) = record { refusal = number_of (refusal_is q); answer = 0; node = 0; looks = 0 }

-- offset and length, both 0 if refused
abbrev pub plain_view : Result Span Refusal → BavoView
plain_view (Ok s) = record { refusal = 0; offset = s.at; length = s.len }
plain_view (Err q) = record { refusal = number_of (refusal_is q); offset = 0; length = 0 }
