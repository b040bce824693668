-- The visible cursor and the lookup in a pair as plain numbers.
use Rattle.std.specs.Prelude.{ℕ, eqb, Result, Ok, Err}
use Rattle.rule.specs.Lists.{cond}
use Rattle.image.specs.Refusals.{number_of}
use Rattle.table.specs.Refusals.{refusal_is}
use Rattle.cursor.specs.Places.{place}
use Rattle.cursor.specs.declared.places.Side.{Side}
use Rattle.cursor.specs.declared.places.Side.TheVariants.{First, Second}
use Rattle.cursor.specs.declared.places.Cursor.{Cursor}
use Rattle.cursor.specs.declared.places.Cursor.TheVariants.{Nowhere, On}
use Rattle.table.specs.declared.refusals.Refusal.{Refusal}
use Rattle.table.specs.declared.memtable_iter.Stays.{Stays}
use Rattle.cursor.specs.declared.merging_iter.PairLookup.{PairLookup}
use Rattle.cursor.specs.declared.merging_iter.PairLookup.TheVariants as pair
use Rattle.capi.specs.declared.db_iter.BavoCursor.{BavoCursor}
use Rattle.capi.specs.declared.db_iter.BavoMoved.{BavoMoved}
use Rattle.capi.specs.declared.db_iter.BavoPairLookup.{BavoPairLookup}

-- the number of a table
abbrev pub side_number : Side → ℕ
side_number First = 1
side_number Second = 2

-- 0 absent, 1 found, 2 deleted
abbrev pub plain_pair_lookup : Result PairLookup Refusal → BavoPairLookup
plain_pair_lookup (Ok (pair.Found p looks)) = record { refusal = 0; answer = 1; table = side_number p.table; node = p.node; looks = looks }
plain_pair_lookup (Ok (pair.Deleted looks)) = record { refusal = 0; answer = 2; table = 0; node = 0; looks = looks }
plain_pair_lookup (Ok (pair.Absent looks)) = record { refusal = 0; answer = 0; table = 0; node = 0; looks = looks }
plain_pair_lookup (Err q) = record { refusal = number_of (refusal_is q); answer = 0; table = 0; node = 0; looks = 0 }

-- the cursor that is meant: 0 nowhere, 1 and 2 on the node of that table; above, on node 0, which no table has and every call refuses with 10
abbrev pub cursor_of : BavoCursor → Cursor
cursor_of at =
    cond (eqb at.table 0) Nowhere
    (cond (eqb at.table 1) (On (place First at.node))
    (cond (eqb at.table 2) (On (place Second at.node))
    (On (place First 0))))

-- where a move leads; a refused one hands back the cursor exactly as it was handed
abbrev pub plain_moved : BavoCursor → Result Cursor (Stays Cursor) → BavoMoved
plain_moved at (Err r) = record { refusal = number_of (refusal_is r.why); table = at.table; node = at.node }
plain_moved at (Ok Nowhere) = record { refusal = 0; table = 0; node = 0 }
plain_moved at (Ok (On p)) = record { refusal = 0; table = side_number p.table; node = p.node }
