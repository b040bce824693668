-- The entry cursor as plain numbers.
use Rattle.std.specs.Prelude.{eqb, Result, Ok, Err}
use Rattle.rule.specs.Lists.{cond}
use Rattle.image.specs.Refusals.{number_of}
use Rattle.table.specs.Refusals.{refusal_is}
use Rattle.table.specs.declared.memtable_iter.EntryCursor.{EntryCursor}
use Rattle.table.specs.declared.memtable_iter.EntryCursor.TheVariants.{Nowhere, On}
use Rattle.table.specs.declared.memtable_iter.Stays.{Stays}
use Rattle.capi.specs.declared.entry_iter.BavoEntryCursor.{BavoEntryCursor}
use Rattle.capi.specs.declared.entry_iter.BavoEntryMoved.{BavoEntryMoved}

-- the cursor that is meant: 0 nowhere, 1 on the node; above, on node 0, which no table has and every call refuses with 10
abbrev pub entry_cursor_of : BavoEntryCursor → EntryCursor
entry_cursor_of at = cond (eqb at.on 0) Nowhere (cond (eqb at.on 1) (On at.node) (On 0))

-- where a move leads; a refused one hands back the cursor exactly as it was handed
abbrev pub plain_entry_moved : BavoEntryCursor → Result EntryCursor (Stays EntryCursor) → BavoEntryMoved
plain_entry_moved at (Err r) = record { refusal = number_of (refusal_is r.why); on = at.on; node = at.node }
plain_entry_moved at (Ok Nowhere) = record { refusal = 0; on = 0; node = 0 }
plain_entry_moved at (Ok (On i)) = record { refusal = 0; on = 1; node = i }
