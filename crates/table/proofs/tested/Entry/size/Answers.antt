-- `tested::Entry::size`: the lengths of the five parts.
use Rattle.table.specs.Entries.{entry_is}
use Rattle.table.proofs.EntriesLaws.{entry_sized}
use Rattle.table.proofs.tested.Entry.size.Goals as goal

pub returns : goal.returns
returns c = entry_sized (entry_is c.args.self) c.len_size.ensures.0 c.len_size-2.ensures.0
