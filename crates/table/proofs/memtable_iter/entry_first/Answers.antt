use Rattle.image.specs.EntryMoves.{first}
use Rattle.table.proofs.MemtableIterLaws.{moves_back}
use Rattle.table.proofs.memtable_iter.entry_first.Goals as goal

pub returns : goal.returns
returns c = moves_back c.args.s.now first c.args.c c.to_first.result c.to_first.ensures c.hand_back.ensures
