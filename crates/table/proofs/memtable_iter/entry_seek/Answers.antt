use Rattle.image.specs.EntryMoves.{seek}
use Rattle.table.proofs.MemtableIterLaws.{moves_back}
use Rattle.table.proofs.memtable_iter.entry_seek.Goals as goal

pub returns : goal.returns
returns c = moves_back c.args.s.now (seek c.args.key.now c.args.number) c.args.c c.to_sought.result c.to_sought.ensures c.hand_back.ensures
