use Rattle.image.specs.EntryMoves.{next}
use Rattle.table.proofs.MemtableIterLaws.{moves_back}
use Rattle.table.proofs.memtable_iter.entry_next.Goals as goal

pub returns : goal.returns
returns c = moves_back c.args.s.now next c.args.c c.to_next.result c.to_next.ensures c.hand_back.ensures
