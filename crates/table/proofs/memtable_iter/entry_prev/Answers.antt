use Rattle.image.specs.EntryMoves.{previous}
use Rattle.table.proofs.MemtableIterLaws.{moves_back}
use Rattle.table.proofs.memtable_iter.entry_prev.Goals as goal

pub returns : goal.returns
returns c = moves_back c.args.s.now previous c.args.c c.to_previous.result c.to_previous.ensures c.hand_back.ensures
