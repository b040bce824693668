use Rattle.table.proofs.MemtableLaws.{parts_inside}
use Rattle.table.proofs.tested.Table.entry_before.Goals as goal

pub lookup_key-requires : goal.lookup_key-requires
lookup_key-requires c = (parts_inside c.args.self.bytes.now c.args.node c.args.self.framed.header c.in_ok-here.ensures.exact).0
