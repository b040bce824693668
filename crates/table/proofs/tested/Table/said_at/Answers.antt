use Rattle.table.proofs.MemtableLaws.{parts_inside}
use Rattle.table.proofs.tested.Table.said_at.Goals as goal

pub key-requires : goal.key-requires
key-requires c = (parts_inside c.args.self.bytes.now c.in-Some.node c.args.self.framed.header c.in_ok-parts.ensures.exact).0
