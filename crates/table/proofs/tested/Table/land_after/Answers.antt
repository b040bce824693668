use Rattle.table.proofs.MemtableLaws.{parts_inside}
use Rattle.table.proofs.tested.Table.land_after.Goals as goal

pub precedes-requires-clause-others : goal.precedes-requires-clause-others
precedes-requires-clause-others c = (parts_inside c.args.self.bytes.now c.args.at c.args.self.framed.header c.in_ok-parts.ensures.exact).0
