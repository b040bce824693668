-- `Table::first_node`: where the head's lowest link leads.
use Rattle.table.proofs.NeighboursLaws.{first_damaged, first_found}
use Rattle.table.proofs.tested.Table.first_node.Goals as goal

pub returns-then-node-self : goal.returns-then-node-self
returns-then-node-self c = first_damaged c.args.self.framed c.get_wide-node.ensures.0 c.if-node-self.true

pub returns : goal.returns
returns c = first_found c.args.self.framed c.get_wide-node.ensures.0 c.if-node-self.false c.linked.ensures
