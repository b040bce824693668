-- `Table::last_before`: the node that the search passed last.
use Rattle.table.proofs.NeighboursLaws.{passed_ends}
use Rattle.table.proofs.tested.Table.last_before.Goals as goal

pub returns-in-Ends : goal.returns-in-Ends
returns-in-Ends c = passed_ends c.in_ok-found.ensures c.in-Ends.is c.linked-node.ensures
