-- `Table::first_not_passed`: the node where the search stands.
use Rattle.table.proofs.NeighboursLaws.{stands_hit, stands_ends}
use Rattle.table.proofs.tested.Table.first_not_passed.Goals as goal

pub returns-in-Hit : goal.returns-in-Hit
returns-in-Hit c = stands_hit c.in_ok-found.ensures c.in-Hit.is

pub returns-in-Ends : goal.returns-in-Ends
returns-in-Ends c = stands_ends c.in_ok-found.ensures c.in-Ends.is c.linked.ensures
