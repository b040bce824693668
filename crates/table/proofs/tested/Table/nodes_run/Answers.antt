-- `Table::nodes_run`: one node a turn, each where the one before it ends.
use Rattle.table.proofs.CheckLaws.{pass_on}
use Rattle.table.proofs.tested.Table.nodes_run.Goals as goal

pub loop-i-preserved : goal.loop-i-preserved
loop-i-preserved c = pass_on _ c.args.self.framed c.loop-i.invariant c.loop-i-test.true c.slot-start.ensures.0 c.if-start-end.false c.in-Ok.ensures.exact
