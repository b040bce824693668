-- `Table::nodes_run`: one node a turn, each where the one before it ends.
use Rattle.table.proofs.CheckLaws.{Passing}
use Rattle.table.proofs.tested.Table.nodes_run.Given as goal

abbrev pub invariant-loop-i : goal.invariant-loop-i
invariant-loop-i l = Passing l.self.bytes.now l.i l.end
