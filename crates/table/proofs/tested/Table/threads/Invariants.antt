-- `Table::threads`: one node a turn, along the lowest chain.
use Rattle.table.proofs.CheckLaws.{Walking}
use Rattle.table.proofs.tested.Table.threads.Given as goal

abbrev pub invariant-loop : goal.invariant-loop
invariant-loop l = Walking l.self.bytes.now l.counter l.last l.next
