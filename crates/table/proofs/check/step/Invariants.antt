-- `check::step`: one link a turn, from the lowest level up.
use Rattle.table.specs.Check.{StepsTo}
use Rattle.table.proofs.check.step.Given as goal

abbrev pub invariant-loop-l : goal.invariant-loop-l
invariant-loop-l l = StepsTo l.s l.at l.fn.next l.l l.links
