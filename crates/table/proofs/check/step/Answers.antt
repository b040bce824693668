-- `check::step`: one link a turn, from the lowest level up.
use Rattle.table.proofs.CheckLaws.{step_on}
use Rattle.table.proofs.check.step.Goals as goal

pub loop-l-preserved : goal.loop-l-preserved
loop-l-preserved c = step_on _ _ _ c.loop-l.invariant c.get_word.ensures
