use Prim.Native.Nat.{◌+◌}
use Rattle.table.specs.Questions.{cut_of}
use Rattle.cursor.proofs.Walks.{Kept}
use Rattle.cursor.proofs.places.Pair.walk.Given as goal

abbrev pub invariant-loop-p : goal.invariant-loop-p
invariant-loop-p l = Kept l.self.first.now l.self.second.now l.snapshot (cut_of l.cut) l.key l.reached l.left

abbrev pub decreases-loop-p : goal.decreases-loop-p
decreases-loop-p l = l.left.first + l.left.second
