use Rattle.moving.specs.Rows.{left_in}
use Rattle.moving.proofs.places.Pair.walk.Given as goal

abbrev pub decreases-loop-p : goal.decreases-loop-p
decreases-loop-p l = left_in l.left
