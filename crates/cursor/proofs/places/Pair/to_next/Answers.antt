use Rattle.cursor.proofs.Moves.{move_next}
use Rattle.cursor.proofs.places.Pair.to_next.Goals as goal

pub returns-in-On : goal.returns-in-On
returns-in-On c = move_next c.args.self.first.now c.args.self.second.now c.args.snapshot c.args.at c.in_ok-test_move.ensures c.in-On.is c.go_from.result c.go_from.ensures
