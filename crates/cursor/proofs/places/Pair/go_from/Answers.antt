-- `Pair::go_from`: a node that cannot be read is damage, else the walk goes from its key.
use Rattle.table.specs.Questions.{cut_of}
use Rattle.cursor.proofs.Moves.{from_hurt, from_went}
use Rattle.cursor.proofs.places.Pair.go_from.Goals as goal

pub returns-then-is_some : goal.returns-then-is_some
returns-then-is_some c =
    from_hurt c.args.self.first.now c.args.self.second.now c.args.snapshot (cut_of c.args.cut) c.args.p c.place_refusal.result c.place_refusal.ensures c.is_some.ensures c.if-is_some.true

pub returns : goal.returns
returns c =
    from_went c.args.self.first.now c.args.self.second.now c.args.snapshot (cut_of c.args.cut) c.args.p c.place_refusal.result c.place_refusal.ensures c.is_some.ensures c.if-is_some.false
    c.key_at.ensures c.go.result c.go.ensures
