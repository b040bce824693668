use Rattle.std.proofs.Common.{length}
use Rattle.moving.specs.Search.{Looking}
use Rattle.moving.proofs.tested.Table.search.Given as goal

abbrev pub invariant-loop-looks : goal.invariant-loop-looks
invariant-loop-looks l = Looking (length l.self.bytes.now) l.n l.places l.before l.links l.level
