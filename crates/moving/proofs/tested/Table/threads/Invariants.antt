use Rattle.std.proofs.Common.{length}
use Rattle.moving.specs.Answers.{LastInside}
use Rattle.moving.proofs.tested.Table.threads.Given as goal

abbrev pub invariant-loop : goal.invariant-loop
invariant-loop l = LastInside (length l.self.bytes.now) l.last
