use Rattle.std.proofs.Common.{arith}
use Rattle.moving.proofs.Links.{one_more}
use Rattle.moving.proofs.tested.Table.search.Goals as goal

pub returns-then-level-eq0 : goal.returns-then-level-eq0
returns-then-level-eq0 c =
    record {
      spot = (c.loop-looks.invariant.back, c.if-after-n.false);
      looks = omega arith;
      places = one_more _ _ _ _ c.loop-looks.invariant.kept c.loop-looks.invariant.inside;
    }
