-- `Pair::nearest_key`: the nearest keys of both tables are folded into one.
use Rattle.std.proofs.Common.{rules}
use Rattle.table.specs.Questions.{cut_of}
use Rattle.cursor.proofs.Merging.{mapped, nearest_both}
use Rattle.cursor.proofs.places.Pair.nearest_key.Goals as goal

pub returns : goal.returns
returns c =
    nearest_both c.args.self.first.now c.args.self.second.now (cut_of c.args.cut) c.args.key.now c.in_ok-a.a c.in_ok-b.b
    (rw c.in_ok-a.was at c.near.ensures) (mapped _ _ _ c.map-a.ensures.cases (λ x y q. search rules))
    (rw c.in_ok-b.was at c.near-2.ensures) (mapped _ _ _ c.map-b.ensures.cases (λ x y q. search rules)) c.sooner.ensures
