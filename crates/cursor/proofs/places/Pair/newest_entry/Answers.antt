-- `Pair::newest_entry`: the newest entries of both tables are folded into one.
use Rattle.std.proofs.Common.{rules}
use Rattle.cursor.proofs.Merging.{mapped, newest_both}
use Rattle.cursor.proofs.places.Pair.newest_entry.Goals as goal

pub returns : goal.returns
returns c =
    newest_both c.args.self.first.now c.args.self.second.now c.args.key.now c.args.snapshot c.in_ok-a.a c.in_ok-b.b
    (rw c.in_ok-a.was at c.newest.ensures) (mapped _ _ _ c.map-a.ensures.cases (λ x y q. search rules))
    (rw c.in_ok-b.was at c.newest-2.ensures) (mapped _ _ _ c.map-b.ensures.cases (λ x y q. search rules)) c.newer.ensures
