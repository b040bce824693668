-- `check::all_meet`: the chain asks of each level what the definition asks.
use Rattle.std.proofs.Common.{eqb, rules, tests, ◌∙◌}
use Rattle.std.proofs.lemmas.Iterator.{YieldsList-from_slice}
use Rattle.std.proofs.lemmas.Iterator.Search.{all_from_yields_List}
use Rattle.table.proofs.CheckLaws.{all_of}
use Rattle.table.proofs.check.all_meet.Goals as goal

pub returns : goal.returns
returns c =
    all_from_yields_List (λ y. eqb y c.args.x) _ _ _ c.all.ensures.ran (YieldsList-from_slice c.args.next.now c.iter.ensures.rest)
    (λ x b q k. search (rules, tests)) ∙ all_of c.args.next.now c.args.x
