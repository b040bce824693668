-- `Pair::walk`: what is kept between turns, and each way out.
use Rattle.std.proofs.Common.{sym, ◌∙◌}
use Rattle.std.proofs.lemmas.Result.{err_from_is_err_and}
use Rattle.table.specs.Questions.{cut_of}
use Rattle.cursor.proofs.Walks.{kept_start, kept_end, kept_done, kept_over, kept_on}
use Rattle.cursor.proofs.places.Pair.walk.Goals as goal

pub loop-p-init : goal.loop-p-init
loop-p-init c =
    kept_start c.args.self.first.now c.args.self.second.now c.args.snapshot (cut_of c.args.cut) c.args.key.now c.population.ensures c.population-2.ensures

pub returns-in-End : goal.returns-in-End
returns-in-End c =
    kept_end c.args.self.first.now c.args.self.second.now c.args.snapshot (cut_of c.args.cut) c.args.key.now c.loop-p.invariant
    (rw (c.in_ok-take_turn.was, c.in-End.is) at c.take_turn.ensures)

pub returns-in-Done : goal.returns-in-Done
returns-in-Done c =
    kept_done c.args.self.first.now c.args.self.second.now c.args.snapshot (cut_of c.args.cut) c.args.key.now c.loop-p.invariant
    (rw (c.in_ok-take_turn.was, c.in-Done.is) at c.take_turn.ensures)

pub returns-in_err-left-in-Pass : goal.returns-in_err-left-in-Pass
returns-in_err-left-in-Pass c =
    let p = err_from_is_err_and c.from_residual-in_err-left-in-Pass.result c.from_residual-in_err-left-in-Pass.ensures.1 in
    rw p.1 (kept_over c.args.self.first.now c.args.self.second.now c.args.snapshot (cut_of c.args.cut) c.args.key.now c.loop-p.invariant
    (rw (c.in_ok-take_turn.was, c.in-Pass.is) at c.take_turn.ensures)
    (sym c.spend.ensures ∙ c.in_err-left-in-Pass.ensures.ok_part))

pub loop-p-preserved : goal.loop-p-preserved
loop-p-preserved c =
    kept_on c.args.self.first.now c.args.self.second.now c.args.snapshot (cut_of c.args.cut) c.args.key.now c.loop-p.invariant
    (rw (c.in_ok-take_turn.was, c.in-Pass.is) at c.take_turn.ensures)
    (sym c.spend.ensures ∙ c.in_ok-left-in-Pass.ensures.ok_part)
