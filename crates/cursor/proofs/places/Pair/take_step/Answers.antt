-- `Pair::take_step`: a question that cannot be answered, and a row that is found.
use Rattle.std.proofs.lemmas.Result.{err_from_is_err_and}
use Rattle.table.specs.Questions.{cut_of}
use Rattle.cursor.proofs.Walks.{step_hurt, step_done}
use Rattle.cursor.proofs.places.Pair.take_step.Goals as goal

pub returns-in_err-version : goal.returns-in_err-version
returns-in_err-version c =
    let p = err_from_is_err_and c.from_residual-in_err-version.result c.from_residual-in_err-version.ensures.1 in
    rw p.1 (step_hurt c.args.self.first.now c.args.self.second.now c.args.snapshot (cut_of c.args.cut) c.args.key.now
    (rw (c.in_ok-met.was, c.in-Some.is) at c.nearest_key.ensures) c.key_at.ensures (rw c.in_err-version.was at c.newest_entry.ensures))

pub returns-in-Value : goal.returns-in-Value
returns-in-Value c =
    step_done c.args.self.first.now c.args.self.second.now c.args.snapshot (cut_of c.args.cut) c.args.key.now
    (rw (c.in_ok-met.was, c.in-Some.is) at c.nearest_key.ensures) c.key_at.ensures
    (rw (c.in_ok-version.was, c.in-Some-2.is) at c.newest_entry.ensures) c.in-Value.is
