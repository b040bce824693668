-- `entries::keyed_at`: each way out is a case of the definition.
use Rattle.std.proofs.lemmas.Result.{err_from_is_err_and}
use Rattle.table.proofs.EntriesLaws.{keyed_bad, keyed_short, keyed_long, keyed_out, keyed_whole}
use Rattle.table.proofs.entries.keyed_at.Goals as goal

pub returns-in_err-len-clause-exact : goal.returns-in_err-len-clause-exact
returns-in_err-len-clause-exact c =
    let p = err_from_is_err_and c.from_residual.result c.from_residual.ensures.1 in rw (p.1, p.2) (keyed_bad _ _ _ c.in_err-len.ensures.exact)

pub returns-then-len-lt8-clause-exact : goal.returns-then-len-lt8-clause-exact
returns-then-len-lt8-clause-exact c = keyed_short _ _ _ c.in_ok-len.ensures.exact c.if-len-lt8.true

pub returns-then-len-clause-exact : goal.returns-then-len-clause-exact
returns-then-len-clause-exact c = keyed_long _ _ _ c.in_ok-len.ensures.exact c.if-len-lt8.false c.if-len.true

pub returns-then-rest-end-clause-exact : goal.returns-then-rest-end-clause-exact
returns-then-rest-end-clause-exact c = keyed_out _ _ _ c.in_ok-len.ensures.exact c.if-len-lt8.false c.if-len.false c.if-rest-end.true

pub returns-clause-exact : goal.returns-clause-exact
returns-clause-exact c = keyed_whole _ _ _ c.in_ok-len.ensures.exact c.if-len-lt8.false c.if-len.false c.if-rest-end.false c.get_tag.ensures
