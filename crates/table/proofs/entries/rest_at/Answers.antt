-- `entries::rest_at`: each way out is a case of the definition.
use Rattle.std.proofs.lemmas.Result.{err_from_is_err_and}
use Rattle.table.proofs.EntriesLaws.{kind_known, rest_kind, rest_bad, rest_long, rest_out, rest_over, rest_whole}
use Rattle.table.proofs.entries.rest_at.Goals as goal

pub returns-in_default-clause-exact : goal.returns-in_default-clause-exact
returns-in_default-clause-exact c = rest_kind _ _ _ c.in_default.ensures.0

pub returns-in_err-len-clause-exact : goal.returns-in_err-len-clause-exact
returns-in_err-len-clause-exact c =
    let p = err_from_is_err_and c.from_residual.result c.from_residual.ensures.1 in
    rw (p.1, p.2) (rest_bad _ _ _ (kind_known _ c.in-Ok.ensures) c.in_err-len.ensures.exact)

pub returns-then-len-gt-MAX_VALUE-clause-exact : goal.returns-then-len-gt-MAX_VALUE-clause-exact
returns-then-len-gt-MAX_VALUE-clause-exact c = rest_long _ _ _ (kind_known _ c.in-Ok.ensures) c.in_ok-len.ensures.exact c.if-len-gt-MAX_VALUE.true

pub returns-then-stop-end-clause-exact : goal.returns-then-stop-end-clause-exact
returns-then-stop-end-clause-exact c = rest_out _ _ _ (kind_known _ c.in-Ok.ensures) c.in_ok-len.ensures.exact c.if-len-gt-MAX_VALUE.false c.if-stop-end.true

pub returns-then-stop-end-2-clause-exact : goal.returns-then-stop-end-2-clause-exact
returns-then-stop-end-2-clause-exact c =
    rest_over _ _ _ (kind_known _ c.in-Ok.ensures) c.in_ok-len.ensures.exact c.if-len-gt-MAX_VALUE.false c.if-stop-end.false c.if-stop-end-2.true

pub returns-clause-exact : goal.returns-clause-exact
returns-clause-exact c =
    rest_whole _ _ _ (kind_known _ c.in-Ok.ensures) c.in_ok-len.ensures.exact c.if-len-gt-MAX_VALUE.false c.if-stop-end.false c.if-stop-end-2.false
