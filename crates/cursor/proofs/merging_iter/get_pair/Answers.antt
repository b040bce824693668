-- `get_pair`: the headers, the first table, then the second.
use Rattle.std.proofs.Common.{not, ap}
use Rattle.std.proofs.lemmas.Result.{err_from_is_err_and}
use Rattle.cursor.proofs.Pairs.{few_first, few_both, pair_first_bad, pair_second_bad, first_refused, first_said, second_refused, second_said}
use Rattle.cursor.proofs.merging_iter.get_pair.Goals as goal

pub returns-then-not-header_holds : goal.returns-then-not-header_holds
returns-then-not-header_holds c =
    pair_first_bad c.args.first.now c.args.second.now c.args.key.now c.args.snapshot c.header_holds.ensures (ap not c.if-not-header_holds.true)

pub returns-then-not-header_holds-2 : goal.returns-then-not-header_holds-2
returns-then-not-header_holds-2 c =
    pair_second_bad c.args.first.now c.args.second.now c.args.key.now c.args.snapshot c.header_holds.ensures (ap not c.if-not-header_holds.false)
    c.header_holds-2.ensures (ap not c.if-not-header_holds-2.true)

pub returns-in_err-a : goal.returns-in_err-a
returns-in_err-a c =
    let p = err_from_is_err_and c.from_residual.result c.from_residual.ensures.1 in
    rw (p.1, p.2) (first_refused c.args.first.now c.args.second.now c.args.key.now c.args.snapshot c.header_holds.ensures (ap not c.if-not-header_holds.false)
    c.header_holds-2.ensures (ap not c.if-not-header_holds-2.false) c.in_err-a.field-0.0 c.in_err-a.ensures)

pub told_by-requires : goal.told_by-requires
told_by-requires c = few_first c.args.first.now c.args.key.now c.args.snapshot c.in_ok-a.a c.in_ok-a.ensures

pub returns-in_default : goal.returns-in_default
returns-in_default c =
    first_said c.args.first.now c.args.second.now c.args.key.now c.args.snapshot c.header_holds.ensures (ap not c.if-not-header_holds.false)
    c.header_holds-2.ensures (ap not c.if-not-header_holds-2.false) c.in_ok-a.a c.in_ok-a.ensures c.in_default.not-Absent c.told_by.result c.told_by.ensures

pub returns-in_err-b : goal.returns-in_err-b
returns-in_err-b c =
    let absent = rw c.in-Absent.is at c.in_ok-a.ensures in
    let p = err_from_is_err_and c.from_residual-in_err-b.result c.from_residual-in_err-b.ensures.1 in
    rw (p.1, p.2) (second_refused c.args.first.now c.args.second.now c.args.key.now c.args.snapshot c.header_holds.ensures (ap not c.if-not-header_holds.false)
    c.header_holds-2.ensures (ap not c.if-not-header_holds-2.false) c.in-Absent.looks absent c.in_err-b.field-0.0 c.in_err-b.ensures)

pub told_by-requires-2 : goal.told_by-requires-2
told_by-requires-2 c =
    few_both c.args.first.now c.args.second.now c.args.key.now c.args.snapshot c.in-Absent.looks c.in_ok-b.b (rw c.in-Absent.is at c.in_ok-a.ensures) c.in_ok-b.ensures

pub returns : goal.returns
returns c =
    second_said c.args.first.now c.args.second.now c.args.key.now c.args.snapshot c.header_holds.ensures (ap not c.if-not-header_holds.false)
    c.header_holds-2.ensures (ap not c.if-not-header_holds-2.false) c.in-Absent.looks (rw c.in-Absent.is at c.in_ok-a.ensures)
    c.in_ok-b.b c.in_ok-b.ensures c.told_by-2.result c.told_by-2.ensures
