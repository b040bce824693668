-- `Pair::test_move`: the headers, the cursor, then the snapshot and the key.
use Rattle.std.proofs.Common.{not, ap}
use Rattle.std.proofs.lemmas.Result.{err_from_is_err_and}
use Rattle.cursor.proofs.Moves.{asked_headers, asked_cursor, asked_limits, asked_passed}
use Rattle.cursor.proofs.places.Pair.test_move.Goals as goal

pub returns-then-not-headers_hold : goal.returns-then-not-headers_hold
returns-then-not-headers_hold c =
    asked_headers c.args.self.first.now c.args.self.second.now c.args.snapshot c.args.at c.args.key.now c.headers_hold.ensures (ap not c.if-not-headers_hold.true)

pub returns-then-not-is_inside : goal.returns-then-not-is_inside
returns-then-not-is_inside c =
    asked_cursor c.args.self.first.now c.args.self.second.now c.args.snapshot c.args.at c.args.key.now c.headers_hold.ensures (ap not c.if-not-headers_hold.false)
    c.is_inside.ensures (ap not c.if-not-is_inside.true)

pub returns-in_err-of : goal.returns-in_err-of
returns-in_err-of c =
    let p = err_from_is_err_and c.from_residual.result c.from_residual.ensures.1 in
    rw (p.1, p.2) (asked_limits c.args.self.first.now c.args.self.second.now c.args.snapshot c.args.at c.args.key.now c.headers_hold.ensures (ap not c.if-not-headers_hold.false)
    c.is_inside.ensures (ap not c.if-not-is_inside.false) c.in_err-of.field-0.0 c.in_err-of.ensures)

pub returns : goal.returns
returns c =
    asked_passed c.args.self.first.now c.args.self.second.now c.args.snapshot c.args.at c.args.key.now c.headers_hold.ensures (ap not c.if-not-headers_hold.false)
    c.is_inside.ensures (ap not c.if-not-is_inside.false) c.in_ok-of.field-0 c.in_ok-of.ensures
