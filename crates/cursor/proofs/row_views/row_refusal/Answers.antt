-- `row_refusal`: the headers, then the refusal at the place.
use Rattle.std.proofs.Common.{not, ap}
use Rattle.cursor.proofs.Rows.{refuses_headers, refuses_on}
use Rattle.cursor.proofs.row_views.row_refusal.Goals as goal

pub returns-then-not-headers_hold : goal.returns-then-not-headers_hold
returns-then-not-headers_hold c = refuses_headers c.args.first.now c.args.second.now c.args.at c.headers_hold.ensures (ap not c.if-not-headers_hold.true)

pub returns : goal.returns
returns c =
    refuses_on c.args.first.now c.args.second.now c.args.at c.headers_hold.ensures (ap not c.if-not-headers_hold.false)
    c.in-On.is c.place_refusal.ensures
