-- `Pair::row_span`: the headers, then the answer of the place's table.
use Rattle.std.proofs.Common.{not, ap}
use Rattle.std.proofs.lemmas.Result.{err_from_is_err_and}
use Rattle.table.specs.EntryViews.{view_of}
use Rattle.cursor.proofs.RowSpans.{spans_headers, spans_nowhere, spans_refused, spans_on}
use Rattle.cursor.proofs.places.Pair.row_span.Goals as goal

pub returns-then-not-headers_hold : goal.returns-then-not-headers_hold
returns-then-not-headers_hold c =
    spans_headers (view_of c.args.what) c.args.self.first.now c.args.self.second.now c.args.at c.headers_hold.ensures (ap not c.if-not-headers_hold.true)

pub returns-in_default : goal.returns-in_default
returns-in_default c =
    spans_nowhere (view_of c.args.what) c.args.self.first.now c.args.self.second.now c.args.at c.headers_hold.ensures (ap not c.if-not-headers_hold.false) c.in_default.is

pub returns-in_err-span : goal.returns-in_err-span
returns-in_err-span c =
    let p = err_from_is_err_and c.from_residual.result c.from_residual.ensures.1 in
    rw (p.1, p.2) (spans_refused (view_of c.args.what) c.args.self.first.now c.args.self.second.now c.args.at c.headers_hold.ensures (ap not c.if-not-headers_hold.false)
    c.in-On.is c.image_of.ensures c.in_err-span.ensures)

pub returns : goal.returns
returns c =
    spans_on (view_of c.args.what) c.args.self.first.now c.args.self.second.now c.args.at c.headers_hold.ensures (ap not c.if-not-headers_hold.false)
    c.in-On.is c.image_of.ensures c.in_ok-span.ensures
