-- `tested::Table::lead_at`: each way out is a case of the definition.
use Rattle.std.proofs.lemmas.Result.{err_from_is_err_and}
use Rattle.table.proofs.NodesLaws.{lead_header, lead_cut, lead_flat, lead_tall, lead_out, lead_bad, lead_whole}
use Rattle.table.proofs.tested.Table.lead_at.Goals as goal

pub returns-then-o-lt-HEADER_SIZE : goal.returns-then-o-lt-HEADER_SIZE
returns-then-o-lt-HEADER_SIZE c = lead_header _ _ _ c.if-o-lt-HEADER_SIZE.true

pub returns-then-o-limit : goal.returns-then-o-limit
returns-then-o-limit c = lead_cut _ _ _ c.if-o-lt-HEADER_SIZE.false (rw c.args.self.framed.free_is at c.if-o-limit.true)

pub returns-then-height-lt1 : goal.returns-then-height-lt1
returns-then-height-lt1 c =
    lead_flat _ _ _ c.if-o-lt-HEADER_SIZE.false (rw c.args.self.framed.free_is at c.if-o-limit.false) c.get_wide-height.ensures.0 c.if-height-lt1.true

pub returns-then-height-gt-LEVELS : goal.returns-then-height-gt-LEVELS
returns-then-height-gt-LEVELS c =
    lead_tall _ _ _ c.if-o-lt-HEADER_SIZE.false (rw c.args.self.framed.free_is at c.if-o-limit.false) c.get_wide-height.ensures.0 c.if-height-lt1.false c.if-height-gt-LEVELS.true

pub returns-then-end-limit : goal.returns-then-end-limit
returns-then-end-limit c =
    let free = c.args.self.framed.free_is in
    lead_out _ _ _ c.if-o-lt-HEADER_SIZE.false (rw free at c.if-o-limit.false) c.get_wide-height.ensures.0 c.if-height-lt1.false c.if-height-gt-LEVELS.false
    c.get_wide.ensures.0 (rw free at c.if-end-limit.true)

pub returns-in_err-keyed_at : goal.returns-in_err-keyed_at
returns-in_err-keyed_at c =
    let free = c.args.self.framed.free_is in
    let p = err_from_is_err_and c.from_residual.result c.from_residual.ensures.1 in
    rw (p.1, p.2) (lead_bad _ _ _ c.if-o-lt-HEADER_SIZE.false (rw free at c.if-o-limit.false) c.get_wide-height.ensures.0 c.if-height-lt1.false c.if-height-gt-LEVELS.false
    c.get_wide.ensures.0 (rw free at c.if-end-limit.false) c.in_err-keyed_at.ensures.exact)

pub returns : goal.returns
returns c =
    let free = c.args.self.framed.free_is in
    lead_whole _ _ _ c.if-o-lt-HEADER_SIZE.false (rw free at c.if-o-limit.false) c.get_wide-height.ensures.0 c.if-height-lt1.false c.if-height-gt-LEVELS.false
    c.get_wide.ensures.0 (rw free at c.if-end-limit.false) c.in_ok-keyed_at.ensures.exact
