use Rattle.table.proofs.MemtableLaws.{holds_in, adds_refused, adds_error, at_header, at_kind, at_key, at_value, at_flat, at_tall, at_inserted}
use Rattle.table.proofs.memtable.add.Goals as goal

pub returns-in_default : goal.returns-in_default
returns-in_default c = adds_refused _ _ _ _ (at_header _ _ _ c.in_default.ensures)

pub returns-in_err-kind : goal.returns-in_err-kind
returns-in_err-kind c =
    let holds = holds_in c.in-Some.table c.in-Some.ensures in
    adds_error _ _ _ c.from_residual.result _ c.from_residual.ensures.1 (at_kind _ _ _ holds _ c.in_err-kind.ensures)

pub returns-in_err-key : goal.returns-in_err-key
returns-in_err-key c =
    let holds = holds_in c.in-Some.table c.in-Some.ensures in
    adds_error _ _ _ c.from_residual-in_err-key.result _ c.from_residual-in_err-key.ensures.1
    (at_key _ _ _ holds c.in_ok-kind.kind c.in_ok-kind.ensures _ c.in_err-key.ensures)

pub returns-then-value-gt-MAX_VALUE : goal.returns-then-value-gt-MAX_VALUE
returns-then-value-gt-MAX_VALUE c =
    let holds = holds_in c.in-Some.table c.in-Some.ensures in
    adds_refused _ _ _ _ (at_value _ _ _ holds c.in_ok-kind.kind c.in_ok-kind.ensures c.in_ok-key.field-0 c.in_ok-key.ensures c.if-value-gt-MAX_VALUE.true)

pub returns-then-height-lt1 : goal.returns-then-height-lt1
returns-then-height-lt1 c =
    let holds = holds_in c.in-Some.table c.in-Some.ensures in
    adds_refused _ _ _ _ (at_flat _ _ _ holds c.in_ok-kind.kind c.in_ok-kind.ensures c.in_ok-key.field-0 c.in_ok-key.ensures
    c.if-value-gt-MAX_VALUE.false c.if-height-lt1.true)

pub returns-then-height-gt-LEVELS : goal.returns-then-height-gt-LEVELS
returns-then-height-gt-LEVELS c =
    let holds = holds_in c.in-Some.table c.in-Some.ensures in
    adds_refused _ _ _ _ (at_tall _ _ _ holds c.in_ok-kind.kind c.in_ok-kind.ensures c.in_ok-key.field-0 c.in_ok-key.ensures
    c.if-value-gt-MAX_VALUE.false c.if-height-lt1.false c.if-height-gt-LEVELS.true)

pub returns : goal.returns
returns c =
    let holds = holds_in c.in-Some.table c.in-Some.ensures in
    at_inserted _ _ _ holds c.in_ok-kind.kind c.in_ok-kind.ensures c.in_ok-key.field-0 c.in_ok-key.ensures c.if-value-gt-MAX_VALUE.false
    c.if-height-lt1.false c.if-height-gt-LEVELS.false c.in-Some.table c.in-Some.ensures _
    (rw (c.in_ok-key.ensures.0, c.in_ok-key.ensures.1, c.in_ok-kind.ensures)) _ _ c.insert.ensures
