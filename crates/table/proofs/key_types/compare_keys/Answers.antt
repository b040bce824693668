-- `key_types::compare_keys`: the first byte behind the common front that differs decides, or the lengths.
use Rattle.std.proofs.Common.{sym, ◌∙◌, arith}
use Rattle.table.proofs.KeyTypesLaws.{left_at, left_more, byte_decides, lengths_decide}
use Rattle.table.proofs.key_types.compare_keys.Goals as goal

pub loop-i-init : goal.loop-i-init
loop-i-init c = left_at _ _ c.common_front-front.ensures

pub returns-then-x-y : goal.returns-then-x-y
returns-then-x-y c = byte_decides c.args.a.now c.args.b.now c.loop-i.i (omega arith) (omega arith) c.if-x-y.true c.cmp.ensures ∙ sym c.loop-i.invariant

pub loop-i-preserved : goal.loop-i-preserved
loop-i-preserved c = left_more c.args.a.now c.args.b.now c.loop-i.i (omega arith) (omega arith) c.if-x-y.false c.loop-i.invariant

pub returns : goal.returns
returns c =
    let f = c.common_front-front.ensures in
    let inside = c.loop-i.auto.i-end (omega (arith, c.min-both.ensures, f.first, f.second)) in
    lengths_decide c.args.a.now c.args.b.now c.loop-i.i (omega (arith, inside, c.min-both.ensures)) (omega arith) c.cmp-2.ensures ∙ sym c.loop-i.invariant
