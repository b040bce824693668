-- `key_types::common_front`: eight bytes that are equal as a number change nothing of what is left to compare.
use Rattle.std.proofs.Common.{refl, sym, ◌∙◌, arith}
use Rattle.table.proofs.KeyTypesLaws.{left_all, left_next, front_left}
use Rattle.table.proofs.key_types.common_front.Goals as goal

pub loop-i-init : goal.loop-i-init
loop-i-init c = left_all _ _

pub returns-then-x-y : goal.returns-then-x-y
returns-then-x-y c = front_left _ _ c.loop-i.i _ refl (omega arith) (omega arith) c.loop-i.invariant

pub loop-i-preserved : goal.loop-i-preserved
loop-i-preserved c =
    let same = sym c.get_u64-x.ensures ∙ c.if-x-y.false ∙ c.get_u64-y.ensures in
    left_next c.args.a.now c.args.b.now c.loop-i.i (λ i. (c.type_inv.a i).fits) (λ i. (c.type_inv.b i).fits) (omega arith) (omega arith) same c.loop-i.invariant

pub returns : goal.returns
returns c = front_left _ _ c.loop-i.i _ (omega arith) (omega arith) (omega arith) c.loop-i.invariant
