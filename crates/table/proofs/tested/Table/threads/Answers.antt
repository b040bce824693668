-- `Table::threads`: one node a turn, along the lowest chain.
use native.Mathlib.Omega.{arith}
use Rattle.std.proofs.Common.{refl, sym}
use Rattle.std.proofs.lemmas.List.{length-take-le}
use Rattle.table.proofs.CheckLaws.{is_node, lead_never_bad, height_most, links_inside, met_inside}
use Rattle.table.proofs.CheckLaws.{key_inside_here, walk_misses, walk_disordered, walk_on}
use Rattle.table.proofs.tested.Table.threads.Goals as goal

pub returns-in_default : goal.returns-in_default
returns-in_default c =
    let here = is_node _ c.loop.invariant c.args.self.framed.count_is c.loop-test.true refl c.if-x-lt1.false c.if-x-n.false c.requires in
    absurd (lead_never_bad _ _ c.requires here c.in_default.ensures)

pub slice_bounds-next-end : goal.slice_bounds-next-end
slice_bounds-next-end c =
    let here = is_node _ c.loop.invariant c.args.self.framed.count_is c.loop-test.true refl c.if-x-lt1.false c.if-x-n.false c.requires in
    omega (arith, height_most _ _ c.requires here c.in-Ok.ensures, c.loop.invariant.wide)

pub slice_bounds-all_meet-end : goal.slice_bounds-all_meet-end
slice_bounds-all_meet-end c =
    let here = is_node _ c.loop.invariant c.args.self.framed.count_is c.loop-test.true refl c.if-x-lt1.false c.if-x-n.false c.requires in
    sym (length-take-le _ _ (omega (arith, height_most _ _ c.requires here c.in-Ok.ensures, c.loop.invariant.wide)))

pub returns-then-not-all_meet : goal.returns-then-not-all_meet
returns-then-not-all_meet c =
    walk_misses _ c.loop.invariant c.args.self.framed.count_is c.loop-test.true refl c.if-x-lt1.false c.if-x-n.false c.requires
    _ c.in-Ok.ensures c.all_meet.ensures c.if-not-all_meet.true

pub may_follow-requires : goal.may_follow-requires
may_follow-requires c = (
  met_inside _ c.requires c.loop.invariant,
  key_inside_here _ c.loop.invariant c.args.self.framed.count_is c.loop-test.true refl c.if-x-lt1.false c.if-x-n.false c.requires _ c.in-Ok.ensures,
)

pub returns-then-not-may_follow : goal.returns-then-not-may_follow
returns-then-not-may_follow c =
    walk_disordered _ c.loop.invariant c.args.self.framed.count_is c.loop-test.true refl c.if-x-lt1.false c.if-x-n.false c.requires
    _ c.in-Ok.ensures c.all_meet.ensures c.if-not-all_meet.false c.may_follow.ensures c.if-not-may_follow.true

pub overflow_add-lead : goal.overflow_add-lead
overflow_add-lead c =
    let here = is_node _ c.loop.invariant c.args.self.framed.count_is c.loop-test.true refl c.if-x-lt1.false c.if-x-n.false c.requires in
    let h = links_inside _ _ c.requires here c.in-Ok.ensures in
    omega (arith, h.inside, c.requires.header.short)

pub step-next-requires-in-loop : goal.step-next-requires-in-loop
step-next-requires-in-loop c =
    let here = is_node _ c.loop.invariant c.args.self.framed.count_is c.loop-test.true refl c.if-x-lt1.false c.if-x-n.false c.requires in
    links_inside _ _ c.requires here c.in-Ok.ensures

pub loop-preserved : goal.loop-preserved
loop-preserved c =
    walk_on _ c.loop.invariant c.args.self.framed.count_is c.loop-test.true refl c.if-x-lt1.false c.if-x-n.false c.requires
    _ c.in-Ok.ensures c.all_meet.ensures c.if-not-all_meet.false c.may_follow.ensures c.if-not-may_follow.false c.step-next-in-loop.ensures
