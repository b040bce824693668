-- `Table::entry_after`: the lowest link of the node that was read.
use Rattle.std.proofs.Common.{arith}
use Rattle.table.proofs.MemtableLaws.{parts_inside}
use Rattle.table.proofs.MemtableIterLaws.{link_inside, next_over, next_lands}
use Rattle.table.proofs.tested.Table.entry_after.Goals as goal

pub overflow_add-here : goal.overflow_add-here
overflow_add-here c = let h = link_inside c.args.self.bytes.now c.args.node c.in_ok-here.ensures.exact c.args.self.framed in omega (arith, h, c.args.self.framed.header.short)

pub get_wide-after-requires : goal.get_wide-after-requires
get_wide-after-requires c = link_inside c.args.self.bytes.now c.args.node c.in_ok-here.ensures.exact c.args.self.framed

pub returns-then-after-self : goal.returns-then-after-self
returns-then-after-self c = next_over c.args.self.bytes.now c.args.node c.in_ok-here.ensures.exact c.args.self.framed c.requires.0 c.get_wide-after.ensures.0 c.if-after-self.true

pub land_after-requires : goal.land_after-requires
land_after-requires c = (c.if-after-self.false, (parts_inside c.args.self.bytes.now c.args.node c.args.self.framed.header c.in_ok-here.ensures.exact).0)

pub returns : goal.returns
returns c =
    next_lands c.args.self.bytes.now c.args.node c.in_ok-here.ensures.exact c.args.self.framed c.requires.0 c.get_wide-after.ensures.0 c.if-after-self.false c.land_after.ensures
