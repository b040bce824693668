-- `memtable_iter::test_cursor`: the header is tested, then the node against the count that was read.
use Rattle.table.proofs.MemtableLaws.{opened}
use Rattle.table.proofs.MemtableIterLaws.{test_nowhere, test_node, test_zero, test_above}
use Rattle.table.proofs.memtable_iter.test_cursor.Goals as goal

pub returns-in_default : goal.returns-in_default
returns-in_default c = test_nowhere c.args.s.now c.in_ok-table.table (opened _ _ c.open.ensures c.in_ok-table.ensures.ok_part) c.in_default.is

pub returns-then-node-lt1 : goal.returns-then-node-lt1
returns-then-node-lt1 c = test_zero c.args.s.now c.in_ok-table.table (opened _ _ c.open.ensures c.in_ok-table.ensures.ok_part) c.in-On.is c.if-node-lt1.true

pub returns-then-node-table : goal.returns-then-node-table
returns-then-node-table c =
    test_above c.args.s.now c.in_ok-table.table (opened _ _ c.open.ensures c.in_ok-table.ensures.ok_part) c.in-On.is c.if-node-lt1.false c.if-node-table.true

pub returns : goal.returns
returns c =
    test_node c.args.s.now c.in_ok-table.table (opened _ _ c.open.ensures c.in_ok-table.ensures.ok_part) c.in-On.is c.if-node-lt1.false c.if-node-table.false
