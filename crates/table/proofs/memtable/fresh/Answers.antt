use Rattle.table.proofs.MemtableLaws.{fresh_short, fresh_long, fresh_done}
use Rattle.table.proofs.memtable.fresh.Goals as goal

pub returns-then-s-lt-HEADER_SIZE : goal.returns-then-s-lt-HEADER_SIZE
returns-then-s-lt-HEADER_SIZE c = fresh_short _ c.if-s-lt-HEADER_SIZE.true

pub returns-then-s-gt-MAX_IMAGE : goal.returns-then-s-gt-MAX_IMAGE
returns-then-s-gt-MAX_IMAGE c = fresh_long _ c.if-s-lt-HEADER_SIZE.false c.if-s-gt-MAX_IMAGE.true

pub returns : goal.returns
returns c = fresh_done _ c.if-s-lt-HEADER_SIZE.false c.if-s-gt-MAX_IMAGE.false _ c.fresh_header.ensures
