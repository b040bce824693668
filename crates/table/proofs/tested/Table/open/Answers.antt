-- `tested::Table::open`: a test that fails is a part that the header lacks.
use Rattle.std.proofs.Common.{arith}
use Rattle.table.proofs.NodesLaws.{header_fails}
use Rattle.table.proofs.tested.Table.open.Goals as goal

pub returns-then-len-lt-HEADER_SIZE : goal.returns-then-len-lt-HEADER_SIZE
returns-then-len-lt-HEADER_SIZE c = header_fails c.args.bytes.now (λ h. omega arith)

pub returns-then-len-gt-MAX_IMAGE : goal.returns-then-len-gt-MAX_IMAGE
returns-then-len-gt-MAX_IMAGE c = header_fails c.args.bytes.now (λ h. omega arith)

pub returns-then-get_wide-len : goal.returns-then-get_wide-len
returns-then-get_wide-len c = header_fails c.args.bytes.now (λ h. omega arith)

pub returns-then-get_wide-ne-LEVELS : goal.returns-then-get_wide-ne-LEVELS
returns-then-get_wide-ne-LEVELS c = header_fails c.args.bytes.now (λ h. omega arith)

pub returns-then-count-gt-MAX_NODES : goal.returns-then-count-gt-MAX_NODES
returns-then-count-gt-MAX_NODES c = header_fails c.args.bytes.now (λ h. omega arith)

pub returns-then-free-lt-HEADER_SIZE : goal.returns-then-free-lt-HEADER_SIZE
returns-then-free-lt-HEADER_SIZE c = header_fails c.args.bytes.now (λ h. omega arith)

pub returns-then-free-count : goal.returns-then-free-count
returns-then-free-count c = header_fails c.args.bytes.now (λ h. omega (arith, h.high))
