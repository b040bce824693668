-- `words::get_u64`: two words are eight bytes.
use Rattle.std.proofs.Common.{arith}
use Rattle.image.proofs.Words.{fixed_eight}
use Rattle.table.proofs.words.get_u64.Goals as goal

pub returns : goal.returns
returns c = omega (arith, fixed_eight c.args.s.now c.args.o)
