-- `words::get_word`: the four bytes make the word.
use Rattle.std.proofs.Common.{arith}
use Rattle.image.proofs.Words.{word_bytes}
use Rattle.table.proofs.words.get_word.Goals as goal

pub returns : goal.returns
returns c = omega (arith, word_bytes c.args.s.now c.args.o)
