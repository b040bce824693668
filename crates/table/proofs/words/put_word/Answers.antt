-- `words::put_word`: the four bytes of the low half are those of the word.
use Rattle.std.proofs.Common.{◌∙◌, ap}
use Rattle.std.proofs.lemmas.List.Edits.{sets}
use Rattle.table.proofs.WordsLaws.{word_pasted}
use Rattle.table.proofs.words.put_word.Goals as goal

pub returns : goal.returns
returns c = c.put_bytes.ensures ∙ ap (sets c.args.s.now c.args.o) c.to_le_bytes.ensures ∙ word_pasted c.args.s.now c.args.o c.args.v
