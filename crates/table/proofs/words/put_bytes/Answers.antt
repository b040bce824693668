-- `words::put_bytes`: after i turns the first i bytes are written.
use mathlib.Core.Path.{refl}
use Rattle.table.proofs.WordsLaws.{copied_next}
use Rattle.table.proofs.words.put_bytes.Goals as goal

pub loop-i-init : goal.loop-i-init
loop-i-init c = refl

pub loop-i-preserved : goal.loop-i-preserved
loop-i-preserved c = copied_next _ _ _ _ _ c.loop-i.invariant c.loop-i-test.true
