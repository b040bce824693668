use Rattle.image.proofs.Words.{put_words_none, put_words_next}
use Rattle.table.proofs.insert.lead_to.Goals as goal

pub loop-l-init : goal.loop-l-init
loop-l-init c = put_words_none _ _ _

pub loop-l-preserved : goal.loop-l-preserved
loop-l-preserved c = put_words_next _ _ _ _ _ _ c.loop-l.invariant c.put_word.ensures
