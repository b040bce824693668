use mathlib.Core.Path.{◌≡◌}
use lib.ListN.{get_or}
use Rattle.image.specs.Words.{put_words}
use Rattle.table.proofs.insert.lead_to.Given as goal

abbrev pub invariant-loop-l : goal.invariant-loop-l
invariant-loop-l l = l.s ≡ put_words l.initial.s (λ i. get_or l.places i 0) (λ i. l.node) l.l
