use Prim.Native.Nat.{◌+◌, ◌*◌}
use mathlib.Core.Path.{◌≡◌}
use lib.ListN.{get_or}
use Rattle.image.specs.Words.{put_words}
use Rattle.table.proofs.insert.put_links.Given as goal

abbrev pub invariant-loop-l : goal.invariant-loop-l
invariant-loop-l l = l.s ≡ put_words l.initial.s (λ i. l.at + 4 * i) (λ i. get_or l.links i 0) l.l
