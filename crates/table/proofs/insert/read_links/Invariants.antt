-- `insert::read_links`: one link a turn, from the lowest level up.
use Prim.Native.Nat.{ℕ, ◌<◌}
use mathlib.Core.Path.{◌≡◌}
use lib.ListN.{length, get_or}
use Rattle.image.specs.Words.{word}
use Rattle.table.proofs.insert.read_links.Given as goal

abbrev pub invariant-loop-l : goal.invariant-loop-l
invariant-loop-l l = record { room : length l.links ≡ 12; links_are : (i : ℕ) → i < l.l → get_or l.links i 0 ≡ word l.s (get_or l.places i 0) }
