-- A scan with the entry cursor ends, whatever the bytes: no more moves in a row end on a node than there are nodes.
use Prim.Native.Nat.{ℕ, zero, suc, ◌≤◌}
use native.Mathlib.Omega.{arith}
use mathlib.Core.Path.{◌≡◌, refl, ap}
use mathlib.Core.List.{List, Memᴰ}
use mathlib.Core.Bool.{Bool, true, false}
use lib.ListN.{length}
use Rattle.std.specs.Prelude.{Ok}
use Rattle.rule.specs.Order.{is_less}
use Rattle.rule.specs.Entries.{Entry, order}
use Rattle.rule.proofs.Order.{entries, less_true}
use Rattle.rule.proofs.Scans.{left, left_most, left_less, left_member}
use Rattle.image.specs.Nodes.{count, entry_of}
use Rattle.image.specs.Sound.{held}
use Rattle.image.specs.EntryMoves.{on, EntryMove, first, seek, next, previous}
use Rattle.table.specs.MemtableIter.{MovesEntry}
use Rattle.table.specs.Scans.{EntryGoesOn, EntryScan, went}
use Rattle.table.specs.declared.memtable_iter.EntryCursor.{EntryCursor}
use Rattle.table.specs.declared.memtable_iter.EntryCursor.TheVariants.{Nowhere, On}
use Rattle.table.proofs.Laws.{node_held, held_length}

-- the order of entries, and its opposite
abbrev after : Entry → Entry → Bool
after e f = is_less (order e f)

abbrev before : Entry → Entry → Bool
before e f = is_less (order f e)

never_after : (e : Entry) → after e e ≡ false
never_after e = ap is_less (entries.same (e.key, e.number))

after_trans : (e f g : Entry) → after e f ≡ true → after f g ≡ true → after e g ≡ true
after_trans e f g p q = ap is_less (entries.trans (e.key, e.number) (f.key, f.number) (g.key, g.number) (less_true (order e f) p) (less_true (order f g) q))

-- one argument for both ways: a move from a node ends ahead of it, on an entry that is held
module _ (xs : List ℕ) (m : EntryMove) (ahead : Entry → Entry → Bool) (never : (e : Entry) → ahead e e ≡ false) (trans : (e f g : Entry) → ahead e f ≡ true → ahead f g ≡ true → ahead e g ≡ true)
    (held_there : (c : EntryCursor) (j : ℕ) → MovesEntry xs m c (Ok (On j)) → Memᴰ (entry_of xs j) (held xs))
    (goes : (i j : ℕ) → MovesEntry xs m (On i) (Ok (On j)) → ahead (entry_of xs i) (entry_of xs j) ≡ true) where
  from_node : (i k : ℕ) → EntryScan xs m (On i) k → k ≤ left ahead never trans (entry_of xs i) (held xs)
  from_node i zero s = omega arith
  from_node i (suc k) (went j p s) = let a = from_node j k s in let b = left_less ahead never trans (entry_of xs i) (entry_of xs j) (goes i j p) (held xs) (held_there (On i) j p) in omega arith

  from_anywhere : (c : EntryCursor) (k : ℕ) → EntryScan xs m c k → k ≤ length (held xs)
  from_anywhere (On i) k s = let a = from_node i k s in let b = left_most ahead never trans (entry_of xs i) (held xs) in omega arith
  from_anywhere Nowhere zero s = omega arith
  from_anywhere Nowhere (suc k) (went j p s) = let a = from_node j k s in let b = left_member ahead never trans (entry_of xs j) (held xs) (held_there Nowhere j p) in omega arith

ends_within : (xs : List ℕ) (m : EntryMove) → EntryGoesOn m → (c : EntryCursor) (k : ℕ) → EntryScan xs m c k → k ≤ length (held xs)
ends_within xs first g c k s = absurd g
ends_within xs (seek t n) g c k s = absurd g
ends_within xs next g c k s = from_anywhere xs next after never_after after_trans (λ c j p. node_held xs j (p.lands (on j) refl).0) (λ i j p. ap is_less (p.lands (on j) refl).2) c k s
ends_within xs previous g c k s =
    from_anywhere xs previous before never_after (λ e f g p q. after_trans g f e q p) (λ c j p. node_held xs j (p.lands (on j) refl).0) (λ i j p. ap is_less (p.lands (on j) refl).2) c k s

-- any string of next, or of previous, from anywhere and on any bytes: at most as many of its moves end on a node, before one is nowhere or refused, as the table has nodes
pub scan_ends : (xs : List ℕ) (m : EntryMove) → EntryGoesOn m → (c : EntryCursor) (k : ℕ) → EntryScan xs m c k → k ≤ count xs
scan_ends xs m g c k s = let a = ends_within xs m g c k s in omega (arith, held_length xs)
