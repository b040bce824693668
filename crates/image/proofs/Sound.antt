-- Laws of sound images: where the nodes stand, and that every node is met.
use Prim.Native.Nat.{ℕ, zero, suc, ◌+◌, ◌-◌, ◌*◌, ◌<◌, ◌≤◌}
use native.Mathlib.Omega.{arith}
use native.Mathlib.Decide.{ℕ_discrete}
use mathlib.Core.Path.{◌≡◌, refl, ap}
use mathlib.Core.Logic.{◌≢◌}
use mathlib.Core.List.{List, [], ◌∷◌, Memᴰ}
use mathlib.Core.Bool.{true}
use lib.ListN.{length}
use lib.Dec.{leb, eqb}
use borrow.Author.Tests.{le-leb, lt-leb, leb-true, eqb-true, eq-eqb}
use Rattle.rule.specs.Lists.{both, All, Pairwise}
use Rattle.rule.specs.Order.{less}
use Rattle.rule.specs.Entries.{Entry, order}
use Rattle.rule.proofs.Lists.{both_true, Distinct, all_tail, here, pigeonhole}
use Rattle.image.specs.Limits.{header_size, max_image, max_nodes, levels}
use Rattle.image.specs.Words.{word}
use Rattle.image.specs.Readers.{got}
use Rattle.image.specs.Nodes.{count, free, slot, node_at, NodeIs, height_of, entry_of, link_of}
use Rattle.image.specs.Chains.{met, chain, Chained}
use Rattle.image.specs.Sound.{Header, header_holds, place_of, size_at, lowest, Sound}
use Rattle.image.proofs.Nodes.{node_for, node_read_lem}
use Rattle.image.proofs.Chains.{tall_all, Linked, chained_linked}
use Rattle.image.proofs.Insert.{linked_distinct}

-- ---- the header, as a record and as a test

pub header_sound : (xs : List ℕ) → header_holds xs ≡ true → Header xs
unfolding header_holds
header_sound xs e =
    let (a, b) = both_true (both (leb header_size (length xs)) (leb (length xs) max_image)) _ e in
    let (a1, a2) = both_true (leb header_size (length xs)) (leb (length xs) max_image) a in
    let (c, d) = both_true (both (eqb (word xs 0) (length xs)) (eqb (word xs 12) levels)) _ b in
    let (c1, c2) = both_true (eqb (word xs 0) (length xs)) (eqb (word xs 12) levels) c in
    let (d1, d2) = both_true (leb (count xs) max_nodes) _ d in
    let (d3, d4) = both_true (leb header_size (free xs)) (leb (free xs) (length xs - 4 * count xs)) d2 in
    record {
      long = leb-true header_size (length xs) a1;
      short = leb-true (length xs) max_image a2;
      total = eqb-true (word xs 0) (length xs) c1;
      leveled = eqb-true (word xs 12) levels c2;
      few = leb-true (count xs) max_nodes d1;
      low = leb-true header_size (free xs) d3;
      high = leb-true (free xs) (length xs - 4 * count xs) d4;
    }

pub header_complete : (xs : List ℕ) → Header xs → header_holds xs ≡ true
unfolding header_holds
header_complete xs h = rw (
  le-leb header_size (length xs) h.long,
  le-leb (length xs) max_image h.short,
  eq-eqb (word xs 0) (length xs) h.total,
  eq-eqb (word xs 12) levels h.leveled,
  le-leb (count xs) max_nodes h.few,
  le-leb header_size (free xs) h.low,
  le-leb (free xs) (length xs - 4 * count xs) h.high,
)

-- ---- where the nodes of a sound image stand

pub place_slot : (xs : List ℕ) (i : ℕ) → i ≤ count xs → place_of xs i ≡ slot xs i
place_slot xs i h = rw (le-leb i (count xs) h)

pub place_free : (xs : List ℕ) → place_of xs (suc (count xs)) ≡ free xs
place_free xs = rw (lt-leb (suc (count xs)) (count xs) (omega arith))

-- ---- what the lowest chain meets

met_length : (f : ℕ → ℕ) (n x : ℕ) → length (met f n x) ≡ n
met_length f zero x = refl
met_length f (suc n) x = ap suc (met_length f n (f x))

pub lowest_full : (xs : List ℕ) → length (lowest xs) ≡ count xs
unfolding lowest
lowest_full xs = met_length (λ i. link_of xs i 0) (count xs) (link_of xs 0 0)

-- a chain through a list meets that list
chain_met : (f : ℕ → ℕ) (x : ℕ) (ys : List ℕ) → chain f x ys → met f (length ys) x ≡ ys
chain_met f x [] c = refl
chain_met f x (y ∷ ys) (e, c) = rw e (ap {B = List ℕ} (λ zs. y ∷ zs) (chain_met f (f y) ys c))

-- so a list of as many nodes as there are, with all chains through it, is what the lowest chain meets
lowest_is : (xs zs : List ℕ) → length zs ≡ count xs → All (λ x. 0 < height_of xs x) zs → Chained levels (height_of xs) (link_of xs) zs → lowest xs ≡ zs
unfolding lowest
lowest_is xs zs n h c =
    let whole : chain (λ i. link_of xs i 0) (link_of xs 0 0) zs = rw (tall_all (height_of xs) 0 zs h) at (c 0 (omega arith)) in
    rw (← n) (chain_met (λ i. link_of xs i 0) (link_of xs 0 0) zs whole)

-- such a list makes an image sound
pub record Sequence (xs zs : List ℕ) : Type 0 where
  pub within : All (λ x. (1 ≤ x) × (x ≤ count xs)) zs
  pub full : length zs ≡ count xs
  pub ascending : Pairwise (λ x y. order (entry_of xs x) (entry_of xs y) ≡ less) zs
  pub chained : Chained levels (height_of xs) (link_of xs) zs

module _ (xs zs : List ℕ) (header : Header xs) (begins : place_of xs 1 ≡ header_size) (follows : (i : ℕ) → 1 ≤ i → i ≤ count xs → place_of xs (suc i) ≡ slot xs i + size_at xs i)
    (reads : (i : ℕ) → 1 ≤ i → i ≤ count xs → NodeIs xs i (height_of xs i) (entry_of xs i)) where
  pub sound_by : Sequence xs zs → Sound xs
  sound_by q = record { header = header; begins = begins; follows = follows; reads = reads; within = rw e q.within; ascending = rw e q.ascending; chained = rw e q.chained }
    where
      e : lowest xs ≡ zs
      e = lowest_is xs zs q.full (λ x m. let w = q.within x m in (reads x w.0 w.1).height_some) q.chained

module _ (xs : List ℕ) (s : Sound xs) where
  -- a node ends where a later one starts, or before
  pub ends_before : (i j : ℕ) → 1 ≤ i → i < j → j ≤ suc (count xs) → slot xs i + size_at xs i ≤ place_of xs j
  ends_before i zero p q r = absurd (omega arith)
  ends_before i (suc j) p q r = go (ℕ_discrete i j) (ends_before i j p)
    where
      go : Dec (i ≡ j) → (i < j → j ≤ suc (count xs) → slot xs i + size_at xs i ≤ place_of xs j) → slot xs i + size_at xs i ≤ place_of xs (suc j)
      go (yes e) ih = let f : place_of xs (suc i) ≡ slot xs i + size_at xs i = s.follows i p (omega arith) in rw (← e, f) (omega arith)
      go (no n) ih = omega (arith, ih (omega arith) (omega arith), place_slot xs j (omega arith), s.follows j (omega arith) (omega arith))

  pub ends_free : (i : ℕ) → 1 ≤ i → i ≤ count xs → slot xs i + size_at xs i ≤ free xs
  ends_free i p q = rw (place_free xs) at (ends_before i (suc (count xs)) p (omega arith) (omega arith))

  pub ends_slot : (i j : ℕ) → 1 ≤ i → i < j → j ≤ count xs → slot xs i + size_at xs i ≤ slot xs j
  ends_slot i j p q r = rw (place_slot xs j r) at (ends_before i j p q (omega arith))

  -- every node is read
  pub sound_node : (i : ℕ) → 1 ≤ i → i ≤ count xs → node_at xs i ≡ got (node_for (slot xs i) (height_of xs i) (entry_of xs i))
  sound_node i p q = node_read_lem xs (free xs) (slot xs i) (height_of xs i) (entry_of xs i) (s.reads i p q)

  pub linked : Linked levels (height_of xs) (link_of xs) (lowest xs)
  linked = chained_linked levels (height_of xs) (link_of xs) (lowest xs) s.chained

  pub nonzero : All (λ x. x ≢ 0) (lowest xs)
  nonzero x m e = omega (arith, s.within x m)

  pub positive : All (λ x. 0 < height_of xs x) (lowest xs)
  positive x m = let w = s.within x m in (s.reads x w.0 w.1).height_some

  pub distinct : Distinct (lowest xs)
  distinct = linked_distinct 11 (height_of xs) (link_of xs) (lowest xs) nonzero positive linked

  -- every node is met
  pub everywhere : (i : ℕ) → 1 ≤ i → i ≤ count xs → Memᴰ i (lowest xs)
  everywhere i p q = pigeonhole (count xs) (lowest xs) (lowest_full xs) distinct s.within i p q

-- an order by entries depends only on the entries of the members
pub pairwise_ext : (f g : ℕ → Entry) (zs : List ℕ) → All (λ x. g x ≡ f x) zs → Pairwise (λ x y. order (f x) (f y) ≡ less) zs → Pairwise (λ x y. order (g x) (g y) ≡ less) zs
pairwise_ext f g [] h p = tt
pairwise_ext f g (z ∷ zs) h p = (λ y m. rw (h z here, h y (Memᴰ.tail m)) (p.0 y m), pairwise_ext f g zs (all_tail h) p.1)
