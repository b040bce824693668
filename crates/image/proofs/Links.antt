-- The links of a sound image stand apart from one another and from the rest of it.
use Prim.Native.Nat.{ℕ, ◌+◌, ◌<◌, ◌≤◌}
use native.Mathlib.Omega.{arith}
use native.Mathlib.Decide.{ℕ_discrete, dec_lt}
use mathlib.Core.Path.{◌≡◌, sym, ap, ◌∙◌}
use mathlib.Core.Logic.{◌⊎◌, inl, inr, ◌≢◌}
use mathlib.Core.List.{List}
use Rattle.image.specs.Limits.{levels}
use Rattle.image.specs.Words.{Apart}
use Rattle.image.specs.Nodes.{count, free, slot, entry_place, height_of, links_at, link_place}
use Rattle.image.specs.Sound.{Sound, size_at}
use Rattle.image.proofs.Nodes.{links_node}
use Rattle.image.proofs.Sound.{ends_free, ends_slot}

-- the head, or a node that has the level
abbrev pub Lands : List ℕ → ℕ → ℕ → Type 0
Lands xs x l = (x ≡ 0) ⊎ ((1 ≤ x) × (x ≤ count xs) × (l < height_of xs x))

module _ (xs : List ℕ) (s : Sound xs) where
  pub place_low : (x l : ℕ) → Lands xs x l → 16 ≤ link_place xs x l
  place_low x l (inl e) = rw e (omega arith)
  place_low x l (inr (p, q, r)) = omega (arith, links_node xs x p, (s.reads x p q).after_header)

  -- a link of a node lies between its length and its entry
  pub in_node : (x l : ℕ) → 1 ≤ x → x ≤ count xs → l < height_of xs x → (slot xs x + 8 ≤ link_place xs x l) × (link_place xs x l + 4 ≤ entry_place (slot xs x) (height_of xs x))
  in_node x l p q r = let e = links_node xs x p in (omega arith, omega arith)

  pub place_high : (x l : ℕ) → l < levels → Lands xs x l → link_place xs x l + 4 ≤ free xs
  place_high x l k (inl e) = rw e (omega (arith, s.header.low))
  place_high x l k (inr (p, q, r)) = omega (arith, in_node x l p q r, ends_free xs s x p q)

  pub link_apart : (x l y k : ℕ) → l < levels → k < levels → Lands xs x l → Lands xs y k → (x ≡ y → l ≢ k) → Apart (link_place xs x l) (link_place xs y k)
  link_apart x l y k a b (inl e) (inl f) n c d = let z = n (e ∙ sym f) in omega (arith, ap (links_at xs) e, ap (links_at xs) f)
  link_apart x l y k a b (inl e) (inr (p, q, r)) n c d = omega (arith, ap (links_at xs) e, in_node y k p q r, (s.reads y p q).after_header)
  link_apart x l y k a b (inr (p, q, r)) (inl f) n c d = omega (arith, ap (links_at xs) f, in_node x l p q r, (s.reads x p q).after_header)
  link_apart x l y k a b (inr (p, q, r)) (inr (t, u, v)) n c d = go (ℕ_discrete x y) (dec_lt x y)
    where
      go : Dec (x ≡ y) → Dec (x < y) → ⊥
      go (yes e) o = let z = n e in let w : links_at xs x ≡ links_at xs y = ap (links_at xs) e in omega arith
      go (no m) (yes o) = omega (arith, in_node x l p q r, in_node y k t u v, ends_slot xs s x y p o u)
      go (no m) (no o) = omega (arith, in_node x l p q r, in_node y k t u v, ends_slot xs s y x t (omega arith) q)

  -- no link meets a node's height, length or entry
  pub link_outside : (x l i q : ℕ) → l < levels → Lands xs x l → 1 ≤ i → i ≤ count xs → slot xs i ≤ q → q < slot xs i + size_at xs i
      → (slot xs i + 8 ≤ q → q < entry_place (slot xs i) (height_of xs i) → ⊥)
      → link_place xs x l ≤ q → q < link_place xs x l + 4 → ⊥
  link_outside x l i q a (inl e) p r lo hi n c d = omega (arith, ap (links_at xs) e, (s.reads i p r).after_header)
  link_outside x l i q a (inr (t, u, v)) p r lo hi n c d = go (ℕ_discrete x i) (dec_lt x i)
    where
      go : Dec (x ≡ i) → Dec (x < i) → ⊥
      go (yes e) o = let w = in_node x l t u v in let f : slot xs x ≡ slot xs i = ap (slot xs) e in let g : height_of xs x ≡ height_of xs i = ap (height_of xs) e in n (omega arith) (omega arith)
      go (no m) (yes o) = omega (arith, in_node x l t u v, ends_slot xs s x i t o r)
      go (no m) (no o) = omega (arith, in_node x l t u v, ends_slot xs s i x p (omega arith) u)
