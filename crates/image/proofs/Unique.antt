-- A sound image is what its length, its heights and its entries say, but for the free part.
use Prim.Native.Nat.{ℕ, zero, suc, ◌+◌, ◌-◌, ◌*◌, ◌/◌, ◌<◌, ◌≤◌}
use native.Mathlib.Omega.{arith}
use native.Mathlib.Decide.{ℕ_discrete, dec_lt}
use mathlib.Core.Path.{◌≡◌, refl, sym, ap, ap₂, subst, ◌∙◌}
use mathlib.Core.Logic.{◌⊎◌, inl, inr, ⊎_elim}
use mathlib.Core.List.Memᴰ
use mathlib.Core.List.{List, [], ◌∷◌, Memᴰ}
use lib.ListN.{length, get_or}
use Rattle.rule.specs.Lists.{All, Pairwise}
use Rattle.rule.specs.Order.{less}
use Rattle.rule.specs.Entries.{Entry, order}
use Rattle.rule.proofs.Order.{entries}
use Rattle.rule.proofs.Lists.{here}
use Rattle.image.specs.Limits.{levels}
use Rattle.image.specs.Words.{Bytes, word}
use Rattle.image.specs.Entries.{encode}
use Rattle.image.specs.Nodes.{count, free, slot, slot_place, entry_place, NodeHere, height_of, entry_of, link_of}
use Rattle.image.specs.Sound.{lowest, Sound, place_of, size_at}
use Rattle.image.specs.Added.{Added}
use Rattle.image.proofs.Words.{word_unique, holds_both}
use Rattle.image.proofs.Nodes.{links_node}
use Rattle.image.proofs.Chains.{Linked}
use Rattle.image.proofs.Insert.{linked_ext, linked_head_unique, linked_unique}
use Rattle.image.proofs.Sound.{place_slot, place_free, linked, everywhere, pairwise_ext}

-- two lists in ascending order with the same members are one
module _ {ℓ} {A : Type ℓ} (R : A → A → Type 0) (strict : (x y : A) → R x y → R y x → ⊥) where
  pub ascending_unique : (zs ws : List A) → Pairwise R zs → Pairwise R ws → All (λ x. Memᴰ x ws) zs → All (λ x. Memᴰ x zs) ws → zs ≡ ws
  ascending_unique [] [] p q f g = refl
  ascending_unique [] (w ∷ ws) p q f g = absurd (Memᴰ.not-nil (g w here))
  ascending_unique (z ∷ zs) [] p q f g = absurd (Memᴰ.not-nil (f z here))
  ascending_unique (z ∷ zs) (w ∷ ws) p q f g = go (Memᴰ.cases_cons (f z here)) (Memᴰ.cases_cons (g w here)) (ascending_unique zs ws p.1 q.1)
    where
      twice : (x : A) → R x x → ⊥
      twice x r = strict x x r r

      same : z ≡ w → (All (λ x. Memᴰ x ws) zs → All (λ x. Memᴰ x zs) ws → zs ≡ ws) → (z ∷ zs) ≡ (w ∷ ws)
      same e ih = ap₂ (λ (a : A) (b : List A). a ∷ b) e (ih
          (λ x m. ⊎_elim (λ d. absurd (twice x (subst (λ (a : A). R a x) (e ∙ sym d) (p.0 x m)))) (λ n. n) (Memᴰ.cases_cons (f x (Memᴰ.tail m))))
          (λ x m. ⊎_elim (λ d. absurd (twice x (subst (λ (a : A). R a x) (sym (d ∙ e)) (q.0 x m)))) (λ n. n) (Memᴰ.cases_cons (g x (Memᴰ.tail m)))))

      go : (z ≡ w) ⊎ Memᴰ z ws → (w ≡ z) ⊎ Memᴰ w zs → (All (λ x. Memᴰ x ws) zs → All (λ x. Memᴰ x zs) ws → zs ≡ ws) → (z ∷ zs) ≡ (w ∷ ws)
      go (inl e) _ ih = same e ih
      go (inr m) (inl e) ih = same (sym e) ih
      go (inr m) (inr n) ih = absurd (strict z w (p.0 w n) (q.0 z m))

order_strict : (a b : Entry) → order a b ≡ less → order b a ≡ less → ⊥
order_strict a b p q = let z : ◌≡◌ {A = ℕ} 0 1 = cc (entries.flips (a.key, a.number) (b.key, b.number)) in omega arith

module _ (xs ys : List ℕ) (s : Sound xs) (t : Sound ys) (bx : Bytes xs) (by : Bytes ys) (same_length : length xs ≡ length ys) (same_count : count xs ≡ count ys)
    (same_height : (i : ℕ) → 1 ≤ i → i ≤ count xs → height_of xs i ≡ height_of ys i) (same_entry : (i : ℕ) → 1 ≤ i → i ≤ count xs → entry_of xs i ≡ entry_of ys i) where
  same_place : (i : ℕ) → i ≤ count xs → place_of xs (suc i) ≡ place_of ys (suc i)
  same_place zero h = s.begins ∙ sym t.begins
  same_place (suc i) h =
      let d : slot xs (suc i) ≡ slot ys (suc i) = sym (place_slot xs (suc i) h) ∙ same_place i (omega arith) ∙ place_slot ys (suc i) (rw (← same_count) h) in
      s.follows (suc i) (omega arith) h ∙ rw (d, same_height (suc i) (omega arith) h, same_entry (suc i) (omega arith) h) (sym (t.follows (suc i) (omega arith) (rw (← same_count) h)))

  same_slot : (i : ℕ) → 1 ≤ i → i ≤ count xs → slot xs i ≡ slot ys i
  same_slot zero p h = absurd (omega arith)
  same_slot (suc i) p h = sym (place_slot xs (suc i) h) ∙ same_place i (omega arith) ∙ place_slot ys (suc i) (rw (← same_count) h)

  same_free : free xs ≡ free ys
  same_free = sym (place_free xs) ∙ same_place (count xs) (omega arith) ∙ rw same_count (place_free ys)

  same_sequence : lowest xs ≡ lowest ys
  same_sequence = ascending_unique (λ x y. order (entry_of xs x) (entry_of xs y) ≡ less) (λ x y. order_strict (entry_of xs x) (entry_of xs y)) (lowest xs) (lowest ys) s.ascending
      (pairwise_ext (entry_of ys) (entry_of xs) (lowest ys) (λ x m. let b = t.within x m in same_entry x b.0 (omega (arith, b.1))) t.ascending)
      (λ x m. let b = s.within x m in everywhere ys t x b.0 (omega (arith, b.1)))
      (λ x m. let b = t.within x m in everywhere xs s x b.0 (omega (arith, b.1)))

  same_heights : All (λ x. height_of ys x ≡ height_of xs x) (lowest xs)
  same_heights x m = let b = s.within x m in sym (same_height x b.0 b.1)

  linked_ys : Linked levels (height_of xs) (link_of ys) (lowest xs)
  linked_ys = linked_ext levels (height_of ys) (height_of xs) (link_of ys) (link_of ys) (lowest xs) same_heights (λ l p. refl) (λ l p x m q. refl) (rw same_sequence (linked ys t))

  same_head : (l : ℕ) → l < levels → link_of xs 0 l ≡ link_of ys 0 l
  same_head l p = linked_head_unique levels (height_of xs) (link_of xs) (link_of ys) (lowest xs) (linked xs s) linked_ys l p

  same_link : (i l : ℕ) → 1 ≤ i → i ≤ count xs → l < height_of xs i → link_of xs i l ≡ link_of ys i l
  same_link i l p r q = linked_unique levels (height_of xs) (link_of xs) (link_of ys) (lowest xs) (linked xs s) linked_ys l (omega (arith, (s.reads i p r).height_most)) i (everywhere xs s i p r) q

  -- ---- byte by byte

  in_header : (q : ℕ) → q < 64 → get_or xs q 0 ≡ get_or ys q 0
  unfolding link_of
  in_header q h = go (dec_lt q 4) (dec_lt q 8) (dec_lt q 12) (dec_lt q 16)
    where
      go : Dec (q < 4) → Dec (q < 8) → Dec (q < 12) → Dec (q < 16) → get_or xs q 0 ≡ get_or ys q 0
      go (yes a) _ _ _ = word_unique xs ys 0 bx by (s.header.total ∙ same_length ∙ sym t.header.total) q (omega arith) (omega arith)
      go (no z) (yes a) _ _ = word_unique xs ys 4 bx by same_count q (omega arith) (omega arith)
      go (no z) (no y) (yes a) _ = word_unique xs ys 8 bx by same_free q (omega arith) (omega arith)
      go (no z) (no y) (no x) (yes a) = word_unique xs ys 12 bx by (s.header.leveled ∙ sym t.header.leveled) q (omega arith) (omega arith)
      go (no z) (no y) (no x) (no w) = word_unique xs ys (16 + 4 * ((q - 16) / 4)) bx by (same_head ((q - 16) / 4) (omega arith)) q (omega arith) (omega arith)

  in_slots : (q : ℕ) → length xs - 4 * count xs ≤ q → q < length xs → get_or xs q 0 ≡ get_or ys q 0
  in_slots q a b =
      word_unique xs ys (slot_place xs ((length xs - 1 - q) / 4 + 1)) bx by
      (same_slot ((length xs - 1 - q) / 4 + 1) (omega arith) (omega (arith, s.header.high)) ∙ rw same_length) q (omega (arith, s.header.high))
      (omega (arith, s.header.high))

  in_node : (i q : ℕ) → 1 ≤ i → i ≤ count xs → slot xs i ≤ q → q < slot xs i + size_at xs i → get_or xs q 0 ≡ get_or ys q 0
  unfolding link_of
  in_node i q p r a b = go (dec_lt q (slot xs i + 4)) (dec_lt q (slot xs i + 8)) (dec_lt q (entry_place (slot xs i) (height_of xs i)))
    where
      node_ys : NodeHere ys (free ys) (slot xs i) (height_of xs i) (entry_of xs i)
      node_ys = rw (same_slot i p r, same_height i p r, same_entry i p r) (t.reads i p (omega arith))

      here_link : (l : ℕ) → l < height_of xs i → word xs (slot xs i + 8 + 4 * l) ≡ word ys (slot xs i + 8 + 4 * l)
      here_link l k =
          ap (λ (a : ℕ). word xs (a + 4 * l)) (sym (links_node xs i p)) ∙ same_link i l p r k ∙ ap (λ (a : ℕ). word ys (a + 4 * l)) (links_node ys i p ∙ ap (λ (a : ℕ). a + 8) (sym (same_slot i p r)))

      go : Dec (q < slot xs i + 4) → Dec (q < slot xs i + 8) → Dec (q < entry_place (slot xs i) (height_of xs i)) → get_or xs q 0 ≡ get_or ys q 0
      go (yes c) _ _ = word_unique xs ys (slot xs i) bx by ((s.reads i p r).height_here ∙ sym node_ys.height_here) q a c
      go (no z) (yes c) _ = word_unique xs ys (slot xs i + 4) bx by ((s.reads i p r).length_here ∙ sym node_ys.length_here) q (omega arith) (omega arith)
      go (no z) (no y) (yes c) = word_unique xs ys (slot xs i + 8 + 4 * ((q - (slot xs i + 8)) / 4)) bx by (here_link ((q - (slot xs i + 8)) / 4) (omega arith)) q (omega arith) (omega arith)
      go (no z) (no y) (no x) = holds_both xs ys (entry_place (slot xs i) (height_of xs i)) (encode (entry_of xs i)) (s.reads i p r).entry_here node_ys.entry_here q (omega arith) (omega arith)

  -- a byte between the header and the free part is in a node
  node_of : (k q : ℕ) → k ≤ count xs → 64 ≤ q → q < place_of xs (suc k) → (i : ℕ) × (1 ≤ i) × (i ≤ count xs) × (slot xs i ≤ q) × (q < slot xs i + size_at xs i)
  node_of zero q h a b = absurd (omega (arith, s.begins))
  node_of (suc k) q h a b = go (dec_lt q (place_of xs (suc k))) (node_of k q (omega arith) a)
    where
      go : Dec (q < place_of xs (suc k)) → (q < place_of xs (suc k) → (i : ℕ) × (1 ≤ i) × (i ≤ count xs) × (slot xs i ≤ q) × (q < slot xs i + size_at xs i))
          → (i : ℕ) × (1 ≤ i) × (i ≤ count xs) × (slot xs i ≤ q) × (q < slot xs i + size_at xs i)
      go (yes c) ih = ih c
      go (no n) ih = (suc k, omega arith, h, omega (arith, place_slot xs (suc k) h), omega (arith, s.follows (suc k) (omega arith) h))

  -- all bytes but those of the free part
  pub sound_unique : (q : ℕ) → q < length xs → (free xs ≤ q → q < length xs - 4 * count xs → ⊥) → get_or xs q 0 ≡ get_or ys q 0
  sound_unique q b n = go (dec_lt q 64) (dec_lt q (free xs)) (dec_lt q (length xs - 4 * count xs))
    where
      go : Dec (q < 64) → Dec (q < free xs) → Dec (q < length xs - 4 * count xs) → get_or xs q 0 ≡ get_or ys q 0
      go (yes a) _ _ = in_header q a
      go (no z) (yes a) _ = let (i, p, r, c, d) = node_of (count xs) q (omega arith) (omega arith) (rw (place_free xs) a) in in_node i q p r c d
      go (no z) (no y) (yes a) = absurd (n (omega arith) a)
      go (no z) (no y) (no x) = in_slots q (omega arith) b

-- so the outcome of an addition is the one sound image, of the same length, whose old nodes keep height and entry and whose last node is the new one
pub addition_unique : (xs : List ℕ) (e : Entry) (h : ℕ) (ys zs : List ℕ) → Added xs e h ys → Sound zs → Bytes ys → Bytes zs → length zs ≡ length xs → count zs ≡ suc (count xs)
    → ((i : ℕ) → 1 ≤ i → i ≤ count xs → height_of zs i ≡ height_of xs i) → ((i : ℕ) → 1 ≤ i → i ≤ count xs → entry_of zs i ≡ entry_of xs i) → height_of zs
    (suc (count xs)) ≡ h → entry_of zs (suc (count xs)) ≡ e
    → (q : ℕ) → q < length ys → (free ys ≤ q → q < length ys - 4 * count ys → ⊥) → get_or ys q 0 ≡ get_or zs q 0
addition_unique xs e h ys zs a t by bz len one hs es h1 e1 = sound_unique ys zs a.sound t by bz (a.length_same ∙ sym len) (a.one_more ∙ sym one)
    (λ i p r. height i p (ℕ_discrete i (suc (count xs))) r) (λ i p r. entry i p (ℕ_discrete i (suc (count xs))) r)
  where
    height : (i : ℕ) → 1 ≤ i → Dec (i ≡ suc (count xs)) → i ≤ count ys → height_of ys i ≡ height_of zs i
    height i p (yes z) r = rw z (a.height_new ∙ sym h1)
    height i p (no z) r = let b : i ≤ count xs = omega (arith, a.one_more) in a.heights_kept i p b ∙ sym (hs i p b)

    entry : (i : ℕ) → 1 ≤ i → Dec (i ≡ suc (count xs)) → i ≤ count ys → entry_of ys i ≡ entry_of zs i
    entry i p (yes z) r = rw z (a.entry_new ∙ sym e1)
    entry i p (no z) r = let b : i ≤ count xs = omega (arith, a.one_more) in a.entries_kept i p b ∙ sym (es i p b)
