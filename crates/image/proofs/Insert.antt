-- A node put into a skip list; and the links are what the list and the heights say.
use Prim.Native.Nat.{ℕ, suc, ◌<◌}
use native.Mathlib.Omega.{arith}
use mathlib.Core.Path.{◌≡◌, refl, sym, ap, ◌∙◌}
use mathlib.Core.Logic.{◌≢◌}
use mathlib.Core.List.Memᴰ
use mathlib.Core.List.{List, [], ◌∷◌, ◌++◌, Memᴰ}
use mathlib.Core.Bool.{Bool, true, false}
use lib.ListN.{length, length-append}
use lib.Dec.{ltb, eqb}
use borrow.Author.Tests.{ltb-true, ltb-false}
use Rattle.rule.specs.Lists.{cond, All}
use Rattle.rule.proofs.Lists.{Distinct, here, all_cons, all_tail, all_right, mem_split}
use Rattle.image.specs.Chains.{chain, tall, Chained}
use Rattle.image.proofs.Chains.{first, last, last_mem, chain_first, chain_after, chain_ext, next_tall, tall_append, tall_keep, tall_skip, tall_mem}
use Rattle.image.proofs.Chains.{tall_all, tall_ext, Linked, chained_linked, linked_chained}

-- two chains from one node are one
pub chain_unique : (f : ℕ → ℕ) (x : ℕ) (ys zs : List ℕ) → All (λ y. y ≢ 0) ys → All (λ z. z ≢ 0) zs → chain f x ys → chain f x zs → ys ≡ zs
chain_unique f x [] [] h k c d = refl
chain_unique f x [] (z ∷ zs) h k c d = absurd (k z here (sym d.0 ∙ c))
chain_unique f x (y ∷ ys) [] h k c d = absurd (h y here (sym c.0 ∙ d))
chain_unique f x (y ∷ ys) (z ∷ zs) h k c d = rw (e, chain_unique f (f z) ys zs (all_tail h) (all_tail k) (rw e at c.1) d.1)
  where
    e : y ≡ z
    e = sym c.0 ∙ d.0

-- so no node is twice on a chain
pub chain_distinct : (f : ℕ → ℕ) (x : ℕ) (ys : List ℕ) → All (λ y. y ≢ 0) ys → chain f x ys → Distinct ys
chain_distinct f x [] h c = tt
chain_distinct f x (y ∷ ys) h c = (λ m. twice (mem_split m), chain_distinct f (f y) ys (all_tail h) c.1)
  where
    twice : (a : List ℕ) × (b : List ℕ) × (ys ≡ a ++ (y ∷ b)) → ⊥
    twice (a, b, e) = omega (arith, ap length e, length-append a (y ∷ b), ap length same)
      where
        same : ys ≡ b
        same = chain_unique f (f y) ys b (all_tail h) (all_tail (all_right a (y ∷ b) (rw e at (all_tail h)))) c.1 (chain_after f (f y) a y b (rw e at c.1))

-- the link of the last of a part leads to the first of the rest
pub chain_last : (f : ℕ → ℕ) (c : ℕ) (ys zs : List ℕ) → chain f (f c) (ys ++ zs) → f (last c ys) ≡ first zs
chain_last f c [] zs h = chain_first f (f c) zs h
chain_last f c (y ∷ ys) zs h = chain_last f y ys zs h.1

-- the predecessor of a place leads, at each level, to the next node of that level after the place
pub linked_last : (top : ℕ) (height : ℕ → ℕ) (link : ℕ → ℕ → ℕ) (pre post : List ℕ) → Linked top height link (pre ++ post) → (l : ℕ) → l < top
    → link (last 0 (tall height l pre)) l ≡ next_tall height l post
linked_last top height link pre post k l h =
    chain_last (λ i. link i l) 0 (tall height l pre) (tall height l post) (rw (← tall_append height l pre post) (linked_chained top height link (pre ++ post) k l h))

-- so a linked list has no node twice
pub linked_distinct : (t : ℕ) (height : ℕ → ℕ) (link : ℕ → ℕ → ℕ) (xs : List ℕ) → All (λ x. x ≢ 0) xs → All (λ x. 0 < height x) xs → Linked (suc t) height link xs → Distinct xs
linked_distinct t height link xs nz high k = chain_distinct (λ i. link i 0) (link 0 0) xs nz (rw (tall_all height 0 xs high) at (linked_chained (suc t) height link xs k 0 (omega arith)))

-- a node m put between ys and zs, where g differs from f only at m and at the last of ys
insert_chain : (f g : ℕ → ℕ) (m c : ℕ) (ys zs : List ℕ) → Distinct (c ∷ (ys ++ zs)) → g m ≡ first zs → g (last c ys) ≡ m → All (λ i. i ≢ last c ys → g i ≡ f i) (c ∷ (ys ++ zs))
    → chain f (f c) (ys ++ zs) → chain g (g c) (ys ++ (m ∷ zs))
insert_chain f g m c [] zs d p q k h = (q, rw (p, ← chain_first f (f c) zs h) (chain_ext f g (f c) zs (λ i n. sym (k i (Memᴰ.tail n) (λ e. d.0 (Memᴰ.cast (sym e) n)))) h))
insert_chain f g m c (y ∷ ys) zs d p q k h = (k c here (λ e. d.0 (Memᴰ.cast e (Memᴰ.append_left zs (last_mem y ys)))) ∙ h.0, insert_chain f g m y ys zs d.1 p q (all_tail k) h.1)

-- link' is link with m put in, between pre and post, at each level that m has; what a node holds above its height does not count
pub record Inserted (top : ℕ) (height : ℕ → ℕ) (link link' : ℕ → ℕ → ℕ) (m : ℕ) (pre post : List ℕ) : Type 0 where
  pub fresh : (l : ℕ) → l < top → l < height m → link' m l ≡ next_tall height l post
  pub joined : (l : ℕ) → l < top → l < height m → link' (last 0 (tall height l pre)) l ≡ m
  pub head_kept : (l : ℕ) → l < top → (l < height m → 0 ≢ last 0 (tall height l pre)) → link' 0 l ≡ link 0 l
  pub kept : (l : ℕ) → l < top → (i : ℕ) → Memᴰ i (pre ++ post) → l < height i → (l < height m → i ≢ last 0 (tall height l pre)) → link' i l ≡ link i l

module _ (top : ℕ) (height : ℕ → ℕ) (link link' : ℕ → ℕ → ℕ) (m : ℕ) (pre post : List ℕ) where
  pub insert_linked : Linked top height link (pre ++ post) → All (λ x. x ≢ 0) (pre ++ post) → Inserted top height link link' m pre post → Linked top height link' (pre ++ (m ∷ post))
  insert_linked k nz i = chained_linked top height link' (pre ++ (m ∷ post)) level
    where
      level : Chained top height link' (pre ++ (m ∷ post))
      level l h = go (ltb l (height m)) refl
        where
          f : ℕ → ℕ
          f x = link x l

          g : ℕ → ℕ
          g x = link' x l

          ys : List ℕ
          ys = tall height l pre

          zs : List ℕ
          zs = tall height l post

          old : chain f (f 0) (ys ++ zs)
          old = rw (← tall_append height l pre post) (linked_chained top height link (pre ++ post) k l h)

          here_too : All (λ x. Memᴰ x (pre ++ post) × (l < height x)) (ys ++ zs)
          here_too = rw (← tall_append height l pre post) (tall_mem height l (pre ++ post))

          nonzero : All (λ x. x ≢ 0) (ys ++ zs)
          nonzero x n = nz x (here_too x n).0

          same : All (λ x. (l < height m → x ≢ last 0 ys) → g x ≡ f x) (0 ∷ (ys ++ zs))
          same = all_cons (i.head_kept l h) (λ x n. let (o, q) = here_too x n in i.kept l h x o q)

          go : (b : Bool) → ltb l (height m) ≡ b → chain g (g 0) (tall height l (pre ++ (m ∷ post)))
          go true e = let lt = ltb-true l (height m) e in rw (tall_append height l pre (m ∷ post), tall_keep height l m post lt)
              (insert_chain f g m 0 ys zs (λ n. nonzero 0 n refl, chain_distinct f (f 0) (ys ++ zs) nonzero old) (i.fresh l h lt) (i.joined l h lt) (λ x n q. same x n (λ _. q)) old)
          go false e = rw (tall_append height l pre (m ∷ post), tall_skip height l m post (ltb-false l (height m) e), same 0 here low)
              (chain_ext f g (f 0) (ys ++ zs) (λ x n. sym (same x (Memᴰ.tail n) low)) old)
            where
              low : {A : Type 0} → l < height m → A
              low q = absurd (omega (arith, ltb-false l (height m) e))

-- the links after an insertion, written out
module _ (height : ℕ → ℕ) (link : ℕ → ℕ → ℕ) (m : ℕ) (pre post : List ℕ) where
  abbrev pub inserted : ℕ → ℕ → ℕ
  inserted i l = cond (ltb l (height m)) (cond (eqb i m) (next_tall height l post) (cond (eqb i (last 0 (tall height l pre))) m (link i l))) (link i l)

-- the links of a list depend only on the heights of its members, and the list only on their links
pub linked_ext : (top : ℕ) (g h : ℕ → ℕ) (f k : ℕ → ℕ → ℕ) (xs : List ℕ) → All (λ x. g x ≡ h x) xs → ((l : ℕ) → l < top → f 0 l ≡ k 0 l) → ((l : ℕ) → l < top → All (λ x. l < g x → f x l ≡ k x l) xs)
    → Linked top g f xs → Linked top h k xs
linked_ext top g h f k xs same heads links linked = record {
  start = λ l p. sym (heads l p) ∙ linked.start l p ∙ ap first (tall_ext g h l xs same);
  step = λ l p a x b e q. let all : All (λ x. g x ≡ h x) (a ++ (x ∷ b)) = rw e at same in let n : Memᴰ x xs = rw e (Memᴰ.append_right a here) in let r : l < g x = rw (same x n) q in
      sym (links l p x n r) ∙ linked.step l p a x b e r ∙ ap first (tall_ext g h l b (all_tail (all_right a (x ∷ b) all)));
}

-- two sets of links of one list agree wherever they count
pub linked_head_unique : (top : ℕ) (height : ℕ → ℕ) (f g : ℕ → ℕ → ℕ) (xs : List ℕ) → Linked top height f xs → Linked top height g xs → (l : ℕ) → l < top → f 0 l ≡ g 0 l
linked_head_unique top height f g xs p q l h = p.start l h ∙ sym (q.start l h)

pub linked_unique : (top : ℕ) (height : ℕ → ℕ) (f g : ℕ → ℕ → ℕ) (xs : List ℕ) → Linked top height f xs → Linked top height g xs → (l : ℕ) → l < top → (x : ℕ)
    → Memᴰ x xs → l < height x → f x l ≡ g x l
linked_unique top height f g xs p q l h x m k = let (a, b, e) = mem_split m in p.step l h a x b e k ∙ sym (q.step l h a x b e k)
