-- Laws of chains: the members tall enough for a level, and links that lead from each to the next.
use Prim.Native.Nat.{ℕ, ◌<◌, ◌≤◌}
use mathlib.Core.Path.{◌≡◌, refl, sym, ap, ◌∙◌}
use mathlib.Core.Logic.{◌⊎◌, inl, inr}
use mathlib.Core.List.Memᴰ
use mathlib.Core.List.{List, [], ◌∷◌, ◌++◌, append_assoc, Memᴰ}
use mathlib.Core.Bool.{Bool, true, false}
use lib.Dec.{ltb}
use borrow.Author.Tests.{ltb-true, ltb-false, lt-ltb, le-ltb}
use Rattle.rule.specs.Lists.{cond, All}
use Rattle.rule.proofs.Lists.{here, all_nil, all_cons, all_tail, mem_split}
use Rattle.image.specs.Chains.{chain, tall, Chained}

-- the first of a list, or none, which is 0
abbrev pub first : List ℕ → ℕ
first [] = 0
first (x ∷ xs) = x

-- the last of a list, or d
abbrev pub last : ℕ → List ℕ → ℕ
last d [] = d
last d (x ∷ xs) = last x xs

pub last_middle : (d : ℕ) (a : List ℕ) (x : ℕ) (b : List ℕ) → last d (a ++ (x ∷ b)) ≡ last x b
last_middle d [] x b = refl
last_middle d (y ∷ a) x b = last_middle y a x b

pub last_mem : (d : ℕ) (a : List ℕ) → Memᴰ (last d a) (d ∷ a)
last_mem d [] = Memᴰ.head refl
last_mem d (x ∷ a) = Memᴰ.tail (last_mem x a)

pub chain_first : (f : ℕ → ℕ) (x : ℕ) (ys : List ℕ) → chain f x ys → x ≡ first ys
chain_first f x [] c = c
chain_first f x (y ∷ ys) c = c.0

pub chain_after : (f : ℕ → ℕ) (x : ℕ) (a : List ℕ) (y : ℕ) (b : List ℕ) → chain f x (a ++ (y ∷ b)) → chain f (f y) b
chain_after f x [] y b c = c.1
chain_after f x (z ∷ a) y b c = chain_after f (f z) a y b c.1

-- a chain depends only on the links of its members
pub chain_ext : (f g : ℕ → ℕ) (x : ℕ) (ys : List ℕ) → All (λ y. f y ≡ g y) ys → chain f x ys → chain g x ys
chain_ext f g x [] h c = c
chain_ext f g x (y ∷ ys) h c = (c.0, rw (← h y (Memᴰ.head refl)) (chain_ext f g (f y) ys (λ z m. h z (Memᴰ.tail m)) c.1))

module _ (height : ℕ → ℕ) where
  -- the first member tall enough for level l
  abbrev pub next_tall : ℕ → List ℕ → ℕ
  next_tall l xs = first (tall height l xs)

  pub tall_keep : (l x : ℕ) (xs : List ℕ) → l < height x → tall height l (x ∷ xs) ≡ x ∷ tall height l xs
  tall_keep l x xs h = rw (lt-ltb l (height x) h)

  pub tall_skip : (l x : ℕ) (xs : List ℕ) → height x ≤ l → tall height l (x ∷ xs) ≡ tall height l xs
  tall_skip l x xs h = rw (le-ltb l (height x) h)

  pub tall_append : (l : ℕ) (xs ys : List ℕ) → tall height l (xs ++ ys) ≡ tall height l xs ++ tall height l ys
  tall_append l [] ys = refl
  tall_append l (x ∷ xs) ys = go (ltb l (height x)) (tall_append l xs ys)
    where
      go : (b : Bool) → tall height l (xs ++ ys) ≡ tall height l xs ++ tall height l ys
          → cond b (x ∷ tall height l (xs ++ ys)) (tall height l (xs ++ ys)) ≡ cond b (x ∷ tall height l xs) (tall height l xs) ++ tall height l ys
      go true e = ap (λ (r : List ℕ). x ∷ r) e
      go false e = e

  -- if every member has level l, none is left out
  pub tall_all : (l : ℕ) (xs : List ℕ) → All (λ x. l < height x) xs → tall height l xs ≡ xs
  tall_all l [] h = refl
  tall_all l (x ∷ xs) h = tall_keep l x xs (h x (Memᴰ.head refl)) ∙ ap (λ (r : List ℕ). x ∷ r) (tall_all l xs (λ y m. h y (Memᴰ.tail m)))

  -- the members of tall are members, and have the level
  pub tall_mem : (l : ℕ) (xs : List ℕ) → All (λ x. Memᴰ x xs × (l < height x)) (tall height l xs)
  tall_mem l [] = all_nil _
  tall_mem l (y ∷ ys) = go (ltb l (height y)) refl (λ x m. let t = tall_mem l ys x m in (Memᴰ.tail t.0, t.1))
    where
      go : (b : Bool) → ltb l (height y) ≡ b → All (λ x. Memᴰ x (y ∷ ys) × (l < height x)) (tall height l ys)
          → All (λ x. Memᴰ x (y ∷ ys) × (l < height x)) (cond b (y ∷ tall height l ys) (tall height l ys))
      go true e h = all_cons (here, ltb-true l (height y) e) h
      go false e h = h

  -- the first member with the level, if there is one
  pub tall_split : (l : ℕ) (xs : List ℕ) → (tall height l xs ≡ []) ⊎ ((a : List ℕ) × (x : ℕ) × (b : List ℕ) × (xs ≡ a ++ (x ∷ b)) × (tall height l a ≡ []) × (l < height x))
  tall_split l [] = inl refl
  tall_split l (y ∷ ys) = go (ltb l (height y)) refl (tall_split l ys)
    where
      go : (b : Bool) → ltb l (height y) ≡ b → (tall height l ys ≡ []) ⊎ ((a : List ℕ) × (x : ℕ) × (b : List ℕ) × (ys ≡ a ++ (x ∷ b)) × (tall height l a ≡ []) × (l < height x))
          → (tall height l (y ∷ ys) ≡ []) ⊎ ((a : List ℕ) × (x : ℕ) × (b : List ℕ) × ((y ∷ ys) ≡ a ++ (x ∷ b)) × (tall height l a ≡ []) × (l < height x))
      go true e r = inr ([], y, ys, refl, refl, ltb-true l (height y) e)
      go false e (inl r) = inl (tall_skip l y ys (ltb-false l (height y) e) ∙ r)
      go false e (inr (a, x, b, p, q, h)) = inr (y ∷ a, x, b, ap (λ (r : List ℕ). y ∷ r) p, tall_skip l y a (ltb-false l (height y) e) ∙ q, h)

  -- the next of a level is none or a member that has the level
  pub next_tall_mem : (l : ℕ) (xs : List ℕ) → (next_tall l xs ≡ 0) ⊎ (Memᴰ (next_tall l xs) xs × (l < height (next_tall l xs)))
  next_tall_mem l xs = go (tall height l xs) (tall_mem l xs)
    where
      go : (ys : List ℕ) → All (λ x. Memᴰ x xs × (l < height x)) ys → (first ys ≡ 0) ⊎ (Memᴰ (first ys) xs × (l < height (first ys)))
      go [] h = inl refl
      go (y ∷ ys) h = inr (h y here)

-- heights count only at the members
pub tall_ext : (g h : ℕ → ℕ) (l : ℕ) (xs : List ℕ) → All (λ x. g x ≡ h x) xs → tall g l xs ≡ tall h l xs
tall_ext g h l [] e = refl
tall_ext g h l (x ∷ xs) e = rw (e x here, tall_ext g h l xs (all_tail e))

-- top: how many levels there are; the head, node 0, has a link at each
module _ (top : ℕ) (height : ℕ → ℕ) (link : ℕ → ℕ → ℕ) where
  -- each link leads to the next member that has its level
  pub record Linked (xs : List ℕ) : Type 0 where
    pub start : (l : ℕ) → l < top → link 0 l ≡ next_tall height l xs
    pub step : (l : ℕ) → l < top → (a : List ℕ) (x : ℕ) (b : List ℕ) → xs ≡ a ++ (x ∷ b) → l < height x → link x l ≡ next_tall height l b

  pub chained_linked : (xs : List ℕ) → Chained top height link xs → Linked xs
  chained_linked xs c = record {
    start = λ l h. chain_first (λ i. link i l) (link 0 l) (tall height l xs) (c l h);
    step =
        λ l h a x b e k. chain_first (λ i. link i l) (link x l) (tall height l b)
        (chain_after (λ i. link i l) (link 0 l) (tall height l a) x (tall height l b) (rw (e, tall_append height l a (x ∷ b), tall_keep height l x b k) at (c l h)));
  }

  suffix_chain : (xs : List ℕ) → Linked xs → (l : ℕ) → l < top → (a b : List ℕ) → xs ≡ a ++ b → (v : ℕ) → v ≡ next_tall height l b → chain (λ i. link i l) v (tall height l b)
  suffix_chain xs k l h a [] e v f = f
  suffix_chain xs k l h a (x ∷ b) e v f = go (ltb l (height x)) refl (suffix_chain xs k l h (a ++ (x ∷ [])) b (e ∙ sym (append_assoc a (x ∷ []) b)))
    where
      go : (t : Bool) → ltb l (height x) ≡ t → ((w : ℕ) → w ≡ next_tall height l b → chain (λ i. link i l) w (tall height l b)) → chain (λ i. link i l) v (tall height l (x ∷ b))
      go true p rest = rw p (rw p at f, rest (link x l) (k.step l h a x b e (ltb-true l (height x) p)))
      go false p rest = rw p (rest v (rw p at f))

  pub linked_chained : (xs : List ℕ) → Linked xs → Chained top height link xs
  linked_chained xs k l h = suffix_chain xs k l h [] xs refl (link 0 l) (k.start l h)

  -- a link leads from the head or a member to none or a member, of the same level
  pub link_lands : (xs : List ℕ) → Linked xs → (l : ℕ) → l < top → (x : ℕ) → (x ≡ 0) ⊎ (Memᴰ x xs × (l < height x)) → (link x l ≡ 0) ⊎ (Memᴰ (link x l) xs × (l < height (link x l)))
  link_lands xs k l h x (inl e) = rw (e, k.start l h) (next_tall_mem height l xs)
  link_lands xs k l h x (inr (m, p)) = let (a, b, e) = mem_split m in rw (k.step l h a x b e p) (within a b e (next_tall_mem height l b))
    where
      within : (a b : List ℕ) → xs ≡ a ++ (x ∷ b) → {y : ℕ} → (y ≡ 0) ⊎ (Memᴰ y b × (l < height y)) → (y ≡ 0) ⊎ (Memᴰ y xs × (l < height y))
      within a b e (inl z) = inl z
      within a b e (inr (n, q)) = inr (rw e (Memᴰ.append_right a (Memᴰ.tail n)), q)
