-- Laws of lists: what holds of all members and between every two, where a member stands, and lists with no member twice.
use Prim.Native.Nat.{ℕ, zero, suc, ◌≤◌}
use native.Mathlib.Omega.{arith}
use native.Mathlib.Decide.{ℕ_discrete}
use mathlib.Core.Path.{◌≡◌, refl, sym, ap, subst, ◌∙◌}
use mathlib.Core.Logic.{◌⊎◌, inl, inr, ⊎_elim}
use mathlib.Core.List.Memᴰ
use mathlib.Core.List.{List, [], ◌∷◌, ◌++◌, map, Memᴰ}
use mathlib.Core.Bool.{Bool, true, false, true≢false}
use lib.ListN.{length, length-append}
use Rattle.rule.specs.Lists.{cond, both, keep, All, Pairwise}

-- two tests that hold together hold each
pub both_true : (a b : Bool) → both a b ≡ true → (a ≡ true) × (b ≡ true)
both_true true b e = (refl, e)
both_true false b e = (e, cc)

module _ {ℓ} {A : Type ℓ} where
  -- no member stands twice
  abbrev pub Distinct : List A → Type ℓ
  Distinct [] = Unit
  Distinct (x ∷ xs) = (Memᴰ x xs → ⊥) × Distinct xs

  pub here : {x : A} {xs : List A} → Memᴰ x (x ∷ xs)
  here = Memᴰ.head refl

  pub all_nil {κ} : (P : A → Type κ) → All P []
  all_nil P x m = absurd (Memᴰ.not-nil m)

  pub all_cons {κ} : {P : A → Type κ} {x : A} {xs : List A} → P x → All P xs → All P (x ∷ xs)
  all_cons {P = P} p h y m = ⊎_elim (λ e. subst P (sym e) p) (h y) (Memᴰ.cases_cons m)

  pub all_tail {κ} : {P : A → Type κ} {x : A} {xs : List A} → All P (x ∷ xs) → All P xs
  all_tail h y m = h y (Memᴰ.tail m)

  pub all_left {κ} : {P : A → Type κ} (xs ys : List A) → All P (xs ++ ys) → All P xs
  all_left xs ys h y m = h y (Memᴰ.append_left ys m)

  pub all_right {κ} : {P : A → Type κ} (xs ys : List A) → All P (xs ++ ys) → All P ys
  all_right xs ys h y m = h y (Memᴰ.append_right xs m)

  pub all_append {κ} : {P : A → Type κ} (xs ys : List A) → All P xs → All P ys → All P (xs ++ ys)
  all_append xs ys h k y m = ⊎_elim (h y) (k y) (Memᴰ.append_cases xs m)

  pub pairwise_right {κ} : (R : A → A → Type κ) (xs ys : List A) → Pairwise R (xs ++ ys) → Pairwise R ys
  pairwise_right R [] ys p = p
  pairwise_right R (x ∷ xs) ys p = pairwise_right R xs ys p.1

  pub pairwise_middle {κ} : (R : A → A → Type κ) (xs : List A) (x : A) (ys : List A) → Pairwise R (xs ++ (x ∷ ys)) → All (λ y. R y x) xs × All (R x) ys
  pairwise_middle R [] x ys p = (all_nil _, p.0)
  pairwise_middle R (y ∷ xs) x ys p = let (h, k) = pairwise_middle R xs x ys p.1 in (all_cons (p.0 x (Memᴰ.append_right xs here)) h, k)

  pub pairwise_map {κ μ} : (R : A → A → Type κ) (S : A → A → Type μ) (xs : List A) → ((x y : A) → R x y → S x y) → Pairwise R xs → Pairwise S xs
  pairwise_map R S [] f p = tt
  pairwise_map R S (x ∷ xs) f p = (λ y m. f x y (p.0 y m), pairwise_map R S xs f p.1)

  -- one more member in the middle
  pub pairwise_insert {κ} : (R : A → A → Type κ) (xs : List A) (x : A) (ys : List A) → Pairwise R (xs ++ ys) → All (λ y. R y x) xs → All (R x) ys → Pairwise R (xs ++ (x ∷ ys))
  pairwise_insert R [] x ys p h k = (k, p)
  pairwise_insert R (y ∷ xs) x ys p h k = (all_append xs (x ∷ ys) (all_left xs ys p.0) (all_cons (h y here) (all_right xs ys p.0)), pairwise_insert R xs x ys p.1 (all_tail h) k)

  -- a test that no member passes after one that fails it parts the list in two
  pub part : (pass : A → Bool) (xs : List A) → Pairwise (λ x y. pass y ≡ true → pass x ≡ true) xs
      → (pre : List A) × (post : List A) × (xs ≡ pre ++ post) × All (λ x. pass x ≡ true) pre × All (λ x. pass x ≡ false) post
  part pass [] p = ([], [], refl, all_nil _, all_nil _)
  part pass (x ∷ xs) p = go (pass x) refl (part pass xs p.1)
    where
      failed : pass x ≡ false → (y : A) → (pass y ≡ true → pass x ≡ true) → (b : Bool) → pass y ≡ b → pass y ≡ false
      failed e y f true q = absurd (true≢false (sym (f q) ∙ e))
      failed e y f false q = q

      go : (b : Bool) → pass x ≡ b → (pre : List A) × (post : List A) × (xs ≡ pre ++ post) × All (λ x. pass x ≡ true) pre × All (λ x. pass x ≡ false) post
          → (pre : List A) × (post : List A) × ((x ∷ xs) ≡ pre ++ post) × All (λ x. pass x ≡ true) pre × All (λ x. pass x ≡ false) post
      go true e (pre, post, q, h, k) = (x ∷ pre, post, ap {B = List A} (λ r. x ∷ r) q, all_cons e h, k)
      go false e r = ([], x ∷ xs, refl, all_nil _, all_cons e (λ y m. failed e y (p.0 y m) (pass y) refl))

  -- where a member stands
  pub mem_split : {x : A} {xs : List A} → Memᴰ x xs → (a : List A) × (b : List A) × (xs ≡ a ++ (x ∷ b))
  mem_split (Memᴰ.head {xs = b} e) = ([], b, ap (λ (y : A). y ∷ b) (sym e))
  mem_split (Memᴰ.tail {x = y} m) = let t = mem_split m in (y ∷ t.0, t.1, ap {B = List A} (λ r. y ∷ r) t.2)

  pub mem_insert : {y : A} (a : List A) (x : A) (b : List A) → Memᴰ y (a ++ b) → Memᴰ y (a ++ (x ∷ b))
  mem_insert a x b m = ⊎_elim (Memᴰ.append_left (x ∷ b)) (λ n. Memᴰ.append_right a (Memᴰ.tail n)) (Memᴰ.append_cases a m)

  pub mem_without : {y : A} (a : List A) (x : A) (b : List A) → (y ≡ x → ⊥) → Memᴰ y (a ++ (x ∷ b)) → Memᴰ y (a ++ b)
  mem_without a x b n m = ⊎_elim (Memᴰ.append_left b) (λ o. ⊎_elim (λ e. absurd (n e)) (Memᴰ.append_right a) (Memᴰ.cases_cons o)) (Memᴰ.append_cases a m)

  -- without one member in the middle the list is distinct, and has that member no more
  pub distinct_drop : (a : List A) (x : A) (b : List A) → Distinct (a ++ (x ∷ b)) → Distinct (a ++ b) × All (λ y. y ≡ x → ⊥) (a ++ b)
  distinct_drop [] x b d = (d.1, λ y m e. d.0 (Memᴰ.cast (sym e) m))
  distinct_drop (y ∷ a) x b d = let t = distinct_drop a x b d.1 in ((λ m. d.0 (mem_insert a x b m), t.0), all_cons (λ e. d.0 (Memᴰ.append_right a (Memᴰ.head e))) t.1)

module _ {ℓ} {A : Type ℓ} (test : A → Bool) where
  -- what is kept is a member that passes the test, and such a member is kept
  pub mem_keep : (xs : List A) (x : A) → Memᴰ x (keep test xs) → Memᴰ x xs × (test x ≡ true)
  mem_keep [] x m = absurd (Memᴰ.not-nil m)
  mem_keep (y ∷ ys) x m = go (test y) refl m (mem_keep ys x)
    where
      later : Memᴰ x ys × (test x ≡ true) → Memᴰ x (y ∷ ys) × (test x ≡ true)
      later (n, t) = (Memᴰ.tail n, t)

      go : (b : Bool) → test y ≡ b → Memᴰ x (cond b (y ∷ keep test ys) (keep test ys)) → (Memᴰ x (keep test ys) → Memᴰ x ys × (test x ≡ true)) → Memᴰ x (y ∷ ys) × (test x ≡ true)
      go true e m ih = ⊎_elim (λ q. (Memᴰ.head q, ap test q ∙ e)) (λ n. later (ih n)) (Memᴰ.cases_cons m)
      go false e m ih = later (ih m)

  pub keep_mem : (xs : List A) (x : A) → Memᴰ x xs → test x ≡ true → Memᴰ x (keep test xs)
  keep_mem [] x m t = m
  keep_mem (y ∷ ys) x m t = go (test y) refl (Memᴰ.cases_cons m) (λ n. keep_mem ys x n t)
    where
      go : (b : Bool) → test y ≡ b → (x ≡ y) ⊎ Memᴰ x ys → (Memᴰ x ys → Memᴰ x (keep test ys)) → Memᴰ x (cond b (y ∷ keep test ys) (keep test ys))
      go true e (inl q) ih = Memᴰ.head q
      go true e (inr n) ih = Memᴰ.tail (ih n)
      go false e (inl q) ih = absurd (true≢false (sym t ∙ ap test q ∙ e))
      go false e (inr n) ih = ih n

module _ {ℓ κ} {A : Type ℓ} {B : Type κ} (f : A → B) where
  pub all_map {μ} : (P : B → Type μ) (xs : List A) → All (λ x. P (f x)) xs → All P (map f xs)
  all_map P [] h = all_nil _
  all_map P (x ∷ xs) h = all_cons (h x here) (all_map P xs (all_tail h))

  pub pairwise_on {μ} : (R : B → B → Type μ) (xs : List A) → Pairwise (λ x y. R (f x) (f y)) xs → Pairwise R (map f xs)
  pairwise_on R [] p = tt
  pairwise_on R (x ∷ xs) p = (all_map (R (f x)) xs p.0, pairwise_on R xs p.1)

-- a number is a member or not
pub mem_dec : (x : ℕ) (xs : List ℕ) → Dec (Memᴰ x xs)
mem_dec x [] = no Memᴰ.not-nil
mem_dec x (y ∷ ys) = go (ℕ_discrete x y) (mem_dec x ys)
  where
    go : Dec (x ≡ y) → Dec (Memᴰ x ys) → Dec (Memᴰ x (y ∷ ys))
    go (yes e) d = yes (Memᴰ.head e)
    go (no n) (yes m) = yes (Memᴰ.tail m)
    go (no n) (no o) = no (λ m. ⊎_elim n o (Memᴰ.cases_cons m))

-- at most n distinct numbers lie in 1..n
pub distinct_bound : (n : ℕ) (xs : List ℕ) → Distinct xs → All (λ x. (1 ≤ x) × (x ≤ n)) xs → length xs ≤ n
distinct_bound zero [] d h = omega arith
distinct_bound zero (x ∷ xs) d h = absurd (omega (arith, h x here))
distinct_bound (suc n) xs d h = go (distinct_bound n) (mem_dec (suc n) xs)
  where
    go : ((ys : List ℕ) → Distinct ys → All (λ x. (1 ≤ x) × (x ≤ n)) ys → length ys ≤ n) → Dec (Memᴰ (suc n) xs) → length xs ≤ suc n
    go ih (yes m) = let (a, b, e) = mem_split m in let (d', new) = distinct_drop a (suc n) b (rw e at d) in
        omega (arith, ap length e, length-append a (suc n ∷ b), length-append a b, ih (a ++ b) d' (λ x q. let k = h x (rw e (mem_insert a (suc n) b q)) in let z = new x q in (k.0, omega arith)))
    go ih (no m) = omega (arith, ih xs d (λ x q. let k = h x q in let z : x ≡ suc n → ⊥ = (λ f. m (Memᴰ.cast (sym f) q)) in (k.0, omega arith)))

-- n distinct numbers in 1..n are all of them
pub pigeonhole : (n : ℕ) (xs : List ℕ) → length xs ≡ n → Distinct xs → All (λ x. (1 ≤ x) × (x ≤ n)) xs → (k : ℕ) → 1 ≤ k → k ≤ n → Memᴰ k xs
pigeonhole n xs e d h k p q = go (mem_dec k xs)
  where
    go : Dec (Memᴰ k xs) → Memᴰ k xs
    go (yes m) = m
    go (no m) = absurd (omega (arith, distinct_bound n (k ∷ xs) (m, d) (all_cons (p, q) h)))
