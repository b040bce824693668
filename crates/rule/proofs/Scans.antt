-- A scan that goes strictly onward through the members of a list ends: each step leaves fewer of them ahead.
use Prim.Native.Nat.{ℕ, suc, ◌<◌, ◌≤◌}
use native.Mathlib.Omega.{arith}
use mathlib.Core.Path.{◌≡◌, refl, sym, ◌∙◌}
use mathlib.Core.Logic.{⊎_elim}
use mathlib.Core.List.Memᴰ
use mathlib.Core.List.{List, [], ◌∷◌, Memᴰ}
use mathlib.Core.Bool.{Bool, true, false, true≢false}
use lib.ListN.{length}
use Rattle.rule.specs.Lists.{cond}

module _ {A : Type 0} (ahead : A → A → Bool) (never : (a : A) → ahead a a ≡ false) (trans : (a b c : A) → ahead a b ≡ true → ahead b c ≡ true → ahead a c ≡ true) where
  -- how many of a list lie ahead of an element
  abbrev pub left : A → List A → ℕ
  left a [] = 0
  left a (x ∷ xs) = cond (ahead a x) (suc (left a xs)) (left a xs)

  pub left_most : (a : A) (xs : List A) → left a xs ≤ length xs
  left_most a [] = omega arith
  left_most a (x ∷ xs) = go (ahead a x) (left_most a xs)
    where
      go : (t : Bool) → left a xs ≤ length xs → cond t (suc (left a xs)) (left a xs) ≤ suc (length xs)
      go true h = omega arith
      go false h = omega arith

  -- what lies ahead of the later lies ahead of the earlier
  left_fewer : (a b : A) → ahead a b ≡ true → (xs : List A) → left b xs ≤ left a xs
  left_fewer a b h [] = omega arith
  left_fewer a b h (x ∷ xs) = go (ahead b x) refl (ahead a x) refl (left_fewer a b h xs)
    where
      go : (s : Bool) → ahead b x ≡ s → (t : Bool) → ahead a x ≡ t → left b xs ≤ left a xs → cond s (suc (left b xs)) (left b xs) ≤ cond t (suc (left a xs)) (left a xs)
      go true e true f k = omega arith
      go true e false f k = absurd (true≢false (sym (trans a b x h e) ∙ f))
      go false e true f k = omega arith
      go false e false f k = k

  -- and of two members the earlier has the later ahead of it besides
  pub left_less : (a b : A) → ahead a b ≡ true → (xs : List A) → Memᴰ b xs → left b xs < left a xs
  left_less a b h [] m = absurd (Memᴰ.not-nil m)
  left_less a b h (x ∷ xs) m = ⊎_elim (λ e. here e (ahead b x) refl (ahead a x) refl) (λ k. there (left_less a b h xs k) (ahead b x) refl (ahead a x) refl) (Memᴰ.cases_cons m)
    where
      here : b ≡ x → (s : Bool) → ahead b x ≡ s → (t : Bool) → ahead a x ≡ t → cond s (suc (left b xs)) (left b xs) < cond t (suc (left a xs)) (left a xs)
      here e true f t g = absurd (true≢false (sym f ∙ (rw (← e) (never b))))
      here e false f true g = omega (arith, left_fewer a b h xs)
      here e false f false g = absurd (true≢false (sym h ∙ (rw e g)))

      there : left b xs < left a xs → (s : Bool) → ahead b x ≡ s → (t : Bool) → ahead a x ≡ t → cond s (suc (left b xs)) (left b xs) < cond t (suc (left a xs)) (left a xs)
      there k true e true f = omega arith
      there k true e false f = absurd (true≢false (sym (trans a b x h e) ∙ f))
      there k false e true f = omega arith
      there k false e false f = k

  -- a member has fewer ahead of it than there are
  pub left_member : (b : A) (xs : List A) → Memᴰ b xs → left b xs < length xs
  left_member b [] m = absurd (Memᴰ.not-nil m)
  left_member b (x ∷ xs) m = ⊎_elim (λ e. here e (ahead b x) refl) (λ k. there (left_member b xs k) (ahead b x)) (Memᴰ.cases_cons m)
    where
      here : b ≡ x → (s : Bool) → ahead b x ≡ s → cond s (suc (left b xs)) (left b xs) < suc (length xs)
      here e true f = absurd (true≢false (sym f ∙ (rw (← e) (never b))))
      here e false f = omega (arith, left_most b xs)

      there : left b xs < length xs → (s : Bool) → cond s (suc (left b xs)) (left b xs) < suc (length xs)
      there k true = omega arith
      there k false = omega arith
