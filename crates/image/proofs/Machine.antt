-- The machine of looks, whatever it looks at: its steps, and what it keeps on the way to an answer.
use Prim.Native.Nat.{ℕ, zero, suc, ◌+◌, ◌≤◌}
use native.Mathlib.Omega.{arith}
use mathlib.Core.Path.{◌≡◌, refl, sym, ◌∙◌}
use mathlib.Core.List.{List}
use lib.ListN.{length, set, length-set}
use Rattle.image.specs.Readers.{Read, got, bad}
use Rattle.image.specs.Search.{Turn, onward, halt, below, Found, hit, ends, find, looks_of}
use Rattle.image.proofs.Readers.{bad_got, got_same}

module _ (look : ℕ → ℕ → Read Turn) (link place : ℕ → ℕ → ℕ) where
  module _ (n cur level looks : ℕ) (prev : List ℕ) where
    pub find_bad : (o : ℕ) → look cur level ≡ bad o → find look link place (suc n) cur level looks prev ≡ bad o
    unfolding find
    find_bad o e = rw (e, find)

    pub find_onward : look cur level ≡ got onward → find look link place (suc n) cur level looks prev ≡ find look link place n (link cur level) level (suc looks) prev
    unfolding find
    find_onward e = rw (e, find)

    pub find_halt : look cur level ≡ got halt → find look link place (suc n) cur level looks prev ≡ got (hit (link cur level) (suc looks))
    unfolding find
    find_halt e = rw (e, find)

  pub find_none : (cur level looks : ℕ) (prev : List ℕ) → find look link place 0 cur level looks prev ≡ bad (place cur level)
  unfolding find
  find_none cur level looks prev = refl

  pub find_ends : (n cur looks : ℕ) (prev : List ℕ) → look cur 0 ≡ got below → find look link place (suc n) cur 0 looks prev ≡ got (ends cur (link cur 0) (suc looks) (set prev 0 cur))
  unfolding find
  find_ends n cur looks prev e = rw (e, find)

  pub find_down : (n cur low looks : ℕ) (prev : List ℕ) → look cur (suc low) ≡ got below
      → find look link place (suc n) cur (suc low) looks prev ≡ find look link place n cur low (suc looks) (set prev (suc low) cur)
  unfolding find
  find_down n cur low looks prev e = rw (e, find)

  -- what holds before each look, and so of the answer
  pub record Keeps (P : ℕ → ℕ → ℕ → ℕ → List ℕ → Type 0) (Q : Found → Type 0) : Type 0 where
    pub passing : (n cur level looks : ℕ) (prev : List ℕ) → look cur level ≡ got onward → P (suc n) cur level looks prev → P n (link cur level) level (suc looks) prev
    pub stopping : (n cur level looks : ℕ) (prev : List ℕ) → look cur level ≡ got halt → P (suc n) cur level looks prev → Q (hit (link cur level) (suc looks))
    pub lowering : (n cur low looks : ℕ) (prev : List ℕ) → look cur (suc low) ≡ got below → P (suc n) cur (suc low) looks prev → P n cur low (suc looks) (set prev (suc low) cur)
    pub ending : (n cur looks : ℕ) (prev : List ℕ) → look cur 0 ≡ got below → P (suc n) cur 0 looks prev → Q (ends cur (link cur 0) (suc looks) (set prev 0 cur))

  module _ (P : ℕ → ℕ → ℕ → ℕ → List ℕ → Type 0) (Q : Found → Type 0) (keeps : Keeps P Q) where
    pub find_keeps : (n cur level looks : ℕ) (prev : List ℕ) (r : Found) → P n cur level looks prev → find look link place n cur level looks prev ≡ got r → Q r
    find_keeps zero cur level looks prev r p e = absurd (bad_got (sym (find_none cur level looks prev) ∙ e))
    find_keeps (suc n) cur level looks prev r p e = go (find_keeps n) (look cur level) refl
      where
        Rest : Type 0
        Rest = (cur level looks : ℕ) (prev : List ℕ) (r : Found) → P n cur level looks prev → find look link place n cur level looks prev ≡ got r → Q r

        under : Rest → (l : ℕ) → P (suc n) cur l looks prev → look cur l ≡ got below → find look link place (suc n) cur l looks prev ≡ got r → Q r
        under ih zero p f g = let q : ends cur (link cur 0) (suc looks) (set prev 0 cur) ≡ r = got_same (sym (find_ends n cur looks prev f) ∙ g) in rw (← q) (keeps.ending n cur looks prev f p)
        under ih (suc low) p f g = ih cur low (suc looks) (set prev (suc low) cur) r (keeps.lowering n cur low looks prev f p) (sym (find_down n cur low looks prev f) ∙ g)

        go : Rest → (t : Read Turn) → look cur level ≡ t → Q r
        go ih (bad o) f = absurd (bad_got (sym (find_bad n cur level looks prev o f) ∙ e))
        go ih (got onward) f = ih (link cur level) level (suc looks) prev r (keeps.passing n cur level looks prev f p) (sym (find_onward n cur level looks prev f) ∙ e)
        go ih (got halt) f = let q : hit (link cur level) (suc looks) ≡ r = got_same (sym (find_halt n cur level looks prev f) ∙ e) in rw (← q) (keeps.stopping n cur level looks prev f p)
        go ih (got below) f = under ih level p f e

  -- it looks no more often than it may
  pub find_looks : (n cur level looks : ℕ) (prev : List ℕ) (r : Found) → find look link place n cur level looks prev ≡ got r → looks_of r ≤ looks + n
  find_looks n cur level looks prev r e = find_keeps (λ n' c v l p. l + n' ≤ looks + n) (λ f. looks_of f ≤ looks + n) (record {
    passing = λ n' c v l p _ h. omega arith;
    stopping = λ n' c v l p _ h. omega arith;
    lowering = λ n' c v l p _ h. omega arith;
    ending = λ n' c l p _ h. omega arith;
  }) n cur level looks prev r (omega arith) e

  -- it records as many nodes as it was given places for
  abbrev pub Records : ℕ → Found → Type 0
  Records w (hit x looks) = Unit
  Records w (ends p x looks prev) = length prev ≡ w

  pub find_records : (n cur level looks : ℕ) (prev : List ℕ) (r : Found) → find look link place n cur level looks prev ≡ got r → Records (length prev) r
  find_records n cur level looks prev r e = find_keeps (λ n' c v l p. length p ≡ length prev) (Records (length prev)) (record {
    passing = λ n' c v l p _ h. h;
    stopping = λ n' c v l p _ h. tt;
    lowering = λ n' c v l p _ h. length-set p (suc v) c ∙ h;
    ending = λ n' c l p _ h. length-set p 0 c ∙ h;
  }) n cur level looks prev r refl e
