-- Words for lists: what holds of every member, and between every two.
use mathlib.Core.List.{List, [], ◌∷◌, Memᴰ}
use Rattle.std.specs.Prelude.{Bool, true, false}

-- a choice by a test
abbrev pub cond {ℓ} : {A : Type ℓ} → Bool → A → A → A
cond true a b = a
cond false a b = b

-- both tests hold
abbrev pub both : Bool → Bool → Bool
both true b = b
both false b = false

-- what may be missing
pub data Maybe {ℓ} (A : Type ℓ) : Type ℓ where
  none : Maybe A
  some : A → Maybe A

-- it is there
abbrev pub is_some {ℓ} : {A : Type ℓ} → Maybe A → Bool
is_some none = false
is_some (some a) = true

module _ {ℓ} {A : Type ℓ} where
  -- the members that pass a test, in order
  abbrev pub keep : (A → Bool) → List A → List A
  keep test [] = []
  keep test (x ∷ xs) = cond (test x) (x ∷ keep test xs) (keep test xs)

  -- every member has P
  abbrev pub All {κ} : (A → Type κ) → List A → Type (ℓ ⊔ κ)
  All P xs = (x : A) → Memᴰ x xs → P x

  -- R holds between every member and each after it
  abbrev pub Pairwise {κ} : (A → A → Type κ) → List A → Type (ℓ ⊔ κ)
  Pairwise R [] = Unit
  Pairwise R (x ∷ xs) = All (R x) xs × Pairwise R xs
