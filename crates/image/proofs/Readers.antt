-- What a reading that went well says of its steps.
use Prim.Native.Nat.{ℕ}
use native.Mathlib.Omega.{arith}
use mathlib.Core.Path.{◌≡◌, refl}
use mathlib.Core.Bool.{Bool, true, false}
use Rattle.image.specs.Readers.{Read, got, bad, bind, check}

pub bad_got {ℓ} : {A : Type ℓ} {o : ℕ} {a : A} → bad o ≡ got a → ⊥
bad_got e = let z : ◌≡◌ {A = ℕ} 0 1 = cc in omega arith

pub got_same {ℓ} : {A : Type ℓ} {a b : A} → got a ≡ got b → a ≡ b
got_same e = cc

pub bind_got {ℓ κ} : {A : Type ℓ} {B : Type κ} (r : Read A) (f : A → Read B) (b : B) → bind r f ≡ got b → (a : A) × (r ≡ got a) × (f a ≡ got b)
bind_got (got a) f b e = (a, refl, e)
bind_got (bad o) f b e = absurd (bad_got e)

pub check_got {ℓ} : {A : Type ℓ} (t : Bool) (o : ℕ) (r : Read A) (a : A) → check t o r ≡ got a → (t ≡ true) × (r ≡ got a)
check_got true o r a e = (refl, e)
check_got false o r a e = absurd (bad_got e)
