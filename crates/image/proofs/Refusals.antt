-- What an answer says of the demands before it.
use mathlib.Core.Path.{◌≡◌, refl, ap}
use mathlib.Core.Bool.{Bool, true, false}
use Prim.Native.Nat.{ℕ}
use native.Mathlib.Omega.{arith}
use Rattle.image.specs.Readers.{Read, got, bad}
use Rattle.image.specs.Refusals.{Refusal, damaged, number_of, Answer, refused, given, demand, reading}

pub refused_given {ℓ} : {A : Type ℓ} {r : Refusal} {a : A} → refused r ≡ given a → ⊥
refused_given e = let z : ◌≡◌ {A = ℕ} 0 1 = cc in omega arith

pub given_same {ℓ} : {A : Type ℓ} {a b : A} → given a ≡ given b → a ≡ b
given_same e = cc

-- an answer that is given met the demand
pub demand_given {ℓ} : {A : Type ℓ} (t : Bool) (r : Refusal) (a : Answer A) (b : A) → demand t r a ≡ given b → (t ≡ true) × (a ≡ given b)
demand_given true r a b e = (refl, e)
demand_given false r a b e = absurd (refused_given e)

-- damage is met behind a demand whose refusal has another number
pub demand_damaged {ℓ} : {A : Type ℓ} (t : Bool) (r : Refusal) (a : Answer A) → (number_of r ≡ 9 → ⊥) → demand t r a ≡ refused damaged → a ≡ refused damaged
demand_damaged true r a n e = e
demand_damaged false r a n e = let q : r ≡ damaged = cc in absurd (n (ap number_of q))

pub reading_given {ℓ κ} : {A : Type ℓ} {B : Type κ} (r : Read A) (f : A → Answer B) (b : B) → reading r f ≡ given b → (a : A) × (r ≡ got a) × (f a ≡ given b)
reading_given (got a) f b e = (a, refl, e)
reading_given (bad o) f b e = absurd (refused_given e)
