-- Numbered refusals: document 01's table.
use Rattle.std.specs.Prelude.{ℕ, Bool, true, false}
use Rattle.image.specs.Readers.{Read, got, bad}

-- in the table's order
pub data Refusal : Type 0 where
  bad_image : Refusal
  bad_kind : Refusal
  bad_number : Refusal
  long_key : Refusal
  long_value : Refusal
  bad_height : Refusal
  no_room : Refusal
  duplicate : Refusal
  damaged : Refusal
  no_node : Refusal

-- its number there
abbrev pub number_of : Refusal → ℕ
number_of bad_image = 1
number_of bad_kind = 2
number_of bad_number = 3
number_of long_key = 4
number_of long_value = 5
number_of bad_height = 6
number_of no_room = 7
number_of duplicate = 8
number_of damaged = 9
number_of no_node = 10

-- what a call answers
pub data Answer {ℓ} (A : Type ℓ) : Type ℓ where
  refused : Refusal → Answer A
  given : A → Answer A

-- go on if the test holds, else refuse: the order of a call's refusals is the order of its demands
abbrev pub demand {ℓ} : {A : Type ℓ} → Bool → Refusal → Answer A → Answer A
demand true r a = a
demand false r a = refused r

-- go on with what was read; a byte at fault is damage
abbrev pub reading {ℓ κ} : {A : Type ℓ} {B : Type κ} → Read A → (A → Answer B) → Answer B
reading (got a) f = f a
reading (bad o) f = refused damaged

-- the number that a companion question gives: the refusal's, or 0
abbrev pub refusal_of {ℓ} : {A : Type ℓ} → Answer A → ℕ
refusal_of (refused r) = number_of r
refusal_of (given a) = 0
