-- What a reader of bytes answers.
use Rattle.std.specs.Prelude.{ℕ, Bool, true, false}

-- what was read, or the offset of the byte at fault
pub data Read {ℓ} (A : Type ℓ) : Type ℓ where
  got : A → Read A
  bad : ℕ → Read A

-- go on with what was read
abbrev pub bind {ℓ κ} : {A : Type ℓ} {B : Type κ} → Read A → (A → Read B) → Read B
bind (got a) f = f a
bind (bad o) f = bad o

-- go on if the test holds, else the byte at o is at fault
abbrev pub check {ℓ} : {A : Type ℓ} → Bool → ℕ → Read A → Read A
check true o r = r
check false o r = bad o
