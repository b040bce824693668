-- Lengths and entries, read and written: what lies inside.
use Rattle.std.specs.Prelude.{ℕ, ◌+◌, ◌≤◌, ◌<◌, Bool, true, false, ltb, Result, IfOk}
use Rattle.moving.specs.declared.refusals.Fault.{Fault}
use Rattle.moving.specs.declared.key_types.Len.{Len}
use Rattle.moving.specs.declared.entries.Keyed.{Keyed}
use Rattle.moving.specs.declared.entries.Parts.{Parts}

-- the one or the other, by a test
abbrev pub pick : Bool → ℕ → ℕ → ℕ
pick true a b = a
pick false a b = b

-- how many bytes a length takes
abbrev pub len_size : ℕ → ℕ
len_size n = pick (ltb n 128) 1 2

-- how many bytes an entry takes whose key and value have these lengths
abbrev pub entry_size : ℕ → ℕ → ℕ
entry_size key_len value_len = len_size (key_len + 8) + key_len + 8 + len_size value_len + value_len

-- a length that was read ends before the place end, and has at most two groups of seven bits
abbrev pub LenFits : ℕ → Result Len Fault → Type 0
LenFits end r = IfOk r (λ l. (l.after ≤ end) × (l.is < 16384))

-- a key lies before this place
pub record KeyInside (len : ℕ) (k : Keyed) : Type 0 where
  pub inside : k.key_at + k.key_len ≤ len

-- a key that was read does
abbrev pub KeyedFits : ℕ → Result Keyed Fault → Type 0
KeyedFits end r = IfOk r (KeyInside end)

-- key and value lie before this place
pub record PartsInside (len : ℕ) (p : Parts) : Type 0 where
  pub key : KeyInside len p.keyed
  pub value : p.value_at + p.value_len ≤ len

-- parts that were read do
abbrev pub PartsFit : ℕ → Result Parts Fault → Type 0
PartsFit end r = IfOk r (PartsInside end)
