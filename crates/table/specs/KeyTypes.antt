-- The answers of the code as those of the definitions, and the ranges that come with them.
use Rattle.std.specs.Prelude.{ℕ, ◌<◌, ◌≤◌, ◌≡◌, List, length, drop, Result, Ok, Err, IfOk, ◌⊎◌}
use Rattle.std.specs.declared.cmp.Ordering.{Ordering}
use Rattle.std.specs.declared.cmp.Ordering.TheVariants.{Less, Equal, Greater}
use Rattle.rule.specs.Order.{Ord, less, equal, greater, compare_keys}
use Rattle.rule.specs.Entries.{deletion_kind, value_kind}
use Rattle.image.specs.Limits.{max_number, max_key}
use Rattle.image.specs.Entries.{Len as LenIs}
use Rattle.table.specs.declared.refusals.Refusal.{Refusal}
use Rattle.table.specs.declared.refusals.Refusal.TheVariants.{BadKind, BadNumber, LongKey}
use Rattle.table.specs.declared.refusals.Fault.{Fault}
use Rattle.table.specs.declared.key_types.Number.{Number}
use Rattle.table.specs.declared.key_types.Kind.{Kind}
use Rattle.table.specs.declared.key_types.Kind.TheVariants.{Deletion, Value}
use Rattle.table.specs.declared.key_types.LookupKey.{LookupKey}
use Rattle.table.specs.declared.key_types.Len.{Len}

-- a length that was read
abbrev pub len_of : Len → LenIs
len_of l = record { is = l.is; after = l.after }

-- it ends before the place end, and has at most two groups
abbrev pub LenFits : ℕ → Result Len Fault → Type 0
LenFits end r = IfOk r (λ l. (l.after ≤ end) × (l.is < 16384))

-- an answer of a comparison
abbrev pub ord_of : Ordering → Ord
ord_of Less = less
ord_of Equal = equal
ord_of Greater = greater

-- two keys have r bytes in common at their front, so what is behind them decides
pub record Front (a b : List ℕ) (r : ℕ) : Type 0 where
  pub first : r ≤ length a
  pub second : r ≤ length b
  pub rest : compare_keys a b ≡ compare_keys (drop r a) (drop r b)

-- the code of a type
abbrev pub code_of : Kind → ℕ
code_of Deletion = deletion_kind
code_of Value = value_kind

-- the type that a code names, or that it names none
abbrev pub KindOf : ℕ → Result Kind Refusal → Type 0
KindOf code (Ok kind) = code_of kind ≡ code
KindOf code (Err q) = (1 < code) × (q ≡ BadKind)

-- the number, or that it is above the limit
abbrev pub NumberOf : ℕ → Result Number Refusal → Type 0
NumberOf n (Ok number) = (number.is ≡ n) × (n ≤ max_number)
NumberOf n (Err q) = (max_number < n) × (q ≡ BadNumber)

-- the key with the number, both within the limits, or the first of the two tests that fails
abbrev pub LooksFor : List ℕ → ℕ → Result LookupKey Refusal → Type 0
LooksFor k n (Ok probe) = (probe.key.now ≡ k) × (probe.number.is ≡ n) × (n ≤ max_number) × (length k ≤ max_key)
LooksFor k n (Err q) = ((max_number < n) × (q ≡ BadNumber)) ⊎ ((n ≤ max_number) × (max_key < length k) × (q ≡ LongKey))
