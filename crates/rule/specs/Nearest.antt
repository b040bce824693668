-- The key that comes next behind a cut, whether it has a row or not: what a walk over a table meets.
use Rattle.std.specs.Prelude.{ℕ, suc, ◌≡◌, Bool, true, false}
use mathlib.Core.List.{List, [], ◌∷◌, Memᴰ}
use Rattle.rule.specs.Lists.{cond, Maybe, none, some, All}
use Rattle.rule.specs.Order.{Ord, is_less}
use Rattle.rule.specs.Entries.{Entry}

-- the list has an entry of the key
abbrev pub HasKey : List ℕ → List Entry → Type 0
HasKey k es = (e : Entry) × Memᴰ e es × (e.key ≡ k)

-- of the keys that the cut admits, the one that comes first; cmp is the order of keys upward, or its opposite
abbrev pub Least : (List ℕ → List ℕ → Ord) → (List ℕ → Bool) → List Entry → Maybe (List ℕ) → Type 0
Least cmp cut es none = All (λ e. cut e.key ≡ true → ⊥) es
Least cmp cut es (some k) = HasKey k es × (cut k ≡ true) × All (λ e. cut e.key ≡ true → is_less (cmp e.key k) ≡ false) es

-- the sooner of two that may be missing; of equal ones the first
abbrev pub sooner : (List ℕ → List ℕ → Ord) → Maybe (List ℕ) → Maybe (List ℕ) → Maybe (List ℕ)
sooner cmp none n = n
sooner cmp (some k) none = some k
sooner cmp (some k) (some l) = some (cond (is_less (cmp l k)) l k)

-- what the cut admits stays admitted further on
abbrev pub Onward : (List ℕ → List ℕ → Ord) → (List ℕ → Bool) → Type 0
Onward cmp cut = (k l : List ℕ) → cut k ≡ true → is_less (cmp k l) ≡ true → cut l ≡ true

-- how many entries the cut admits
abbrev pub remaining : (List ℕ → Bool) → List Entry → ℕ
remaining cut [] = 0
remaining cut (e ∷ es) = cond (cut e.key) (suc (remaining cut es)) (remaining cut es)
