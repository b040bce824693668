-- What becomes of a table that is begun fresh and changed by accepted additions alone.
use Rattle.std.specs.Prelude.{ℕ, ◌≡◌, List, [], ◌∷◌, Ok}
use Rattle.rule.specs.Entries.{Entry}
use Rattle.image.specs.Nodes.{entry_of}
use Rattle.image.specs.Sound.{Sound}
use Rattle.image.specs.Meaning.{IsNode}
use Rattle.table.specs.Memtable.{Freshens, Adds}

-- just begun: what the promise of `fresh` allows, whatever bytes were lent
pub record Begun (xs : List ℕ) : Type 0 where
  pub lent : List ℕ
  pub made : Freshens lent (Ok tt) xs

-- these entries accepted one after the other, at any heights: what the promise of `add` allows
pub data Additions : List ℕ → List Entry → List ℕ → Type 0 where
  none : {xs : List ℕ} → Additions xs [] xs
  more : {xs ys zs : List ℕ} {es : List Entry} (e : Entry) (height node : ℕ) → Adds xs e height (Ok node) ys → Additions ys es zs → Additions xs (e ∷ es) zs

-- begun, and these entries accepted since
pub record Filled (es : List Entry) (xs : List ℕ) : Type 0 where
  pub start : List ℕ
  pub begun : Begun start
  pub additions : Additions start es xs

-- every node stays, with its entry, and the image afterwards is sound
pub record Grows (xs ys : List ℕ) : Type 0 where
  pub sound : Sound ys
  pub node_kept : (i : ℕ) → IsNode xs i → IsNode ys i
  pub entry_kept : (i : ℕ) → IsNode xs i → entry_of ys i ≡ entry_of xs i
