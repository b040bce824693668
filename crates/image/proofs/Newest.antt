-- The newest entry of a key: on a sound image never damaged and the right one.
use Prim.Native.Nat.{ℕ, zero, suc, ◌≤◌}
use native.Mathlib.Omega.{arith}
use mathlib.Core.Path.{◌≡◌, sym, ◌∙◌}
use mathlib.Core.Logic.{◌⊎◌, inl, inr}
use mathlib.Core.List.{List}
use mathlib.Core.Bool.{Bool, true, false}
use Rattle.rule.specs.Lists.{cond, none, some}
use Rattle.rule.specs.Order.{compare_keys, is_equal}
use Rattle.rule.specs.Entries.{Entry, value_kind, deletion_kind}
use Rattle.rule.specs.Rows.{newest}
use Rattle.image.specs.Nodes.{entry_of}
use Rattle.image.specs.Sound.{Sound, held}
use Rattle.image.specs.Search.{to_stop, standing}
use Rattle.image.specs.Refusals.{given}
use Rattle.image.specs.Lookup.{Looked, found, deleted, absent}
use Rattle.image.specs.Meaning.{IsNode, Tells}
use Rattle.image.specs.Newest.{NewestAt, with_node, newest_at, NewestOn, NewestIs}
use Rattle.image.proofs.Sound.{header_complete}
use Rattle.image.proofs.Search.{Searched, search_sound}
use Rattle.image.proofs.Held.{entry_if, lookup_right}
use Rattle.image.proofs.Lookup.{stop_less, stands_on, said}

-- ---- on a sound image

-- the entry of a node that has the key
entry_if_lem : (xs k : List ℕ) (i : ℕ) (e : Entry) → entry_if xs k i ≡ some e → (1 ≤ i) × (entry_of xs i ≡ e)
entry_if_lem xs k zero e f = absurd (let z : ◌≡◌ {A = ℕ} 0 1 = cc in omega arith)
entry_if_lem xs k (suc i) e f = go (is_equal (compare_keys (entry_of xs (suc i)).key k)) f
  where
    go : (b : Bool) → cond b (some (entry_of xs (suc i))) none ≡ some e → (1 ≤ suc i) × (entry_of xs (suc i) ≡ e)
    go true g = (omega arith, cc)
    go false g = absurd (let z : ◌≡◌ {A = ℕ} 0 1 = cc in omega arith)

module _ (xs : List ℕ) (s : Sound xs) (k : List ℕ) (t : ℕ) where
  -- where a search stands, the node's entry is the newest, if there is one
  on_node : (i kind : ℕ) → newest k t (held xs) ≡ entry_if xs k i → (i ≡ 0) ⊎ IsNode xs i → (e : Entry) → newest k t (held xs) ≡ some e → e.kind ≡ kind → NewestOn xs k t kind i
  on_node i kind f (inl z) e g h = absurd (let (p, q) = entry_if_lem xs k i e (sym f ∙ g) in omega arith)
  on_node i kind f (inr n) e g h = let (p, q) = entry_if_lem xs k i e (sym f ∙ g) in record { node = n; newest_is = rw q g; kind_is = rw q h }

  told : (i : ℕ) → newest k t (held xs) ≡ entry_if xs k i → (i ≡ 0) ⊎ IsNode xs i → (a : Looked) → Tells xs k t a → NewestIs xs k t (with_node i a)
  told i f n (found j) (m, g, h) = on_node i value_kind f n (entry_of xs j) g h
  told i f n deleted (e, g, h) = on_node i deletion_kind f n e g h
  told i f n absent g = g

  pub newest_right : (v : NewestAt) × (newest_at xs k t ≡ given v) × NewestIs xs k t v
  unfolding newest_at
  newest_right = go (search_sound xs s to_stop k t) (lookup_right xs s to_stop stop_less k t)
    where
      go : (q : Searched xs s to_stop k t) → newest k t (held xs) ≡ entry_if xs k (standing q.found) → (v : NewestAt) × (newest_at xs k t ≡ given v) × NewestIs xs k t v
      go q f =
          let n = stands_on xs s k t q in
          let (a, g, m) = said xs s k t (standing q.found) f n in
          (with_node (standing q.found) a, rw (header_complete xs s.header, q.search, g), told (standing q.found) f n a m)
