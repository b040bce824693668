-- What the layers above use of a table, as laws over its definitions.
use Prim.Native.Nat.{ℕ, zero, suc, ◌+◌, ◌≤◌}
use native.Mathlib.Omega.{arith}
use mathlib.Core.Path.{◌≡◌, refl, sym, ap, ◌∙◌}
use mathlib.Core.Logic.{◌⊎◌, inl, inr}
use mathlib.Core.List.Memᴰ
use mathlib.Core.List.{List, [], ◌∷◌, Memᴰ}
use mathlib.Core.Bool.{true}
use lib.ListN.{length, length-append}
use lib.Dec.{leb}
use borrow.Author.Tests.{leb-true}
use Rattle.rule.specs.Lists.{Maybe, none, some, Pairwise}
use Rattle.rule.specs.Order.{less, is_less}
use Rattle.rule.specs.Entries.{Entry, order}
use Rattle.rule.specs.Moves.{first, seek, next, previous, target, best}
use Rattle.rule.proofs.Lists.{both_true}
use Rattle.rule.proofs.Order.{entries_less_number}
use Rattle.image.specs.Limits.{levels, max_nodes}
use Rattle.image.specs.Nodes.{count, entry_of}
use Rattle.image.specs.Sound.{lowest, Sound, held, held_up_to}
use Rattle.image.specs.Lookup.{Lookup, get}
use Rattle.image.specs.Refusals.{given}
use Rattle.image.specs.EntryMoves.{on, in_table, number_view}
use Rattle.image.specs.Meaning.{IsNode}
use Rattle.image.specs.Cuts.{Cut, all, from, above, below, cmp_of, admits, past_of}
use Rattle.image.proofs.Lookup.{get_given}
use Rattle.image.proofs.Sound.{header_complete, everywhere}
use Rattle.image.proofs.Held.{held_has}
use Rattle.image.proofs.Views.{number_shown}
use Rattle.table.specs.EntryViews.{shown_number}
use Rattle.table.specs.Questions.{nodes_of}

-- ---- the nodes of a table

-- a node that is tested to be in the table
pub in_table_lem : (xs : List ℕ) (i : ℕ) → in_table xs (on i) ≡ true → IsNode xs i
in_table_lem xs i h = let (a, b) = both_true (leb 1 i) (leb i (count xs)) h in record { some = leb-true 1 i a; most = leb-true i (count xs) b }

-- its entry is held
pub node_held : (xs : List ℕ) (i : ℕ) → IsNode xs i → Memᴰ (entry_of xs i) (held xs)
node_held xs i n = held_has xs (count xs) i n.some n.most

-- as many entries are held as there are nodes
pub held_length : (xs : List ℕ) → length (held xs) ≡ count xs
held_length xs = go (count xs)
  where
    go : (n : ℕ) → length (held_up_to xs n) ≡ n
    go zero = refl
    go (suc n) = length-append (held_up_to xs n) (entry_of xs (suc n) ∷ []) ∙ (let e = go n in omega (arith, e))

-- and that many are told of a sound image
pub nodes_sound : (xs : List ℕ) → Sound xs → nodes_of xs ≡ count xs
nodes_sound xs s = rw (header_complete xs s.header)

-- members of a list between whose members R holds
between {ℓ κ} : {A : Type ℓ} (R : A → A → Type κ) (xs : List A) → Pairwise R xs → (x y : A) → Memᴰ x xs → Memᴰ y xs → (x ≡ y) ⊎ (R x y ⊎ R y x)
between R [] p x y m n = absurd (Memᴰ.not-nil m)
between {A = A} R (z ∷ zs) (h, p) x y m n = go (Memᴰ.cases_cons m) (Memᴰ.cases_cons n) (between R zs p x y)
  where
    go : (x ≡ z) ⊎ Memᴰ x zs → (y ≡ z) ⊎ Memᴰ y zs → (Memᴰ x zs → Memᴰ y zs → (x ≡ y) ⊎ (R x y ⊎ R y x)) → (x ≡ y) ⊎ (R x y ⊎ R y x)
    go (inl a) (inl b) ih = inl (a ∙ sym b)
    go (inl a) (inr n) ih = inr (inl (rw a (h y n)))
    go (inr m) (inl b) ih = inr (inr (rw b (h x m)))
    go (inr m) (inr n) ih = ih m n

-- on a sound image a node is known by its key and number
pub node_single : (xs : List ℕ) → Sound xs → (i j : ℕ) → IsNode xs i → IsNode xs j → (entry_of xs i).key ≡ (entry_of xs j).key → (entry_of xs i).number ≡ (entry_of xs j).number → i ≡ j
node_single xs s i j a b k n = go (between (λ x y. order (entry_of xs x) (entry_of xs y) ≡ less) (lowest xs) s.ascending i j
    (everywhere xs s i a.some a.most) (everywhere xs s j b.some b.most))
  where
    go : (i ≡ j) ⊎ ((order (entry_of xs i) (entry_of xs j) ≡ less) ⊎ (order (entry_of xs j) (entry_of xs i) ≡ less)) → i ≡ j
    go (inl e) = e
    go (inr (inl l)) = absurd (omega (arith, n, entries_less_number _ _ _ _ k l))
    go (inr (inr l)) = absurd (omega (arith, n, entries_less_number _ _ _ _ (sym k) l))

-- the number that is shown of a node is its entry's
pub number_told : (xs : List ℕ) → Sound xs → (i : ℕ) → IsNode xs i → shown_number (number_view xs (on i)) ≡ (entry_of xs i).number
number_told xs s i n = ap shown_number (number_shown xs s i n)

-- ---- cuts

-- the cut past a key is its own
pub past_past : (c : Cut) → past_of (past_of c) ≡ past_of c
past_past all = refl
past_past from = refl
past_past above = refl
past_past below = refl

-- the target of a move from a key is the best behind a cut
module _ (s : ℕ) (es : List Entry) where
  pub first_behind : (t : List ℕ) (k : Maybe (List ℕ)) → target first s k es ≡ best (λ a b. is_less (cmp_of all a b)) (admits all t) s es
  first_behind t k = refl

  pub seek_behind : (t : List ℕ) (k : Maybe (List ℕ)) → target (seek t) s k es ≡ best (λ a b. is_less (cmp_of from a b)) (admits from t) s es
  seek_behind t k = refl

  pub next_behind : (k : List ℕ) → target next s (some k) es ≡ best (λ a b. is_less (cmp_of above a b)) (admits above k) s es
  next_behind k = refl

  pub next_nowhere : (t : List ℕ) → target next s none es ≡ best (λ a b. is_less (cmp_of all a b)) (admits all t) s es
  next_nowhere t = refl

  pub previous_behind : (k : List ℕ) → target previous s (some k) es ≡ best (λ a b. is_less (cmp_of below a b)) (admits below k) s es
  previous_behind k = refl

-- ---- lookups

-- on any bytes a lookup takes few looks
pub get_looks : (xs k : List ℕ) (s : ℕ) (a : Lookup) → get xs k s ≡ given a → a.looks ≤ max_nodes + levels
get_looks xs k s a e = let (h, l) = get_given xs k s a e in omega (arith, h.few)
