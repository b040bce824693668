-- What decides the key that a move ends on: how it is characterised, and that order, split and later numbers do not count.
-- An order of keys is given by its comparison, so that each law serves upward and downward.
use Prim.Native.Nat.{ℕ}
use mathlib.Core.Path.{◌≡◌, refl, sym, ap, subst}
use mathlib.Core.Logic.{⊎_elim}
use mathlib.Core.List.Memᴰ
use mathlib.Core.List.{List, [], ◌∷◌, map, Memᴰ}
use mathlib.Core.Bool.{Bool, true, false, not}
use Rattle.rule.specs.Lists.{cond, Maybe, none, some, is_some, keep, All}
use Rattle.rule.specs.Order.{Ord, less, compare_keys, compare_numbers, compare_entries, is_less}
use Rattle.rule.specs.Entries.{Entry, order, Agree, Single}
use Rattle.rule.specs.Rows.{row}
use Rattle.rule.specs.Moves.{earlier, foremost, shown_keys, best, below, every, Move, first, seek, next, previous, target}
use Rattle.rule.specs.Nearest.{HasKey}
use Rattle.rule.proofs.Lists.{here, all_nil, all_cons, mem_keep, keep_mem}
use Rattle.rule.proofs.Order.{Order, keys, opposite, then_less, neither_less, not_less_trans, less_not_less, less_greater}
use Rattle.rule.proofs.Rows.{same_row, row_present}

-- what holds of all entries by their keys holds of each key
at_key : (P : List ℕ → Type 0) {k : List ℕ} {es : List Entry} → All (λ e. P e.key) es → HasKey k es → P k
at_key P h (e, m, x) = subst P x (h e m)

-- a key that p admits and that has a row
pub record Candidate (p : List ℕ → Bool) (s : ℕ) (es : List Entry) (k : List ℕ) : Type 0 where
  pub admitted : p k ≡ true
  pub present : is_some (row k s es) ≡ true

-- the keys that may be picked are those
picked : (p : List ℕ → Bool) (s : ℕ) (es : List Entry) (k : List ℕ) → Memᴰ k (keep p (shown_keys s es)) → HasKey k es × Candidate p s es k
picked p s es k m =
    let (n, a) = mem_keep p (shown_keys s es) k m in
    let (o, b) = mem_keep (λ l. is_some (row l s es)) (map (λ (e : Entry). e.key) es) k n in
    let (e, i, f) = Memᴰ.of_map (λ (e : Entry). e.key) es o in
    ((e, i, f), record { admitted = a; present = b })

may_pick : (p : List ℕ → Bool) (s : ℕ) (es : List Entry) (e : Entry) → Memᴰ e es → Candidate p s es e.key → Memᴰ e.key (keep p (shown_keys s es))
may_pick p s es e m c =
    let n = keep_mem (λ l. is_some (row l s es)) (map (λ (d : Entry). d.key) es) e.key (Memᴰ.map (λ (d : Entry). d.key) m) c.present in
    keep_mem p (shown_keys s es) e.key n c.admitted

-- of such keys the one that comes first
module _ (cmp : List ℕ → List ℕ → Ord) (o : Order (List ℕ) cmp) where
  -- of a list of keys
  abbrev Foremost : List (List ℕ) → Maybe (List ℕ) → Type 0
  Foremost ks none = All (λ k. ⊥) ks
  Foremost ks (some k) = Memᴰ k ks × All (λ l. is_less (cmp l k) ≡ false) ks

  foremost_is : (ks : List (List ℕ)) → Foremost ks (foremost (λ a b. is_less (cmp a b)) ks)
  foremost_is [] = all_nil _
  foremost_is (k ∷ ks) = go (foremost (λ a b. is_less (cmp a b)) ks) (foremost_is ks)
    where
      self : is_less (cmp k k) ≡ false
      self = rw (o.same k)

      pair : (l : List ℕ) → Foremost ks (some l) → (b : Bool) → is_less (cmp l k) ≡ b → Foremost (k ∷ ks) (some (cond b l k))
      pair l (m, h) true q = (Memᴰ.tail m, all_cons (less_not_less cmp o l k q) h)
      pair l (m, h) false q = (here, all_cons self (λ x n. not_less_trans cmp o k l x q (h x n)))

      go : (n : Maybe (List ℕ)) → Foremost ks n → Foremost (k ∷ ks) (some (earlier (λ a b. is_less (cmp a b)) k n))
      go none h = (here, all_cons self (λ x n. absurd (h x n)))
      go (some l) h = pair l h (is_less (cmp l k)) refl

  module _ (p : List ℕ → Bool) (s : ℕ) where
    -- of the keys of a list that may be picked
    abbrev pub Best : List Entry → Maybe (List ℕ) → Type 0
    Best es none = All (λ e. Candidate p s es e.key → ⊥) es
    Best es (some k) = HasKey k es × Candidate p s es k × All (λ f. Candidate p s es f.key → is_less (cmp f.key k) ≡ false) es

    pub best_is : (es : List Entry) → Best es (best (λ a b. is_less (cmp a b)) p s es)
    best_is es = go (best (λ a b. is_less (cmp a b)) p s es) (foremost_is (keep p (shown_keys s es)))
      where
        go : (n : Maybe (List ℕ)) → Foremost (keep p (shown_keys s es)) n → Best es n
        go none h = λ e m c. h e.key (may_pick p s es e m c)
        go (some k) (m, h) = let (a, b) = picked p s es k m in (a, b, λ e n c. h e.key (may_pick p s es e n c))

    best_one : (es : List Entry) (m n : Maybe (List ℕ)) → Best es m → Best es n → m ≡ n
    best_one es none none x y = refl
    best_one es none (some l) x (m, g, h) = absurd (at_key (λ k. Candidate p s es k → ⊥) x m g)
    best_one es (some k) none (m, g, h) y = absurd (at_key (λ k. Candidate p s es k → ⊥) y m g)
    best_one es (some k) (some l) (m, g, h) (n, i, j) =
        let a = at_key (λ q. Candidate p s es q → is_less (cmp q l) ≡ false) j m g in
        let b = at_key (λ q. Candidate p s es q → is_less (cmp q k) ≡ false) h n i in
        ap {B = Maybe (List ℕ)} some (neither_less cmp o k l a b)

    -- what is best is what best finds
    pub best_by : (es : List Entry) (n : Maybe (List ℕ)) → Best es n → best (λ a b. is_less (cmp a b)) p s es ≡ n
    best_by es n h = best_one es (best (λ a b. is_less (cmp a b)) p s es) n (best_is es) h

    -- it depends on the rows only
    pub same_best : (es fs : List Entry) → Agree s es fs → Single s es → best (λ a b. is_less (cmp a b)) p s es ≡ best (λ a b. is_less (cmp a b)) p s fs
    same_best es fs a u = sym (best_by fs (best (λ a b. is_less (cmp a b)) p s es) (go (best (λ a b. is_less (cmp a b)) p s es) (best_is es)))
      where
        there : (k : List ℕ) → Candidate p s es k → Candidate p s fs k
        there k c = record { admitted = c.admitted; present = rw (same_row k s es fs a u) at c.present }

        back : (k : List ℕ) → Candidate p s fs k → Candidate p s es k
        back k c = record { admitted = c.admitted; present = rw (same_row k s es fs a u) c.present }

        -- a key with a row is the key of an entry up to s, which both lists have
        in_second : (k : List ℕ) → Candidate p s es k → HasKey k fs
        in_second k c = let (e, m, f) = row_present k s es c.present in (e, (a e f.number).0 m, f.key)

        in_first : (k : List ℕ) → Candidate p s fs k → HasKey k es
        in_first k c = let (e, m, f) = row_present k s fs c.present in (e, (a e f.number).1 m, f.key)

        go : (n : Maybe (List ℕ)) → Best es n → Best fs n
        go none h = λ e m c. let d = back e.key c in at_key (λ k. Candidate p s es k → ⊥) h (in_first e.key c) d
        go (some k) (m, c, h) = (in_second k c, there k c, λ e n d. at_key (λ q. Candidate p s es q → is_less (cmp q k) ≡ false) h (in_first e.key d) (back e.key d))

-- a later entry of an ascending list has no lesser key
pub later_key : (e f : Entry) → order e f ≡ less → is_less (compare_keys f.key e.key) ≡ false
unfolding compare_entries
later_key e f h =
    ⊎_elim (λ l. rw (less_greater compare_keys keys e.key f.key l)) (λ q. rw (keys.eq e.key f.key q.0, keys.same f.key))
    (then_less (compare_keys e.key f.key) (compare_numbers f.number e.number) h)

-- every move ends on the same key
pub same_target : (m : Move) (s : ℕ) (c : Maybe (List ℕ)) (es fs : List Entry) → Agree s es fs → Single s es → target m s c es ≡ target m s c fs
same_target first s c es fs a u = same_best compare_keys keys every s es fs a u
same_target (seek t) s c es fs a u = same_best compare_keys keys (λ k. not (below k t)) s es fs a u
same_target next s none es fs a u = same_best compare_keys keys every s es fs a u
same_target next s (some k) es fs a u = same_best compare_keys keys (λ l. below k l) s es fs a u
same_target previous s none es fs a u = refl
same_target previous s (some k) es fs a u = same_best (λ a b. compare_keys b a) (opposite compare_keys keys) (λ l. below l k) s es fs a u
