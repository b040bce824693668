-- The key of a list that comes next behind a cut, and what it says of the key that a move ends on.
-- An order is given by its comparison, so that the same laws serve upward and downward.
use Prim.Native.Nat.{ℕ, suc, ◌<◌, ◌≤◌}
use native.Mathlib.Omega.{arith}
use mathlib.Core.Path.{◌≡◌, refl, sym, ap, ◌∙◌}
use mathlib.Core.Logic.{◌⊎◌, inl, inr}
use mathlib.Core.List.Memᴰ
use mathlib.Core.List.{List, [], ◌∷◌, ◌++◌, Memᴰ}
use mathlib.Core.Bool.{Bool, true, false, not, true≢false, false≢true}
use lib.ListN.{length}
use Rattle.rule.specs.Lists.{cond, Maybe, none, some, is_some, All}
use Rattle.rule.specs.Order.{Ord, compare_keys, is_less, is_equal}
use Rattle.rule.specs.Entries.{Entry, Ascending}
use Rattle.rule.specs.Rows.{row}
use Rattle.rule.specs.Moves.{best}
use Rattle.rule.specs.Nearest.{HasKey, Least, sooner, Onward, remaining}
use Rattle.rule.proofs.Lists.{here, all_cons, all_append, pairwise_middle}
use Rattle.rule.proofs.Order.{Order, keys, less_true, less_not_less, not_less_trans, not_less_other, equal_true}
use Rattle.rule.proofs.Moves.{later_key, Candidate, Best, best_is, best_by}

has_left : {k : List ℕ} {es : List Entry} (fs : List Entry) → HasKey k es → HasKey k (es ++ fs)
has_left fs (e, m, q) = (e, Memᴰ.append_left fs m, q)

has_right : {k : List ℕ} (es : List Entry) {fs : List Entry} → HasKey k fs → HasKey k (es ++ fs)
has_right es (e, m, q) = (e, Memᴰ.append_right es m, q)

module _ (cmp : List ℕ → List ℕ → Ord) (o : Order (List ℕ) cmp) where
  pub least_append : (p : List ℕ → Bool) (es fs : List Entry) (m n : Maybe (List ℕ)) → Least cmp p es m → Least cmp p fs n → Least cmp p (es ++ fs) (sooner cmp m n)
  least_append p es fs none none h g = all_append es fs h g
  least_append p es fs none (some l) h (a, b, g) = (has_right es a, b, all_append es fs (λ e m q. absurd (h e m q)) g)
  least_append p es fs (some k) none (a, b, h) g = (has_left fs a, b, all_append es fs h (λ e m q. absurd (g e m q)))
  least_append p es fs (some k) (some l) (a, b, h) (c, d, g) = go (is_less (cmp l k)) refl
    where
      go : (t : Bool) → is_less (cmp l k) ≡ t → Least cmp p (es ++ fs) (some (cond t l k))
      go true e = (has_right es c, d, all_append es fs (λ f m q. not_less_trans cmp o l k f.key (less_not_less cmp o l k e) (h f m q)) g)
      go false e = (has_left fs a, b, all_append es fs h (λ f m q. not_less_trans cmp o k l f.key e (g f m q)))

  pub past_onward : (k : List ℕ) → Onward cmp (λ l. is_less (cmp k l))
  past_onward k a b p q = rw (o.trans k a b (less_true (cmp k a) p) (less_true (cmp a b) q))

  pub from_onward : (k : List ℕ) → Onward cmp (λ l. not (is_less (cmp l k)))
  from_onward k a b p q = go (is_less (cmp a k)) refl
    where
      go : (t : Bool) → is_less (cmp a k) ≡ t → not (is_less (cmp b k)) ≡ true
      go true e = absurd (false≢true (rw e at p))
      go false e = rw (not_less_trans cmp o k a b e (less_not_less cmp o a b q))

  pub every_onward : Onward cmp (λ l. true)
  every_onward a b p q = refl

  module _ (s : ℕ) (es : List Entry) (p : List ℕ → Bool) where
    pub best_end : Least cmp p es none → best (λ a b. is_less (cmp a b)) p s es ≡ none
    best_end h = best_by cmp o p s es none (λ e m c. h e m c.admitted)

    module _ (k : List ℕ) (l : Least cmp p es (some k)) where
      pub best_done : is_some (row k s es) ≡ true → best (λ a b. is_less (cmp a b)) p s es ≡ some k
      best_done r = best_by cmp o p s es (some k) (l.0, record { admitted = l.1; present = r }, λ e m c. l.2 e m c.admitted)

      pub best_past : Onward cmp p → is_some (row k s es) ≡ false → best (λ a b. is_less (cmp a b)) p s es ≡ best (λ a b. is_less (cmp a b)) (λ x. is_less (cmp k x)) s es
      best_past up r = let found = best (λ a b. is_less (cmp a b)) (λ x. is_less (cmp k x)) s es in best_by cmp o p s es found (go found (best_is cmp o (λ x. is_less (cmp k x)) s es))
        where
          back : (x : List ℕ) → Candidate (λ y. is_less (cmp k y)) s es x → Candidate p s es x
          back x c = record { admitted = up k x l.1 c.admitted; present = c.present }

          after : (x : List ℕ) → is_less (cmp x k) ≡ false → is_some (row x s es) ≡ true → is_less (cmp k x) ≡ true
          after x n q = turn (is_equal (cmp x k)) refl
            where
              turn : (t : Bool) → is_equal (cmp x k) ≡ t → is_less (cmp k x) ≡ true
              turn true e = absurd (true≢false (sym q ∙ ap (λ (y : List ℕ). is_some (row y s es)) (o.eq x k (equal_true (cmp x k) e)) ∙ r))
              turn false e = rw (not_less_other cmp o x k n e)

          on : (e : Entry) → Memᴰ e es → Candidate p s es e.key → Candidate (λ y. is_less (cmp k y)) s es e.key
          on e m c = record { admitted = after e.key (l.2 e m c.admitted) c.present; present = c.present }

          go : (n : Maybe (List ℕ)) → Best cmp o (λ x. is_less (cmp k x)) s es n → Best cmp o p s es n
          go none h = λ e m c. h e m (on e m c)
          go (some x) (a, b, h) = (a, back x b, λ e m c. h e m (on e m c))

-- fewer are admitted by a further cut
pub remaining_length : (p : List ℕ → Bool) (es : List Entry) → remaining p es ≤ length es
remaining_length p [] = omega arith
remaining_length p (e ∷ es) = go (p e.key) (remaining_length p es)
  where
    go : (t : Bool) → remaining p es ≤ length es → cond t (suc (remaining p es)) (remaining p es) ≤ suc (length es)
    go true h = omega arith
    go false h = omega arith

pub remaining_mono : (p q : List ℕ → Bool) → ((k : List ℕ) → q k ≡ true → p k ≡ true) → (es : List Entry) → remaining q es ≤ remaining p es
remaining_mono p q f [] = omega arith
remaining_mono p q f (e ∷ es) = go (q e.key) refl (p e.key) refl (remaining_mono p q f es)
  where
    go : (t : Bool) → q e.key ≡ t → (u : Bool) → p e.key ≡ u → remaining q es ≤ remaining p es → cond t (suc (remaining q es)) (remaining q es) ≤ cond u (suc (remaining p es)) (remaining p es)
    go true a true b h = omega arith
    go true a false b h = absurd (true≢false (sym (f e.key a) ∙ b))
    go false a true b h = omega arith
    go false a false b h = h

pub remaining_less : (p q : List ℕ → Bool) → ((k : List ℕ) → q k ≡ true → p k ≡ true) → (k : List ℕ) → p k ≡ true → q k ≡ false → (es : List Entry) → HasKey k es → remaining q es < remaining p es
remaining_less p q f k x y [] (e, m, r) = absurd (Memᴰ.not-nil m)
remaining_less p q f k x y (d ∷ es) (e, m, r) = go (Memᴰ.cases_cons m) (λ n. remaining_less p q f k x y es (e, n, r)) (remaining_mono p q f es)
  where
    more : remaining q es < remaining p es → (t : Bool) → q d.key ≡ t → (u : Bool) → p d.key ≡ u → cond t (suc (remaining q es)) (remaining q es) < cond u (suc (remaining p es)) (remaining p es)
    more h true a true b = omega arith
    more h true a false b = absurd (true≢false (sym (f d.key a) ∙ b))
    more h false a true b = omega arith
    more h false a false b = h

    go : (e ≡ d) ⊎ Memᴰ e es → (Memᴰ e es → remaining q es < remaining p es) → remaining q es ≤ remaining p es → remaining q (d ∷ es) < remaining p (d ∷ es)
    go (inl z) ih mono = let w : d.key ≡ k = ap (λ (c : Entry). c.key) (sym z) ∙ r in rw (w, x, y) (omega arith)
    go (inr n) ih mono = more (ih n) (q d.key) refl (p d.key) refl

-- for the table below: in an ascending list the next key behind a cut is that of the first entry which the cut admits, upward, and of the last one, downward
module _ (p : List ℕ → Bool) (lo : List Entry) (e : Entry) (hi : List Entry) (asc : Ascending (lo ++ (e ∷ hi))) (h : p e.key ≡ true) where
  pub least_front : All (λ f. p f.key ≡ false) lo → Least compare_keys p (lo ++ (e ∷ hi)) (some e.key)
  least_front n = (
    (e, Memᴰ.append_right lo here, refl),
    h,
    all_append lo (e ∷ hi) (λ f m q. absurd (true≢false (sym q ∙ n f m)))
        (all_cons (λ _. rw (keys.same e.key)) (λ f m _. later_key e f ((pairwise_middle _ lo e hi asc).1 f m))),
  )

  pub least_back : All (λ f. p f.key ≡ false) hi → Least (λ a b. compare_keys b a) p (lo ++ (e ∷ hi)) (some e.key)
  least_back n = (
    (e, Memᴰ.append_right lo here, refl),
    h,
    all_append lo (e ∷ hi) (λ f m _. later_key f e ((pairwise_middle _ lo e hi asc).0 f m))
        (all_cons (λ _. rw (keys.same e.key)) (λ f m q. absurd (true≢false (sym q ∙ n f m)))),
  )

-- no entry is admitted
pub least_nothing : (cmp : List ℕ → List ℕ → Ord) (p : List ℕ → Bool) (es : List Entry) → All (λ f. p f.key ≡ false) es → Least cmp p es none
least_nothing cmp p es n f m q = true≢false (sym q ∙ n f m)

-- the key of the first entry, and of the last
abbrev pub front_key : List Entry → Maybe (List ℕ)
front_key [] = none
front_key (e ∷ es) = some e.key

abbrev pub back_key : List Entry → Maybe (List ℕ)
back_key [] = none
back_key (e ∷ []) = some e.key
back_key (e ∷ f ∷ es) = back_key (f ∷ es)

-- a list is its last entry after the others
snoc : (e : Entry) (es : List Entry) → (lo : List Entry) × (d : Entry) × ((e ∷ es) ≡ lo ++ (d ∷ [])) × (back_key (e ∷ es) ≡ some d.key)
snoc e [] = ([], e, refl, refl)
snoc e (f ∷ es) = let (lo, d, q, r) = snoc f es in (e ∷ lo, d, ap {B = List Entry} (λ l. e ∷ l) q, r)
