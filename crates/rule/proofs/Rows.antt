-- What decides the newest entry of a key and its row: how it is characterised, and that order, split and later numbers do not count.
use Prim.Native.Nat.{ℕ, ◌<◌, ◌≤◌}
use native.Mathlib.Omega.{arith}
use native.Mathlib.Nat.{le_refl}
use mathlib.Core.Path.{◌≡◌, refl, sym, ap, ◌∙◌}
use mathlib.Core.Logic.{◌⊎◌, inl, inr, ⊎_elim}
use mathlib.Core.List.Memᴰ
use mathlib.Core.List.{List, [], ◌∷◌, ◌++◌, Memᴰ}
use mathlib.Core.Bool.{Bool, true, false, true≢false, false≢true}
use lib.Dec.{ltb, leb}
use borrow.Author.Tests.{ltb-true, ltb-false, lt-ltb, le-ltb, leb-true, le-leb}
use Rattle.rule.specs.Lists.{cond, Maybe, none, some, is_some, All, Pairwise}
use Rattle.rule.specs.Order.{Ord, less, equal, greater, compare_keys, compare_entries, is_less, is_equal}
use Rattle.rule.specs.Entries.{Entry, order, Ascending, Agree, Single}
use Rattle.rule.specs.Rows.{fits, newer, newest, shown, row}
use Rattle.rule.proofs.Lists.{both_true, here, all_nil, all_cons, all_append, pairwise_right}
use Rattle.rule.proofs.Order.{keys, greater_not_eq, less_true, equal_true, entries_less_number, entries_not_less_number}

-- the entry counts for the key k up to the number s
pub record Fits (k : List ℕ) (s : ℕ) (e : Entry) : Type 0 where
  pub key : e.key ≡ k
  pub number : e.number ≤ s

pub fits_true : (k : List ℕ) (s : ℕ) (e : Entry) → fits k s e ≡ true → Fits k s e
fits_true k s e h = let (a, b) = both_true (is_equal (compare_keys e.key k)) (leb e.number s) h in record {
  key = keys.eq e.key k (equal_true (compare_keys e.key k) a);
  number = leb-true e.number s b;
}

pub true_fits : (k : List ℕ) (s : ℕ) (e : Entry) → Fits k s e → fits k s e ≡ true
true_fits k s e f = rw (f.key, keys.same k, le-leb e.number s f.number)

-- what it is to be the newest
module _ (k : List ℕ) (s : ℕ) where
  abbrev pub Newest : List Entry → Maybe Entry → Type 0
  Newest es none = All (λ e. Fits k s e → ⊥) es
  Newest es (some e) = Memᴰ e es × Fits k s e × All (λ f. Fits k s f → f.number ≤ e.number) es

  pub newest_is : (es : List Entry) → Newest es (newest k s es)
  newest_is [] = all_nil _
  newest_is (e ∷ es) = go (fits k s e) refl (newest k s es) (newest_is es)
    where
      pair : (f : Entry) → Newest es (some f) → Fits k s e → (b : Bool) → ltb e.number f.number ≡ b → Newest (e ∷ es) (some (cond b f e))
      pair f (m, g, h) d true p = (Memᴰ.tail m, g, all_cons (λ _. omega (arith, ltb-true e.number f.number p)) h)
      pair f (m, g, h) d false p = (here, d, all_cons (λ _. le_refl _) (λ x n q. omega (arith, h x n q, ltb-false e.number f.number p)))

      go : (b : Bool) → fits k s e ≡ b → (n : Maybe Entry) → Newest es n → Newest (e ∷ es) (cond b (some (newer e n)) n)
      go true p none h = (here, fits_true k s e p, all_cons (λ _. le_refl _) (λ f m q. absurd (h f m q)))
      go true p (some f) h = pair f h (fits_true k s e p) (ltb e.number f.number) refl
      go false p none h = all_cons (λ q. true≢false (sym (true_fits k s e q) ∙ p)) h
      go false p (some f) (m, g, h) = (Memᴰ.tail m, g, all_cons (λ q. absurd (true≢false (sym (true_fits k s e q) ∙ p))) h)

-- the newest is the newest of every list with the same entries
pub newest_agree : (k : List ℕ) (s : ℕ) (es fs : List Entry) → Agree s es fs → Single s es → (m n : Maybe Entry) → Newest k s es m → Newest k s fs n → m ≡ n
newest_agree k s es fs a u none none p q = refl
newest_agree k s es fs a u none (some f) p (m, g, h) = absurd (p f ((a f g.number).1 m) g)
newest_agree k s es fs a u (some e) none (m, g, h) q = absurd (q e ((a e g.number).0 m) g)
newest_agree k s es fs a u (some e) (some f) (m, g, h) (n, i, j) = ap {B = Maybe Entry} some (u e f m n' g.number (g.key ∙ sym i.key) (omega (arith, h f n' i, j e ((a e g.number).0 m) g)))
  where
    n' : Memᴰ f es
    n' = (a f i.number).1 n

pub same_newest : (k : List ℕ) (s : ℕ) (es fs : List Entry) → Agree s es fs → Single s es → newest k s es ≡ newest k s fs
same_newest k s es fs a u = newest_agree k s es fs a u (newest k s es) (newest k s fs) (newest_is k s es) (newest_is k s fs)

pub same_row : (k : List ℕ) (s : ℕ) (es fs : List Entry) → Agree s es fs → Single s es → row k s es ≡ row k s fs
same_row k s es fs a u = ap shown (same_newest k s es fs a u)

-- no entry is less than one of the same key and number
order_strict : (e f : Entry) → e.key ≡ f.key → e.number ≡ f.number → order e f ≡ less → ⊥
order_strict e f p q h = omega (arith, entries_less_number e.key e.number f.key f.number p h)

-- no two entries of one key and number, where what holds between any two forbids it
pub pairwise_single : (R : Entry → Entry → Type 0) (s : ℕ) → ((e f : Entry) → e.number ≤ s → e.key ≡ f.key → e.number ≡ f.number → R e f → ⊥) → (es : List Entry) → Pairwise R es → Single s es
pairwise_single R s r [] a e f m n h p q = absurd (Memᴰ.not-nil m)
pairwise_single R s r (d ∷ es) a e f m n h p q = go (Memᴰ.cases_cons m) (Memᴰ.cases_cons n) (pairwise_single R s r es a.1 e f)
  where
    go : (e ≡ d) ⊎ Memᴰ e es → (f ≡ d) ⊎ Memᴰ f es → (Memᴰ e es → Memᴰ f es → e.number ≤ s → e.key ≡ f.key → e.number ≡ f.number → e ≡ f) → e ≡ f
    go (inl x) (inl y) ih = x ∙ sym y
    go (inl x) (inr y) ih = absurd (r e f h p q (rw x (a.0 f y)))
    go (inr x) (inl y) ih = absurd (r f e (omega arith) (sym p) (sym q) (rw y (a.0 e x)))
    go (inr x) (inr y) ih = ih x y h p q

pub ascending_single : (s : ℕ) (es : List Entry) → Ascending es → Single s es
ascending_single s es a = pairwise_single (λ e f. order e f ≡ less) s (λ e f h p q r. order_strict e f p q r) es a

-- the first of a list, if it has the key
abbrev pub front : List ℕ → List Entry → Maybe Entry
front k [] = none
front k (e ∷ es) = cond (is_equal (compare_keys e.key k)) (some e) none

-- in an ascending list the newest stands at the first place that is not less than the probe
module _ (k : List ℕ) (s : ℕ) where
  -- what is less than the probe does not count
  less_unfit : (e : Entry) → compare_entries e.key e.number k s ≡ less → Fits k s e → ⊥
  less_unfit e h f = omega (arith, entries_less_number e.key e.number k s f.key h, f.number)

  -- and may be left out in front
  newest_skip : (lo hi : List Entry) (n : Maybe Entry) → All (λ e. Fits k s e → ⊥) lo → Newest k s hi n → Newest k s (lo ++ hi) n
  newest_skip lo hi none u h = all_append lo hi u h
  newest_skip lo hi (some e) u (m, g, h) = (Memᴰ.append_right lo m, g, all_append lo hi (λ f n q. absurd (u f n q)) h)

  front_newest : (hi : List Entry) → Ascending hi → All (λ e. is_less (compare_entries e.key e.number k s) ≡ false) hi → Newest k s hi (front k hi)
  unfolding compare_entries
  front_newest [] a h = all_nil _
  front_newest (e ∷ es) a h = go (compare_keys e.key k) refl
    where
      go : (o : Ord) → compare_keys e.key k ≡ o → Newest k s (e ∷ es) (cond (is_equal o) (some e) none)
      go less p = absurd (true≢false (rw p at (h e here)))
      go equal p = (
        here,
        record { key = keys.eq e.key k p; number = entries_not_less_number e.key e.number k s (keys.eq e.key k p) (h e here) },
        all_cons
            (λ _. le_refl _) (λ f m q. omega (arith, entries_less_number e.key e.number f.key f.number (keys.eq e.key k p ∙ sym q.key) (a.0 f m))),
      )
      go greater p = all_cons (λ q. greater_not_eq compare_keys keys e.key k p q.key) (λ f m q. false≢true (ap is_less (rw (q.key, p) at (a.0 f m))))

  pub newest_front : (lo hi : List Entry) → Ascending (lo ++ hi) → All (λ e. is_less (compare_entries e.key e.number k s) ≡ true) lo
      → All (λ e. is_less (compare_entries e.key e.number k s) ≡ false) hi → newest k s (lo ++ hi) ≡ front k hi
  newest_front lo hi a l h = newest_agree k s (lo ++ hi) (lo ++ hi) (λ e _. (λ m. m, λ m. m)) (ascending_single s (lo ++ hi) a) (newest k s (lo ++ hi)) (front k hi) (newest_is k s (lo ++ hi))
      (newest_skip lo hi (front k hi) (λ e m. less_unfit e (less_true _ (l e m))) (front_newest hi (pairwise_right _ lo hi a) h))

-- the newer of two that may be missing; of equal numbers the first
abbrev pub latest : Maybe Entry → Maybe Entry → Maybe Entry
latest none n = n
latest (some e) n = some (newer e n)

newer_assoc : (e f g : Entry) → newer e (some (newer f (some g))) ≡ newer (newer e (some f)) (some g)
newer_assoc e f g = go (ltb e.number f.number) refl (ltb f.number g.number) refl
  where
    go : (p : Bool) → ltb e.number f.number ≡ p → (q : Bool) → ltb f.number g.number ≡ q → newer e (some (newer f (some g))) ≡ newer (newer e (some f)) (some g)
    go true p true q = simp (p, q, lt-ltb e.number g.number (omega (arith, ltb-true e.number f.number p, ltb-true f.number g.number q)))
    go true p false q = simp (p, q)
    go false p true q = simp (p, q)
    go false p false q = simp (p, q, le-ltb e.number g.number (omega (arith, ltb-false e.number f.number p, ltb-false f.number g.number q)))

-- newest of a list in two parts
pub newest_append : (k : List ℕ) (s : ℕ) (es fs : List Entry) → newest k s (es ++ fs) ≡ latest (newest k s es) (newest k s fs)
newest_append k s [] fs = refl
newest_append k s (e ∷ es) fs = rw (newest_append k s es fs) (go (fits k s e) (newest k s es) (newest k s fs))
  where
    go : (b : Bool) (m n : Maybe Entry) → cond b (some (newer e (latest m n))) (latest m n) ≡ latest (cond b (some (newer e m)) m) n
    go false m n = refl
    go true none n = refl
    go true (some f) none = refl
    go true (some f) (some g) = ap {B = Maybe Entry} some (newer_assoc e f g)

-- a row comes from an entry that counts
pub row_present : (k : List ℕ) (s : ℕ) (es : List Entry) → is_some (row k s es) ≡ true → (e : Entry) × Memᴰ e es × Fits k s e
row_present k s es h = go (newest k s es) (newest_is k s es) h
  where
    go : (n : Maybe Entry) → Newest k s es n → is_some (shown n) ≡ true → (e : Entry) × Memᴰ e es × Fits k s e
    go none p q = absurd (false≢true q)
    go (some e) p q = (e, p.0, p.1)

-- ---- what two lists of entries have in common up to s

-- entries with higher numbers change nothing that s sees
pub agree_later : (s : ℕ) (es fs : List Entry) → All (λ e. s < e.number) fs → Agree s es (es ++ fs)
agree_later s es fs l e h = (λ k. Memᴰ.append_left fs k, λ k. ⊎_elim (λ i. i) (λ i. absurd (omega (arith, h, l e i))) (Memᴰ.append_cases es k))

-- two tables, each beside another
pub agree_both : (s : ℕ) (es es' fs fs' : List Entry) → Agree s es es' → Agree s fs fs' → Agree s (es ++ fs) (es' ++ fs')
agree_both s es es' fs fs' g h e l = (there es es' fs fs' (g e l).0 (h e l).0, there es' es fs' fs (g e l).1 (h e l).1)
  where
    there : (is bs cs ds : List Entry) → (Memᴰ e is → Memᴰ e bs) → (Memᴰ e cs → Memᴰ e ds) → Memᴰ e (is ++ cs) → Memᴰ e (bs ++ ds)
    there is bs cs ds p q k = ⊎_elim (λ i. Memᴰ.append_left ds (p i)) (λ i. Memᴰ.append_right bs (q i)) (Memᴰ.append_cases is k)

-- what is single in one list is so in every list with the same entries
pub agree_single : (s : ℕ) (es fs : List Entry) → Agree s es fs → Single s es → Single s fs
agree_single s es fs a u e f m n h p q = u e f ((a e h).1 m) ((a f (omega (arith, h, q))).1 n) h p q
