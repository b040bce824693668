-- The laws of the orders of keys and of entries.
use Prim.Native.Nat.{ℕ, ◌<◌, ◌≤◌}
use native.Mathlib.Omega.{arith}
use mathlib.Core.Path.{◌≡◌, refl, sym, ap, ap₂, ◌∙◌}
use mathlib.Core.Logic.{◌⊎◌, inl, inr}
use mathlib.Core.List.{List, [], ◌∷◌}
use mathlib.Core.Bool.{Bool, true, false, true≢false}
use lib.Dec.{ltb}
use borrow.Author.Tests.{ltb-true, ltb-false, lt-ltb, le-ltb}
use Rattle.rule.specs.Lists.{cond}
use Rattle.rule.specs.Order.{Ord, less, equal, greater, compare_keys, then, compare_numbers, compare_entries, is_less, is_equal}

-- the answer with the two sides exchanged
abbrev pub flip : Ord → Ord
flip less = greater
flip equal = equal
flip greater = less

-- the laws of a total order that is given by a comparison
pub record Order {ℓ} (A : Type ℓ) (cmp : A → A → Ord) : Type ℓ where
  pub same : (a : A) → cmp a a ≡ equal
  pub eq : (a b : A) → cmp a b ≡ equal → a ≡ b
  pub flips : (a b : A) → cmp b a ≡ flip (cmp a b)
  pub trans : (a b c : A) → cmp a b ≡ less → cmp b c ≡ less → cmp a c ≡ less

-- the same order from the top down
pub opposite {ℓ} : {A : Type ℓ} (cmp : A → A → Ord) → Order A cmp → Order A (λ a b. cmp b a)
opposite cmp o = record {
  same = o.same;
  eq = λ a b e. sym (o.eq b a e);
  flips = λ a b. o.flips b a;
  trans = λ a b c p q. o.trans c b a q p;
}

-- what an answer on numbers says
abbrev pub Says : ℕ → ℕ → Ord → Type 0
Says m n less = m < n
Says m n equal = m ≡ n
Says m n greater = n < m

pub numbers_says : (m n : ℕ) → Says m n (compare_numbers m n)
numbers_says m n = go (ltb m n) refl (ltb n m) refl
  where
    go : (b : Bool) → ltb m n ≡ b → (c : Bool) → ltb n m ≡ c → Says m n (cond b less (cond c greater equal))
    go true p c q = ltb-true m n p
    go false p true q = ltb-true n m q
    go false p false q = omega (arith, ltb-false m n p, ltb-false n m q)

-- the answer is the one that says the truth
pub numbers_answer : (m n : ℕ) (o : Ord) → Says m n o → compare_numbers m n ≡ o
numbers_answer m n less h = rw (lt-ltb m n h)
numbers_answer m n equal h = rw (le-ltb m n (omega arith), le-ltb n m (omega arith))
numbers_answer m n greater h = rw (le-ltb m n (omega arith), lt-ltb n m h)

-- what a known answer says
pub numbers_known : (m n : ℕ) {o : Ord} → compare_numbers m n ≡ o → Says m n o
numbers_known m n e = rw e at (numbers_says m n)

says_flip : (m n : ℕ) (o : Ord) → Says m n o → Says n m (flip o)
says_flip m n less h = h
says_flip m n equal h = sym h
says_flip m n greater h = h

pub numbers : Order ℕ compare_numbers
numbers = record {
  same = λ a. numbers_answer a a equal refl;
  eq = λ a b e. numbers_known a b {o = equal} e;
  flips = λ a b. numbers_answer b a (flip (compare_numbers a b)) (says_flip a b (compare_numbers a b) (numbers_says a b));
  trans = λ a b c p q. numbers_answer a c less (omega (arith, numbers_known a b {o = less} p, numbers_known b c {o = less} q));
}

-- first by one comparison, then by another
pub then_equal : (o p : Ord) → then o p ≡ equal → (o ≡ equal) × (p ≡ equal)
then_equal less p e = (cc, cc)
then_equal equal p e = (refl, e)
then_equal greater p e = (cc, cc)

pub then_flip : (o p : Ord) → flip (then o p) ≡ then (flip o) (flip p)
then_flip less p = refl
then_flip equal p = refl
then_flip greater p = refl

pub then_less : (o p : Ord) → then o p ≡ less → (o ≡ less) ⊎ ((o ≡ equal) × (p ≡ less))
then_less less p e = inl refl
then_less equal p e = inr (refl, e)
then_less greater p e = inl (cc)

pub then_trans {ℓ} : {A : Type ℓ} (cmp : A → A → Ord) → Order A cmp → (a b c : A) (p q r : Ord) → (p ≡ less → q ≡ less → r ≡ less)
    → then (cmp a b) p ≡ less → then (cmp b c) q ≡ less → then (cmp a c) r ≡ less
then_trans cmp o a b c p q r step h k = go (then_less (cmp a b) p h) (then_less (cmp b c) q k)
  where
    go : (cmp a b ≡ less) ⊎ ((cmp a b ≡ equal) × (p ≡ less)) → (cmp b c ≡ less) ⊎ ((cmp b c ≡ equal) × (q ≡ less)) → then (cmp a c) r ≡ less
    go (inl x) (inl y) = rw (o.trans a b c x y)
    go (inl x) (inr y) = rw (← o.eq b c y.0, x)
    go (inr x) (inl y) = rw (o.eq a b x.0, y)
    go (inr x) (inr y) = rw (o.eq a b x.0, y.0, step x.1 y.1)

keys_same : (k : List ℕ) → compare_keys k k ≡ equal
unfolding compare_keys
keys_same [] = refl
keys_same (x ∷ xs) = rw (numbers.same x, keys_same xs)

keys_eq : (k l : List ℕ) → compare_keys k l ≡ equal → k ≡ l
unfolding compare_keys
keys_eq [] [] e = refl
keys_eq [] (y ∷ ys) e = cc
keys_eq (x ∷ xs) [] e = cc
keys_eq (x ∷ xs) (y ∷ ys) e = let h = then_equal (compare_numbers x y) (compare_keys xs ys) e in rw (numbers.eq x y h.0, keys_eq xs ys h.1)

keys_flip : (k l : List ℕ) → compare_keys l k ≡ flip (compare_keys k l)
unfolding compare_keys
keys_flip [] [] = refl
keys_flip [] (y ∷ ys) = refl
keys_flip (x ∷ xs) [] = refl
keys_flip (x ∷ xs) (y ∷ ys) = ap₂ then (numbers.flips x y) (keys_flip xs ys) ∙ sym (then_flip (compare_numbers x y) (compare_keys xs ys))

keys_trans : (j k l : List ℕ) → compare_keys j k ≡ less → compare_keys k l ≡ less → compare_keys j l ≡ less
unfolding compare_keys
keys_trans [] [] [] p q = cc
keys_trans [] (y ∷ ys) [] p q = cc
keys_trans [] [] (z ∷ zs) p q = refl
keys_trans [] (y ∷ ys) (z ∷ zs) p q = refl
keys_trans (x ∷ xs) [] l p q = cc
keys_trans (x ∷ xs) (y ∷ ys) [] p q = cc
keys_trans (x ∷ xs) (y ∷ ys) (z ∷ zs) p q = then_trans compare_numbers numbers x y z (compare_keys xs ys) (compare_keys ys zs) (compare_keys xs zs) (keys_trans xs ys zs) p q

pub keys : Order (List ℕ) compare_keys
keys = record { same = keys_same; eq = keys_eq; flips = keys_flip; trans = keys_trans }

-- the entries by key and number
abbrev pub compare_pairs : (List ℕ × ℕ) → (List ℕ × ℕ) → Ord
compare_pairs e f = compare_entries e.0 e.1 f.0 f.1

pub entries : Order (List ℕ × ℕ) compare_pairs
unfolding compare_entries
entries = record {
  same = λ e. rw (keys.same e.0, numbers.same e.1);
  eq = λ e f h. let t = then_equal (compare_keys e.0 f.0) (compare_numbers f.1 e.1) h in λ i. (keys.eq e.0 f.0 t.0 i, sym (numbers.eq f.1 e.1 t.1) i);
  flips = λ e f. ap₂ then (keys.flips e.0 f.0) (numbers.flips f.1 e.1) ∙ sym (then_flip (compare_keys e.0 f.0) (compare_numbers f.1 e.1));
  trans =
      λ e f g. then_trans compare_keys keys e.0 f.0 g.0 (compare_numbers f.1 e.1) (compare_numbers g.1 f.1) (compare_numbers g.1 e.1)
      (λ p q. numbers.trans g.1 f.1 e.1 q p);
}

-- entries of one key are ordered by their numbers, from the top
pub entries_same_key : (k : List ℕ) (m : ℕ) (l : List ℕ) (n : ℕ) → k ≡ l → compare_entries k m l n ≡ compare_numbers n m
unfolding compare_entries
entries_same_key k m l n e = rw (e, keys.same l)

pub entries_less_number : (k : List ℕ) (m : ℕ) (l : List ℕ) (n : ℕ) → k ≡ l → compare_entries k m l n ≡ less → n < m
entries_less_number k m l n e h = numbers_known n m {o = less} (sym (entries_same_key k m l n e) ∙ h)

pub entries_not_less_number : (k : List ℕ) (m : ℕ) (l : List ℕ) (n : ℕ) → k ≡ l → is_less (compare_entries k m l n) ≡ false → m ≤ n
entries_not_less_number k m l n e h = go (ltb n m) refl
  where
    go : (b : Bool) → ltb n m ≡ b → m ≤ n
    go true p = absurd (true≢false (ap is_less (sym (entries_same_key k m l n e ∙ numbers_answer n m less (ltb-true n m p))) ∙ h))
    go false p = ltb-false n m p

-- what a test for less says of the two sides
pub less_true : (o : Ord) → is_less o ≡ true → o ≡ less
less_true less e = refl
less_true equal e = cc
less_true greater e = cc

pub equal_true : (o : Ord) → is_equal o ≡ true → o ≡ equal
equal_true less e = cc
equal_true equal e = refl
equal_true greater e = cc

module _ {ℓ} {A : Type ℓ} (cmp : A → A → Ord) (o : Order A cmp) where
  -- less one way is greater the other way, and back
  pub less_greater : (a b : A) → cmp a b ≡ less → cmp b a ≡ greater
  less_greater a b e = rw (o.flips a b, e)

  pub greater_less : (a b : A) → cmp a b ≡ greater → cmp b a ≡ less
  greater_less a b e = rw (o.flips a b, e)

  pub greater_not_eq : (a b : A) → cmp a b ≡ greater → a ≡ b → ⊥
  greater_not_eq a b e p = let z : ◌≡◌ {A = ℕ} 0 1 = cc (o.same b, rw p at e) in omega arith

  -- not both are less
  pub less_not_less : (a b : A) → is_less (cmp a b) ≡ true → is_less (cmp b a) ≡ false
  less_not_less a b e = rw (less_greater a b (less_true (cmp a b) e))

  -- if neither is less, the two are equal
  pub neither_less : (a b : A) → is_less (cmp a b) ≡ false → is_less (cmp b a) ≡ false → a ≡ b
  neither_less a b p q = go (cmp a b) refl
    where
      go : (r : Ord) → cmp a b ≡ r → a ≡ b
      go less e = cc (ap is_less e)
      go equal e = o.eq a b e
      go greater e = cc (ap is_less (greater_less a b e))

  -- what is not less and not equal is greater
  pub not_less_other : (a b : A) → is_less (cmp a b) ≡ false → is_equal (cmp a b) ≡ false → cmp b a ≡ less
  not_less_other a b p n = go (cmp a b) refl
    where
      go : (r : Ord) → cmp a b ≡ r → cmp b a ≡ less
      go less e = absurd (true≢false (rw e at p))
      go equal e = absurd (true≢false (rw e at n))
      go greater e = greater_less a b e

  -- at most is transitive, where "a is at most b" is "b is not less than a"
  pub not_less_trans : (a b c : A) → is_less (cmp b a) ≡ false → is_less (cmp c b) ≡ false → is_less (cmp c a) ≡ false
  not_less_trans a b c p q = go (cmp b a) refl (cmp c b) refl
    where
      go : (r : Ord) → cmp b a ≡ r → (s : Ord) → cmp c b ≡ s → is_less (cmp c a) ≡ false
      go less e s f = cc (ap is_less e)
      go equal e s f = rw (← o.eq b a e) q
      go greater e less f = cc (ap is_less f)
      go greater e equal f = rw (o.eq c b f, e)
      go greater e greater f = rw (less_greater a c (o.trans a b c (greater_less b a e) (greater_less c b f)))

  -- what stands below something less is less: the test for less than c, passed by b, is passed by all below b
  pub less_passes : (a b c : A) → cmp a b ≡ less → is_less (cmp b c) ≡ true → is_less (cmp a c) ≡ true
  less_passes a b c p q = rw (o.trans a b c p (less_true (cmp b c) q))

  pub less_equal : (a b c : A) → cmp a b ≡ less → cmp b c ≡ equal → cmp a c ≡ less
  less_equal a b c p q = rw (← o.eq b c q) p
