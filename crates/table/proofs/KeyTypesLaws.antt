-- Lengths, and the comparison of keys, as code makes them.
use Rattle.std.proofs.Common.{ℕ, zero, suc, ◌+◌, ◌*◌, ◌<◌, ◌≤◌, ◌-◌, ◌≡◌, refl, ap, ap₂, ◌∙◌, arith, List, Bool, true, false, length, min}
use Rattle.std.proofs.Common.{get_or, drop, drop-cons, ltb, lt-ltb, le-ltb, le-leb, eq-eqb, ne_eqb, ltb-true, ltb-false, Ordering, Less, Equal, Greater, nat_cmp}
use Rattle.std.proofs.lemmas.Bool.{lt-leb}
use Rattle.std.proofs.lemmas.List.{drop_all}
use Rattle.std.specs.Ordering.{ordering_then}
use Rattle.rule.specs.Order.{Ord, then, compare_numbers, compare_keys, compare_entries}
use Rattle.image.specs.Readers.{got, bad}
use Rattle.image.specs.Entries.{len_at}
use Rattle.image.specs.Words.{Bytes, fixed}
use Rattle.table.specs.KeyTypes.{ord_of, Front}

-- ---- a length, read: each way out of the code

module _ (xs : List ℕ) (end o : ℕ) where
  pub len_none : end ≤ o → bad o ≡ len_at xs end o
  unfolding len_at
  len_none h = rw (le-ltb o end h)

  module _ {low : ℕ} (first : low ≡ get_or xs o 0) (inside : o < end) where
    pub len_one : low < 128 → got (record { is = low; after = o + 1 }) ≡ len_at xs end o
    unfolding len_at
    len_one h = rw (← first, lt-ltb o end inside, lt-ltb low 128 h)

    module _ (two : 128 ≤ low) where
      pub len_cut : end ≤ o + 1 → bad o ≡ len_at xs end o
      unfolding len_at
      len_cut h = rw (← first, lt-ltb o end inside, le-ltb low 128 two, le-ltb (o + 1) end h)

      module _ (more : o + 1 < end) {high : ℕ} (second : high ≡ get_or xs (o + 1) 0) where
        pub len_long : high < 1 → bad o ≡ len_at xs end o
        unfolding len_at
        len_long h = rw (← first, ← second, lt-ltb o end inside, le-ltb low 128 two, lt-ltb (o + 1) end more, lt-leb 1 high h)

        module _ (some : 1 ≤ high) where
          pub len_three : 128 ≤ high → bad o ≡ len_at xs end o
          unfolding len_at
          len_three h = rw (← first, ← second, lt-ltb o end inside, le-ltb low 128 two, lt-ltb (o + 1) end more, le-leb 1 high some, le-ltb high 128 h)

          pub len_two : high < 128 → got (record { is = (low - 128) + 128 * high; after = o + 2 }) ≡ len_at xs end o
          unfolding len_at
          len_two h = rw (← first, ← second, lt-ltb o end inside, le-ltb low 128 two, lt-ltb (o + 1) end more, le-leb 1 high some, lt-ltb high 128 h)

-- ---- the front of two keys

-- what is left to compare of two keys after i bytes
unfoldable pub left : List ℕ → List ℕ → ℕ → Ord
left a b i = compare_keys (drop i a) (drop i b)

pub left_all : (a b : List ℕ) → compare_keys a b ≡ left a b 0
unfolding left
left_all a b = refl

-- a byte that is the same in both decides nothing
same_byte : (a b : List ℕ) (i : ℕ) → i < length a → i < length b → get_or a i 0 ≡ get_or b i 0 → left a b i ≡ left a b (suc i)
unfolding left compare_keys
same_byte a b i h k e = rw (drop-cons a i 0 h, drop-cons b i 0 k, le-ltb (get_or a i 0) (get_or b i 0) (omega arith), le-ltb (get_or b i 0) (get_or a i 0) (omega arith))

-- so the comparison goes on behind it
pub left_more : (a b : List ℕ) (i : ℕ) → i < length a → i < length b → get_or a i 0 ≡ get_or b i 0 → compare_keys a b ≡ left a b i → compare_keys a b ≡ left a b (i + 1)
left_more a b i h k e f = f ∙ same_byte a b i h k e ∙ ap (left a b) (omega arith)

-- bytes that are equal as one number
same_bytes : (w : ℕ) (a b : List ℕ) (i : ℕ) → Bytes a → Bytes b → i + w ≤ length a → i + w ≤ length b → fixed w a i ≡ fixed w b i → left a b i ≡ left a b (i + w)
same_bytes zero a b i p q h k e = ap (left a b) (omega arith)
same_bytes (suc w) a b i p q h k e =
    let x = p i in let y = q i in
    let d : get_or a i 0 ≡ get_or b i 0 = omega arith in
    let f : fixed w a (suc i) ≡ fixed w b (suc i) = omega arith in
    same_byte a b i (omega arith) (omega arith) d ∙ same_bytes w a b (suc i) p q (omega arith) (omega arith) f ∙ ap (left a b) (omega arith)

-- eight bytes more
pub left_next : (a b : List ℕ) (i : ℕ) → Bytes a → Bytes b → 8 * i + 8 ≤ length a → 8 * i + 8 ≤ length b → fixed 8 a (8 * i) ≡ fixed 8 b (8 * i) → compare_keys a b ≡ left a b (8 * i)
    → compare_keys a b ≡ left a b (8 * (i + 1))
left_next a b i p q h k e f = f ∙ same_bytes 8 a b (8 * i) p q h k e ∙ ap (left a b) (omega arith)

-- the front as the loop leaves it
pub front_left : (a b : List ℕ) (i r : ℕ) → 8 * i ≡ r → r ≤ length a → r ≤ length b → compare_keys a b ≡ left a b (8 * i) → Front a b r
unfolding left
front_left a b i r e h k f = record { first = h; second = k; rest = rw e at f }

-- and as the bytes behind it take it up
pub left_at : (a b : List ℕ) {r : ℕ} → Front a b r → compare_keys a b ≡ left a b r
unfolding left
left_at a b f = f.rest

-- ---- the comparisons of the code are those of the definitions

numbers_compared : (x y : ℕ) → ord_of (nat_cmp x y) ≡ compare_numbers x y
numbers_compared x y = go (ltb x y) (ltb y x) refl refl
  where
    go : (t u : Bool) → ltb x y ≡ t → ltb y x ≡ u → ord_of (nat_cmp x y) ≡ compare_numbers x y
    go true u p q = rw p
    go false true p q = rw (p, q, ne_eqb x y (λ e. omega (arith, ltb-true y x q)))
    go false false p q = rw (p, q, eq-eqb x y (omega (arith, ltb-false x y p, ltb-false y x q)))

then_compared : (r s : Ordering) → ord_of (ordering_then r s) ≡ then (ord_of r) (ord_of s)
then_compared Less s = refl
then_compared Equal s = refl
then_compared Greater s = refl

-- what is left is decided by the first byte that differs, or by which key ends first
module _ (a b : List ℕ) (i : ℕ) {o : Ordering} where
  pub byte_decides : i < length a → i < length b → (get_or a i 0 ≡ get_or b i 0 → ⊥) → o ≡ nat_cmp (get_or a i 0) (get_or b i 0) → ord_of o ≡ left a b i
  unfolding left compare_keys
  byte_decides h k n e = ap ord_of e ∙ numbers_compared (get_or a i 0) (get_or b i 0) ∙ rw (drop-cons a i 0 h, drop-cons b i 0 k) (go (ltb (get_or a i 0) (get_or b i 0)) (ltb (get_or b i 0) (get_or a i 0)) refl refl)
    where
      go : (t u : Bool) → ltb (get_or a i 0) (get_or b i 0) ≡ t → ltb (get_or b i 0) (get_or a i 0) ≡ u
          → compare_numbers (get_or a i 0) (get_or b i 0) ≡ then (compare_numbers (get_or a i 0) (get_or b i 0)) (compare_keys (drop (suc i) a) (drop (suc i) b))
      go true u p q = rw p
      go false true p q = rw (p, q)
      go false false p q = absurd (n (omega (arith, ltb-false _ _ p, ltb-false _ _ q)))

  pub lengths_decide : i ≤ min (length a) (length b) → min (length a) (length b) ≤ i → o ≡ nat_cmp (length a) (length b) → ord_of o ≡ left a b i
  unfolding left compare_keys
  lengths_decide h k e = ap ord_of e ∙ numbers_compared (length a) (length b) ∙ go (ltb (length a) (length b)) (ltb (length b) (length a)) refl refl
    where
      go : (t u : Bool) → ltb (length a) (length b) ≡ t → ltb (length b) (length a) ≡ u → compare_numbers (length a) (length b) ≡ compare_keys (drop i a) (drop i b)
      go true u p q = rw (p, drop_all i a (omega (arith, ltb-true _ _ p, h, k)), drop-cons b i 0 (omega (arith, ltb-true _ _ p, h, k)))
      go false true p q = rw (p, q, drop_all i b (omega (arith, ltb-true _ _ q, h, k)), drop-cons a i 0 (omega (arith, ltb-true _ _ q, h, k)))
      go false false p q = rw (p, q, drop_all i a (omega (arith, ltb-false _ _ p, ltb-false _ _ q, h, k)), drop_all i b (omega (arith, ltb-false _ _ p, ltb-false _ _ q, h, k)))

-- the keys decide, or else the numbers do
pub entries_compared : (k l : List ℕ) (m n : ℕ) (r s : Ordering) {t : Ordering} → t ≡ ordering_then r s → ord_of r ≡ compare_keys k l → s ≡ nat_cmp n m → ord_of t ≡ compare_entries k m l n
unfolding compare_entries
entries_compared k l m n r s e f g = ap ord_of e ∙ then_compared r s ∙ ap₂ then f (ap ord_of g ∙ numbers_compared n m)
