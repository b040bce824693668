-- Laws of lengths: what was written is read, and what is read was written.
use Prim.Native.Nat.{ℕ, suc, ◌+◌, ◌-◌, ◌*◌, ◌/◌, ◌%◌, ◌<◌, ◌≤◌}
use native.Mathlib.Omega.{arith}
use native.Mathlib.Numerals.{add-one}
use mathlib.Core.Path.{◌≡◌, refl, sym, ap}
use mathlib.Core.List.{List, [], ◌∷◌}
use mathlib.Core.Bool.{Bool, true, false}
use lib.ListN.{length, get_or}
use lib.Dec.{ltb, leb}
use borrow.Author.Tests.{ltb-true, ltb-false, lt-ltb, le-ltb, leb-true, le-leb}
use Rattle.rule.specs.Lists.{cond, both}
use Rattle.rule.proofs.Lists.{both_true}
use Rattle.image.specs.Words.{Bytes, Holds}
use Rattle.image.specs.Readers.{got, check}
use Rattle.image.specs.Entries.{varint, Len, len_at}
use Rattle.image.proofs.Readers.{got_same, check_got}

-- a length that was written is read
pub len_read : (xs : List ℕ) (end o n : ℕ) → n < 16384 → Holds xs o (varint n) → o + length (varint n) ≤ end → len_at xs end o ≡ got (record { is = n; after = o + length (varint n) })
unfolding len_at
len_read xs end o n l h b = go (ltb n 128) refl h b
  where
    go : (t : Bool) → ltb n 128 ≡ t → Holds xs o (cond t (n ∷ []) ((128 + n % 128) ∷ n / 128 ∷ [])) → o + length (cond t (n ∷ []) ((128 + n % 128) ∷ n / 128 ∷ [])) ≤ end
        → len_at xs end o ≡ got (record { is = n; after = o + length (cond t (n ∷ []) ((128 + n % 128) ∷ n / 128 ∷ [])) })
    go true e h b =
        rw (lt-ltb o end (omega arith), h.0, e)
    go false e h b =
        let high : 128 ≤ n = ltb-false n 128 e in
        let second : get_or xs (o + 1) 0 ≡ n / 128 = rw (add-one o) h.1.0 in
        let whole : (128 + n % 128 - 128) + 128 * (n / 128) ≡ n = omega arith in
        rw (
          lt-ltb o end (omega arith),
          h.0,
          le-ltb (128 + n % 128) 128 (omega arith),
          lt-ltb (o + 1) end (omega arith),
          second,
          le-leb 1 (n / 128) (omega arith),
          lt-ltb (n / 128) 128 (omega arith),
          whole,
        )

-- and what is read was written
pub record LenHere (xs : List ℕ) (end o : ℕ) (r : Len) : Type 0 where
  pub small : r.is < 16384
  pub here : Holds xs o (varint r.is)
  pub next : r.after ≡ o + length (varint r.is)
  pub inside : r.after ≤ end

pub len_sound : (xs : List ℕ) (end o : ℕ) (r : Len) → Bytes xs → len_at xs end o ≡ got r → LenHere xs end o r
unfolding len_at
len_sound xs end o r b e = let (p, q) = check_got (ltb o end) o _ r e in go (ltb-true o end p) (ltb (get_or xs o 0) 128) refl q
  where
    go : o < end → (t : Bool) → ltb (get_or xs o 0) 128 ≡ t
        → cond t (got (record { is = get_or xs o 0; after = o + 1 }))
        (check (both (ltb (o + 1) end) (both (leb 1 (get_or xs (o + 1) 0)) (ltb (get_or xs (o + 1) 0) 128))) o
        (got (record { is = (get_or xs o 0 - 128) + 128 * get_or xs (o + 1) 0; after = o + 2 }))) ≡ got r
        → LenHere xs end o r
    go lo true t f =
        let is : get_or xs o 0 ≡ r.is = ap (λ (l : Len). l.is) (got_same f) in
        let at : o + 1 ≡ r.after = ap (λ (l : Len). l.after) (got_same f) in
        let s : ltb r.is 128 ≡ true = rw is at t in
        record { small = omega (arith, ltb-true r.is 128 s); here = rw s (is, tt); next = rw s (omega arith); inside = omega arith }
    go lo false t f =
        let (p, g) = check_got (both (ltb (o + 1) end) (both (leb 1 (get_or xs (o + 1) 0)) (ltb (get_or xs (o + 1) 0) 128))) o _ r f in
        let (p1, p2) = both_true (ltb (o + 1) end) (both (leb 1 (get_or xs (o + 1) 0)) (ltb (get_or xs (o + 1) 0) 128)) p in
        let (p3, p4) = both_true (leb 1 (get_or xs (o + 1) 0)) (ltb (get_or xs (o + 1) 0) 128) p2 in
        let is : (get_or xs o 0 - 128) + 128 * get_or xs (o + 1) 0 ≡ r.is = ap (λ (l : Len). l.is) (got_same g) in
        let at : o + 2 ≡ r.after = ap (λ (l : Len). l.after) (got_same g) in
        let second : get_or xs (suc o) 0 ≡ get_or xs (o + 1) 0 = ap (λ (i : ℕ). get_or xs i 0) (sym (add-one o)) in
        let b0 = b o in
        let h0 = ltb-false (get_or xs o 0) 128 t in
        let h1 = leb-true 1 (get_or xs (o + 1) 0) p3 in
        let h2 = ltb-true (get_or xs (o + 1) 0) 128 p4 in
        let s : ltb r.is 128 ≡ false = le-ltb r.is 128 (omega arith) in
        record { small = omega arith; here = rw s (omega arith, (omega arith, tt)); next = rw s (omega arith); inside = omega (arith, ltb-true (o + 1) end p1) }

-- what stands behind a length stands behind the place where it begins
pub len_behind : (xs : List ℕ) (end o : ℕ) (l : Len) → len_at xs end o ≡ got l → o ≤ l.after
unfolding len_at
len_behind xs end o l g = let (_, f) = check_got (ltb o end) o _ l g in go (ltb (get_or xs o 0) 128) f
  where
    one : Len
    one = record { is = get_or xs o 0; after = o + 1 }

    two : Len
    two = record { is = (get_or xs o 0 - 128) + 128 * get_or xs (o + 1) 0; after = o + 2 }

    go : (t : Bool) → cond t (got one) (check (both (ltb (o + 1) end) (both (leb 1 (get_or xs (o + 1) 0)) (ltb (get_or xs (o + 1) 0) 128))) o (got two)) ≡ got l → o ≤ l.after
    go true e = let z : o + 1 ≡ l.after = ap (λ (q : Len). q.after) (got_same e) in omega arith
    go false e = let (_, f) = check_got (both (ltb (o + 1) end) (both (leb 1 (get_or xs (o + 1) 0)) (ltb (get_or xs (o + 1) 0) 128))) o (got two) l e in
        let z : o + 2 ≡ l.after = ap (λ (q : Len). q.after) (got_same f) in omega arith
