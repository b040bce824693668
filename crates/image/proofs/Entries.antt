-- Laws of entries: what was written is read, and what is read was written.
use Prim.Native.Nat.{ℕ, zero, suc, ◌+◌, ◌-◌, ◌/◌, ◌%◌, ◌<◌, ◌≤◌}
use native.Mathlib.Omega.{arith}
use mathlib.Core.Path.{◌≡◌, refl, sym, ap, subst, ◌∙◌}
use mathlib.Core.List.{List, [], ◌∷◌, ◌++◌}
use mathlib.Core.Bool.{Bool, true, false}
use lib.ListN.{length, length-append}
use lib.Dec.{ltb, leb, eqb}
use borrow.Author.Tests.{ltb-true, lt-ltb, leb-true, le-leb, eqb-true, eq-eqb}
use Rattle.rule.specs.Lists.{cond, both}
use Rattle.rule.specs.Entries.{Entry}
use Rattle.rule.proofs.Lists.{both_true}
use Rattle.image.specs.Limits.{max_key, max_value}
use Rattle.image.specs.Words.{Bytes, Holds, part, fixed, bytes}
use Rattle.image.specs.Readers.{got}
use Rattle.image.specs.Entries.{Legal, varint, tag, encode, Len, len_at, Keyed, keyed_at, Parts, rest_at, parts_at, entry_in}
use Rattle.image.proofs.Words.{length_part, part_holds, holds_part, holds_left, holds_right, holds_join, holds_fixed, fixed_holds, fixed_below, append_bytes, bytes_bytes}
use Rattle.image.proofs.Readers.{got_same, bind_got, check_got}
use Rattle.image.proofs.Lengths.{len_read, LenHere, len_sound, len_behind}

-- where the parts of an entry at o stand
abbrev pub key_place : ℕ → Entry → ℕ
key_place o e = o + length (varint (length e.key + 8))

abbrev pub tag_place : ℕ → Entry → ℕ
tag_place o e = key_place o e + length e.key

abbrev pub value_place : ℕ → Entry → ℕ
value_place o e = tag_place o e + 8 + length (varint (length e.value))

abbrev pub keyed_of : ℕ → Entry → Keyed
keyed_of o e = record { key_at = key_place o e; key_len = length e.key; tag_is = tag e; rest = tag_place o e + 8 }

abbrev pub parts_of : ℕ → Entry → Parts
parts_of o e = record { keyed = keyed_of o e; value_at = value_place o e; value_len = length e.value }

pub length_encode : (o : ℕ) (e : Entry) → o + length (encode e) ≡ value_place o e + length e.value
unfolding encode
length_encode o e = simp (length-append) (omega arith)

pub record EntryHere (xs : List ℕ) (o : ℕ) (e : Entry) : Type 0 where
  pub key_len_here : Holds xs o (varint (length e.key + 8))
  pub key_here : Holds xs (key_place o e) e.key
  pub tag_here : Holds xs (tag_place o e) (bytes 8 (tag e))
  pub value_len_here : Holds xs (tag_place o e + 8) (varint (length e.value))
  pub value_here : Holds xs (value_place o e) e.value

pub entry_split : (xs : List ℕ) (o : ℕ) (e : Entry) → Holds xs o (encode e) → EntryHere xs o e
unfolding encode
entry_split xs o e h =
    let h1 = holds_right xs o (varint (length e.key + 8)) _ h in
    let h2 = holds_right xs (key_place o e) e.key _ h1 in
    let h3 = holds_right xs (tag_place o e) (bytes 8 (tag e)) (varint (length e.value) ++ e.value) h2 in
    record {
      key_len_here = holds_left xs o (varint (length e.key + 8)) _ h;
      key_here = holds_left xs (key_place o e) e.key _ h1;
      tag_here = holds_left xs (tag_place o e) (bytes 8 (tag e)) (varint (length e.value) ++ e.value) h2;
      value_len_here = holds_left xs (tag_place o e + 8) (varint (length e.value)) e.value h3;
      value_here = holds_right xs (tag_place o e + 8) (varint (length e.value)) e.value h3;
    }

pub entry_join : (xs : List ℕ) (o : ℕ) (e : Entry) → EntryHere xs o e → Holds xs o (encode e)
unfolding encode
entry_join xs o e h =
    holds_join xs o (varint (length e.key + 8)) _ h.key_len_here
    (holds_join xs (key_place o e) e.key _ h.key_here
    (holds_join xs (tag_place o e) (bytes 8 (tag e)) (varint (length e.value) ++ e.value) h.tag_here
    (holds_join xs (tag_place o e + 8) (varint (length e.value)) e.value h.value_len_here h.value_here)))

-- an entry that was written is read: first its key and tag, then the rest
pub keyed_read_lem : (xs : List ℕ) (o end : ℕ) (e : Entry) → Legal e → Holds xs o (encode e) → end ≡ o + length (encode e) → keyed_at xs o end ≡ got (keyed_of o e)
unfolding keyed_at
keyed_read_lem xs o end e l h f =
    let s = entry_split xs o e h in
    let full : end ≡ value_place o e + length e.value = f ∙ length_encode o e in
    let k8 : length e.key + 8 - 8 ≡ length e.key = omega arith in
    let t1 : key_place o e + (length e.key + 8) ≡ tag_place o e + 8 = omega arith in
    let t3 : fixed 8 xs (tag_place o e) ≡ tag e = holds_fixed 8 xs (tag_place o e) (tag e) (omega (arith, l.number_low, l.kind_known)) s.tag_here in
    rw (
      len_read xs end o (length e.key + 8) (omega (arith, l.key_short)) s.key_len_here (omega arith),
      le-leb 8 (length e.key + 8) (omega arith),
      le-leb (length e.key + 8) (max_key + 8) (omega (arith, l.key_short)),
      t1,
      le-leb (tag_place o e + 8) end (omega arith),
      k8,
      t3,
    )

pub rest_read : (xs : List ℕ) (o end : ℕ) (e : Entry) → Legal e → Holds xs o (encode e) → end ≡ o + length (encode e) → rest_at xs end (keyed_of o e) ≡ got (parts_of o e)
unfolding rest_at
rest_read xs o end e l h f =
    let s = entry_split xs o e h in
    let full : end ≡ value_place o e + length e.value = f ∙ length_encode o e in
    let t2 : tag e % 256 ≡ e.kind = omega (arith, l.kind_known) in
    rw (
      t2,
      lt-ltb e.kind 2 (omega (arith, l.kind_known)),
      len_read xs end (tag_place o e + 8) (length e.value) (omega (arith, l.value_short)) s.value_len_here (omega arith),
      le-leb (length e.value) max_value l.value_short,
      le-leb (value_place o e + length e.value) end (omega arith),
      eq-eqb (value_place o e + length e.value) end (sym full),
    )

pub parts_read_lem : (xs : List ℕ) (o end : ℕ) (e : Entry) → Legal e → Holds xs o (encode e) → end ≡ o + length (encode e) → parts_at xs o end ≡ got (parts_of o e)
parts_read_lem xs o end e l h f = rw (keyed_read_lem xs o end e l h f) (rest_read xs o end e l h f)

pub parts_entry : (xs : List ℕ) (o : ℕ) (e : Entry) → Legal e → Holds xs o (encode e) → o + length (encode e) ≤ length xs → entry_in xs (parts_of o e) ≡ e
parts_entry xs o e l h b = λ i. record { key = k i; number = n i; kind = t i; value = v i }
  where
    s : EntryHere xs o e
    s = entry_split xs o e h

    k : part xs (key_place o e) (length e.key) ≡ e.key
    k = holds_part xs (key_place o e) e.key (omega (arith, length_encode o e)) s.key_here

    n : tag e / 256 ≡ e.number
    n = omega (arith, l.kind_known)

    t : tag e % 256 ≡ e.kind
    t = omega (arith, l.kind_known)

    v : part xs (value_place o e) (length e.value) ≡ e.value
    v = holds_part xs (value_place o e) e.value (omega (arith, length_encode o e)) s.value_here

-- and what is read was written
pub record Fills (xs : List ℕ) (o end : ℕ) (e : Entry) : Type 0 where
  pub legal : Legal e
  pub holds : Holds xs o (encode e)
  pub full : end ≡ o + length (encode e)

abbrev keyed_from : List ℕ → Len → Keyed
keyed_from xs k = record { key_at = k.after; key_len = k.is - 8; tag_is = fixed 8 xs (k.after + (k.is - 8)); rest = k.after + k.is }

abbrev parts_from : Keyed → Len → Parts
parts_from k v = record { keyed = k; value_at = v.after; value_len = v.is }

-- the steps of a reading of key and tag, and of the rest
record KeyedSteps (xs : List ℕ) (o end : ℕ) (m : Keyed) : Type 0 where
  len : Len
  read : len_at xs end o ≡ got len
  some : 8 ≤ len.is
  most : len.is ≤ max_key + 8
  fits : len.after + len.is ≤ end
  is : keyed_from xs len ≡ m

keyed_steps : (xs : List ℕ) (o end : ℕ) (m : Keyed) → keyed_at xs o end ≡ got m → KeyedSteps xs o end m
unfolding keyed_at
keyed_steps xs o end m g =
    let (k, gk, g1) = bind_got (len_at xs end o) _ m g in
    let (c1, g2) = check_got (both (leb 8 k.is) (both (leb k.is (max_key + 8)) (leb (k.after + k.is) end))) o (got (keyed_from xs k)) m g1 in
    let (c2, c3) = both_true (leb 8 k.is) (both (leb k.is (max_key + 8)) (leb (k.after + k.is) end)) c1 in
    let (c4, c5) = both_true (leb k.is (max_key + 8)) (leb (k.after + k.is) end) c3 in
    record { len = k; read = gk; some = leb-true 8 k.is c2; most = leb-true k.is (max_key + 8) c4; fits = leb-true (k.after + k.is) end c5; is = got_same g2 }

record RestSteps (xs : List ℕ) (end : ℕ) (k : Keyed) (p : Parts) : Type 0 where
  len : Len
  kind : k.tag_is % 256 < 2
  read : len_at xs end k.rest ≡ got len
  most : len.is ≤ max_value
  fills : len.after + len.is ≡ end
  is : parts_from k len ≡ p

rest_steps : (xs : List ℕ) (end : ℕ) (k : Keyed) (p : Parts) → rest_at xs end k ≡ got p → RestSteps xs end k p
unfolding rest_at
rest_steps xs end k p g =
    let (c1, g1) = check_got (ltb (k.tag_is % 256) 2) (k.key_at + k.key_len) _ p g in
    let (v, gv, g2) = bind_got (len_at xs end k.rest) _ p g1 in
    let (c2, g3) = check_got (both (leb v.is max_value) (leb (v.after + v.is) end)) k.rest _ p g2 in
    let (c3, c4) = both_true (leb v.is max_value) (leb (v.after + v.is) end) c2 in
    let (c5, g4) = check_got (eqb (v.after + v.is) end) (v.after + v.is) (got (parts_from k v)) p g3 in
    record { len = v; kind = ltb-true (k.tag_is % 256) 2 c1; read = gv; most = leb-true v.is max_value c3; fills = eqb-true (v.after + v.is) end c5; is = got_same g4 }

filled : (xs : List ℕ) (o end : ℕ) (k v : Len) → Bytes xs → end ≤ length xs → LenHere xs end o k → LenHere xs end (k.after + k.is) v → 8 ≤ k.is → k.is ≤ max_key + 8 → v.is ≤ max_value
    → fixed 8 xs (k.after + (k.is - 8)) % 256 < 2 → v.after + v.is ≡ end → Fills xs o end (entry_in xs (parts_from (keyed_from xs k) v))
filled xs o end k v b le hk hv k8 kmax vmax kind fits = record {
  legal = record { key_short = omega (arith, lk); value_short = omega (arith, lv); number_low = omega (arith, fixed_below 8 xs (k.after + (k.is - 8)) b); kind_known = omega arith };
  holds = entry_join xs o e (record {
    key_len_here = rw k_is hk.here;
    key_here = rw k_at (part_holds xs k.after (k.is - 8) in_key);
    tag_here = rw (t_at, t_is) (fixed_holds 8 xs (k.after + (k.is - 8)) b);
    value_len_here = rw (vl_at, lv) hv.here;
    value_here = rw v_at (part_holds xs v.after v.is (omega arith));
  });
  full = omega (arith, length_encode o e, v_at, lv);
}
  where
    e : Entry
    e = entry_in xs (parts_from (keyed_from xs k) v)

    kn : k.after + k.is ≤ v.after
    kn = omega (arith, hv.next)

    in_key : k.after + (k.is - 8) ≤ length xs
    in_key = omega (arith, kn)

    lk : length e.key ≡ k.is - 8
    lk = length_part xs k.after (k.is - 8) in_key

    lv : length e.value ≡ v.is
    lv = length_part xs v.after v.is (omega arith)

    k_is : length e.key + 8 ≡ k.is
    k_is = omega (arith, lk)

    k_at : key_place o e ≡ k.after
    k_at = rw k_is (sym hk.next)

    t_at : tag_place o e ≡ k.after + (k.is - 8)
    t_at = omega (arith, k_at, lk)

    t_is : tag e ≡ fixed 8 xs (k.after + (k.is - 8))
    t_is = omega arith

    vl_at : tag_place o e + 8 ≡ k.after + k.is
    vl_at = omega (arith, k_at, lk)

    v_at : value_place o e ≡ v.after
    v_at = rw (lv, vl_at) (sym hv.next)

pub parts_sound : (xs : List ℕ) (o end : ℕ) (k : Keyed) (p : Parts) → Bytes xs → end ≤ length xs → keyed_at xs o end ≡ got k → rest_at xs end k ≡ got p → Fills xs o end (entry_in xs p)
parts_sound xs o end k p b le g f = go (keyed_steps xs o end k g) (rest_steps xs end k p f)
  where
    go : KeyedSteps xs o end k → RestSteps xs end k p → Fills xs o end (entry_in xs p)
    go a c = let rest : a.len.after + a.len.is ≡ k.rest = ap (λ (m : Keyed). m.rest) a.is in
        let kind : fixed 8 xs (a.len.after + (a.len.is - 8)) % 256 < 2 = rw (ap (λ (m : Keyed). m.tag_is) a.is) c.kind in
        subst (λ (q : Parts). Fills xs o end (entry_in xs q)) (ap (λ (m : Keyed). parts_from m c.len) a.is ∙ c.is)
        (filled xs o end a.len c.len b le (len_sound xs end o a.len b a.read) (len_sound xs end (a.len.after + a.len.is) c.len b (rw rest c.read))
        a.some a.most c.most kind c.fills)

-- on any list what is read lies before the end
pub keyed_inside : (xs : List ℕ) (o end : ℕ) (k : Keyed) → keyed_at xs o end ≡ got k → (k.key_at + k.key_len + 8 ≤ end) × (k.rest ≡ k.key_at + k.key_len + 8)
keyed_inside xs o end k g = go (keyed_steps xs o end k g)
  where
    go : KeyedSteps xs o end k → (k.key_at + k.key_len + 8 ≤ end) × (k.rest ≡ k.key_at + k.key_len + 8)
    go a = (rw (← a.is) (omega (arith, a.fits, a.some)), rw (← a.is) (omega (arith, a.some)))

pub rest_inside : (xs : List ℕ) (end : ℕ) (k : Keyed) (p : Parts) → rest_at xs end k ≡ got p → (p.keyed ≡ k) × (p.value_at + p.value_len ≡ end)
rest_inside xs end k p g = go (rest_steps xs end k p g)
  where
    go : RestSteps xs end k p → (p.keyed ≡ k) × (p.value_at + p.value_len ≡ end)
    go a = (sym (ap (λ (q : Parts). q.keyed) a.is), rw (← a.is) a.fills)

-- and behind the place where the entry begins
pub keyed_behind : (xs : List ℕ) (o end : ℕ) (k : Keyed) → keyed_at xs o end ≡ got k → o ≤ k.key_at
keyed_behind xs o end k g = go (keyed_steps xs o end k g)
  where
    go : KeyedSteps xs o end k → o ≤ k.key_at
    go a = let z : a.len.after ≡ k.key_at = ap (λ (q : Keyed). q.key_at) a.is in omega (arith, len_behind xs end o a.len a.read)

pub rest_behind : (xs : List ℕ) (end : ℕ) (k : Keyed) (p : Parts) → rest_at xs end k ≡ got p → k.rest ≤ p.value_at
rest_behind xs end k p g = go (rest_steps xs end k p g)
  where
    go : RestSteps xs end k p → k.rest ≤ p.value_at
    go a = let z : a.len.after ≡ p.value_at = ap (λ (q : Parts). q.value_at) a.is in omega (arith, len_behind xs end k.rest a.len a.read)

-- an entry of bytes is written in bytes
varint_bytes : (n : ℕ) → n < 16384 → Bytes (varint n)
varint_bytes n l = go (ltb n 128) refl
  where
    go : (t : Bool) → ltb n 128 ≡ t → Bytes (cond t (n ∷ []) ((128 + n % 128) ∷ n / 128 ∷ []))
    go true e zero = omega (arith, ltb-true n 128 e)
    go true e (suc i) = omega arith
    go false e zero = omega arith
    go false e (suc zero) = omega arith
    go false e (suc (suc i)) = omega arith

pub encode_bytes : (e : Entry) → Legal e → Bytes e.key → Bytes e.value → Bytes (encode e)
unfolding encode
encode_bytes e l k v =
    append_bytes (varint (length e.key + 8)) _ (varint_bytes (length e.key + 8) (omega (arith, l.key_short)))
    (append_bytes e.key _ k (append_bytes (bytes 8 (tag e)) (varint (length e.value) ++ e.value) (bytes_bytes 8 (tag e))
    (append_bytes (varint (length e.value)) e.value (varint_bytes (length e.value) (omega (arith, l.value_short))) v)))
