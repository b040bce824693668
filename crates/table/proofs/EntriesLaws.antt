-- Entries as code writes and reads them.
use Rattle.std.proofs.Common.{ℕ, ◌+◌, ◌-◌, ◌%◌, ◌<◌, ◌≤◌, ◌≡◌, ◌∙◌, arith, List, ◌++◌, length}
use Rattle.std.proofs.Common.{lt-ltb, le-ltb, le-leb, eq-eqb, ne_eqb}
use Rattle.std.proofs.lemmas.Bool.{lt-leb}
use Rattle.std.proofs.lemmas.List.Edits.{sets}
use Rattle.rule.specs.Entries.{Entry}
use Rattle.image.specs.Limits.{max_key, max_value}
use Rattle.image.specs.Words.{fixed, bytes}
use Rattle.image.specs.Readers.{got, bad}
use Rattle.image.specs.Entries.{varint, tag, encode, len_at, Keyed, keyed_at, rest_at}
use Rattle.image.proofs.Words.{sets_append}
use Rattle.image.proofs.Entries.{length_encode}
use Rattle.table.specs.KeyTypes.{code_of}
use Rattle.table.specs.declared.key_types.Kind.{Kind}
use Rattle.table.specs.declared.key_types.Kind.TheVariants.{Deletion, Value}

-- ---- written

-- the length of an entry is that of its five parts
pub entry_sized : (e : Entry) {a b : ℕ} → a ≡ length (varint (length e.key + 8)) → b ≡ length (varint (length e.value)) → a + length e.key + 8 + b + length e.value ≡ length (encode e)
entry_sized e p q = omega (arith, length_encode 0 e)

-- the parts have room where the entry has
pub room : (at : ℕ) (e : Entry) {n : ℕ} → at + length (encode e) ≤ n → at + length (varint (length e.key + 8)) + length e.key + 8 + length (varint (length e.value)) + length e.value ≤ n
room at e h = omega (arith, length_encode at e)

-- the five parts, each behind the one before
module _ (xs : List ℕ) (at : ℕ) (e : Entry) where
  pub entry_written : {a c t : ℕ} {x1 x2 x3 x4 x5 : List ℕ}
      → x1 ≡ sets xs at (varint (length e.key + 8)) → a ≡ at + length (varint (length e.key + 8))
      → x2 ≡ sets x1 a e.key
      → t ≡ tag e → x3 ≡ sets x2 (a + length e.key) (bytes 8 t)
      → x4 ≡ sets x3 (a + length e.key + 8) (varint (length e.value)) → c ≡ a + length e.key + 8 + length (varint (length e.value))
      → x5 ≡ sets x4 c e.value → x5 ≡ sets xs at (encode e)
  unfolding encode
  entry_written {a} {c} {t} e1 f e2 g e3 e4 h e5 = e5 ∙ rw (e4, h, e3, g, e2, e1, f) whole
    where
      k : List ℕ
      k = varint (length e.key + 8)

      v : List ℕ
      v = varint (length e.value)

      kt : ℕ
      kt = at + length k

      whole : sets (sets (sets (sets (sets xs at k) kt e.key) (kt + length e.key) (bytes 8 (tag e))) (kt + length e.key + 8) v) (kt + length e.key + 8 + length v) e.value
          ≡ sets xs at (k ++ (e.key ++ (bytes 8 (tag e) ++ (v ++ e.value))))
      whole = sets_append (sets (sets (sets xs at k) kt e.key) (kt + length e.key) (bytes 8 (tag e))) (kt + length e.key + 8) v e.value
          ∙ sets_append (sets (sets xs at k) kt e.key) (kt + length e.key) (bytes 8 (tag e)) (v ++ e.value)
          ∙ sets_append (sets xs at k) kt e.key (bytes 8 (tag e) ++ (v ++ e.value))
          ∙ sets_append xs at k (e.key ++ (bytes 8 (tag e) ++ (v ++ e.value)))

-- ---- read: each way out of the code

module _ (xs : List ℕ) (o end : ℕ) where
  pub keyed_bad : {p : ℕ} → bad p ≡ len_at xs end o → bad p ≡ keyed_at xs o end
  unfolding keyed_at
  keyed_bad e = rw (← e)

  module _ {n a : ℕ} (first : got (record { is = n; after = a }) ≡ len_at xs end o) where
    pub keyed_short : n < 8 → bad o ≡ keyed_at xs o end
    unfolding keyed_at
    keyed_short h = rw (← first, lt-leb 8 n h)

    module _ (some : 8 ≤ n) where
      pub keyed_long : max_key + 8 < n → bad o ≡ keyed_at xs o end
      unfolding keyed_at
      keyed_long h = rw (← first, le-leb 8 n some, lt-leb n (max_key + 8) h)

      module _ (most : n ≤ max_key + 8) where
        pub keyed_out : end < a + n → bad o ≡ keyed_at xs o end
        unfolding keyed_at
        keyed_out h = rw (← first, le-leb 8 n some, le-leb n (max_key + 8) most, lt-leb (a + n) end h)

        pub keyed_whole : a + n ≤ end → {t : ℕ} → t ≡ fixed 8 xs (a + (n - 8)) → got (record { key_at = a; key_len = n - 8; tag_is = t; rest = a + n }) ≡ keyed_at xs o end
        unfolding keyed_at
        keyed_whole h {t} e = rw (← first, le-leb 8 n some, le-leb n (max_key + 8) most, le-leb (a + n) end h, ← e)

-- a type has one of the two codes
pub kind_known : (kind : Kind) {m : ℕ} → code_of kind ≡ m → m < 2
kind_known Deletion e = omega arith
kind_known Value e = omega arith

module _ (xs : List ℕ) (end : ℕ) (k : Keyed) where
  pub rest_kind : 2 ≤ k.tag_is % 256 → bad (k.key_at + k.key_len) ≡ rest_at xs end k
  unfolding rest_at
  rest_kind h = rw (le-ltb (k.tag_is % 256) 2 h)

  module _ (known : k.tag_is % 256 < 2) where
    pub rest_bad : {p : ℕ} → bad p ≡ len_at xs end k.rest → bad p ≡ rest_at xs end k
    unfolding rest_at
    rest_bad e = rw (lt-ltb (k.tag_is % 256) 2 known, ← e)

    module _ {n a : ℕ} (second : got (record { is = n; after = a }) ≡ len_at xs end k.rest) where
      pub rest_long : max_value < n → bad k.rest ≡ rest_at xs end k
      unfolding rest_at
      rest_long h = rw (lt-ltb (k.tag_is % 256) 2 known, ← second, lt-leb n max_value h)

      module _ (most : n ≤ max_value) where
        pub rest_out : end < a + n → bad k.rest ≡ rest_at xs end k
        unfolding rest_at
        rest_out h = rw (lt-ltb (k.tag_is % 256) 2 known, ← second, le-leb n max_value most, lt-leb (a + n) end h)

        module _ (inside : a + n ≤ end) where
          pub rest_over : a + n < end → bad (a + n) ≡ rest_at xs end k
          unfolding rest_at
          rest_over h = rw (lt-ltb (k.tag_is % 256) 2 known, ← second, le-leb n max_value most, le-leb (a + n) end inside, ne_eqb (a + n) end (λ e. omega arith))

          pub rest_whole : end ≤ a + n → got (record { keyed = k; value_at = a; value_len = n }) ≡ rest_at xs end k
          unfolding rest_at
          rest_whole h = rw (lt-ltb (k.tag_is % 256) 2 known, ← second, le-leb n max_value most, le-leb (a + n) end inside, eq-eqb (a + n) end (omega arith))
