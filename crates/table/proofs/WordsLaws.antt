-- Words as code writes them.
use Rattle.std.proofs.Common.{ℕ, ◌+◌, ◌/◌, ◌%◌, ◌<◌, ◌≡◌, ap, arith, List, length, bit_and, take, w32}
use lib.ListN.{get_or, set}
use Rattle.std.specs.Int.{to_le_bytes}
use Rattle.std.proofs.lemmas.Nat.{and_mask}
use Rattle.std.proofs.lemmas.List.Edits.{sets}
use Rattle.image.specs.Words.{bytes, put_word}
use Rattle.image.proofs.Words.{sets_next}

-- after i bytes of bs one more is written
pub copied_next : (xs : List ℕ) (at : ℕ) (bs : List ℕ) (i : ℕ) (ys : List ℕ) → ys ≡ sets xs at (take i bs) → i < length bs → set ys (at + i) (get_or bs i 0) ≡ sets xs at (take (i + 1) bs)
copied_next xs at bs i ys so_far h = rw so_far (sets_next xs at bs i h)

-- the four bytes of the low 32 bits of a number
low_bytes : (v : ℕ) → to_le_bytes w32 (bit_and v 4294967295) ≡ bytes 4 v
low_bytes v =
    let e : bit_and v 4294967295 ≡ v % 4294967296 = and_mask v 32 in
    let a : v % 4294967296 % 256 ≡ v % 256 = omega arith in
    let b : v % 4294967296 / 256 % 256 ≡ v / 256 % 256 = omega arith in
    let c : v % 4294967296 / 65536 % 256 ≡ v / 256 / 256 % 256 = omega arith in
    let d : v % 4294967296 / 16777216 % 256 ≡ v / 256 / 256 / 256 % 256 = omega arith in
    rw (e, a, b, c, d)

-- these bytes written are the word written
pub word_pasted : (xs : List ℕ) (o v : ℕ) → sets xs o (to_le_bytes w32 (bit_and v 4294967295)) ≡ put_word xs o v
unfolding put_word
word_pasted xs o v = ap (sets xs o) (low_bytes v)
