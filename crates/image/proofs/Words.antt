-- Laws of bytes and little-endian numbers: a write is read back, and what is elsewhere is kept.
use Prim.Native.Nat.{ℕ, zero, suc, ◌+◌, ◌*◌, ◌/◌, ◌%◌, ◌^◌, ◌<◌, ◌≤◌}
use native.Mathlib.Omega.{arith}
use native.Mathlib.Nat.{add-zero, zero-add, suc-add, add-suc}
use native.Mathlib.Decide.{ℕ_discrete}
use native.Mathlib.Numerals.{add-one, add-two, add-three, add-four}
use mathlib.Core.Path.{◌≡◌, refl, sym, ap, ap₂, ◌∙◌}
use mathlib.Core.Logic.{◌≢◌}
use mathlib.Core.List.{List, [], ◌∷◌, ◌++◌}
use lib.ListN.{length, get_or, set, take, length-take, length-drop, length-set}
use lib.Seq.{sets, length-sets, get_or-set_same, get_or-set_other, drop-cons, length-take-le, take-suc}
use Rattle.image.specs.Words.{Bytes, Same, Holds, part, fixed, bytes, word, put_word, put_words, Apart}

-- ---- what stands where

pub holds_same : (xs ys : List ℕ) (o : ℕ) (bs : List ℕ) → Same xs ys o (o + length bs) → Holds xs o bs → Holds ys o bs
holds_same xs ys o [] s h = tt
holds_same xs ys o (b ∷ bs) s h = (sym (s o (omega arith) (omega arith)) ∙ h.0, holds_same xs ys (suc o) bs (λ i p q. s i (omega arith) (omega arith)) h.1)

pub holds_left : (xs : List ℕ) (o : ℕ) (cs bs : List ℕ) → Holds xs o (cs ++ bs) → Holds xs o cs
holds_left xs o [] bs h = tt
holds_left xs o (a ∷ cs) bs h = (h.0, holds_left xs (suc o) cs bs h.1)

pub holds_right : (xs : List ℕ) (o : ℕ) (cs bs : List ℕ) → Holds xs o (cs ++ bs) → Holds xs (o + length cs) bs
holds_right xs o [] bs h = rw (add-zero o) h
holds_right xs o (a ∷ cs) bs h = let e : o + suc (length cs) ≡ suc o + length cs = omega arith in rw e (holds_right xs (suc o) cs bs h.1)

pub holds_join : (xs : List ℕ) (o : ℕ) (cs bs : List ℕ) → Holds xs o cs → Holds xs (o + length cs) bs → Holds xs o (cs ++ bs)
holds_join xs o [] bs h k = rw (add-zero o) at k
holds_join xs o (a ∷ cs) bs h k = let e : o + suc (length cs) ≡ suc o + length cs = omega arith in (h.0, holds_join xs (suc o) cs bs h.1 (rw e at k))

-- what stands at one place is one list
pub holds_unique : (xs : List ℕ) (o : ℕ) (cs bs : List ℕ) → length cs ≡ length bs → Holds xs o cs → Holds xs o bs → cs ≡ bs
holds_unique xs o [] [] e h k = refl
holds_unique xs o [] (b ∷ bs) e h k = absurd (omega arith)
holds_unique xs o (a ∷ cs) [] e h k = absurd (omega arith)
holds_unique xs o (a ∷ cs) (b ∷ bs) e h k = rw (sym h.0 ∙ k.0, holds_unique xs (suc o) cs bs (omega arith) h.1 k.1)

pub holds_both : (xs ys : List ℕ) (o : ℕ) (bs : List ℕ) → Holds xs o bs → Holds ys o bs → Same xs ys o (o + length bs)
holds_both xs ys o [] h k i p q = absurd (omega arith)
holds_both xs ys o (b ∷ bs) h k i p q = go (ℕ_discrete i o) (holds_both xs ys (suc o) bs h.1 k.1 i)
  where
    go : Dec (i ≡ o) → (suc o ≤ i → i < suc o + length bs → get_or xs i 0 ≡ get_or ys i 0) → get_or xs i 0 ≡ get_or ys i 0
    go (yes e) r = rw (e, h.0, k.0)
    go (no n) r = r (omega arith) (omega arith)

pub length_part : (xs : List ℕ) (o n : ℕ) → o + n ≤ length xs → length (part xs o n) ≡ n
length_part xs o n h = simp (length-take, length-drop) (omega arith)

pub part_holds : (xs : List ℕ) (o n : ℕ) → o + n ≤ length xs → Holds xs o (part xs o n)
part_holds xs o zero h = tt
part_holds xs o (suc n) h = rw (drop-cons xs o 0 (omega arith)) (refl, part_holds xs (suc o) n (omega arith))

pub holds_part : (xs : List ℕ) (o : ℕ) (bs : List ℕ) → o + length bs ≤ length xs → Holds xs o bs → part xs o (length bs) ≡ bs
holds_part xs o bs h k = holds_unique xs o (part xs o (length bs)) bs (length_part xs o (length bs) h) (part_holds xs o (length bs) h) k

-- ---- writes

pub sets_out : (xs : List ℕ) (o : ℕ) (vs : List ℕ) (i : ℕ) → (o ≤ i → i < o + length vs → ⊥) → get_or (sets xs o vs) i 0 ≡ get_or xs i 0
sets_out xs o [] i n = refl
sets_out xs o (v ∷ vs) i n = sets_out (set xs o v) (suc o) vs i (λ p q. n (omega arith) (omega arith)) ∙ get_or-set_other xs o i v 0 (λ e. n (omega arith) (omega arith))

pub sets_same : (xs : List ℕ) (o : ℕ) (vs : List ℕ) (a b : ℕ) → (o < b → a < o + length vs → ⊥) → Same (sets xs o vs) xs a b
sets_same xs o vs a b n i p q = sets_out xs o vs i (λ h k. n (omega arith) (omega arith))

pub sets_holds : (xs : List ℕ) (o : ℕ) (vs : List ℕ) → o + length vs ≤ length xs → Holds (sets xs o vs) o vs
sets_holds xs o [] h = tt
sets_holds xs o (v ∷ vs) h = (sets_out (set xs o v) (suc o) vs o (λ p q. omega arith) ∙ get_or-set_same xs o v 0 (omega arith), sets_holds (set xs o v) (suc o) vs (omega (arith, length-set xs o v)))

set_bytes : (xs : List ℕ) (o v : ℕ) → v < 256 → Bytes xs → Bytes (set xs o v)
set_bytes [] o v h b i = b i
set_bytes (x ∷ xs) zero v h b zero = h
set_bytes (x ∷ xs) zero v h b (suc i) = b (suc i)
set_bytes (x ∷ xs) (suc o) v h b zero = b 0
set_bytes (x ∷ xs) (suc o) v h b (suc i) = set_bytes xs o v h (λ j. b (suc j)) i

pub sets_bytes : (xs : List ℕ) (o : ℕ) (vs : List ℕ) → Bytes vs → Bytes xs → Bytes (sets xs o vs)
sets_bytes xs o [] h b = b
sets_bytes xs o (v ∷ vs) h b = sets_bytes (set xs o v) (suc o) vs (λ i. h (suc i)) (set_bytes xs o v (h 0) b)

pub append_bytes : (cs bs : List ℕ) → Bytes cs → Bytes bs → Bytes (cs ++ bs)
append_bytes [] bs h k i = k i
append_bytes (a ∷ cs) bs h k zero = h 0
append_bytes (a ∷ cs) bs h k (suc i) = append_bytes cs bs (λ j. h (suc j)) k i

-- ---- numbers of w bytes

pub length_bytes : (w n : ℕ) → length (bytes w n) ≡ w
length_bytes zero n = refl
length_bytes (suc w) n = ap suc (length_bytes w (n / 256))

pub bytes_bytes : (w n : ℕ) → Bytes (bytes w n)
bytes_bytes zero n i = omega arith
bytes_bytes (suc w) n zero = omega arith
bytes_bytes (suc w) n (suc i) = bytes_bytes w (n / 256) i

pub fixed_same : (w : ℕ) (xs ys : List ℕ) (o : ℕ) → Same xs ys o (o + w) → fixed w xs o ≡ fixed w ys o
fixed_same zero xs ys o s = refl
fixed_same (suc w) xs ys o s = ap₂ (λ a b. a + 256 * b) (s o (omega arith) (omega arith)) (fixed_same w xs ys (suc o) (λ i p q. s i (omega arith) (omega arith)))

pub holds_fixed : (w : ℕ) (xs : List ℕ) (o v : ℕ) → v < 256 ^ w → Holds xs o (bytes w v) → fixed w xs o ≡ v
holds_fixed zero xs o v l h = omega arith
holds_fixed (suc w) xs o v l h = omega (arith, h.0, holds_fixed w xs (suc o) (v / 256) (omega arith) h.1)

pub fixed_below : (w : ℕ) (xs : List ℕ) (o : ℕ) → Bytes xs → fixed w xs o < 256 ^ w
fixed_below zero xs o b = omega arith
fixed_below (suc w) xs o b = omega (arith, b o, fixed_below w xs (suc o) b)

pub fixed_holds : (w : ℕ) (xs : List ℕ) (o : ℕ) → Bytes xs → Holds xs o (bytes w (fixed w xs o))
fixed_holds zero xs o b = tt
fixed_holds (suc w) xs o b = (omega (arith, b o), rw tail (fixed_holds w xs (suc o) b))
  where
    tail : (get_or xs o 0 + 256 * fixed w xs (suc o)) / 256 ≡ fixed w xs (suc o)
    tail = omega (arith, b o)

-- a number that was written is read
pub fixed_written : (w : ℕ) (xs : List ℕ) (o v : ℕ) → v < 256 ^ w → o + w ≤ length xs → fixed w (sets xs o (bytes w v)) o ≡ v
fixed_written w xs o v l h = holds_fixed w (sets xs o (bytes w v)) o v l (sets_holds xs o (bytes w v) (omega (arith, length_bytes w v)))

-- a number elsewhere is kept
pub fixed_kept : (w : ℕ) (xs : List ℕ) (o : ℕ) (vs : List ℕ) (p : ℕ) → (o < p + w → p < o + length vs → ⊥) → fixed w (sets xs o vs) p ≡ fixed w xs p
fixed_kept w xs o vs p n = fixed_same w (sets xs o vs) xs p (sets_same xs o vs p (p + w) n)

-- equal numbers are equal bytes
pub fixed_unique : (w : ℕ) (xs ys : List ℕ) (o : ℕ) → Bytes xs → Bytes ys → fixed w xs o ≡ fixed w ys o → Same xs ys o (o + w)
fixed_unique w xs ys o b c e = rw (length_bytes w (fixed w xs o)) at (holds_both xs ys o (bytes w (fixed w xs o)) (fixed_holds w xs o b) (rw e (fixed_holds w ys o c)))

-- ---- words of four bytes

pub word_same : (xs ys : List ℕ) (o : ℕ) → Same xs ys o (o + 4) → word xs o ≡ word ys o
unfolding word
word_same xs ys o s = fixed_same 4 xs ys o s

pub holds_word : (xs : List ℕ) (o v : ℕ) → v < 256 ^ 4 → Holds xs o (bytes 4 v) → word xs o ≡ v
unfolding word
holds_word xs o v l h = holds_fixed 4 xs o v l h

pub word_unique : (xs ys : List ℕ) (o : ℕ) → Bytes xs → Bytes ys → word xs o ≡ word ys o → Same xs ys o (o + 4)
unfolding word
word_unique xs ys o b c e = fixed_unique 4 xs ys o b c e

pub word_written : (xs : List ℕ) (o v : ℕ) → v < 256 ^ 4 → o + 4 ≤ length xs → word (put_word xs o v) o ≡ v
unfolding word put_word
word_written xs o v l h = fixed_written 4 xs o v l h

pub length_put_word : (xs : List ℕ) (o v : ℕ) → length (put_word xs o v) ≡ length xs
unfolding put_word
length_put_word xs o v = length-sets xs o (bytes 4 v)

pub put_word_out : (xs : List ℕ) (o v i : ℕ) → (o ≤ i → i < o + 4 → ⊥) → get_or (put_word xs o v) i 0 ≡ get_or xs i 0
unfolding put_word
put_word_out xs o v i n = sets_out xs o (bytes 4 v) i n

pub put_word_bytes : (xs : List ℕ) (o v : ℕ) → Bytes xs → Bytes (put_word xs o v)
unfolding put_word
put_word_bytes xs o v b = sets_bytes xs o (bytes 4 v) (bytes_bytes 4 v) b

pub word_kept : (xs : List ℕ) (o v p : ℕ) → Apart o p → word (put_word xs o v) p ≡ word xs p
unfolding word put_word
word_kept xs o v p n = fixed_kept 4 xs o (bytes 4 v) p n

-- ---- a run of words, each at its place

pub length_put_words : (xs : List ℕ) (place value : ℕ → ℕ) (h : ℕ) → length (put_words xs place value h) ≡ length xs
unfolding put_words
length_put_words xs place value zero = refl
length_put_words xs place value (suc h) = length_put_word (put_words xs place value h) (place h) (value h) ∙ length_put_words xs place value h

pub put_words_out : (xs : List ℕ) (place value : ℕ → ℕ) (h i : ℕ) → ((l : ℕ) → l < h → place l ≤ i → i < place l + 4 → ⊥) → get_or (put_words xs place value h) i 0 ≡ get_or xs i 0
unfolding put_words
put_words_out xs place value zero i n = refl
put_words_out xs place value (suc h) i n = put_word_out (put_words xs place value h) (place h) (value h) i (n h (omega arith)) ∙ put_words_out xs place value h i (λ l k. n l (omega arith))

pub put_words_bytes : (xs : List ℕ) (place value : ℕ → ℕ) (h : ℕ) → Bytes xs → Bytes (put_words xs place value h)
unfolding put_words
put_words_bytes xs place value zero b i = b i
put_words_bytes xs place value (suc h) b i = put_word_bytes (put_words xs place value h) (place h) (value h) (put_words_bytes xs place value h b) i

pub put_words_written : (xs : List ℕ) (place value : ℕ → ℕ) (h : ℕ) → ((l m : ℕ) → l < h → m < h → l ≢ m → Apart (place l) (place m))
    → ((l : ℕ) → l < h → place l + 4 ≤ length xs) → ((l : ℕ) → l < h → value l < 256 ^ 4)
    → (l : ℕ) → l < h → word (put_words xs place value h) (place l) ≡ value l
unfolding put_words
put_words_written xs place value zero a b c l k = absurd (omega arith)
put_words_written xs place value (suc h) a b c l k =
    go (ℕ_discrete l h) (put_words_written xs place value h (λ x y p q. a x y (omega arith) (omega arith)) (λ x p. b x (omega arith)) (λ x p. c x (omega arith)) l)
  where
    go : Dec (l ≡ h) → (l < h → word (put_words xs place value h) (place l) ≡ value l) → word (put_word (put_words xs place value h) (place h) (value h)) (place l) ≡ value l
    go (yes e) ih = rw e (word_written (put_words xs place value h) (place h) (value h) (c h (omega arith)) (omega (arith, b h (omega arith), length_put_words xs place value h)))
    go (no n) ih = word_kept (put_words xs place value h) (place h) (value h) (place l) (a h l (omega arith) k (λ e. n (sym e))) ∙ ih (omega arith)

pub put_words_kept : (xs : List ℕ) (place value : ℕ → ℕ) (h p : ℕ) → ((l : ℕ) → l < h → Apart (place l) p) → word (put_words xs place value h) p ≡ word xs p
put_words_kept xs place value h p n = word_same (put_words xs place value h) xs p (λ i a b. put_words_out xs place value h i (λ l k c d. n l k (omega arith) (omega arith)))

pub word_beside : (xs : List ℕ) (o : ℕ) (vs : List ℕ) (p : ℕ) → (o < p + 4 → p < o + length vs → ⊥) → word (sets xs o vs) p ≡ word xs p
unfolding word
word_beside xs o vs p n = fixed_kept 4 xs o vs p n

-- ---- as code reads and writes a word: o + 1, not suc o

pub word_bytes : (xs : List ℕ) (o : ℕ) → word xs o ≡ get_or xs o 0 + get_or xs (o + 1) 0 * 256 + get_or xs (o + 2) 0 * 65536 + get_or xs (o + 3) 0 * 16777216
unfolding word
word_bytes xs o = rw (add-one o, add-two o, add-three o) (omega arith)

pub put_word_stores : (xs : List ℕ) (o v : ℕ) → put_word xs o v ≡ set (set (set (set xs o (v % 256)) (o + 1) (v / 256 % 256)) (o + 2) (v / 256 / 256 % 256)) (o + 3) (v / 256 / 256 / 256 % 256)
unfolding put_word
put_word_stores xs o v = rw (add-one o, add-two o, add-three o)

pub put_words_none : (xs : List ℕ) (place value : ℕ → ℕ) → xs ≡ put_words xs place value 0
unfolding put_words
put_words_none xs place value = refl

-- one more word
pub put_words_next : (xs : List ℕ) (place value : ℕ → ℕ) (h : ℕ) (ys zs : List ℕ) → ys ≡ put_words xs place value h → zs ≡ put_word ys (place h) (value h) → zs ≡ put_words xs place value (h + 1)
unfolding put_words
put_words_next xs place value h ys zs p q = rw (add-one h, q, p)

-- eight bytes are two words
pub fixed_eight : (xs : List ℕ) (o : ℕ) → fixed 8 xs o ≡ word xs o + word xs (o + 4) * 4294967296
unfolding word
fixed_eight xs o = rw (add-four o) (omega arith)

-- a list written behind another, and one more element
pub sets_append : (xs : List ℕ) (o : ℕ) (cs bs : List ℕ) → sets (sets xs o cs) (o + length cs) bs ≡ sets xs o (cs ++ bs)
sets_append xs o [] bs = rw (add-zero o)
sets_append xs o (c ∷ cs) bs = let e : o + suc (length cs) ≡ suc o + length cs = omega arith in rw e (sets_append (set xs o c) (suc o) cs bs)

pub sets_next : (xs : List ℕ) (o : ℕ) (bs : List ℕ) (i : ℕ) → i < length bs → set (sets xs o (take i bs)) (o + i) (get_or bs i 0) ≡ sets xs o (take (i + 1) bs)
sets_next xs o bs i h = let e : length (take i bs) ≡ i = length-take-le i bs (omega arith) in
    rw (add-one i, take-suc bs i 0 h, ← sets_append xs o (take i bs) (get_or bs i 0 ∷ []), e)

-- eight bytes are written as two words
pub bytes_eight : (v : ℕ) → bytes 8 v ≡ bytes 4 v ++ bytes 4 (v / 4294967296)
bytes_eight v = let e : v / 256 / 256 / 256 / 256 ≡ v / 4294967296 = omega arith in rw (← e)

pub put_word_two : (xs : List ℕ) (o v : ℕ) → put_word (put_word xs o v) (o + 4) (v / 4294967296) ≡ sets xs o (bytes 8 v)
unfolding put_word
put_word_two xs o v = sets_append xs o (bytes 4 v) (bytes 4 (v / 4294967296)) ∙ ap (sets xs o) (sym (bytes_eight v))

-- ---- writes to the part of a list that starts behind ps

set_behind : (ps ys : List ℕ) (o v : ℕ) → set (ps ++ ys) (length ps + o) v ≡ ps ++ set ys o v
set_behind [] ys o v = rw (zero-add o)
set_behind (p ∷ ps) ys o v = rw (suc-add (length ps) o) (ap (λ (r : List ℕ). p ∷ r) (set_behind ps ys o v))

pub sets_behind : (ps ys : List ℕ) (o : ℕ) (vs : List ℕ) → sets (ps ++ ys) (length ps + o) vs ≡ ps ++ sets ys o vs
sets_behind ps ys o [] = refl
sets_behind ps ys o (v ∷ vs) = rw (set_behind ps ys o v, ← add-suc (length ps) o) (sets_behind ps (set ys o v) (suc o) vs)

pub put_word_behind : (ps ys : List ℕ) (o v : ℕ) → put_word (ps ++ ys) (length ps + o) v ≡ ps ++ put_word ys o v
unfolding put_word
put_word_behind ps ys o v = sets_behind ps ys o (bytes 4 v)

pub put_words_behind : (ps ys : List ℕ) (place value : ℕ → ℕ) (h : ℕ) → put_words (ps ++ ys) (λ l. length ps + place l) value h ≡ ps ++ put_words ys place value h
unfolding put_words
put_words_behind ps ys place value zero = refl
put_words_behind ps ys place value (suc h) = rw (put_words_behind ps ys place value h) (put_word_behind ps (put_words ys place value h) (place h) (value h))

-- the places and the values count only below h
pub put_words_ext : (xs : List ℕ) (p q v w : ℕ → ℕ) (h : ℕ) → ((l : ℕ) → l < h → p l ≡ q l) → ((l : ℕ) → l < h → v l ≡ w l) → put_words xs p v h ≡ put_words xs q w h
unfolding put_words
put_words_ext xs p q v w zero e f = refl
put_words_ext xs p q v w (suc h) e f = rw (put_words_ext xs p q v w h (λ l k. e l (omega arith)) (λ l k. f l (omega arith)), e h (omega arith), f h (omega arith))
