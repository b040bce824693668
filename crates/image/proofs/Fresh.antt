-- A fresh image is sound and holds nothing, and keeps every byte behind its header.
use Prim.Native.Nat.{ℕ, zero, suc, ◌+◌, ◌*◌, ◌<◌, ◌≤◌}
use native.Mathlib.Omega.{arith}
use native.Mathlib.Decide.{ℕ_discrete}
use mathlib.Core.Path.{◌≡◌, refl, sym}
use mathlib.Core.List.{List, [], ◌++◌}
use lib.ListN.{length, get_or, replicate}
use lib.Seq.{length-sets}
use Rattle.rule.proofs.Lists.{all_nil}
use Rattle.image.specs.Limits.{header_size, max_image, levels}
use Rattle.image.specs.Words.{Holds, word, fixed, bytes}
use Rattle.image.specs.Nodes.{count, free, link_of}
use Rattle.image.specs.Sound.{Header, Sound, held}
use Rattle.image.specs.Fresh.{fresh_header, fresh_image}
use Rattle.image.proofs.Sound.{sound_by}
use Rattle.image.proofs.Words.{holds_left, holds_right, holds_word, sets_holds, sets_same}

zeros_hold : (xs : List ℕ) (o n i : ℕ) → Holds xs o (replicate n 0) → o ≤ i → i < o + n → get_or xs i 0 ≡ 0
zeros_hold xs o zero i h p q = absurd (omega arith)
zeros_hold xs o (suc n) i h p q = go (ℕ_discrete i o) (zeros_hold xs (suc o) n i h.1)
  where
    go : Dec (i ≡ o) → (suc o ≤ i → i < suc o + n → get_or xs i 0 ≡ 0) → get_or xs i 0 ≡ 0
    go (yes e) ih = rw e h.0
    go (no z) ih = ih (omega arith) (omega arith)

zeros_fixed : (w : ℕ) (xs : List ℕ) (o : ℕ) → ((i : ℕ) → o ≤ i → i < o + w → get_or xs i 0 ≡ 0) → fixed w xs o ≡ 0
zeros_fixed zero xs o h = refl
zeros_fixed (suc w) xs o h = omega (arith, h o (omega arith) (omega arith), zeros_fixed w xs (suc o) (λ i p q. h i (omega arith) (omega arith)))

pub record FreshHeader (xs : List ℕ) (n : ℕ) : Type 0 where
  pub total : word xs 0 ≡ n
  pub none : count xs ≡ 0
  pub empty : free xs ≡ header_size
  pub leveled : word xs 12 ≡ levels
  pub heads : (l : ℕ) → l < levels → link_of xs 0 l ≡ 0

fresh_header_lem : (xs : List ℕ) (n : ℕ) → n ≤ max_image → Holds xs 0 (fresh_header n) → FreshHeader xs n
unfolding link_of word
fresh_header_lem xs n b h =
    let h1 = holds_right xs 0 (bytes 4 n) (bytes 4 0 ++ (bytes 4 header_size ++ (bytes 4 levels ++ replicate 48 0))) h in
    let h2 = holds_right xs 4 (bytes 4 0) (bytes 4 header_size ++ (bytes 4 levels ++ replicate 48 0)) h1 in
    let h3 = holds_right xs 8 (bytes 4 header_size) (bytes 4 levels ++ replicate 48 0) h2 in
    let h4 = holds_right xs 12 (bytes 4 levels) (replicate 48 0) h3 in
    record {
      total = holds_word xs 0 n (omega arith) (holds_left xs 0 (bytes 4 n) (bytes 4 0 ++ (bytes 4 header_size ++ (bytes 4 levels ++ replicate 48 0))) h);
      none = holds_word xs 4 0 (omega arith) (holds_left xs 4 (bytes 4 0) (bytes 4 header_size ++ (bytes 4 levels ++ replicate 48 0)) h1);
      empty = holds_word xs 8 64 (omega arith) (holds_left xs 8 (bytes 4 header_size) (bytes 4 levels ++ replicate 48 0) h2);
      leveled = holds_word xs 12 12 (omega arith) (holds_left xs 12 (bytes 4 levels) (replicate 48 0) h3);
      heads = λ l k. zeros_fixed 4 xs (16 + 4 * l) (λ i p q. zeros_hold xs 16 48 i h4 (omega arith) (omega arith));
    }

-- an image with a fresh header is sound and empty
header_sound : (ys : List ℕ) → header_size ≤ length ys → length ys ≤ max_image → FreshHeader ys (length ys) → Sound ys
header_sound ys lo hi f = sound_by ys [] header (rw f.none f.empty) (λ i p q. absurd (omega (arith, f.none))) (λ i p q. absurd (omega (arith, f.none)))
    (record { within = all_nil _; full = sym f.none; ascending = tt; chained = λ l k. f.heads l k })
  where
    header : Header ys
    header = record {
      long = lo;
      short = hi;
      total = f.total;
      leveled = f.leveled;
      few = omega (arith, f.none);
      low = omega (arith, f.empty);
      high = omega (arith, f.none, f.empty);
    }

pub fresh_sound : (xs : List ℕ) → header_size ≤ length xs → length xs ≤ max_image → Sound (fresh_image xs)
fresh_sound xs lo hi = go (fresh_image xs) (length-sets xs 0 (fresh_header (length xs))) (sets_holds xs 0 (fresh_header (length xs)) lo)
  where
    go : (ys : List ℕ) → length ys ≡ length xs → Holds ys 0 (fresh_header (length xs)) → Sound ys
    go ys e h = header_sound ys (omega arith) (omega arith) (rw e (fresh_header_lem ys (length xs) hi h))

pub fresh_holds_nothing : (xs : List ℕ) → header_size ≤ length xs → length xs ≤ max_image → held (fresh_image xs) ≡ []
fresh_holds_nothing xs lo hi = go (fresh_image xs) (sets_holds xs 0 (fresh_header (length xs)) lo)
  where
    go : (ys : List ℕ) → Holds ys 0 (fresh_header (length xs)) → held ys ≡ []
    go ys h = let f = fresh_header_lem ys (length xs) hi h in rw f.none

pub fresh_keeps : (xs : List ℕ) (i : ℕ) → header_size ≤ i → get_or (fresh_image xs) i 0 ≡ get_or xs i 0
fresh_keeps xs i h = sets_same xs 0 (fresh_header (length xs)) 64 (suc i) (λ p q. omega arith) i h (omega arith)
