-- Bytes and little-endian numbers in a list of bytes.
use Rattle.std.specs.Prelude.{ℕ, zero, suc, ◌+◌, ◌*◌, ◌/◌, ◌%◌, ◌<◌, ◌≤◌, ◌≡◌, List, [], ◌∷◌, get_or, take, drop}
use Rattle.std.proofs.lemmas.List.Edits.{sets}

-- every element is a byte
abbrev pub Bytes : List ℕ → Type 0
Bytes xs = (i : ℕ) → get_or xs i 0 < 256

-- the n elements from o
abbrev pub part : List ℕ → ℕ → ℕ → List ℕ
part xs o n = take n (drop o xs)

-- the number that w bytes from o hold, low byte first
abbrev pub fixed : ℕ → List ℕ → ℕ → ℕ
fixed zero xs o = 0
fixed (suc w) xs o = get_or xs o 0 + 256 * fixed w xs (suc o)

-- the w low bytes of n, low byte first
abbrev pub bytes : ℕ → ℕ → List ℕ
bytes zero n = []
bytes (suc w) n = n % 256 ∷ bytes w (n / 256)

-- the u32 at o
unfoldable pub word : List ℕ → ℕ → ℕ
word xs o = fixed 4 xs o

-- xs with v as the u32 at o
unfoldable pub put_word : List ℕ → ℕ → ℕ → List ℕ
put_word xs o v = sets xs o (bytes 4 v)

-- xs with a u32 for each level below h, at its place
unfoldable pub put_words : List ℕ → (ℕ → ℕ) → (ℕ → ℕ) → ℕ → List ℕ
put_words xs place value zero = xs
put_words xs place value (suc h) = put_word (put_words xs place value h) (place h) (value h)

-- ---- what the laws say of lists of bytes

-- the list bs stands in xs at o
abbrev pub Holds : List ℕ → ℕ → List ℕ → Type 0
Holds xs o [] = Unit
Holds xs o (b ∷ bs) = (get_or xs o 0 ≡ b) × Holds xs (suc o) bs

-- two lists have the same elements from a up to b
abbrev pub Same : List ℕ → List ℕ → ℕ → ℕ → Type 0
Same xs ys a b = (i : ℕ) → a ≤ i → i < b → get_or xs i 0 ≡ get_or ys i 0

-- the u32 at p and the u32 at q do not meet
abbrev pub Apart : ℕ → ℕ → Type 0
Apart p q = p < q + 4 → q < p + 4 → ⊥
