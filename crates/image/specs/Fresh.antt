-- A fresh image: document 01, 'The image'.
use Rattle.std.specs.Prelude.{ℕ, List, ◌++◌, length, replicate, leb}
use Rattle.std.proofs.lemmas.List.Edits.{sets}
use Rattle.rule.specs.Lists.{both}
use Rattle.image.specs.Limits.{header_size, max_image, levels}
use Rattle.image.specs.Words.{bytes}
use Rattle.image.specs.Refusals.{bad_image, Answer, given, demand}

-- L, n = 0, F = 64, 12 levels, and twelve head links 0
abbrev pub fresh_header : ℕ → List ℕ
fresh_header size = bytes 4 size ++ (bytes 4 0 ++ (bytes 4 header_size ++ (bytes 4 levels ++ replicate 48 0)))

-- the 64 header bytes are written; the other bytes keep what they held
abbrev pub fresh_image : List ℕ → List ℕ
fresh_image xs = sets xs 0 (fresh_header (length xs))

-- the call: only the length can be refused
unfoldable pub fresh : List ℕ → Answer (List ℕ)
fresh xs = demand (both (leb header_size (length xs)) (leb (length xs) max_image)) bad_image (given (fresh_image xs))
