-- What the check answers, and what its parts ask of an image.
use Rattle.std.specs.Prelude.{ℕ, ◌+◌, ◌*◌, ◌≤◌, ◌≡◌, ◌↔◌, List, Bool, true, length, Option, Some, None, IfSome}
use Rattle.rule.specs.Order.{is_less}
use Rattle.image.specs.Limits.{levels}
use Rattle.image.specs.Entries.{compare_keyed}
use Rattle.image.specs.Nodes.{count, links_at, height_of, entry_of, NodeIs}
use Rattle.image.specs.Sound.{Header, Sound}
use Rattle.image.specs.Check.{stepped, is_sound}
use Rattle.table.specs.Entries.{keyed_of}
use Rattle.table.specs.declared.entries.Keyed.{Keyed}

-- the answer is that of the test, and yes exactly if the image is sound
pub record Checked (xs : List ℕ) (yes : Bool) : Type 0 where
  pub exact : yes ≡ is_sound xs
  pub rule : (yes ≡ true) ↔ Sound xs

-- the header holds and every node is whole: what the pass over the nodes shows, and the walk along the chains asks
pub record Whole (xs : List ℕ) : Type 0 where
  pub header : Header xs
  pub reads : (i : ℕ) → 1 ≤ i → i ≤ count xs → NodeIs xs i (height_of xs i) (entry_of xs i)

-- the links at the levels below h that stand at a place lie in the image
pub record LinksInside (xs : List ℕ) (at h : ℕ) : Type 0 where
  pub most : h ≤ levels
  pub inside : at + 4 * h ≤ length xs

-- a key lies in the image
pub record KeyInside (xs : List ℕ) (k : Keyed) : Type 0 where
  pub inside : k.key_at + k.key_len ≤ length xs

-- the same of what was met last
abbrev pub LastInside : List ℕ → Option Keyed → Type 0
LastInside xs last = IfSome last (KeyInside xs)

-- whether the entry met last, if there is one, comes before another
abbrev pub last_before : List ℕ → Option Keyed → Keyed → Bool
last_before xs None k = true
last_before xs (Some p) k = is_less (compare_keyed xs (keyed_of p) (keyed_of k))

-- what each level below h is to meet behind a node whose links stand at a place
pub record StepsTo (xs : List ℕ) (at : ℕ) (next : List ℕ) (h : ℕ) (links : List ℕ) : Type 0 where
  pub is : (x : ℕ) → links_at xs x ≡ at → links ≡ stepped xs x next h
