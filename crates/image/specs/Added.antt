-- What an addition comes to: document 01, 'The image' and 'Numbered refusals'.
use Rattle.std.specs.Prelude.{ℕ, suc, ◌+◌, ◌<◌, ◌≤◌, ◌≡◌, ◌⊎◌, true, false, length, get_or}
use mathlib.Core.List.{List, [], ◌∷◌, ◌++◌, Memᴰ}
use Rattle.rule.specs.Entries.{Entry, Duplicates}
use Rattle.image.specs.Readers.{got}
use Rattle.image.specs.Nodes.{count, free, slot_place, size_of, Lead, lead_of, height_of, entry_of, link_place}
use Rattle.image.specs.Sound.{Sound, held}
use Rattle.image.specs.Refusals.{no_room, duplicate, Answer, refused, given}
use Rattle.image.specs.Add.{Grown, has_room}

-- ---- on a sound image

-- a duplicate of e is held
abbrev pub HasDuplicate : List ℕ → Entry → Type 0
HasDuplicate xs e = (d : Entry) × Memᴰ d (held xs) × Duplicates d e

-- ys is the sound image whose old nodes keep number, height and entry and whose node n + 1 is the new one
pub record Added (xs : List ℕ) (e : Entry) (h : ℕ) (ys : List ℕ) : Type 0 where
  pub sound : Sound ys
  pub length_same : length ys ≡ length xs
  pub one_more : count ys ≡ suc (count xs)
  pub moved : free ys ≡ free xs + size_of h e
  pub heights_kept : (i : ℕ) → 1 ≤ i → i ≤ count xs → height_of ys i ≡ height_of xs i
  pub entries_kept : (i : ℕ) → 1 ≤ i → i ≤ count xs → entry_of ys i ≡ entry_of xs i
  pub height_new : height_of ys (suc (count xs)) ≡ h
  pub entry_new : entry_of ys (suc (count xs)) ≡ e
  pub held_more : held ys ≡ held xs ++ (e ∷ [])

-- of legal arguments one of three: refused 8 if a duplicate is held, room or not; else refused 7 if there is no room; else accepted
pub data Outcome (xs : List ℕ) (e : Entry) (h : ℕ) : Answer Grown → Type 0 where
  held_already : HasDuplicate xs e → Outcome xs e h (refused duplicate)
  lacks_room : (HasDuplicate xs e → ⊥) → has_room xs e h ≡ false → Outcome xs e h (refused no_room)
  accepted : (HasDuplicate xs e → ⊥) → has_room xs e h ≡ true → {ys : List ℕ} → Added xs e h ys → Outcome xs e h (given (record { node = suc (count xs); image = ys }))

-- ---- on any bytes

-- x has a link at level l: it is the head, or a node numbered up to n that can be read and is tall enough for the level
abbrev pub HasLink : List ℕ → ℕ → ℕ → Type 0
HasLink xs x l = (x ≡ 0) ⊎ ((1 ≤ x) × (x ≤ count xs) × ((m : Lead) × (lead_of xs x ≡ got m) × (l < m.height)))

-- q is one of the n bytes from o
abbrev pub Among : ℕ → ℕ → ℕ → Type 0
Among o n q = (o ≤ q) × (q < o + n)

-- q is a byte of n or F, of the new node at F, of its slot, or of a link that is to lead to it, one at each level below h
pub data Named (xs : List ℕ) (e : Entry) (h : ℕ) (leader : ℕ → ℕ) (q : ℕ) : Type 0 where
  in_header : Among 4 8 q → Named xs e h leader q
  in_node : Among (free xs) (size_of h e) q → Named xs e h leader q
  in_slot : Among (slot_place xs (suc (count xs))) 4 q → Named xs e h leader q
  in_link : (l : ℕ) → l < h → Among (link_place xs (leader l) l) 4 q → Named xs e h leader q

-- an addition changes only these, and each such link is one of the head or of a node
pub record Confined (xs : List ℕ) (e : Entry) (h : ℕ) (ys : List ℕ) : Type 0 where
  -- of the link at each level, the node that has it
  pub leader : ℕ → ℕ
  pub leads : (l : ℕ) → l < h → HasLink xs (leader l) l
  pub length_same : length ys ≡ length xs
  pub kept : (q : ℕ) → (Named xs e h leader q → ⊥) → get_or ys q 0 ≡ get_or xs q 0
