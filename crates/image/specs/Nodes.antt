-- Header fields, slots, nodes and links: document 01, 'The image'.
use Rattle.std.specs.Prelude.{ℕ, zero, suc, ◌+◌, ◌-◌, ◌*◌, ◌≤◌, ◌≡◌, List, [], length, leb}
use Rattle.rule.specs.Lists.{both}
use Rattle.rule.specs.Entries.{Entry}
use Rattle.image.specs.Limits.{header_size, levels}
use Rattle.image.specs.Words.{Holds, word}
use Rattle.image.specs.Readers.{Read, got, bad, bind, check}
use Rattle.image.specs.Entries.{Legal, encode, Keyed, Parts, keyed_at, rest_at, entry_in}

-- the node count n
abbrev pub count : List ℕ → ℕ
count xs = word xs 4

-- the first free byte F
abbrev pub free : List ℕ → ℕ
free xs = word xs 8

-- slot i is at L - 4i
abbrev pub slot_place : List ℕ → ℕ → ℕ
slot_place xs i = length xs - 4 * i

-- it holds the offset of node i
abbrev pub slot : List ℕ → ℕ → ℕ
slot xs i = word xs (slot_place xs i)

-- ---- one node: height h, entry length, h links, entry bytes

-- where the entry of a node at o stands
abbrev pub entry_place : ℕ → ℕ → ℕ
entry_place o h = o + 8 + 4 * h

-- how many bytes a node takes
abbrev pub size_of : ℕ → Entry → ℕ
size_of h e = 8 + 4 * h + length (encode e)

-- what leads a node: its height, where its key stands, its tag, and where it ends
pub record Lead : Type 0 where
  pub start : ℕ
  pub height : ℕ
  pub keyed : Keyed
  pub end : ℕ

-- the lead of the node that starts at o; a node that begins in the header, passes the limit or has a bad height is bad at its start
unfoldable pub lead_at : List ℕ → ℕ → ℕ → Read Lead
lead_at xs limit o =
    check (both (leb header_size o) (leb (o + 8) limit)) o
    (check (both (leb 1 (word xs o)) (leb (word xs o) levels)) o
    (check (leb (entry_place o (word xs o) + word xs (o + 4)) limit) o
    (bind (keyed_at xs (entry_place o (word xs o)) (entry_place o (word xs o) + word xs (o + 4))) (λ k.
    got (record { start = o; height = word xs o; keyed = k; end = entry_place o (word xs o) + word xs (o + 4) })))))

-- a node: its place and height, the parts of its entry, and where it ends
pub record Node : Type 0 where
  pub start : ℕ
  pub height : ℕ
  pub parts : Parts
  pub end : ℕ

-- the whole node
abbrev pub node_from : List ℕ → Lead → Read Node
node_from xs m = bind (rest_at xs m.end m.keyed) (λ p. got (record { start = m.start; height = m.height; parts = p; end = m.end }))

-- ---- nodes by their numbers

-- the lead of node i
abbrev pub lead_of : List ℕ → ℕ → Read Lead
lead_of xs i = lead_at xs (free xs) (slot xs i)

-- node i
abbrev pub node_at : List ℕ → ℕ → Read Node
node_at xs i = bind (lead_of xs i) (node_from xs)

-- an entry with nothing in it, where there is no node
abbrev pub blank : Entry
blank = record { key = []; number = 0; kind = 0; value = [] }

-- the entry of a node that was read
abbrev pub entry_from : List ℕ → Read Node → Entry
entry_from xs (got m) = entry_in xs m.parts
entry_from xs (bad o) = blank

-- the height of node i
unfoldable pub height_of : List ℕ → ℕ → ℕ
height_of xs i = word xs (slot xs i)

-- the entry of node i
unfoldable pub entry_of : List ℕ → ℕ → Entry
entry_of xs i = entry_from xs (node_at xs i)

-- where the links of node i start; node 0 is the head, whose links stand in the header
abbrev pub links_at : List ℕ → ℕ → ℕ
links_at xs zero = 16
links_at xs (suc i) = slot xs (suc i) + 8

-- where the link of node i at level l stands
abbrev pub link_place : List ℕ → ℕ → ℕ → ℕ
link_place xs i l = links_at xs i + 4 * l

-- the link of node i at level l: a node number, 0 for none
unfoldable pub link_of : List ℕ → ℕ → ℕ → ℕ
link_of xs i l = word xs (link_place xs i l)

-- ---- what stands where

-- a node of height h with the entry e stands at o and ends at the limit or before; of its links nothing is said
pub record NodeHere (xs : List ℕ) (limit o h : ℕ) (e : Entry) : Type 0 where
  pub after_header : header_size ≤ o
  pub height_here : word xs o ≡ h
  pub length_here : word xs (o + 4) ≡ length (encode e)
  pub height_some : 1 ≤ h
  pub height_most : h ≤ levels
  pub legal : Legal e
  pub entry_here : Holds xs (entry_place o h) (encode e)
  pub inside : o + size_of h e ≤ limit

-- node i has height h and entry e
abbrev pub NodeIs : List ℕ → ℕ → ℕ → Entry → Type 0
NodeIs xs i h e = NodeHere xs (free xs) (slot xs i) h e
