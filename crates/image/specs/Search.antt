-- The search, one look after the other, on any bytes: document 01, 'Looking, moving, showing'.
use Rattle.std.specs.Prelude.{ℕ, zero, suc, ◌+◌, ◌-◌, List, set, replicate, ltb, leb}
use Rattle.rule.specs.Order.{Ord, less, equal, greater, compare_entries}
use Rattle.image.specs.Limits.{levels}
use Rattle.image.specs.Readers.{Read, got, bad, bind, check}
use Rattle.image.specs.Entries.{key_in, number_in}
use Rattle.image.specs.Nodes.{count, Lead, lead_of, link_place, link_of}

-- what a look says: pass the node, stop at it, or go down
pub data Turn : Type 0 where
  onward : Turn
  halt : Turn
  below : Turn

-- what a search does at a node equal to its probe
pub data OnEqual : Type 0 where
  to_stop : OnEqual
  to_go_down : OnEqual
  to_pass : OnEqual

-- pass a node while it is smaller, else go down; on equality by the mode
abbrev pub turn_by : OnEqual → Ord → Turn
turn_by mode less = onward
turn_by to_stop equal = halt
turn_by to_go_down equal = below
turn_by to_pass equal = onward
turn_by mode greater = below

-- hit: the node that is equal to the probe, and the looks.
-- ends: the last node passed, the node after it, the looks, and the node passed last at each level
pub data Found : Type 0 where
  hit : ℕ → ℕ → Found
  ends : ℕ → ℕ → ℕ → List ℕ → Found

-- the machine: from node cur at a level, with some looks left and some made, and with what is recorded of the levels above
module _ (look : ℕ → ℕ → Read Turn) (link place : ℕ → ℕ → ℕ) where
  unfoldable pub find : ℕ → ℕ → ℕ → ℕ → List ℕ → Read Found
  find zero cur level looks prev = bad (place cur level)
  find (suc left) cur level looks prev = elim (look cur level) [
    | bad o ↦ bad o
    | got t ↦ elim t [
      | onward ↦ find left (link cur level) level (suc looks) prev
      | halt ↦ got (hit (link cur level) (suc looks))
      | below ↦ elim level [
        | zero ↦ got (ends cur (link cur 0) (suc looks) (set prev 0 cur))
        | suc low ↦ find left cur low (suc looks) (set prev (suc low) cur)
      ]
    ]
  ]

-- in the image xs, for the key k and the number s
module _ (xs : List ℕ) (mode : OnEqual) (k : List ℕ) (s : ℕ) where
  -- a node that a link at this level names; one not tall enough for the level makes the link bad
  abbrev pub ask : ℕ → ℕ → Lead → Read Turn
  ask level from m = check (ltb level m.height) from (got (turn_by mode (compare_entries (key_in xs m.keyed) (number_in m.keyed) k s)))

  -- what a link says that names node x, or none
  abbrev pub meet : ℕ → ℕ → ℕ → Read Turn
  meet level from zero = got below
  meet level from (suc i) = bind (lead_of xs (suc i)) (ask level from)

  -- one look: one link examined, empty or not; a link above n is bad
  unfoldable pub look : ℕ → ℕ → Read Turn
  look cur level = check (leb (link_of xs cur level) (count xs)) (link_place xs cur level) (meet level (link_place xs cur level) (link_of xs cur level))

  -- the whole search, from the head's top level, with n + 12 looks
  abbrev pub searched : Read Found
  searched = find look (link_of xs) (link_place xs) (count xs + levels) 0 (levels - 1) 0 (replicate levels 0)

-- the looks that a search made
abbrev pub looks_of : Found → ℕ
looks_of (hit x looks) = looks
looks_of (ends p x looks prev) = looks

-- the first node that is not before the probe; 0 is none
abbrev pub standing : Found → ℕ
standing (hit x looks) = x
standing (ends p x looks prev) = x

-- the last node passed; 0 is none. A search that stops on equality has no use for it
abbrev pub passed : Found → ℕ
passed (hit x looks) = 0
passed (ends p x looks prev) = p
