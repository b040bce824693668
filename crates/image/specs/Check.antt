-- The check as a test on any bytes: one pass over the nodes in order of arrival, and one walk along all chains at once.
use Rattle.std.specs.Prelude.{ℕ, zero, suc, List, Bool, true, false, get_or, set, replicate, leb, eqb}
use Rattle.rule.specs.Lists.{both}
use Rattle.rule.specs.Order.{is_less}
use Rattle.rule.specs.Entries.{order}
use Rattle.image.specs.Limits.{header_size, levels}
use Rattle.image.specs.Readers.{Read, got, bad}
use Rattle.image.specs.Nodes.{count, free, slot, Node, node_at, height_of, entry_of, link_of}
use Rattle.image.specs.Sound.{header_holds}

-- a test of a node that can be read; one that cannot fails it
abbrev pub if_read : Read Node → (Node → Bool) → Bool
if_read (got m) f = f m
if_read (bad o) f = false

-- so many nodes, from node i, which starts at o; behind the last is F
abbrev pub nodes_run : List ℕ → ℕ → ℕ → ℕ → Bool
nodes_run xs zero i o = eqb o (free xs)
nodes_run xs (suc k) i o = both (eqb (slot xs i) o) (if_read (node_at xs i) (λ m. nodes_run xs k (suc i) m.end))

-- each level below h is to meet x next
abbrev pub all_meet : List ℕ → ℕ → ℕ → Bool
all_meet next x zero = true
all_meet next x (suc h) = both (eqb (get_or next h 0) x) (all_meet next x h)

-- what each level is to meet behind node x, which has h links
abbrev pub stepped : List ℕ → ℕ → List ℕ → ℕ → List ℕ
stepped xs x next zero = next
stepped xs x next (suc h) = set (stepped xs x next h) h (link_of xs x h)

-- node x may follow node p; 0 is none
abbrev pub may_follow : List ℕ → ℕ → ℕ → Bool
may_follow xs zero x = true
may_follow xs (suc p) x = is_less (order (entry_of xs (suc p)) (entry_of xs x))

-- so many nodes, behind node p, along the lowest chain; then every level is at its end
abbrev pub threads : List ℕ → ℕ → ℕ → List ℕ → Bool
threads xs zero p next = all_meet next 0 levels
threads xs (suc k) p next = let x = get_or next 0 0 in
    both (both (leb 1 x) (leb x (count xs))) (both (both (all_meet next x (height_of xs x)) (may_follow xs p x)) (threads xs k x (stepped xs x next (height_of xs x))))

-- what each level is to meet first
abbrev pub heads : List ℕ → List ℕ
heads xs = stepped xs 0 (replicate levels 0) levels

-- the call: yes exactly if the image is sound; a bad header is a no
abbrev pub is_sound : List ℕ → Bool
is_sound xs = both (header_holds xs) (both (nodes_run xs (count xs) 1 header_size) (threads xs (count xs) 0 (heads xs)))
