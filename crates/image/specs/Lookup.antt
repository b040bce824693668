-- Lookup and presence in one table, on any bytes: document 01, 'Looking, moving, showing'.
use Rattle.std.specs.Prelude.{ℕ, zero, suc, List, Bool, false, length, leb, eqb}
use Rattle.rule.specs.Lists.{cond}
use Rattle.rule.specs.Order.{compare_keys, is_equal}
use Rattle.rule.specs.Entries.{Entry, value_kind}
use Rattle.image.specs.Limits.{max_key, max_number}
use Rattle.image.specs.Readers.{Read, got, bind}
use Rattle.image.specs.Entries.{entry_in}
use Rattle.image.specs.Nodes.{node_at}
use Rattle.image.specs.Sound.{header_holds}
use Rattle.image.specs.Search.{to_stop, Found, hit, ends, searched, looks_of, standing}
use Rattle.image.specs.Refusals.{bad_image, bad_kind, bad_number, long_key, Answer, given, demand, reading}

-- found names the node
pub data Looked : Type 0 where
  found : ℕ → Looked
  deleted : Looked
  absent : Looked

-- with the looks that it took
pub record Lookup : Type 0 where
  pub says : Looked
  pub looks : ℕ

-- what an entry at node i says of the key k
abbrev pub says_of : List ℕ → ℕ → Entry → Looked
says_of k i e = cond (is_equal (compare_keys e.key k)) (cond (eqb e.kind value_kind) (found i) deleted) absent

-- what the node says at which a search for k stands, or none
abbrev pub said_at : List ℕ → List ℕ → ℕ → Read Looked
said_at xs k zero = got absent
said_at xs k (suc i) = bind (node_at xs (suc i)) (λ m. got (says_of k (suc i) (entry_in xs m.parts)))

-- the lookup of k at snapshot s; refusals 1, 3, 4, 9
unfoldable pub get : List ℕ → List ℕ → ℕ → Answer Lookup
get xs k s =
    demand (header_holds xs) bad_image
    (demand (leb s max_number) bad_number
    (demand (leb (length k) max_key) long_key
    (reading (searched xs to_stop k s) (λ r.
    reading (said_at xs k (standing r)) (λ a.
    given (record { says = a; looks = looks_of r }))))))

-- whether an entry is held, with the looks that it took
pub record Presence : Type 0 where
  pub held : Bool
  pub looks : ℕ

-- a node equal to the probe holds the entry if its type is that too
abbrev pub held_at : List ℕ → ℕ → Found → Read Bool
held_at xs kind (hit x looks) = bind (node_at xs x) (λ m. got (eqb (entry_in xs m.parts).kind kind))
held_at xs kind (ends p x looks prev) = got false

-- the presence of an entry with key k, number n and this type; refusals 1, 2, 3, 4, 9
unfoldable pub presence : List ℕ → List ℕ → ℕ → ℕ → Answer Presence
presence xs k n kind =
    demand (header_holds xs) bad_image
    (demand (leb kind 1) bad_kind
    (demand (leb n max_number) bad_number
    (demand (leb (length k) max_key) long_key
    (reading (searched xs to_stop k n) (λ r.
    reading (held_at xs kind r) (λ b.
    given (record { held = b; looks = looks_of r })))))))
