-- The newest entry of a key up to a number, with its node for a deletion too, in one table and on any bytes.
use Rattle.std.specs.Prelude.{ℕ, ◌≤◌, ◌≡◌, List}
use Rattle.rule.specs.Lists.{none, some}
use Rattle.rule.specs.Entries.{value_kind, deletion_kind}
use Rattle.rule.specs.Rows.{newest}
use Rattle.image.specs.Nodes.{entry_of}
use Rattle.image.specs.Sound.{header_holds, held}
use Rattle.image.specs.Search.{to_stop, searched, standing}
use Rattle.image.specs.Refusals.{Answer, given, damaged, demand, reading}
use Rattle.image.specs.Lookup.{Looked, found, deleted, absent, said_at}
use Rattle.image.specs.EntryMoves.{on, view_refusal}
use Rattle.image.specs.Meaning.{IsNode}

-- the node of a value, the node of a deletion, or that there is none
pub data NewestAt : Type 0 where
  value : ℕ → NewestAt
  deletion : ℕ → NewestAt
  nothing : NewestAt

-- what node i says of a key, with the node
abbrev pub with_node : ℕ → Looked → NewestAt
with_node i (found j) = value i
with_node i deleted = deletion i
with_node i absent = nothing

-- the newest entry of k up to s; a bad header is damage
unfoldable pub newest_at : List ℕ → List ℕ → ℕ → Answer NewestAt
newest_at xs k s = demand (header_holds xs) damaged (reading (searched xs to_stop k s) (λ r. reading (said_at xs k (standing r)) (λ a. given (with_node (standing r) a))))

-- node i has the newest entry of k up to s, of this type
pub record NewestOn (xs k : List ℕ) (s kind i : ℕ) : Type 0 where
  pub node : IsNode xs i
  pub newest_is : newest k s (held xs) ≡ some (entry_of xs i)
  pub kind_is : (entry_of xs i).kind ≡ kind

-- what the answer means
abbrev pub NewestIs : List ℕ → List ℕ → ℕ → NewestAt → Type 0
NewestIs xs k s (value i) = NewestOn xs k s value_kind i
NewestIs xs k s (deletion i) = NewestOn xs k s deletion_kind i
NewestIs xs k s nothing = newest k s (held xs) ≡ none

-- what the answer means on any bytes: node i can be read whole, and has an entry of k up to s, of this type
pub record NewestLands (xs k : List ℕ) (s kind i : ℕ) : Type 0 where
  pub node : IsNode xs i
  pub readable : view_refusal xs (on i) ≡ 0
  pub key_is : (entry_of xs i).key ≡ k
  pub number_most : (entry_of xs i).number ≤ s
  pub kind_is : (entry_of xs i).kind ≡ kind

-- the same of the answer
abbrev pub NewestLandsOn : List ℕ → List ℕ → ℕ → NewestAt → Type 0
NewestLandsOn xs k s (value i) = NewestLands xs k s value_kind i
NewestLandsOn xs k s (deletion i) = NewestLands xs k s deletion_kind i
NewestLandsOn xs k s nothing = Unit
