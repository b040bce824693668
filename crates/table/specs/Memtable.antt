-- What the calls on one table promise: `exact`, the answer and every lent byte on any bytes, and what follows from it for a reader:
-- `rule`, what it means on a sound image, and on any bytes how many looks it took and which bytes it may have changed.
use Rattle.std.specs.Prelude.{ℕ, ◌+◌, ◌≤◌, ◌≡◌, List, [], length, Option, Some, None, Result, Ok, Err, IfOk, IfSome}
use Rattle.rule.specs.Entries.{Entry}
use Rattle.image.specs.Limits.{header_size, max_image, max_number, max_key, levels}
use Rattle.image.specs.Nodes.{count}
use Rattle.image.specs.Sound.{Sound, held}
use Rattle.image.specs.Refusals.{damaged, Answer, refused, given}
use Rattle.image.specs.Fresh.{fresh}
use Rattle.image.specs.Entries.{Legal}
use Rattle.image.specs.Add.{Grown, add, afterwards}
use Rattle.image.specs.Added.{Added as AddedIs, Outcome, Confined}
use Rattle.image.specs.Lookup.{Looked, found, deleted, absent, Lookup as LookupIs, get}
use Rattle.image.specs.Meaning.{Tells}
use Rattle.table.specs.Refusals.{refusal_is, answer_as}
use Rattle.table.specs.declared.refusals.Refusal.{Refusal}
use Rattle.table.specs.declared.key_types.Kind.{Kind}
use Rattle.table.specs.declared.key_types.Kind.TheVariants.{Deletion, Value}
use Rattle.table.specs.declared.memtable.Newest.{Newest}
use Rattle.table.specs.declared.memtable.Lookup.{Lookup}
use Rattle.table.specs.declared.memtable.Lookup.TheVariants as lookup

-- ---- fresh

-- the answer, with the image afterwards
abbrev pub freshened_as : Result Unit Refusal → List ℕ → Answer (List ℕ)
freshened_as r ys = answer_as (λ done. ys) r

-- the image after the call: a refusal keeps every byte
abbrev pub fresh_after : List ℕ → Answer (List ℕ) → List ℕ
fresh_after xs (refused r) = xs
fresh_after xs (given ys) = ys

-- what `fresh` promises, with the bytes afterwards
pub record Freshens (xs : List ℕ) (r : Result Unit Refusal) (ys : List ℕ) : Type 0 where
  pub exact : freshened_as r ys ≡ fresh xs
  pub bytes : ys ≡ fresh_after xs (fresh xs)
  pub rule : header_size ≤ length xs → length xs ≤ max_image → Sound ys × (held ys ≡ [])

-- ---- add

-- the answer, with the image afterwards
abbrev pub added_as : Result ℕ Refusal → List ℕ → Answer Grown
added_as r ys = answer_as (λ i. record { node = i; image = ys }) r

-- on a sound image: the entry is appended in the next node and the table stays sound, or the refusal is not damage
abbrev pub AddRule : List ℕ → Entry → ℕ → Result ℕ Refusal → List ℕ → Type 0
AddRule xs e height (Ok i) ys = AddedIs xs e height ys × (i ≡ count xs + 1)
AddRule xs e height (Err q) ys = refusal_is q ≡ damaged → ⊥

-- what `add` promises, with the bytes afterwards
pub record Adds (xs : List ℕ) (e : Entry) (height : ℕ) (r : Result ℕ Refusal) (ys : List ℕ) : Type 0 where
  pub exact : added_as r ys ≡ add xs e height
  pub bytes : ys ≡ afterwards xs (add xs e height)
  pub rule : Sound xs → AddRule xs e height r ys
  -- and with legal arguments it is refused 8, refused 7 or accepted, as the duplicates held and the room decide
  pub outcome : Sound xs → Legal e → 1 ≤ height → height ≤ levels → Outcome xs e height (added_as r ys)
  -- on any bytes only n, F, the new node, its slot and at most `height` links change
  pub confined : Confined xs e height ys

-- ---- get

-- what a node says with an entry of this type
abbrev pub said_of : ℕ → Kind → Looked
said_of i Value = found i
said_of i Deletion = deleted

-- what a node says of a key, or nothing
abbrev pub looked_is : Option Newest → Looked
looked_is None = absent
looked_is (Some a) = said_of a.node a.kind

-- what is said is said of that node
abbrev pub NamesNode : Option ℕ → Result (Option Newest) Refusal → Type 0
NamesNode at r = IfOk r (λ said. IfSome said (λ a. at ≡ Some a.node))

-- go on with an answer that is given
abbrev pub and_then {ℓ κ} : {A : Type ℓ} {B : Type κ} → Answer A → (A → Answer B) → Answer B
and_then (given a) f = f a
and_then (refused r) f = refused r

-- what a lookup says, with the looks
abbrev pub lookup_is : Lookup → LookupIs
lookup_is (lookup.Found i looks) = record { says = found i; looks = looks }
lookup_is (lookup.Deleted looks) = record { says = deleted; looks = looks }
lookup_is (lookup.Absent looks) = record { says = absent; looks = looks }

-- the answer
abbrev pub lookup_as : Result Lookup Refusal → Answer LookupIs
lookup_as r = answer_as lookup_is r

-- on a sound image, with a key and a snapshot within their limits: what it tells of the newest entry
abbrev pub GetRule : List ℕ → List ℕ → ℕ → Result Lookup Refusal → Type 0
GetRule xs k s r = (a : LookupIs) × (lookup_as r ≡ given a) × Tells xs k s a.says

-- what `get` promises
pub record Gets (xs k : List ℕ) (s : ℕ) (r : Result Lookup Refusal) : Type 0 where
  pub exact : lookup_as r ≡ get xs k s
  -- on any bytes an answer takes at most n + 12 looks
  pub looks : (a : LookupIs) → lookup_as r ≡ given a → a.looks ≤ count xs + levels
  pub rule : Sound xs → s ≤ max_number → length k ≤ max_key → GetRule xs k s r
