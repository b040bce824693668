-- Runs of a host's moves over two tables that grow: what demand 3 speaks of.
use Rattle.std.specs.Prelude.{ℕ, ◌<◌, ◌≤◌, ◌≡◌, ◌↔◌, length, Result, Ok, Err}
use mathlib.Core.List.{List, [], ◌∷◌, ◌++◌, Memᴰ}
use Rattle.rule.specs.Lists.{Maybe, none, some, All}
use Rattle.rule.specs.Entries.{Entry, Agree, Single}
use Rattle.rule.specs.Moves.{Move, target, Row, row_at}
use Rattle.image.specs.Limits.{max_key, max_number}
use Rattle.image.specs.Refusals.{number_of}
use Rattle.image.specs.EntryMoves.{on, viewed, value_view}
use Rattle.table.specs.Refusals.{refusal_is}
use Rattle.table.specs.Growth.{Begun, Additions}
use Rattle.table.specs.declared.memtable.Lookup.{Lookup}
use Rattle.table.specs.declared.memtable.Lookup.TheVariants as lookup
use Rattle.cursor.specs.Places.{all_entries}
use Rattle.cursor.specs.Moves.{key_given, moved_as, Moves}
use Rattle.cursor.specs.Rows.{ShowsKey, ShowsValue}
use Rattle.cursor.specs.declared.places.Cursor.{Cursor}
use Rattle.cursor.specs.declared.places.Cursor.TheVariants.{Nowhere, On}
use Rattle.table.specs.declared.refusals.Refusal.{Refusal}
use Rattle.table.specs.declared.memtable_iter.Stays.{Stays}

-- a pair of tables
pub record Tables : Type 0 where
  pub first : List ℕ
  pub second : List ℕ

-- the entries of both
abbrev pub entries_of : Tables → List Entry
entries_of t = all_entries t.first t.second

-- the row shown at a cursor: none when nowhere, else a key and a value that the promises of the views allow
abbrev pub Shows : Tables → Cursor → Maybe Row → Type 0
Shows t Nowhere none = Unit
Shows t Nowhere (some w) = ⊥
Shows t (On p) none = ⊥
Shows t (On p) (some w) = ShowsKey t.first t.second (On p) w.key × ShowsValue t.first t.second (On p) w.value

-- what the host sees of a move: the number of a refusal, or 0, and the row shown after it
pub record Seen : Type 0 where
  pub refusal : ℕ
  pub row : Maybe Row

-- a move in a run, with the tables as they stand at that call
pub record Moment : Type 0 where
  pub tables : Tables
  pub move : Move
  pub seen : Seen

-- what was seen, moment by moment
abbrev pub seen_in : List Moment → List Seen
seen_in [] = []
seen_in (m ∷ ms) = m.seen ∷ seen_in ms

-- the moments of a run at snapshot s, the last one first: both tables begun fresh, the cursor nowhere; then before each move any accepted additions
-- to either table, and of the move any answer that its promise allows
pub data Run (s : ℕ) : Tables → Cursor → List Moment → Type 0 where
  begun : {t : Tables} → Begun t.first → Begun t.second → Run s t Nowhere []
  moved : {t : Tables} {c : Cursor} {ms : List Moment} {es fs : List Entry} (u : Tables) (v : Move) (r : Result Cursor (Stays Cursor)) (w : Maybe Row)
      → Run s t c ms → Additions t.first es u.first → Additions t.second fs u.second
      → Moves v u.first u.second s c r → Shows u (moved_as r).cursor w
      → Run s u (moved_as r).cursor (record { tables = u; move = v; seen = record { refusal = (moved_as r).refusal; row = w } } ∷ ms)

-- the same entries up to s, and no two different ones with the same key and number: in the one list, and so in the other (`agree_single`)
pub record Alike (s : ℕ) (es fs : List Entry) : Type 0 where
  pub agree : Agree s es fs
  pub single : Single s es

-- two runs in lockstep: the same moves, at each of them over entries that are alike up to s
abbrev pub Lockstep : ℕ → List Moment → List Moment → Type 0
Lockstep s [] [] = Unit
Lockstep s [] (n ∷ ns) = ⊥
Lockstep s (m ∷ ms) [] = ⊥
Lockstep s (m ∷ ms) (n ∷ ns) = (m.move ≡ n.move) × Alike s (entries_of m.tables) (entries_of n.tables) × Lockstep s ms ns

-- the moves of a run
abbrev pub moves_in : List Moment → List Move
moves_in [] = []
moves_in (m ∷ ms) = m.move ∷ moves_in ms

-- all its moves were made over these tables: nothing was added between them
abbrev pub Still : Tables → List Moment → Type 0
Still t [] = Unit
Still t (m ∷ ms) = (m.tables ≡ t) × Still t ms

-- the same members
abbrev pub SameMembers : List Entry → List Entry → Type 0
SameMembers es fs = (e : Entry) → Memᴰ e es ↔ Memᴰ e fs

-- numbered above s, all of them
abbrev pub Later : ℕ → List Entry → Type 0
Later s es = All (λ e. s < e.number) es

-- ---- what a run shows by the rule

-- the arguments of these moves at snapshot s are within their limits
pub record InLimits (s : ℕ) (vs : List Move) : Type 0 where
  pub number : s ≤ max_number
  pub keys : All (λ v. length (key_given v) ≤ max_key) vs

-- the key that the last of these moments ends on, each move made over the entries held at it, the first from nowhere
abbrev pub key_after : ℕ → List Moment → Maybe (List ℕ)
key_after s [] = none
key_after s (m ∷ ms) = target m.move s (key_after s ms) (entries_of m.tables)

-- the rows that they show, the last one first
abbrev pub rows_by : ℕ → List Moment → List (Maybe Row)
rows_by s [] = []
rows_by s (m ∷ ms) = row_at s (key_after s (m ∷ ms)) (entries_of m.tables) ∷ rows_by s ms

-- these rows seen, with no refusal
abbrev pub accepted : List (Maybe Row) → List Seen
accepted [] = []
accepted (w ∷ ws) = record { refusal = 0; row = w } ∷ accepted ws

-- what is listed with the last one first, from the first one on
abbrev pub in_order {ℓ} : {A : Type ℓ} → List A → List A
in_order [] = []
in_order (x ∷ xs) = in_order xs ++ (x ∷ [])

-- ---- lookups

-- what the host learns by a lookup in one table: the number of the refusal, or the value that the view's promise gives, deleted, absent
pub data Learnt : Type 0 where
  refused : ℕ → Learnt
  found : List ℕ → Learnt
  deleted : Learnt
  absent : Learnt

-- what it learns of an answer
abbrev pub learnt : List ℕ → Result Lookup Refusal → Learnt
learnt xs (Ok (lookup.Found i looks)) = found (viewed xs (value_view xs (on i)))
learnt xs (Ok (lookup.Deleted looks)) = deleted
learnt xs (Ok (lookup.Absent looks)) = absent
learnt xs (Err q) = refused (number_of (refusal_is q))
