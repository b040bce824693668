-- What the moves of the visible cursor promise: `refused`, the refusal of the arguments, `rule`, where they lead on sound tables,
-- and `lands`, where they end on any bytes: on a place that can be read whole, with a value up to the snapshot, onward of where the move
-- started; or nowhere; or damage, which the move met, with the cursor as it was handed. So no scan goes round.
use Rattle.std.specs.Prelude.{ℕ, ◌≤◌, ◌≡◌, ◌⊎◌, List, [], false, length, leb, Result, Ok, Err}
use Rattle.rule.specs.Lists.{Maybe, none, some}
use Rattle.rule.specs.Order.{less, compare_keys, is_less}
use Rattle.rule.specs.Entries.{value_kind}
use Rattle.rule.specs.Moves.{Move, first, seek, next, previous, target}
use Rattle.image.specs.Limits.{max_key, max_number}
use Rattle.image.specs.Sound.{Sound, header_holds}
use Rattle.image.specs.Cuts.{Cut}
use Rattle.image.specs.Cuts as cut
use Rattle.image.specs.Refusals as is
use Rattle.image.specs.Refusals.{Answer, refused, given, demand, bad_image, no_node, bad_number, long_key, damaged, number_of}
use Rattle.table.specs.Refusals.{refusal_is}
use Rattle.cursor.specs.Places.{all_entries, entry_at, refusal_at, PlaceIn, inside, Gives}
use Rattle.cursor.specs.Walks.{WalkDamaged}
use Rattle.cursor.specs.declared.places.Place.{Place}
use Rattle.cursor.specs.declared.places.Cursor.{Cursor}
use Rattle.cursor.specs.declared.places.Cursor.TheVariants.{Nowhere, On}
use Rattle.table.specs.declared.refusals.Refusal.{Refusal}
use Rattle.table.specs.declared.memtable_iter.Stays.{Stays}

-- ---- the arguments

-- the refusal that a move's arguments get, in document 01's order: 1 (first table, then second), 10, 3, 4
unfoldable pub asked : List ℕ → List ℕ → ℕ → Cursor → List ℕ → Answer {0} Unit
asked f g s c t =
    demand (header_holds f) bad_image
    (demand (header_holds g) bad_image
    (demand (inside f g c) no_node
    (demand (leb s max_number) bad_number
    (demand (leb (length t) max_key) long_key
    (given tt)))))

-- the key that a move is given
abbrev pub key_given : Move → List ℕ
key_given first = []
key_given (seek t) = t
key_given next = []
key_given previous = []

-- the key that it starts from
abbrev pub start_key : List ℕ → List ℕ → Cursor → Maybe (List ℕ)
start_key f g Nowhere = none
start_key f g (On p) = some (entry_at f g p).key

-- ---- the answer

-- an answer in the paper's terms: the number of its refusal, 0 for none, and the cursor that it hands to the host
pub record MovedIs : Type 0 where
  pub refusal : ℕ
  pub cursor : Cursor

-- a move that is not refused
abbrev pub moved_to : Cursor → MovedIs
moved_to c = record { refusal = 0; cursor = c }

-- the answer of a move
abbrev pub moved_as : Result Cursor (Stays Cursor) → MovedIs
moved_as (Ok c) = moved_to c
moved_as (Err r) = record { refusal = number_of (refusal_is r.why); cursor = r.at }

-- the same of a move from this cursor, before that is handed back
abbrev pub went_as : Cursor → Result Cursor Refusal → MovedIs
went_as at (Ok c) = moved_to c
went_as at (Err q) = record { refusal = number_of (refusal_is q); cursor = at }

-- it leads to the place of the entry that gives the row of the key, or nowhere if there is no key
abbrev pub LeadsTo : List ℕ → List ℕ → ℕ → Maybe (List ℕ) → MovedIs → Type 0
LeadsTo f g s none a = a ≡ moved_to Nowhere
LeadsTo f g s (some k) a = (p : Place) × (a ≡ moved_to (On p)) × Gives f g s k p

-- it is this refusal, with the cursor that was handed
abbrev pub RefusedWith : is.Refusal → Cursor → MovedIs → Type 0
RefusedWith q c a = a ≡ record { refusal = number_of q; cursor = c }

-- ---- on any bytes

-- the key k lies onward of the one that a move started from; previous ends nowhere when it started nowhere
abbrev pub Ahead : Move → Maybe (List ℕ) → List ℕ → Type 0
Ahead first start k = Unit
Ahead (seek t) start k = is_less (compare_keys k t) ≡ false
Ahead next none k = Unit
Ahead next (some t) k = compare_keys t k ≡ less
Ahead previous none k = ⊥
Ahead previous (some t) k = compare_keys k t ≡ less

-- where a move may end: on a place that can be read whole, has a value numbered up to the snapshot, and lies onward
pub record Lands (v : Move) (f g : List ℕ) (s : ℕ) (c : Cursor) (p : Place) : Type 0 where
  pub inside : PlaceIn f g p
  pub readable : refusal_at f g p ≡ 0
  pub value_is : (entry_at f g p).kind ≡ value_kind
  pub number_most : (entry_at f g p).number ≤ s
  pub ahead : Ahead v (start_key f g c) (entry_at f g p).key

-- nowhere, or on a place that has P
abbrev pub NowhereOr : (Place → Type 0) → Cursor → Type 0
NowhereOr P Nowhere = Unit
NowhereOr P (On p) = P p

-- nowhere, or on a place that has P; or damage, which was met, with the cursor that was handed
abbrev pub EndsOn : (Place → Type 0) → Type 0 → Cursor → MovedIs → Type 0
EndsOn P met c a = ((a.refusal ≡ 0) × NowhereOr P a.cursor) ⊎ (RefusedWith damaged c a × met)

-- the node at a place cannot be read, or its walk from there behind a cut meets damage
abbrev pub DamagedFrom : List ℕ → List ℕ → ℕ → Cut → Place → Type 0
DamagedFrom f g s c p = (refusal_at f g p ≡ 0 → ⊥) ⊎ WalkDamaged f g s c (entry_at f g p).key

-- a move meets damage: it cannot read the node that it starts from, or its walk meets damage
abbrev pub MeetsDamage : Move → List ℕ → List ℕ → ℕ → Cursor → Type 0
MeetsDamage first f g s c = WalkDamaged f g s cut.all []
MeetsDamage (seek t) f g s c = WalkDamaged f g s cut.from t
MeetsDamage next f g s Nowhere = WalkDamaged f g s cut.all []
MeetsDamage next f g s (On p) = DamagedFrom f g s cut.above p
MeetsDamage previous f g s Nowhere = ⊥
MeetsDamage previous f g s (On p) = DamagedFrom f g s cut.below p

-- where a move may end
abbrev pub LandsIn : Move → List ℕ → List ℕ → ℕ → Cursor → MovedIs → Type 0
LandsIn v f g s c = EndsOn (Lands v f g s c) (MeetsDamage v f g s c) c

-- ---- the promises

-- what is promised of the answer of a move
pub record MovesAs (v : Move) (f g : List ℕ) (s : ℕ) (c : Cursor) (a : MovedIs) : Type 0 where
  pub refused : (q : is.Refusal) → asked f g s c (key_given v) ≡ is.refused q → RefusedWith q c a
  pub rule : asked f g s c (key_given v) ≡ given tt → Sound f → Sound g → LeadsTo f g s (target v s (start_key f g c) (all_entries f g)) a
  pub lands : asked f g s c (key_given v) ≡ given tt → LandsIn v f g s c a

-- what a move promises
abbrev pub Moves : Move → List ℕ → List ℕ → ℕ → Cursor → Result Cursor (Stays Cursor) → Type 0
Moves v f g s c r = MovesAs v f g s c (moved_as r)

-- where the promise leaves one answer: the arguments are refused, on any bytes, or both tables are sound
abbrev pub Decided : Move → List ℕ → List ℕ → ℕ → Cursor → Type 0
Decided v f g s c = ((q : is.Refusal) × (asked f g s c (key_given v) ≡ is.refused q)) ⊎ (Sound f × Sound g)
