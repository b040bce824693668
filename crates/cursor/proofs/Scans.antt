-- A scan with the visible cursor ends, whatever the bytes: no more moves in a row end on a place than the two tables have nodes.
use Prim.Native.Nat.{ℕ, zero, suc, ◌+◌, ◌≤◌}
use native.Mathlib.Omega.{arith}
use mathlib.Core.Path.{◌≡◌, refl, ap}
use mathlib.Core.Logic.{⊎_elim}
use mathlib.Core.List.Memᴰ
use mathlib.Core.List.{List, Memᴰ}
use mathlib.Core.Bool.{Bool, true, false}
use lib.ListN.{length, length-append}
use Rattle.std.specs.Prelude.{Ok}
use Rattle.rule.specs.Order.{compare_keys, is_less}
use Rattle.rule.specs.Entries.{Entry}
use Rattle.rule.specs.Moves.{Move, first, seek, next, previous}
use Rattle.rule.proofs.Order.{keys, less_true}
use Rattle.rule.proofs.Scans.{left, left_most, left_less, left_member}
use Rattle.image.specs.Nodes.{count}
use Rattle.image.specs.Sound.{held}
use Rattle.image.specs.Refusals.{damaged, Answer, refused, given}
use Rattle.table.proofs.Laws.{node_held, held_length}
use Rattle.cursor.proofs.OneAnswer.{no_refusal}
use Rattle.cursor.specs.Places.{all_entries, entry_at, PlaceIn}
use Rattle.cursor.specs.Moves.{asked, key_given, MovedIs, Lands, Moves}
use Rattle.cursor.specs.Scans.{GoesOn, Scan, went}
use Rattle.cursor.specs.declared.places.Side.{Side}
use Rattle.cursor.specs.declared.places.Side.TheVariants.{First, Second}
use Rattle.cursor.specs.declared.places.Place.{Place}
use Rattle.cursor.specs.declared.places.Cursor.{Cursor}
use Rattle.cursor.specs.declared.places.Cursor.TheVariants.{Nowhere, On}

-- the order of keys, and its opposite
abbrev above : Entry → Entry → Bool
above e f = is_less (compare_keys e.key f.key)

abbrev below : Entry → Entry → Bool
below e f = is_less (compare_keys f.key e.key)

never_above : (e : Entry) → above e e ≡ false
never_above e = ap is_less (keys.same e.key)

above_trans : (e f g : Entry) → above e f ≡ true → above f g ≡ true → above e g ≡ true
above_trans e f g p q = ap is_less (keys.trans e.key f.key g.key (less_true (compare_keys e.key f.key) p) (less_true (compare_keys f.key g.key) q))

-- the entry at a place is one of all
place_held : (f g : List ℕ) (p : Place) → PlaceIn f g p → Memᴰ (entry_at f g p) (all_entries f g)
place_held f g p n = go p.table p.node n
  where
    go : (side : Side) (i : ℕ) → PlaceIn f g (record { table = side; node = i }) → Memᴰ (entry_at f g (record { table = side; node = i })) (all_entries f g)
    go First i n = Memᴰ.append_left (held g) (node_held f i n)
    go Second i n = Memᴰ.append_right (held f) (node_held g i n)

-- a move that ends on a place was not refused, so it lands
landed : (v : Move) (f g : List ℕ) (s : ℕ) (c : Cursor) (p : Place) → Moves v f g s c (Ok (On p)) → Lands v f g s c p
landed v f g s c p m = go (asked f g s c (key_given v)) refl
  where
    go : (a : Answer {0} Unit) → asked f g s c (key_given v) ≡ a → Lands v f g s c p
    go (refused q) e = absurd (no_refusal q (ap (λ (a : MovedIs). a.refusal) (m.refused q e)))
    go (given tt) e = ⊎_elim (λ w. w.1) (λ w. absurd (no_refusal damaged (ap (λ (a : MovedIs). a.refusal) w.0))) (m.lands e)

-- one argument for both ways: a move from a place ends ahead of it
module _ (v : Move) (f g : List ℕ) (s : ℕ) (ahead : Entry → Entry → Bool) (never : (e : Entry) → ahead e e ≡ false) (trans : (e f g : Entry) → ahead e f ≡ true → ahead f g ≡ true → ahead e g ≡ true)
    (goes : (q p : Place) → Lands v f g s (On q) p → ahead (entry_at f g q) (entry_at f g p) ≡ true) where
  member : (c : Cursor) (p : Place) → Moves v f g s c (Ok (On p)) → Memᴰ (entry_at f g p) (all_entries f g)
  member c p m = place_held f g p (landed v f g s c p m).inside

  from_place : (q : Place) (k : ℕ) → Scan v f g s (On q) k → k ≤ left ahead never trans (entry_at f g q) (all_entries f g)
  from_place q zero n = omega arith
  from_place q (suc k) (went p m n) =
      let a = from_place p k n in
      let b = left_less ahead never trans (entry_at f g q) (entry_at f g p) (goes q p (landed v f g s (On q) p m)) (all_entries f g) (member (On q) p m) in
      omega arith

  from_anywhere : (c : Cursor) (k : ℕ) → Scan v f g s c k → k ≤ length (all_entries f g)
  from_anywhere (On q) k n = let a = from_place q k n in let b = left_most ahead never trans (entry_at f g q) (all_entries f g) in omega arith
  from_anywhere Nowhere zero n = omega arith
  from_anywhere Nowhere (suc k) (went p m n) = let a = from_place p k n in let b = left_member ahead never trans (entry_at f g p) (all_entries f g) (member Nowhere p m) in omega arith

ends_within : (v : Move) (f g : List ℕ) (s : ℕ) → GoesOn v → (c : Cursor) (k : ℕ) → Scan v f g s c k → k ≤ length (all_entries f g)
ends_within first f g s x c k n = absurd x
ends_within (seek t) f g s x c k n = absurd x
ends_within next f g s x c k n = from_anywhere next f g s above never_above above_trans (λ q p l. ap is_less l.ahead) c k n
ends_within previous f g s x c k n = from_anywhere previous f g s below never_above (λ e f g p q. above_trans g f e q p) (λ q p l. ap is_less l.ahead) c k n

-- any string of next, or of previous, from anywhere and on any bytes: at most as many of its moves end on a place, before one is nowhere or refused, as the tables have nodes
pub scan_ends : (v : Move) (f g : List ℕ) (s : ℕ) → GoesOn v → (c : Cursor) (k : ℕ) → Scan v f g s c k → k ≤ count f + count g
scan_ends v f g s x c k n = let a = ends_within v f g s x c k n in omega (arith, length-append (held f) (held g), held_length f, held_length g)
