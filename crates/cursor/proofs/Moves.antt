-- The moves of the visible cursor: their tests, and where they lead from a place.
use Prim.Native.Nat.{ℕ}
use mathlib.Core.Path.{◌≡◌, refl, sym, ap, subst, ◌∙◌}
use mathlib.Core.Logic.{⊎_elim, inl, inr}
use mathlib.Core.List.{List, []}
use mathlib.Core.Bool.{Bool, true, false, not, true≢false}
use lib.ListN.{length}
use borrow.Author.Tests.{not-true, not-false, le-leb, lt-leb}
use Rattle.std.specs.Prelude.{Option, Some, None, Result, Ok, Err, is_some}
use Rattle.rule.specs.Lists.{both, Maybe, some}
use Rattle.rule.specs.Order.{compare_keys}
use Rattle.rule.specs.Moves.{Move, target}
use Rattle.rule.proofs.Order.{less_true}
use Rattle.rule.specs.Moves as rule
use Rattle.image.specs.Limits.{max_key, max_number}
use Rattle.image.specs.Sound.{header_holds}
use Rattle.image.specs.Cuts.{Cut, admits}
use Rattle.image.specs.Cuts as cut
use Rattle.image.specs.Refusals.{Answer, given, bad_image, no_node}
use Rattle.image.proofs.Refusals.{refused_given, demand_given}
use Rattle.image.proofs.Views.{view_accepted}
use Rattle.image.proofs.Landing.{key_read}
use Rattle.table.specs.Refusals.{refusal_is, refusal_number, answer_as}
use Rattle.table.specs.KeyTypes.{LooksFor}
use Rattle.table.specs.declared.key_types.LookupKey.{LookupKey}
use Rattle.table.specs.declared.refusals.Refusal.{Refusal}
use Rattle.table.specs.declared.refusals.Refusal.TheVariants as refusal
use Rattle.table.proofs.Laws.{in_table_lem, next_behind, previous_behind}
use Rattle.cursor.proofs.Headers.{headers_hold, headers_refused}
use Rattle.cursor.proofs.Merging.{sound_of, key_told}
use Rattle.cursor.proofs.OneAnswer.{no_refusal}
use Rattle.cursor.specs.Places.{image_of, all_entries, entry_at, key_at, CursorIn, inside, refusal_at}
use Rattle.cursor.specs.Going.{HeadersHold, Went, WentFrom}
use Rattle.cursor.specs.Walks.{best_of, LandsOn, WalkDamaged}
use Rattle.cursor.specs.Moves.{asked, key_given, start_key, MovedIs, went_as, LeadsTo, Ahead, Lands, NowhereOr, EndsOn, DamagedFrom, MeetsDamage, LandsIn, MovesAs}
use Rattle.cursor.specs.declared.places.Place.{Place}
use Rattle.cursor.specs.declared.places.Cursor.{Cursor}
use Rattle.cursor.specs.declared.places.Cursor.TheVariants.{Nowhere, On}

-- ---- the test of the arguments

-- what a test answers
abbrev pub test_as : Result Unit Refusal → Answer {0} Unit
test_as r = answer_as (λ passed. tt) r

module _ (f g : List ℕ) (s : ℕ) (c : Cursor) (t : List ℕ) {a : Bool} (ea : a ≡ both (header_holds f) (header_holds g)) where
  pub asked_headers : not a ≡ true → test_as (Err refusal.BadImage) ≡ asked f g s c t
  unfolding asked
  asked_headers h = headers_refused f g ea h _

  module _ (ha : not a ≡ false) {d : Bool} (ed : d ≡ inside f g c) where
    holds : HeadersHold f g
    holds = headers_hold f g ea ha

    pub asked_cursor : not d ≡ true → test_as (Err refusal.NoNode) ≡ asked f g s c t
    unfolding asked
    asked_cursor h = rw (holds.first, holds.second, ← ed, not-true d h)

    module _ (hd : not d ≡ false) where
      pub asked_limits : (q : Refusal) → LooksFor t s (Err q) → test_as (Err q) ≡ asked f g s c t
      unfolding asked
      asked_limits q (inl (h, e)) = rw (e, holds.first, holds.second, ← ed, not-false d hd, lt-leb s max_number h)
      asked_limits q (inr (l, h, e)) = rw (e, holds.first, holds.second, ← ed, not-false d hd, le-leb s max_number l, lt-leb (length t) max_key h)

      pub asked_passed : (p : LookupKey) → LooksFor t s (Ok p) → test_as (Ok tt) ≡ asked f g s c t
      unfolding asked
      asked_passed p (_, _, low, short) = rw (holds.first, holds.second, ← ed, not-false d hd, le-leb s max_number low, le-leb (length t) max_key short)

-- what arguments that pass have
module _ (f g : List ℕ) (s : ℕ) (c : Cursor) (t : List ℕ) (e : asked f g s c t ≡ given tt) where
  passes : (header_holds f ≡ true) × (header_holds g ≡ true) × (inside f g c ≡ true)
  unfolding asked
  passes = let (a, x) = demand_given (header_holds f) bad_image _ tt e in let (b, y) = demand_given (header_holds g) bad_image _ tt x in (a, b, (demand_given (inside f g c) no_node _ tt y).0)

  pub asked_inside : CursorIn f g c
  asked_inside = go c passes.2
    where
      go : (c : Cursor) → inside f g c ≡ true → CursorIn f g c
      go Nowhere h = tt
      go (On p) h = in_table_lem (image_of p.table f g) p.node h

-- ---- from a place

-- what holds of a place and of the damage goes over to what follows from it
ends_on : {P Q : Place → Type 0} {D E : Type 0} (c : Cursor) (a : MovedIs) → ((p : Place) → P p → Q p) → (D → E) → EndsOn P D c a → EndsOn Q E c a
ends_on {P} {Q} c a f g m = ⊎_elim (λ w. inl (w.0, at a.cursor w.1)) (λ w. inr (w.0, g w.1)) m
  where
    at : (d : Cursor) → NowhereOr P d → NowhereOr Q d
    at Nowhere h = tt
    at (On p) h = f p h

-- a refusal has a number above 0, and what is accepted has 0
refused_at : (q : Option Refusal) → is_some q ≡ true → refusal_number q ≡ 0 → ⊥
refused_at None h z = true≢false (sym h)
refused_at (Some q) h z = no_refusal (refusal_is q) (sym z)

accepted_at : (q : Option Refusal) → is_some q ≡ false → refusal_number q ≡ 0
accepted_at None h = refl
accepted_at (Some q) h = absurd (true≢false h)

module _ (f g : List ℕ) (s : ℕ) (c : Cut) (p : Place) (q : Option Refusal) (e : refusal_number q ≡ refusal_at f g p) {b : Bool} (eb : b ≡ is_some q) where
  -- on sound tables the node at a cursor is read
  pub from_hurt : b ≡ true → WentFrom f g s c p (Err refusal.Damaged)
  from_hurt h =
      let no = refused_at q (sym eb ∙ h) in record {
        rule = λ at x y i. absurd (no (e ∙ view_accepted (image_of p.table f g) (sound_of f g x y p.table) p.node i));
        lands = λ at. inr (refl, inl (λ z. no (e ∙ z)));
      }

  pub from_went : b ≡ false → {k : List ℕ} → k ≡ key_at f g p → (r : Result Cursor Refusal) → Went f g s c k r → WentFrom f g s c p r
  from_went h d r w =
      let i = key_read (image_of p.table f g) p.node (sym e ∙ accepted_at q (sym eb ∙ h)) in
      let l = λ (at : Cursor). subst (λ (k : List ℕ). EndsOn (LandsOn f g s c k) (WalkDamaged f g s c k) at (went_as at r)) (d ∙ i) (w.lands at) in
      record {
        rule = λ at x y i. subst (λ (k : List ℕ). LeadsTo f g s (best_of f g s c k) (went_as at r)) (d ∙ key_told f g x y p i) (w.rule at x y);
        lands = λ at. ends_on at (went_as at r) (λ o h. h) inr (l at);
      }

-- ---- the moves from a place

-- what is behind the cut of a move lies onward
onward : (v : Move) (f g : List ℕ) (s : ℕ) (d : Cut) (k : List ℕ) (c : Cursor) → ((l : List ℕ) → admits d k l ≡ true → Ahead v (start_key f g c) l) → (p : Place)
    → LandsOn f g s d k p → Lands v f g s c p
onward v f g s d k c h p m = record {
  inside = m.reads.inside;
  readable = m.reads.readable;
  value_is = m.value_is;
  number_most = m.number_most;
  ahead = h (entry_at f g p).key m.admitted;
}

-- a move from a place leads to its target
module _ (v : Move) (f g : List ℕ) (s : ℕ) (c : Cursor) (e : test_as (Ok tt) ≡ asked f g s c (key_given v)) where
  move_from : (r : Result Cursor Refusal) (d : Cut) {p : Place} → c ≡ On p → target v s (some (entry_at f g p).key) (all_entries f g) ≡ best_of f g s d (entry_at f g p).key
      → ((l : List ℕ) → admits d (entry_at f g p).key l ≡ true → Ahead v (some (entry_at f g p).key) l)
      → (DamagedFrom f g s d p → MeetsDamage v f g s (On p)) → WentFrom f g s d p r → MovesAs v f g s c (went_as c r)
  move_from r d {p} z q a m w = record {
    refused = λ o i. absurd (refused_given (sym i ∙ sym e));
    rule = λ i x y. subst (λ (n : Maybe (List ℕ)). LeadsTo f g s n (went_as c r)) same (w.rule c x y (rw z at (asked_inside f g s c (key_given v) i)));
    lands = λ _. subst (λ (o : Cursor). LandsIn v f g s o (went_as o r)) (sym z) (ends_on (On p) (went_as (On p) r) (onward v f g s d (entry_at f g p).key (On p) a) m (w.lands (On p)));
  }
    where
      same : best_of f g s d (entry_at f g p).key ≡ target v s (start_key f g c) (all_entries f g)
      same = sym q ∙ sym (ap (λ (o : Cursor). target v s (start_key f g o) (all_entries f g)) z)

module _ (f g : List ℕ) (s : ℕ) (c : Cursor) (e : test_as (Ok tt) ≡ asked f g s c []) {p : Place} (z : c ≡ On p) (r : Result Cursor Refusal) where
  pub move_next : WentFrom f g s cut.above p r → MovesAs rule.next f g s c (went_as c r)
  move_next w =
      let k = (entry_at f g p).key in
      move_from rule.next f g s c e r cut.above z (next_behind s (all_entries f g) k) (λ l a. less_true (compare_keys k l) a) (λ m. m) w

  pub move_prev : WentFrom f g s cut.below p r → MovesAs rule.previous f g s c (went_as c r)
  move_prev w =
      let k = (entry_at f g p).key in
      move_from rule.previous f g s c e r cut.below z (previous_behind s (all_entries f g) k) (λ l a. less_true (compare_keys l k) a) (λ m. m) w
