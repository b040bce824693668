-- Two answers that a promise allows are one: of the moves where they are refused and on sound tables, of the pair lookup and the views on any bytes.
use Prim.Native.Nat.{ℕ, zero, suc}
use native.Mathlib.Omega.{arith}
use mathlib.Core.Path.{◌≡◌, refl, sym, ap, ◌∙◌}
use mathlib.Core.Logic.{inl, inr}
use mathlib.Core.List.{List, [], ◌∷◌}
use lib.ListN.{get_or}
use Rattle.std.specs.Prelude.{Option, Some, None, Result, Ok, Err}
use Rattle.rule.specs.Lists.{Maybe, none, some}
use Rattle.rule.specs.Entries.{Entry}
use Rattle.rule.specs.Rows.{row}
use Rattle.rule.specs.Moves.{Move, target}
use Rattle.rule.proofs.Rows.{true_fits}
use Rattle.image.specs.Nodes.{entry_of}
use Rattle.image.specs.Sound.{Sound}
use Rattle.image.specs.Meaning.{IsNode}
use Rattle.image.specs.Refusals as is
use Rattle.image.specs.Refusals.{bad_image, bad_kind, bad_number, long_key, long_value, bad_height, no_room, duplicate, damaged, no_node, number_of, Answer, refused, given}
use Rattle.table.specs.Refusals.{refusal_is}
use Rattle.table.specs.declared.refusals.Refusal.{Refusal}
use Rattle.table.specs.declared.memtable_iter.Stays.{Stays}
use Rattle.table.specs.declared.refusals.Refusal.TheVariants.{BadImage, BadKind, BadNumber, LongKey, LongValue, BadHeight, NoRoom, Duplicate, Damaged, NoNode}
use Rattle.table.proofs.Laws.{node_held, node_single}
use Rattle.table.proofs.OneAnswer.{answer_one}
use Rattle.cursor.proofs.Merging.{known}
use Rattle.cursor.specs.Places.{all_entries, place, entry_at, Gives}
use Rattle.cursor.specs.Moves.{asked, key_given, start_key, MovedIs, moved_to, moved_as, LeadsTo, Moves, Decided}
use Rattle.cursor.specs.Pairs.{PairSays, found, deleted, absent, PairLooked, pair_is, GetsPair}
use Rattle.cursor.specs.Rows.{value_in, ShowsKey, ShowsValue, Refuses}
use Rattle.cursor.specs.RowSpans.{PartIn, part_is, View, RowSpans}
use Rattle.cursor.specs.declared.row_views.RowSpan.{RowSpan}
use Rattle.cursor.specs.declared.places.Side.{Side}
use Rattle.cursor.specs.declared.places.Side.TheVariants.{First, Second}
use Rattle.cursor.specs.declared.places.Place.{Place}
use Rattle.cursor.specs.declared.places.Cursor.{Cursor}
use Rattle.cursor.specs.declared.places.Cursor.TheVariants.{On}
use Rattle.cursor.specs.declared.merging_iter.PairLookup.{PairLookup}
use Rattle.cursor.specs.declared.merging_iter.PairLookup.TheVariants as pair

-- ---- the moves

module _ (f g : List ℕ) (x : Sound f) (y : Sound g) (s : ℕ) where
  -- a place is known by its entry and the rule for equal numbers
  pub place_one : (k : List ℕ) (p q : Place) → Gives f g s k p → Gives f g s k q → p ≡ q
  place_one k p q a b = go p.table p.node q.table q.node a b
    where
      same : (xs : List ℕ) → Sound xs → (i j : ℕ) → IsNode xs i → IsNode xs j → entry_of xs i ≡ entry_of xs j → i ≡ j
      same xs z i j m n e = node_single xs z i j m n (ap (λ (d : Entry). d.key) e) (ap (λ (d : Entry). d.number) e)

      go : (u : Side) (i : ℕ) (v : Side) (j : ℕ) → Gives f g s k (place u i) → Gives f g s k (place v j) → place u i ≡ place v j
      go First i First j a b = ap (place First) (same f x i j a.inside b.inside (cc (a.newest_is, b.newest_is)))
      go Second i Second j a b = ap (place Second) (same g y i j a.inside b.inside (cc (a.newest_is, b.newest_is)))
      go First i Second j a b =
          let e : entry_of f i ≡ entry_of g j = cc (a.newest_is, b.newest_is) in
          let t = true_fits k s (entry_of f i) (known k s (all_entries f g) (some (entry_of f i)) a.newest_is).1 in
          absurd (omega (arith, b.first (entry_of f i) (node_held f i a.inside) t, ap (λ (d : Entry). d.number) e))
      go Second i First j a b =
          let e : entry_of f j ≡ entry_of g i = cc (a.newest_is, b.newest_is) in
          let t = true_fits k s (entry_of f j) (known k s (all_entries f g) (some (entry_of f j)) b.newest_is).1 in
          absurd (omega (arith, a.first (entry_of f j) (node_held f j b.inside) t, ap (λ (d : Entry). d.number) e))

  leads_one : (t : Maybe (List ℕ)) (a b : MovedIs) → LeadsTo f g s t a → LeadsTo f g s t b → a ≡ b
  leads_one none a b m n = m ∙ sym n
  leads_one (some k) a b (p, d, m) (q, e, n) = d ∙ ap (λ (o : Place). moved_to (On o)) (place_one k p q m n) ∙ sym e

-- the refusals of the code in the order of their numbers
abbrev by_number : List Refusal
by_number = BadImage ∷ BadKind ∷ BadNumber ∷ LongKey ∷ LongValue ∷ BadHeight ∷ NoRoom ∷ Duplicate ∷ Damaged ∷ NoNode ∷ []

-- from the answers of the definition back to those of the code, by the number of the refusal
moved_from : ℕ → Cursor → Result Cursor (Stays Cursor)
moved_from zero c = Ok c
moved_from (suc n) c = Err (record { why = get_or by_number n BadImage; at = c })

moved_back : (r : Result Cursor (Stays Cursor)) → moved_from (moved_as r).refusal (moved_as r).cursor ≡ r
unfolding moved_from
moved_back (Ok c) = refl
moved_back (Err r) = go r.why
  where
    go : (q : Refusal) → moved_from (number_of (refusal_is q)) r.at ≡ Err (record { why = q; at = r.at })
    go BadImage = refl
    go BadKind = refl
    go BadNumber = refl
    go LongKey = refl
    go LongValue = refl
    go BadHeight = refl
    go NoRoom = refl
    go Duplicate = refl
    go Damaged = refl
    go NoNode = refl

-- the paper's number and cursor fix the answer
pub moved_one : (r q : Result Cursor (Stays Cursor)) → moved_as r ≡ moved_as q → r ≡ q
moved_one r q e = sym (moved_back r) ∙ ap (λ (a : MovedIs). moved_from a.refusal a.cursor) e ∙ moved_back q

-- two answers that a move's promise allows are one: on any bytes where the arguments are refused, and where both tables are sound
pub move_one : (v : Move) (f g : List ℕ) (s : ℕ) (c : Cursor) → Decided v f g s c → (r q : Result Cursor (Stays Cursor)) → Moves v f g s c r → Moves v f g s c q → r ≡ q
move_one v f g s c (inl (o, e)) r q a b = moved_one r q (a.refused o e ∙ sym (b.refused o e))
move_one v f g s c (inr (x, y)) r q a b = moved_one r q (go (asked f g s c (key_given v)) refl)
  where
    go : (w : Answer {0} Unit) → asked f g s c (key_given v) ≡ w → moved_as r ≡ moved_as q
    go (given tt) e = leads_one f g x y s (target v s (start_key f g c) (all_entries f g)) (moved_as r) (moved_as q) (a.rule e x y) (b.rule e x y)
    go (refused o) e = a.refused o e ∙ sym (b.refused o e)

-- every refusal has a number
pub no_refusal : (q : is.Refusal) → 0 ≡ number_of q → ⊥
no_refusal bad_image e = omega arith
no_refusal bad_kind e = omega arith
no_refusal bad_number e = omega arith
no_refusal long_key e = omega arith
no_refusal long_value e = omega arith
no_refusal bad_height e = omega arith
no_refusal no_room e = omega arith
no_refusal duplicate e = omega arith
no_refusal damaged e = omega arith
no_refusal no_node e = omega arith

-- what the views show at the place is the row by the rule
pub gives_row : (f g : List ℕ) (s : ℕ) (k : List ℕ) (p : Place) → Gives f g s k p → ((entry_at f g p).key ≡ k) × (row k s (all_entries f g) ≡ some (value_in (entry_at f g p)))
gives_row f g s k p h = ((known k s (all_entries f g) (some (entry_at f g p)) h.newest_is).1.key, rw (h.newest_is, h.value_is))

-- ---- the pair lookup and the views

-- from the answers of the definition back to those of the code
said_from : PairSays → ℕ → PairLookup
said_from (found p) looks = pair.Found p looks
said_from deleted looks = pair.Deleted looks
said_from absent looks = pair.Absent looks

pub pair_one : (f g k : List ℕ) (s : ℕ) (r q : Result PairLookup Refusal) → GetsPair f g k s r → GetsPair f g k s q → r ≡ q
unfolding said_from
pair_one f g k s r q a b = answer_one pair_is (λ (a : PairLooked). said_from a.says a.looks) back r q (a.exact ∙ sym b.exact)
  where
    back : (r : PairLookup) → said_from (pair_is r).says (pair_is r).looks ≡ r
    back (pair.Found p looks) = refl
    back (pair.Deleted looks) = refl
    back (pair.Absent looks) = refl

pub key_one : (f g : List ℕ) (c : Cursor) (v w : List ℕ) → ShowsKey f g c v → ShowsKey f g c w → v ≡ w
key_one f g c v w a b = a.exact ∙ sym b.exact

pub value_one : (f g : List ℕ) (c : Cursor) (v w : List ℕ) → ShowsValue f g c v → ShowsValue f g c w → v ≡ w
value_one f g c v w a b = a.exact ∙ sym b.exact

pub refusal_one : (f g : List ℕ) (c : Cursor) (m n : ℕ) → Refuses f g c m → Refuses f g c n → m ≡ n
refusal_one f g c m n a b = a.exact ∙ sym b.exact

-- ---- where the views stand: `row_key_span`, `row_value_span`

span_from : Maybe PartIn → Option RowSpan
span_from none = None
span_from (some p) = Some (record { table = p.side; span = record { at = p.span.at; len = p.span.len } })

pub span_one : (view : View) (f g : List ℕ) (c : Cursor) (r q : Result (Option RowSpan) Refusal) → RowSpans view f g c r → RowSpans view f g c q → r ≡ q
unfolding span_from
span_one view f g c r q a b = answer_one part_is span_from back r q (a.exact ∙ sym b.exact)
  where
    back : (r : Option RowSpan) → span_from (part_is r) ≡ r
    back None = refl
    back (Some s) = refl
