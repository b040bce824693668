-- Where moves end, on any bytes: on a node that can be read whole, and onward of where they started.
use Prim.Native.Nat.{ℕ, zero, suc, ◌+◌, ◌-◌, ◌%◌, ◌≤◌}
use native.Mathlib.Omega.{arith}
use mathlib.Core.Path.{◌≡◌, refl, sym, ap, ◌∙◌}
use mathlib.Core.Logic.{◌⊎◌, inl, inr}
use mathlib.Core.List.{List}
use mathlib.Core.Bool.{Bool, true, false}
use lib.ListN.{length, replicate}
use lib.Dec.{ltb, leb, eqb}
use borrow.Author.Tests.{leb-true, le-leb}
use Rattle.rule.specs.Lists.{both, some}
use Rattle.rule.specs.Order.{Ord, less, equal, greater, compare_entries, is_less}
use Rattle.rule.specs.Entries.{Entry, order}
use Rattle.rule.proofs.Order.{less_true}
use Rattle.image.specs.Limits.{max_key, max_number, max_value, levels}
use Rattle.image.specs.Readers.{Read, got, bad, bind, check}
use Rattle.image.specs.Entries.{Len, len_at, Keyed, Parts, key_in, number_in, compare_keyed, entry_in, rest_at}
use Rattle.image.specs.Nodes.{count, Lead, Node, node_from, lead_of, node_at, entry_of, link_place, link_of}
use Rattle.image.specs.Sound.{header_holds}
use Rattle.image.specs.Search.{Turn, onward, halt, below, OnEqual, to_stop, to_go_down, turn_by, Found, hit, ends, ask, meet, look, searched, standing, passed}
use Rattle.image.specs.Refusals.{bad_image, bad_number, long_key, no_node, Answer, given, demand, reading, refusal_of}
use Rattle.image.specs.EntryMoves.{Cursor, nowhere, on, cursor_at, in_table, EntryMove, first, seek, next, previous, follow, landing, landing_after}
use Rattle.image.specs.EntryMoves.{first_entry, first_not_passed, last_before, moved, allowed, entry_move, parts_on, viewed, key_view, view_refusal}
use Rattle.image.specs.Meaning.{IsNode, EntryAhead, EntryLands}
use Rattle.image.specs.Cuts.{below}
use Rattle.image.proofs.Readers.{got_same, bind_got, check_got}
use Rattle.image.proofs.Refusals.{demand_given, reading_given}
use Rattle.image.proofs.Machine.{find_keeps}
use Rattle.image.proofs.Search.{is_onward}
use Rattle.image.proofs.Spots.{standing_most, passed_most}
use Rattle.image.proofs.Lookup.{stop_less}

-- ---- what a search passed, and what it did not

module _ (xs : List ℕ) (mode : OnEqual) (k : List ℕ) (s : ℕ) where
  -- the turn at a node that was read
  abbrev turn_at : Lead → Turn
  turn_at m = turn_by mode (compare_entries (key_in xs m.keyed) (number_in m.keyed) k s)

  -- none, or a node that is read, and passed or not
  abbrev pub Judged : Bool → ℕ → Type 0
  Judged b x = (x ≡ 0) ⊎ ((m : Lead) × (lead_of xs x ≡ got m) × (is_onward (turn_at m) ≡ b))

  look_turn : (cur level : ℕ) (t : Turn) → look xs mode k s cur level ≡ got t → Judged (is_onward t) (link_of xs cur level)
  unfolding look
  look_turn cur level t e =
      go (link_of xs cur level) (check_got (leb (link_of xs cur level) (count xs)) (link_place xs cur level) (meet xs mode k s level (link_place xs cur level) (link_of xs cur level)) t e).1
    where
      go : (x : ℕ) → meet xs mode k s level (link_place xs cur level) x ≡ got t → Judged (is_onward t) x
      go zero f = inl refl
      go (suc x) f =
          let (m, g, f1) = bind_got (lead_of xs (suc x)) (ask xs mode k s level (link_place xs cur level)) t f in
          let (c, f2) = check_got (ltb level m.height) (link_place xs cur level) _ t f1 in
          inr (m, g, ap is_onward (got_same f2))

  abbrev FoundJudged : Found → Type 0
  FoundJudged (hit x looks) = Judged false x
  FoundJudged (ends p x looks prev) = Judged true p × Judged false x

  searched_judged : (r : Found) → searched xs mode k s ≡ got r → FoundJudged r
  searched_judged r e = find_keeps (look xs mode k s) (link_of xs) (link_place xs) (λ n cur level looks prev. Judged true cur) FoundJudged (record {
    passing = λ n cur level looks prev f g. look_turn cur level onward f;
    stopping = λ n cur level looks prev f g. look_turn cur level halt f;
    lowering = λ n cur low looks prev f g. g;
    ending = λ n cur looks prev f g. (g, look_turn cur 0 below f);
  }) (count xs + levels) 0 (levels - 1) 0 (replicate levels 0) r (inl refl) e

  pub standing_judged : (r : Found) → searched xs mode k s ≡ got r → Judged false (standing r)
  standing_judged (hit x looks) e = searched_judged (hit x looks) e
  standing_judged (ends p x looks prev) e = (searched_judged (ends p x looks prev) e).1

  passed_judged : (r : Found) → searched xs mode k s ≡ got r → Judged true (passed r)
  passed_judged (hit x looks) e = inl refl
  passed_judged (ends p x looks prev) e = (searched_judged (ends p x looks prev) e).0

-- ---- a node that is read whole

abbrev parts_with : Keyed → Len → Parts
parts_with k v = record { keyed = k; value_at = v.after; value_len = v.is }

abbrev value_after : ℕ → Keyed → Len → Read Parts
value_after end k v = check (both (leb v.is max_value) (leb (v.after + v.is) end)) k.rest (check (eqb (v.after + v.is) end) (v.after + v.is) (got (parts_with k v)))

abbrev whole_node : Lead → Parts → Read Node
whole_node m p = got (record { start = m.start; height = m.height; parts = p; end = m.end })

-- what is read of the rest of an entry keeps its key and tag, and has a type of 0 or 1
rest_keyed : (xs : List ℕ) (end : ℕ) (k : Keyed) (p : Parts) → rest_at xs end k ≡ got p → p.keyed ≡ k
unfolding rest_at
rest_keyed xs end k p r =
    let (_, r1) = check_got (ltb (k.tag_is % 256) 2) (k.key_at + k.key_len) (bind (len_at xs end k.rest) (value_after end k)) p r in
    let (v, _, r2) = bind_got (len_at xs end k.rest) (value_after end k) p r1 in
    let (_, r3) = check_got (both (leb v.is max_value) (leb (v.after + v.is) end)) k.rest (check (eqb (v.after + v.is) end) (v.after + v.is) (got (parts_with k v))) p r2 in
    let (_, r4) = check_got (eqb (v.after + v.is) end) (v.after + v.is) (got (parts_with k v)) p r3 in ap (λ (q : Parts). q.keyed) (sym (got_same r4))

module _ (xs : List ℕ) (i : ℕ) (m : Node) (e : node_at xs i ≡ got m) where
  pub entry_read : entry_of xs i ≡ entry_in xs m.parts
  unfolding entry_of
  entry_read = rw e

  -- its key and tag are those of its lead
  pub lead_keyed : (l : Lead) → lead_of xs i ≡ got l → m.parts.keyed ≡ l.keyed
  lead_keyed l g = let (l', g', f) = bind_got (lead_of xs i) (node_from xs) m e in let z : l' ≡ l = got_same (sym g' ∙ g) in
      let (p, r, h) = bind_got (rest_at xs l'.end l'.keyed) (whole_node l') m f in
      ap (λ (n : Node). n.parts.keyed) (sym (got_same h)) ∙ rest_keyed xs l'.end l'.keyed p r ∙ ap (λ (n : Lead). n.keyed) z

  pub readable : header_holds xs ≡ true → IsNode xs i → view_refusal xs (on i) ≡ 0
  unfolding parts_on
  readable h n = rw (h, le-leb 1 i n.some, le-leb i (count xs) n.most, e)

-- and back: where the views are not refused the node is read, and what they show is its entry
module _ (xs : List ℕ) (i : ℕ) (shown : view_refusal xs (on i) ≡ 0) where
  parts_read_lem : (m : Node) × (node_at xs i ≡ got m) × (parts_on xs (on i) ≡ given (some m.parts))
  unfolding parts_on
  parts_read_lem = go (header_holds xs) (in_table xs (on i)) (node_at xs i) refl refl refl shown
    where
      go : (h t : Bool) (r : Read Node) → header_holds xs ≡ h → in_table xs (on i) ≡ t → node_at xs i ≡ r → refusal_of (demand h bad_image (demand t no_node (reading r (λ m. given (some m.parts))))) ≡ 0
          → (m : Node) × (node_at xs i ≡ got m) × (parts_on xs (on i) ≡ given (some m.parts))
      go true true (got m) a b c e = (m, c, rw (a, b, c))
      go true true (bad o) a b c e = absurd (omega arith)
      go true false r a b c e = absurd (omega arith)
      go false t r a b c e = absurd (omega arith)

  pub key_read : viewed xs (key_view xs (on i)) ≡ (entry_of xs i).key
  key_read = let (m, g, e) = parts_read_lem in rw e (ap (λ (d : Entry). d.key) (sym (entry_read xs i m g)))

-- ---- where a search leads

module _ (xs : List ℕ) where
  -- nowhere, or on a node that is read whole
  abbrev pub Whole : Cursor → Type 0
  Whole nowhere = Unit
  Whole (on i) = IsNode xs i × ((m : Node) × (node_at xs i ≡ got m))

  landing_whole : (i : ℕ) → i ≤ count xs → (d : Cursor) → landing xs (cursor_at i) ≡ got d → Whole d
  landing_whole zero h d e = let z : nowhere ≡ d = got_same e in rw (← z) tt
  landing_whole (suc i) h d e =
      let (m, g, f) = bind_got (node_at xs (suc i)) (λ m. got (on (suc i))) d e in
      let z : on (suc i) ≡ d = got_same f in
      rw (← z) (record { some = omega arith; most = h }, (m, g))

  pub first_whole : (d : Cursor) → first_entry xs ≡ got d → Whole d
  first_whole d e = let (c, f, g) = bind_got (follow xs 0) (landing xs) d e in let (p, q) = check_got (leb (link_of xs 0 0) (count xs)) (link_place xs 0 0) (got (cursor_at (link_of xs 0 0))) c f in
      let z : cursor_at (link_of xs 0 0) ≡ c = got_same q in landing_whole (link_of xs 0 0) (leb-true (link_of xs 0 0) (count xs) p) d (rw z g)

  module _ (mode : OnEqual) (k : List ℕ) (n : ℕ) where
    -- and passed by the search, or not
    abbrev pub Led : Bool → Cursor → Type 0
    Led b nowhere = Unit
    Led b (on i) = IsNode xs i × ((m : Node) × (node_at xs i ≡ got m)) × (is_onward (turn_by mode (compare_entries (entry_of xs i).key (entry_of xs i).number k n)) ≡ b)

    led : (b : Bool) (i : ℕ) → i ≤ count xs → Judged xs mode k n b i → (d : Cursor) → landing xs (cursor_at i) ≡ got d → Led b d
    led b zero h j d e = let z : nowhere ≡ d = got_same e in rw (← z) tt
    led b (suc i) h j d e =
        let (m, g, f) = bind_got (node_at xs (suc i)) (λ m. got (on (suc i))) d e in
        let z : on (suc i) ≡ d = got_same f in
        rw (← z) (record { some = omega arith; most = h }, (m, g), judged m g j)
      where
        judged : (m : Node) → node_at xs (suc i) ≡ got m → Judged xs mode k n b (suc i) → is_onward (turn_by mode (compare_entries (entry_of xs (suc i)).key (entry_of xs (suc i)).number k n)) ≡ b
        judged m g (inl z) = absurd (omega arith)
        judged m g (inr (l, f, t)) = ap (λ (e : Entry). is_onward (turn_by mode (compare_entries e.key e.number k n))) (entry_read xs (suc i) m g)
            ∙ ap (λ (q : Keyed). is_onward (turn_by mode (compare_entries (key_in xs q) (number_in q) k n))) (lead_keyed xs (suc i) m g l f) ∙ t

    pub first_led : (d : Cursor) → first_not_passed xs mode k n ≡ got d → Led false d
    first_led d e =
        let (r, f, g) = bind_got (searched xs mode k n) (λ r. landing xs (cursor_at (standing r))) d e in
        led false (standing r) (standing_most xs mode k n r f) (standing_judged xs mode k n r f) d g

  pub last_led : (k : List ℕ) (n : ℕ) (d : Cursor) → last_before xs k n ≡ got d → Led to_go_down k n true d
  last_led k n d e =
      let (r, f, g) = bind_got (searched xs to_go_down k n) (λ r. landing xs (cursor_at (passed r))) d e in
      led to_go_down k n true (passed r) (passed_most xs to_go_down k n r f) (passed_judged xs to_go_down k n r f) d g

-- ---- the moves of the entry cursor

-- a search that goes down on equality passes what is less
pub down_less : (o : Ord) → is_onward (turn_by to_go_down o) ≡ is_less o
down_less less = refl
down_less equal = refl
down_less greater = refl

module _ (xs : List ℕ) (header : header_holds xs ≡ true) where
  view_read : (i : ℕ) → IsNode xs i → (m : Node) × (node_at xs i ≡ got m) → view_refusal xs (on i) ≡ 0
  view_read i n (m, g) = readable xs i m g header n

  first_lands : (m : EntryMove) (c : Cursor) → ((j : ℕ) → EntryAhead xs m c j) → (d : Cursor) → Whole xs d → EntryLands xs m c d
  first_lands m c a nowhere w = tt
  first_lands m c a (on j) (n, r) = (n, view_read j n r, a j)

  seek_lands : (k : List ℕ) (n : ℕ) (c d : Cursor) → Led xs to_stop k n false d → EntryLands xs (seek k n) c d
  seek_lands k n c nowhere l = tt
  seek_lands k n c (on j) (h, r, t) = (h, view_read j h r, sym (stop_less (compare_entries (entry_of xs j).key (entry_of xs j).number k n)) ∙ t)

  back_lands : (i : ℕ) (d : Cursor) → Led xs to_go_down (entry_of xs i).key (entry_of xs i).number true d → EntryLands xs previous (on i) d
  back_lands i nowhere l = tt
  back_lands i (on j) (h, r, t) = (h, view_read j h r, less_true (order (entry_of xs j) (entry_of xs i)) (sym (down_less (order (entry_of xs j) (entry_of xs i))) ∙ t))

  after_lands : (i : ℕ) (m : Node) → node_at xs i ≡ got m → (o x : ℕ) → x ≤ count xs → (d : Cursor) → landing_after xs m.parts.keyed o (cursor_at x) ≡ got d → EntryLands xs next (on i) d
  after_lands i m g o zero h d e = let z : nowhere ≡ d = got_same e in rw (← z) tt
  after_lands i m g o (suc x) h d e = let (t, f, e1) = bind_got (node_at xs (suc x)) (λ t. check (is_less (compare_keyed xs m.parts.keyed t.parts.keyed)) o (got (on (suc x)))) d e in
      let (p, e2) = check_got (is_less (compare_keyed xs m.parts.keyed t.parts.keyed)) o (got (on (suc x))) d e1 in let z : on (suc x) ≡ d = got_same e2 in
      let n : IsNode xs (suc x) = record { some = omega arith; most = h } in
      rw (← z) (n, view_read (suc x) n (t, f), less_true (order (entry_of xs i) (entry_of xs (suc x))) (rw (entry_read xs i m g, entry_read xs (suc x) t f) p))

  moved_lands : (m : EntryMove) (c d : Cursor) → moved xs m c ≡ got d → EntryLands xs m c d
  moved_lands first c d e = first_lands first c (λ j. tt) d (first_whole xs d e)
  moved_lands (seek k n) c d e = seek_lands k n c d (first_led xs to_stop k n d e)
  moved_lands next nowhere d e = first_lands next nowhere (λ j. tt) d (first_whole xs d e)
  moved_lands next (on i) d e = let (m, g, e1) = bind_got (node_at xs i) (λ m. bind (follow xs i) (landing_after xs m.parts.keyed (link_place xs i 0))) d e in
      let (c, f, e2) = bind_got (follow xs i) (landing_after xs m.parts.keyed (link_place xs i 0)) d e1 in
      let (p, q) = check_got (leb (link_of xs i 0) (count xs)) (link_place xs i 0) (got (cursor_at (link_of xs i 0))) c f in let z : cursor_at (link_of xs i 0) ≡ c = got_same q in
      after_lands i m g (link_place xs i 0) (link_of xs i 0) (leb-true (link_of xs i 0) (count xs) p) d (ap (landing_after xs m.parts.keyed (link_place xs i 0)) z ∙ e2)
  moved_lands previous nowhere d e = let z : nowhere ≡ d = got_same e in rw (← z) tt
  moved_lands previous (on i) d e = let (m, g, e1) = bind_got (node_at xs i) (λ m. last_before xs (key_in xs m.parts.keyed) (number_in m.parts.keyed)) d e in
      back_lands i d (last_led xs (entry_of xs i).key (entry_of xs i).number d (ap (λ (f : Entry). last_before xs f.key f.number) (entry_read xs i m g) ∙ e1))

allowed_given : (m : EntryMove) (a : Answer Cursor) (d : Cursor) → allowed m a ≡ given d → a ≡ given d
allowed_given first a d e = e
allowed_given (seek k n) a d e = let (_, f) = demand_given (leb n max_number) bad_number (demand (leb (length k) max_key) long_key a) d e in (demand_given (leb (length k) max_key) long_key a d f).1
allowed_given next a d e = e
allowed_given previous a d e = e

-- a move that does not end nowhere ends onward, on a node that can be read whole
pub move_lands : (xs : List ℕ) (m : EntryMove) (c d : Cursor) → entry_move xs m c ≡ given d → EntryLands xs m c d
unfolding entry_move
move_lands xs m c d e = let (h, f) = demand_given (header_holds xs) bad_image (demand (in_table xs c) no_node (allowed m (reading (moved xs m c) given))) d e in
    let (_, g) = demand_given (in_table xs c) no_node (allowed m (reading (moved xs m c) given)) d f in
    let (b, p, q) = reading_given (moved xs m c) given d (allowed_given m (reading (moved xs m c) given) d g) in let z : b ≡ d = cc in moved_lands xs h m c d (rw z at p)
