-- The ways out of the entry cursor's moves.
use Prim.Native.Nat.{ℕ, ◌+◌, ◌*◌, ◌<◌, ◌≤◌}
use native.Mathlib.Omega.{arith}
use mathlib.Core.Path.{◌≡◌, refl, sym, ap, ◌∙◌}
use mathlib.Core.Logic.{inl, inr}
use mathlib.Core.List.{List}
use mathlib.Core.Bool.{true}
use lib.ListN.{length}
use borrow.Author.Tests.{le-leb, lt-leb}
use Rattle.std.specs.Prelude.{Result, Ok, Err, IfErr}
use Rattle.std.specs.Result.{IsErrAnd}
use Rattle.std.proofs.lemmas.Result.{err_from_is_err_and}
use Rattle.image.specs.Limits.{max_key, max_number}
use Rattle.image.specs.Readers.{got}
use Rattle.image.specs.Words.{word}
use Rattle.image.specs.Nodes.{count, Node, node_at, links_at, link_place, link_of}
use Rattle.image.specs.Sound.{header_holds}
use Rattle.image.specs.Search.{to_stop}
use Rattle.image.specs.Refusals.{bad_image, no_node, damaged, Answer, refused, given, demand, reading}
use Rattle.image.specs.EntryMoves.{Cursor, on, cursor_at, in_table, EntryMove, seek, next, landing_after, first_not_passed, moved, allowed, entry_move}
use Rattle.image.proofs.EntryMoves.{move_leads}
use Rattle.image.proofs.Landing.{move_lands}
use Rattle.table.specs.KeyTypes.{LooksFor}
use Rattle.table.specs.Framed.{Framed}
use Rattle.table.specs.Refusals.{refusal_is, answer_as}
use Rattle.table.specs.MemtableIter.{cursor_is, Tested, OpensAt, moved_as, HandedOn, MovesEntry}
use Rattle.table.proofs.NodesLaws.{framed_holds, node_links, node_link_inside}
use Rattle.table.specs.declared.tested.Frame.{Frame}
use Rattle.table.specs.declared.tested.Table.{Table}
use Rattle.table.specs.declared.key_types.LookupKey.{LookupKey}
use Rattle.table.specs.declared.refusals.Refusal.{Refusal}
use Rattle.table.specs.declared.refusals.Refusal.TheVariants as refusal
use Rattle.table.specs.declared.memtable_iter.EntryCursor.{EntryCursor}
use Rattle.table.specs.declared.memtable_iter.EntryCursor.TheVariants.{Nowhere, On}
use Rattle.table.specs.declared.memtable_iter.Stays.{Stays}

-- ---- the test of header and cursor

module _ (xs : List ℕ) (t : Table) (same : t.bytes.now ≡ xs) where
  holds : header_holds xs ≡ true
  holds = rw same at (framed_holds t.bytes.now t.framed)

  -- a cursor that may be used
  pub test_nowhere : {c : EntryCursor} → c ≡ Nowhere → Tested xs (cursor_is c) (Ok t.frame)
  test_nowhere e = rw e (holds, refl, rw same at t.framed)

  pub test_node : {c : EntryCursor} {i : ℕ} → c ≡ On i → 1 ≤ i → i ≤ t.frame.count → Tested xs (cursor_is c) (Ok t.frame)
  test_node {i = i} e some h = rw e (holds, rw (le-leb 1 i some) (le-leb i (count xs) (omega (arith, t.framed.count_is, ap count same))), rw same at t.framed)

  -- a cursor on no node of the table
  pub test_zero : {c : EntryCursor} {i : ℕ} → c ≡ On i → i < 1 → Tested xs (cursor_is c) (Err refusal.NoNode)
  test_zero {i = i} e h = inr (holds, rw (e, lt-leb 1 i h), refl)

  pub test_above : {c : EntryCursor} {i : ℕ} → c ≡ On i → 1 ≤ i → t.frame.count < i → Tested xs (cursor_is c) (Err refusal.NoNode)
  test_above {i = i} e some h = inr (holds, rw (e, le-leb 1 i some, lt-leb i (count xs) (omega (arith, t.framed.count_is, ap count same))), refl)

-- a test that failed refuses whatever comes behind it
pub test_refuses : {A : Type 0} (xs : List ℕ) (c : Cursor) (q : Refusal) → OpensAt xs c (Err q) → (a : Answer A)
    → refused (refusal_is q) ≡ demand (header_holds xs) bad_image (demand (in_table xs c) no_node a)
test_refuses xs c q (inl (h, e)) a = rw (h, e)
test_refuses xs c q (inr (h, i, e)) a = rw (h, i, e)

-- ---- where a link leads

module _ (xs : List ℕ) (i : ℕ) {m : Node} (node : got m ≡ node_at xs i) {f : Frame} (framed : Framed xs f) where
  -- the lowest link of a node that was read
  pub link_inside : m.start + 8 + 4 ≤ length xs
  link_inside = node_link_inside xs i framed.header node

  module _ (some : 1 ≤ i) {x : ℕ} (link : x ≡ word xs (m.start + 8)) where
    link_is : link_of xs i 0 ≡ x
    unfolding link_of
    link_is = let start_is : m.start + 8 ≡ links_at xs i = node_links xs i some node in let z : m.start + 8 + 4 * 0 ≡ m.start + 8 = omega arith in rw (← start_is, z) (sym link)

    pub next_over : f.count < x → refused damaged ≡ reading (moved xs next (on i)) given
    next_over h = rw (← node, link_is, lt-leb x (count xs) (omega (arith, framed.count_is)))

    pub next_lands : x ≤ f.count → {r : Answer Cursor} → ((o : ℕ) → r ≡ reading (landing_after xs m.parts.keyed o (cursor_at x)) given) → r ≡ reading (moved xs next (on i)) given
    next_lands h e = e (link_place xs i 0) ∙ rw (← node, link_is, le-leb x (count xs) (omega (arith, framed.count_is)))

-- ---- the answers

-- what leaves by `?`
pub left_by : {A B : Type 0} (view : A → B) (r : Result A Refusal) (q : Refusal) → IsErrAnd r (λ y. y ≡ q) → {a : Answer B} → refused (refusal_is q) ≡ a → answer_as view r ≡ a
left_by view r q d e = let p = err_from_is_err_and r d in rw (p.1, p.2) e

module _ (xs : List ℕ) (m : EntryMove) (c : Cursor) where
  pub move_refused : (q : Refusal) → OpensAt xs c (Err q) → refused (refusal_is q) ≡ entry_move xs m c
  unfolding entry_move
  move_refused q tested = test_refuses xs c q tested _

  module _ (t : Table) (tested : OpensAt xs c (Ok t)) where
    -- a move whose arguments are allowed
    pub move_made : ((a : Answer Cursor) → allowed m a ≡ a) → {d : Cursor} → c ≡ d → {a : Answer Cursor} → a ≡ reading (moved t.bytes.now m d) given → a ≡ entry_move xs m c
    unfolding entry_move
    move_made ok same e = let (is, b) = tested in let a = rw is at (framed_holds t.bytes.now t.framed) in (rw (is, ← same) at e) ∙ sym (rw (a, b) (ok _))

-- the two tests of a seek
module _ (xs k : List ℕ) (n : ℕ) (c : Cursor) (t : Table) (tested : OpensAt xs c (Ok t)) where
  pub seek_refused : (q : Refusal) → LooksFor k n (Err q) → refused (refusal_is q) ≡ entry_move xs (seek k n) c
  unfolding entry_move
  seek_refused q (inl (h, e)) = let (is, b) = tested in let a = rw is at (framed_holds t.bytes.now t.framed) in rw (e, a, b, lt-leb n max_number h)
  seek_refused q (inr (l, h, e)) =
      let (is, b) = tested in let a = rw is at (framed_holds t.bytes.now t.framed) in rw (e, a, b, le-leb n max_number l, lt-leb (length k) max_key h)

  pub sought : (p : LookupKey) → LooksFor k n (Ok p) → {a : Answer Cursor} → a ≡ reading (first_not_passed t.bytes.now to_stop p.key.now p.number.is) given → a ≡ entry_move xs (seek k n) c
  sought p (key, number, low, short) e =
      move_made xs (seek k n) c t tested (λ a. rw (le-leb n max_number low, le-leb (length k) max_key short)) refl (rw (key, number) at e)

-- what a move means follows from what it is
moves : (xs : List ℕ) (m : EntryMove) (c : EntryCursor) (r : Result EntryCursor (Stays EntryCursor)) → moved_as r ≡ entry_move xs m (cursor_is c) → IfErr r (λ s. s.at ≡ c) → MovesEntry xs m c r
moves xs m c r e h = record {
  exact = e;
  handed = h;
  rule = λ sound stands fits. let (d, f, l) = move_leads xs sound m (cursor_is c) stands fits in (d, e ∙ f, l);
  lands = λ d f. move_lands xs m (cursor_is c) d (sym e ∙ f);
}

-- and a refused one hands back its cursor
pub moves_back : (xs : List ℕ) (m : EntryMove) (c : EntryCursor) (q : Result EntryCursor Refusal) {r : Result EntryCursor (Stays EntryCursor)}
    → answer_as cursor_is q ≡ entry_move xs m (cursor_is c) → HandedOn c q r → MovesEntry xs m c r
moves_back xs m c (Ok to) e h = rw h (moves xs m c (Ok to) e tt)
moves_back xs m c (Err q) e h = rw h (moves xs m c (Err (record { why = q; at = c })) e refl)
