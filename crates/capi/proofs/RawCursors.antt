-- What a cursor of C may be: any two numbers. One out of range is refused with 10, and a refused move hands back what it was handed.
use Prim.Native.Nat.{ℕ, ◌<◌}
use native.Mathlib.Omega.{arith}
use mathlib.Core.Path.{◌≡◌, refl, ap, ◌∙◌}
use mathlib.Core.List.{List}
use mathlib.Core.Bool.{true}
use Rattle.std.specs.Prelude.{Result, Ok, Err}
use borrow.Author.Tests.{ne_eqb}
use Rattle.rule.specs.Moves.{Move}
use Rattle.image.specs.Sound.{header_holds}
use Rattle.image.specs.Refusals.{refused, number_of, no_node}
use Rattle.image.specs.EntryMoves.{EntryMove, entry_move}
use Rattle.table.specs.Refusals.{refusal_is}
use Rattle.table.specs.MemtableIter.{moved_as, MovesEntry as EntryMoves}
use Rattle.cursor.specs.Places.{place}
use Rattle.cursor.specs.Moves.{asked, MovedIs, moved_as as visible_as, RefusedWith, Moves}
use Rattle.capi.specs.Plain.{Plainly}
use Rattle.capi.specs.EntryIter.{entry_cursor_of, plain_entry_moved}
use Rattle.capi.specs.DbIter.{cursor_of, plain_moved}
use Rattle.table.specs.declared.memtable_iter.EntryCursor.TheVariants as entry
use Rattle.table.specs.declared.memtable_iter.EntryCursor.{EntryCursor}
use Rattle.table.specs.declared.memtable_iter.Stays.{Stays}
use Rattle.cursor.specs.declared.places.Side.TheVariants.{First}
use Rattle.cursor.specs.declared.places.Cursor.TheVariants as visible
use Rattle.cursor.specs.declared.places.Cursor.{Cursor}
use Rattle.capi.specs.declared.entry_iter.BavoEntryCursor.{BavoEntryCursor}
use Rattle.capi.specs.declared.entry_iter.BavoEntryMoved.{BavoEntryMoved}
use Rattle.capi.specs.declared.db_iter.BavoCursor.{BavoCursor}
use Rattle.capi.specs.declared.db_iter.BavoMoved.{BavoMoved}

-- ---- the entry cursor

entry_beyond : (at : BavoEntryCursor) → 1 < at.on → entry_cursor_of at ≡ entry.On 0
entry_beyond at h = rw (ne_eqb at.on 0 (λ e. omega arith), ne_eqb at.on 1 (λ e. omega arith))

entry_refusal : (at : BavoEntryCursor) (a : Result EntryCursor (Stays EntryCursor)) → moved_as a ≡ refused no_node → (plain_entry_moved at a).refusal ≡ number_of no_node
entry_refusal at (Ok entry.Nowhere) e = let z : ◌≡◌ {A = ℕ} 0 1 = cc in omega arith
entry_refusal at (Ok (entry.On i)) e = let z : ◌≡◌ {A = ℕ} 0 1 = cc in omega arith
entry_refusal at (Err r) e = let z : refusal_is r.why ≡ no_node = cc in ap number_of z

entry_handed : (at : BavoEntryCursor) (a : Result EntryCursor (Stays EntryCursor)) → ((plain_entry_moved at a).refusal ≡ 0 → ⊥) → ((plain_entry_moved at a).on ≡ at.on) × ((plain_entry_moved at a).node ≡ at.node)
entry_handed at (Ok entry.Nowhere) n = absurd (n refl)
entry_handed at (Ok (entry.On i)) n = absurd (n refl)
entry_handed at (Err r) n = (refl, refl)

module _ (xs : List ℕ) (m : EntryMove) (at : BavoEntryCursor) {r : BavoEntryMoved} (p : Plainly (plain_entry_moved at) (λ a. EntryMoves xs m (entry_cursor_of at) a) r) where
  pub entry_beyond_refused : header_holds xs ≡ true → 1 < at.on → r.refusal ≡ number_of no_node
  unfolding entry_move
  entry_beyond_refused good h = ap (λ (w : BavoEntryMoved). w.refusal) p.is ∙ entry_refusal at p.answer (p.kept.exact ∙ rw (entry_beyond at h, good))

  pub entry_handed_back : (r.refusal ≡ 0 → ⊥) → (r.on ≡ at.on) × (r.node ≡ at.node)
  entry_handed_back n = rw p.is (entry_handed at p.answer (rw p.is at n))

-- ---- the visible cursor

beyond : (at : BavoCursor) → 2 < at.table → cursor_of at ≡ visible.On (place First 0)
beyond at h = rw (ne_eqb at.table 0 (λ e. omega arith), ne_eqb at.table 1 (λ e. omega arith), ne_eqb at.table 2 (λ e. omega arith))

-- what is refused with 10
refusal : (at : BavoCursor) (c : _) (a : Result Cursor (Stays Cursor)) → RefusedWith no_node c (visible_as a) → (plain_moved at a).refusal ≡ number_of no_node
refusal at c (Ok visible.Nowhere) e = ap (λ (w : MovedIs). w.refusal) e
refusal at c (Ok (visible.On p)) e = ap (λ (w : MovedIs). w.refusal) e
refusal at c (Err r) e = ap (λ (w : MovedIs). w.refusal) e

handed : (at : BavoCursor) (a : Result Cursor (Stays Cursor)) → ((plain_moved at a).refusal ≡ 0 → ⊥) → ((plain_moved at a).table ≡ at.table) × ((plain_moved at a).node ≡ at.node)
handed at (Ok visible.Nowhere) n = absurd (n refl)
handed at (Ok (visible.On p)) n = absurd (n refl)
handed at (Err r) n = (refl, refl)

module _ (v : Move) (f g : List ℕ) (s : ℕ) (at : BavoCursor) {r : BavoMoved} (p : Plainly (plain_moved at) (λ a. Moves v f g s (cursor_of at) a) r) where
  pub beyond_refused : header_holds f ≡ true → header_holds g ≡ true → 2 < at.table → r.refusal ≡ number_of no_node
  unfolding asked
  beyond_refused good fine h = ap (λ (w : BavoMoved). w.refusal) p.is ∙ refusal at (cursor_of at) p.answer (p.kept.refused no_node (rw (beyond at h, good, fine)))

  pub handed_back : (r.refusal ≡ 0 → ⊥) → (r.table ≡ at.table) × (r.node ≡ at.node)
  handed_back n = rw p.is (handed at p.answer (rw p.is at n))
