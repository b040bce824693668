-- Two results that an export's promise allows are one, and so are the bytes that it leaves; of the visible cursor's moves where they are refused and on sound tables.
use Prim.Native.Nat.{ℕ}
use mathlib.Core.Path.{◌≡◌, sym, ap, ◌∙◌}
use mathlib.Core.List.{List}
use Rattle.rule.specs.Entries.{Entry}
use Rattle.rule.specs.Moves.{Move}
use Rattle.image.specs.EntryMoves.{EntryMove}
use Rattle.table.specs.Memtable.{Freshens, Adds, Gets}
use Rattle.table.specs.Presence.{Contains, ShowsRow}
use Rattle.table.specs.MemtableIter.{MovesEntry as EntryMoves}
use Rattle.table.proofs.OneAnswer as table
use Rattle.cursor.specs.Moves.{Moves, Decided}
use Rattle.cursor.specs.Pairs.{GetsPair}
use Rattle.cursor.proofs.OneAnswer as cursor
use Rattle.capi.specs.Plain.{Plainly}
use Rattle.capi.specs.Memtable.{plain_freshened, plain_added, plain_presence, plain_lookup, plain_view}
use Rattle.capi.specs.EntryIter.{entry_cursor_of, plain_entry_moved}
use Rattle.capi.specs.DbIter.{cursor_of, plain_moved, plain_pair_lookup}
use Rattle.capi.specs.declared.memtable.BavoAdded.{BavoAdded}
use Rattle.capi.specs.declared.memtable.BavoPresence.{BavoPresence}
use Rattle.capi.specs.declared.memtable.BavoLookup.{BavoLookup}
use Rattle.capi.specs.declared.memtable.BavoView.{BavoView}
use Rattle.capi.specs.declared.entry_iter.BavoEntryCursor.{BavoEntryCursor}
use Rattle.capi.specs.declared.entry_iter.BavoEntryMoved.{BavoEntryMoved}
use Rattle.capi.specs.declared.db_iter.BavoCursor.{BavoCursor}
use Rattle.capi.specs.declared.db_iter.BavoMoved.{BavoMoved}
use Rattle.capi.specs.declared.db_iter.BavoPairLookup.{BavoPairLookup}

-- one answer below, one plain form
once : {A R : Type 0} (plain : A → R) {promise : A → Type 0} → ((a b : A) → promise a → promise b → a ≡ b) → {r s : R} → Plainly plain promise r → Plainly plain promise s → r ≡ s
once plain one p q = p.is ∙ ap plain (one p.answer q.answer p.kept q.kept) ∙ sym q.is

pub fresh_one : (xs ys zs : List ℕ) {r s : ℕ} → Plainly plain_freshened (λ a. Freshens xs a ys) r → Plainly plain_freshened (λ a. Freshens xs a zs) s → (r ≡ s) × (ys ≡ zs)
fresh_one xs ys zs p q = let (e, f) = table.fresh_one xs p.answer q.answer ys zs p.kept q.kept in (p.is ∙ ap plain_freshened e ∙ sym q.is, f)

pub add_one_answer : (xs : List ℕ) (e : Entry) (h : ℕ) (ys zs : List ℕ) {r s : BavoAdded} → Plainly plain_added (λ a. Adds xs e h a ys) r
    → Plainly plain_added (λ a. Adds xs e h a zs) s → (r ≡ s) × (ys ≡ zs)
add_one_answer xs e h ys zs p q = let (d, f) = table.add_one_answer xs e h p.answer q.answer ys zs p.kept q.kept in (p.is ∙ ap plain_added d ∙ sym q.is, f)

pub contains_one : (xs k : List ℕ) (n kind : ℕ) {r s : BavoPresence} → Plainly plain_presence (λ a. Contains xs k n kind a) r → Plainly plain_presence (λ a. Contains xs k n kind a) s → r ≡ s
contains_one xs k n kind = once plain_presence (table.contains_one xs k n kind)

pub get_one : (xs k : List ℕ) (t : ℕ) {r s : BavoLookup} → Plainly plain_lookup (λ a. Gets xs k t a) r → Plainly plain_lookup (λ a. Gets xs k t a) s → r ≡ s
get_one xs k t = once plain_lookup (table.get_one xs k t)

pub get_value_one : (xs k : List ℕ) (t : ℕ) {r s : BavoView} → Plainly plain_view (λ a. ShowsRow xs k t a) r → Plainly plain_view (λ a. ShowsRow xs k t a) s → r ≡ s
get_value_one xs k t = once plain_view (table.row_span_one xs k t)

pub entry_move_one : (xs : List ℕ) (m : EntryMove) (at : BavoEntryCursor) {r s : BavoEntryMoved}
    → Plainly (plain_entry_moved at) (λ a. EntryMoves xs m (entry_cursor_of at) a) r → Plainly (plain_entry_moved at) (λ a. EntryMoves xs m (entry_cursor_of at) a) s
    → r ≡ s
entry_move_one xs m at = once (plain_entry_moved at) (table.move_one xs m (entry_cursor_of at))

pub pair_one : (f g k : List ℕ) (t : ℕ) {r s : BavoPairLookup} → Plainly plain_pair_lookup (λ a. GetsPair f g k t a) r → Plainly plain_pair_lookup (λ a. GetsPair f g k t a) s → r ≡ s
pair_one f g k t = once plain_pair_lookup (cursor.pair_one f g k t)

pub move_one : (v : Move) (f g : List ℕ) (t : ℕ) (at : BavoCursor) → Decided v f g t (cursor_of at) → {r s : BavoMoved} → Plainly (plain_moved at) (λ a. Moves v f g t (cursor_of at) a) r
    → Plainly (plain_moved at) (λ a. Moves v f g t (cursor_of at) a) s → r ≡ s
move_one v f g t at d = once (plain_moved at) (cursor.move_one v f g t (cursor_of at) d)
