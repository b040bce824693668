-- What a run shows is what the rule says, row by row: the rows of the boot-bench cases (`rows_after`) are those that the promises allow.
use Prim.Native.Nat.{ℕ, ◌≤◌}
use mathlib.Core.Path.{◌≡◌, refl, sym, ap, ◌∙◌}
use mathlib.Core.List.Memᴰ
use mathlib.Core.List.{List, [], ◌∷◌, ◌++◌}
use lib.ListN.{length}
use borrow.Author.Tests.{le-leb}
use Rattle.rule.specs.Lists.{Maybe, none, some}
use Rattle.rule.specs.Entries.{Entry}
use Rattle.rule.specs.Moves.{Move, target, Row, row_at, rows_after}
use Rattle.rule.proofs.Lists.{here}
use Rattle.image.specs.Limits.{max_key, max_number}
use Rattle.image.specs.Sound.{Sound}
use Rattle.image.specs.Refusals.{given}
use Rattle.table.specs.Growth.{Additions}
use Rattle.table.proofs.Growth.{additions_grow}
use Rattle.cursor.specs.Moves.{asked, key_given, start_key, MovedIs, moved_as, LeadsTo}
use Rattle.cursor.specs.Runs.{Tables, entries_of, Shows, Seen, Moment, seen_in, Run, begun, moved, moves_in, Still, InLimits, key_after, rows_by, accepted, in_order}
use Rattle.cursor.specs.declared.places.Cursor.{Cursor}
use Rattle.cursor.specs.declared.places.Cursor.TheVariants.{Nowhere, On}
use Rattle.cursor.proofs.Growth.{entry_stays}
use Rattle.cursor.proofs.OneAnswer.{gives_row}
use Rattle.cursor.proofs.Lockstep.{Whole, shows_row, asked_whole, whole_grown, run_whole}

-- ---- one move

-- where a move leads that is not refused: its key, and the row that the views show there
pub record Led (t : Tables) (s : ℕ) (k : Maybe (List ℕ)) (a : MovedIs) (w : Maybe Row) : Type 0 where
  pub refusal : a.refusal ≡ 0
  pub key : start_key t.first t.second a.cursor ≡ k
  pub row : w ≡ row_at s k (entries_of t)

led : (t : Tables) → Sound t.first → Sound t.second → (s : ℕ) (k : Maybe (List ℕ)) (a : MovedIs) → LeadsTo t.first t.second s k a → (w : Maybe Row) → Shows t a.cursor w → Led t s k a w
led t x y s none a e w v = record {
  refusal = rw e;
  key = rw e;
  row = shows_row t Nowhere (record { first = x; second = y; within = tt }) w (rw e at v);
}
led t x y s (some k) a (p, e, g) w v =
    let (i, j) = gives_row t.first t.second s k p g in
    let z = shows_row t (On p) (record { first = x; second = y; within = g.inside }) w (rw e at v) in
    record { refusal = rw e; key = rw (e, i); row = z ∙ rw (i, j) }

-- additions leave the key that a move starts from
start_grown : (t u : Tables) (c : Cursor) {es fs : List Entry} → Whole t c → Additions t.first es u.first → Additions t.second fs u.second
    → start_key u.first u.second c ≡ start_key t.first t.second c
start_grown t u Nowhere h a b = refl
start_grown t u (On p) h a b = ap (λ (e : Entry). some e.key) (entry_stays t.first t.second u.first u.second (additions_grow h.first a) (additions_grow h.second b) p h.within)

-- arguments within their limits are not refused
not_refused : (t : Tables) (c : Cursor) → Whole t c → (s : ℕ) (k : List ℕ) → s ≤ max_number → length k ≤ max_key → asked t.first t.second s c k ≡ given tt
not_refused t c h s k m n = asked_whole t c h s k ∙ rw (le-leb s max_number m, le-leb (length k) max_key n)

-- ---- a run, with any additions between its moves

-- the cursor is on the key that the rule says, and each move shows the row that the rule says
pub run_rows : {s : ℕ} {t : Tables} {c : Cursor} {ms : List Moment} → Run s t c ms → InLimits s (moves_in ms)
    → (start_key t.first t.second c ≡ key_after s ms) × (seen_in ms ≡ accepted (rows_by s ms))
run_rows (begun a b) l = (refl, refl)
run_rows {s = s} (moved {t = t} {c = c} {ms = ms} u v r w m a b x y) l =
    let (k, rows) = run_rows m (record { number = l.number; keys = λ v i. l.keys v (Memᴰ.tail i) }) in
    let h = whole_grown t u c (run_whole m) a b in
    let from : start_key u.first u.second c ≡ key_after s ms = start_grown t u c (run_whole m) a b ∙ k in
    let ok = not_refused u c h s (key_given v) l.number (l.keys v here) in
    let o = led u h.first h.second s (target v s (key_after s ms) (entries_of u)) (moved_as r) (rw from at (x.rule ok h.first h.second)) w y in
    (o.key, rw (o.refusal, o.row, rows))

-- ---- a run without additions between its moves

module _ (s : ℕ) (es : List Entry) where
  -- the key after a string of moves
  abbrev last_key : List Move → Maybe (List ℕ) → Maybe (List ℕ)
  last_key [] c = c
  last_key (v ∷ vs) c = last_key vs (target v s c es)

  key_more : (vs : List Move) (v : Move) (c : Maybe (List ℕ)) → last_key (vs ++ (v ∷ [])) c ≡ target v s (last_key vs c) es
  key_more [] v c = refl
  key_more (u ∷ vs) v c = key_more vs v (target u s c es)

  rows_more : (vs : List Move) (v : Move) (c : Maybe (List ℕ)) → rows_after (vs ++ (v ∷ [])) s c es ≡ rows_after vs s c es ++ (row_at s (target v s (last_key vs c) es) es ∷ [])
  rows_more [] v c = refl
  rows_more (u ∷ vs) v c = ap (λ (ws : List (Maybe Row)). row_at s (target u s c es) es ∷ ws) (rows_more vs v (target u s c es))

accepted_more : (ws : List (Maybe Row)) (w : Maybe Row) → accepted (ws ++ (w ∷ [])) ≡ accepted ws ++ (record { refusal = 0; row = w } ∷ [])
accepted_more [] w = refl
accepted_more (v ∷ ws) w = ap (λ (l : List Seen). record { refusal = 0; row = v } ∷ l) (accepted_more ws w)

accepted_order : (ws : List (Maybe Row)) → in_order (accepted ws) ≡ accepted (in_order ws)
accepted_order [] = refl
accepted_order (w ∷ ws) = ap (λ (l : List Seen). l ++ (record { refusal = 0; row = w } ∷ [])) (accepted_order ws) ∙ sym (accepted_more (in_order ws) w)

still_rows : (s : ℕ) (t : Tables) (ms : List Moment) → Still t ms
    → (key_after s ms ≡ last_key s (entries_of t) (in_order (moves_in ms)) none) × (in_order (rows_by s ms) ≡ rows_after (in_order (moves_in ms)) s none (entries_of t))
still_rows s t [] x = (refl, refl)
still_rows s t (m ∷ ms) (e, x) =
    let (k, rows) = still_rows s t ms x in
    let es = entries_of t in
    let vs = in_order (moves_in ms) in
    (rw (e, k) (sym (key_more s es vs m.move none)), rw (e, k, rows) (sym (rows_more s es vs m.move none)))

-- over tables that nothing is added to between the moves, with arguments within their limits: what is seen, from the first move to the last, is the rows that
-- `rows_after` gives for the moves in that order, from nowhere, and no refusal
pub rows_seen : {s : ℕ} (t : Tables) {u : Tables} {c : Cursor} {ms : List Moment} → Run s u c ms → Still t ms → InLimits s (moves_in ms)
    → in_order (seen_in ms) ≡ accepted (rows_after (in_order (moves_in ms)) s none (entries_of t))
rows_seen {s = s} t {ms = ms} r x l = ap in_order (run_rows r l).1 ∙ accepted_order (rows_by s ms) ∙ ap accepted (still_rows s t ms x).1
