-- The five wrong programs that document 01 names under 'What the promises rule out': no promise allows their answers.
use Prim.Native.Nat.{ℕ}
use native.Mathlib.Omega.{arith}
use mathlib.Core.Path.{◌≡◌, refl, sym, ap, ◌∙◌}
use mathlib.Core.List.{List, [], ◌∷◌}
use mathlib.Core.Bool.{Bool, false, true≢false}
use lib.ListN.{length, length-append}
use lib.Dec.{leb}
use Rattle.std.specs.Prelude.{Result, Ok, Err}
use Rattle.rule.specs.Lists.{none, is_some}
use Rattle.rule.specs.Order.{compare_keys}
use Rattle.rule.specs.Entries.{Entry}
use Rattle.rule.specs.Moves.{first, next}
use Rattle.rule.proofs.Lists.{all_nil, all_cons}
use Rattle.image.specs.Limits.{max_key, max_number}
use Rattle.image.specs.Sound.{Sound, header_holds, held}
use Rattle.image.specs.Search.{to_stop, searched}
use Rattle.image.specs.Refusals.{bad_image, bad_kind, bad_number, long_key, Answer, given}
use Rattle.image.specs.Lookup.{Lookup as LookupIs, Presence as PresenceIs, held_at, presence}
use Rattle.image.specs.BootBench.{put, a, x}
use Rattle.image.proofs.Refusals.{refused_given, demand_given, reading_given}
use Rattle.table.specs.Memtable.{Adds, lookup_as, Gets}
use Rattle.table.specs.Presence.{presence_as, Contains}
use Rattle.table.specs.Growth as growth
use Rattle.table.specs.declared.refusals.Refusal.{Refusal}
use Rattle.table.specs.declared.memtable.Lookup.{Lookup}
use Rattle.table.specs.declared.presence.Presence.{Presence}
use Rattle.cursor.specs.Places.{place}
use Rattle.cursor.specs.Moves.{MovedIs, moved_to, Moves}
use Rattle.cursor.specs.declared.places.Place.{Place}
use Rattle.cursor.specs.declared.places.Side.TheVariants.{First}
use Rattle.cursor.specs.Pairs.{PairLooked, pair_as, SearchLooks, PairLooks, GetsPair}
use Rattle.cursor.specs.Runs.{Tables, Seen, Run, InLimits}
use Rattle.cursor.specs.declared.merging_iter.PairLookup.{PairLookup}
use Rattle.cursor.specs.declared.places.Cursor.{Cursor}
use Rattle.cursor.specs.declared.places.Cursor.TheVariants.{Nowhere, On}
use Rattle.cursor.proofs.Lockstep.{asked_whole}
use Rattle.cursor.proofs.Pairs.{get_searched, pair_searched}
use Rattle.cursor.proofs.RowsSeen.{run_rows}
use Rattle.cursor.proofs.Demand3Case.{f0, f1, g0, g1, left, held_left, held_early, adding_a, add_a, whole_begun, Stands, left_a, moment, left_begun, goes}

-- nowhere is no place
nowhere_else : {p : Place} → moved_to Nowhere ≡ moved_to (On p) → ⊥
nowhere_else {p} e = let d : Nowhere ≡ On p = ap (λ (a : MovedIs). a.cursor) e in let z : ◌≡◌ {A = ℕ} 0 1 = cc in omega arith

-- a table that refuses everything: a=x goes into the fresh table f0
pub refuses_all : (q : Refusal) (ys : List ℕ) → Adds f0 (put a 1 x) 1 (Err q) ys → ⊥
refuses_all q ys r = refused_given (r.exact ∙ sym adding_a.exact)

-- an addition that does nothing, of any entry at any height to any sound table
pub adds_nothing : (xs : List ℕ) → Sound xs → (e : Entry) (h i : ℕ) → Adds xs e h (Ok i) xs → ⊥
adds_nothing xs s e h i r = let n = ap length (r.rule s).0.held_more ∙ length-append (held xs) (e ∷ []) in omega (arith, n)

-- a cursor that always says 'no row': over a=x and b=y there is a first
pub always_none : Moves first f1 g1 2 Nowhere (Ok Nowhere) → ⊥
unfolding compare_keys
always_none r = let (p, e, _) = rw held_left at (r.rule (asked_whole left Nowhere whole_begun 2 []) whole_begun.first whole_begun.second) in nowhere_else e

-- a cursor that gathers all rows at its first move and replays them: the first move is made when the second table is empty

-- a=x is there, b is not yet
abbrev early : Tables
early = record { first = f1; second = g0 }

-- the first move, over these, shows a=x; what it has seen then is `first` alone
pub replays_first : Run 2 early (On (place First 1)) (moment early first a x ∷ [])
unfolding compare_keys
replays_first =
    let there : Stands early (place First 1) (put a 1 x) = record { inside = left_a.inside; entry = left_a.entry } in
    goes left_begun add_a growth.none first refl (put a 1 x ∷ []) held_early none refl (place First 1) (put a 1 x) there refl refl refl tt (all_nil _)

-- then b=y, numbered up to the snapshot, is added, and next is made: no run goes on so with a next that shows no row, whatever its first move has shown
pub replays : {t : Tables} {c : Cursor} {n : ℕ} {seen : Seen}
    → Run 2 t c (record { tables = left; move = next; seen = record { refusal = n; row = none } } ∷ record { tables = early; move = first; seen = seen } ∷ []) → ⊥
unfolding compare_keys
replays r = true≢false (sym (ap last_shows (rw (held_left, held_early) at (run_rows r within).1)))
  where
    -- whether the last of these moments shows a row
    last_shows : List Seen → Bool
    last_shows [] = false
    last_shows (m ∷ ms) = is_some m.row

    within : InLimits 2 (next ∷ first ∷ [])
    within = record { number = omega arith; keys = all_cons (omega arith) (all_cons (omega arith) (all_nil _)) }

-- a made-up look count: on any bytes, whether it finds, deletes or says absent, the looks are the search's own, link by link

pub looks_one : (xs k : List ℕ) (s : ℕ) (r : Result Lookup Refusal) → Gets xs k s r → (a : LookupIs) → lookup_as r ≡ given a → SearchLooks xs k s a.looks
looks_one xs k s r g a e = get_searched xs k s a (sym g.exact ∙ e)

-- of presence
pub presence_looks : (xs k : List ℕ) (n kind : ℕ) (r : Result Presence Refusal) → Contains xs k n kind r → (a : PresenceIs) → presence_as r ≡ given a → SearchLooks xs k n a.looks
unfolding presence
presence_looks xs k n kind r c a e =
    let (_, p) = demand_given (header_holds xs) bad_image _ a (sym c.exact ∙ e) in
    let (_, q) = demand_given (leb kind 1) bad_kind _ a p in
    let (_, o) = demand_given (leb n max_number) bad_number _ a q in
    let (_, h) = demand_given (leb (length k) max_key) long_key _ a o in
    let (f, i, t) = reading_given (searched xs to_stop k n) _ a h in
    let (_, _, u) = reading_given (held_at xs kind f) _ a t in
    (f, i, same u)
  where
    same : {c d : PresenceIs} → ◌≡◌ {A = Answer PresenceIs} (given c) (given d) → d.looks ≡ c.looks
    same e = let z : _ ≡ _ = e in cc

-- of a pair: the sum over the tables asked
pub pair_looks : (f g k : List ℕ) (s : ℕ) (r : Result PairLookup Refusal) → GetsPair f g k s r → (a : PairLooked) → pair_as r ≡ given a → PairLooks f g k s a.looks
pair_looks f g k s r p a e = pair_searched f g k s a (sym p.exact ∙ e)
