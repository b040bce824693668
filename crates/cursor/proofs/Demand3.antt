-- Demand 3, in the words of 00-demands.md: what a host sees depends on the entries up to its snapshot alone.
use Prim.Native.Nat.{ℕ, ◌≤◌}
use mathlib.Core.Path.{◌≡◌, refl, sym, ap, ◌∙◌}
use mathlib.Core.List.{List, [], ◌∷◌, ◌++◌, nil≢cons, cons≢nil, head-eq_of_cons-eq, tail-eq_of_cons-eq}
use mathlib.Core.Bool.{Bool, true, false}
use lib.ListN.{length}
use lib.Dec.{leb, eqb}
use borrow.Author.Tests.{leb-true}
use Rattle.std.specs.Prelude.{Result, Ok, Err}
use Rattle.rule.specs.Lists.{cond, Maybe, none, some}
use Rattle.rule.specs.Entries.{Entry, Agree, Single, value_kind}
use Rattle.rule.specs.Rows.{newest}
use Rattle.rule.specs.Moves.{Move, Row}
use Rattle.rule.proofs.Rows.{same_newest, agree_later, agree_both}
use Rattle.image.specs.Limits.{max_key, max_number}
use Rattle.image.specs.Sound.{Sound, header_holds, held}
use Rattle.image.specs.Refusals as is
use Rattle.image.specs.Refusals.{Answer, given, bad_number, long_key, number_of}
use Rattle.image.specs.Lookup as one
use Rattle.image.specs.Lookup.{get}
use Rattle.image.specs.Meaning.{Tells}
use Rattle.image.proofs.Refusals.{refused_given}
use Rattle.image.proofs.Sound.{header_complete}
use Rattle.image.proofs.Held.{held_single}
use Rattle.image.proofs.Views.{value_shown}
use Rattle.table.specs.Memtable.{lookup_as, Gets}
use Rattle.table.specs.Growth.{Additions, Filled}
use Rattle.table.specs.declared.refusals.Refusal.{Refusal}
use Rattle.table.specs.declared.memtable.Lookup.{Lookup}
use Rattle.table.specs.declared.memtable.Lookup.TheVariants as lookup
use Rattle.table.proofs.Growth.{additions_held, filled_sound, filled_held}
use Rattle.cursor.specs.Moves.{moved_as, Moves}
use Rattle.cursor.specs.Runs.{Tables, entries_of, Shows, Moment, seen_in, Run, Alike, Lockstep, moves_in, Still, SameMembers, Later, Learnt, found, deleted, absent, refused, learnt}
use Rattle.cursor.specs.declared.places.Cursor.{Cursor}
use Rattle.table.specs.declared.memtable_iter.Stays.{Stays}
use Rattle.cursor.proofs.Lockstep.{same_shown, same_move, whole_grown, entry_grown, run_whole, in_step}

-- DEMAND 3. Fix a snapshot. Take two pairs of tables, each begun fresh and from then on changed by accepted additions alone. If at every move the entries
-- numbered up to the snapshot are the same set in both pairs, with no key and number twice among them, then any string of moves, starting nowhere, shows the
-- same rows in both.
pub same_rows : (s : ℕ) {t u : Tables} {c d : Cursor} {ms ns : List Moment} → Run s t c ms → Run s u d ns → Lockstep s ms ns → seen_in ms ≡ seen_in ns
same_rows s m n l = (in_step s m n l).1

-- ---- lookups in single tables with equal such sets agree too

-- what is learnt by the newest entry of a key
abbrev learnt_of : Maybe Entry → Learnt
learnt_of none = absent
learnt_of (some e) = cond (eqb e.kind value_kind) (found e.value) deleted

-- what an answer says
abbrev says_of : Answer one.Lookup → one.Looked
says_of (given l) = l.says
says_of (is.refused q) = one.absent

learnt_rule : (xs k : List ℕ) (s : ℕ) (r : Result Lookup Refusal) → Sound xs → Gets xs k s r → s ≤ max_number → length k ≤ max_key → learnt xs r ≡ learnt_of (newest k s (held xs))
learnt_rule xs k s r x g a b = let (l, e, t) = g.rule x a b in go r l e t
  where
    go : (r : Result Lookup Refusal) (l : one.Lookup) → lookup_as r ≡ given l → Tells xs k s l.says → learnt xs r ≡ learnt_of (newest k s (held xs))
    go (Ok (lookup.Found i looks)) l e t = let (n, q, v) = rw (← ap says_of e) at t in rw (value_shown xs x i n, q, v)
    go (Ok (lookup.Deleted looks)) l e t = let (f, q, v) = rw (← ap says_of e) at t in rw (q, v)
    go (Ok (lookup.Absent looks)) l e t = rw (rw (← ap says_of e) at t)
    go (Err q) l e t = absurd (refused_given e)

-- outside the limits the lookup is refused
learnt_refused : (xs k : List ℕ) (s : ℕ) (r : Result Lookup Refusal) (q : is.Refusal) → Gets xs k s r → is.refused q ≡ get xs k s → learnt xs r ≡ refused (number_of q)
learnt_refused xs k s r q g e = go r (g.exact ∙ sym e)
  where
    go : (r : Result Lookup Refusal) → lookup_as r ≡ is.refused q → learnt xs r ≡ refused (number_of q)
    go (Ok (lookup.Found i looks)) e = absurd (refused_given (sym e))
    go (Ok (lookup.Deleted looks)) e = absurd (refused_given (sym e))
    go (Ok (lookup.Absent looks)) e = absurd (refused_given (sym e))
    go (Err p) e = ap refused (ap is.refusal_of e)

-- the two that a sound table gives
module _ (xs k : List ℕ) (s : ℕ) (holds : header_holds xs ≡ true) where
  number_refused : leb s max_number ≡ false → is.refused bad_number ≡ get xs k s
  unfolding get
  number_refused high = rw (holds, high)

  key_refused : leb s max_number ≡ true → leb (length k) max_key ≡ false → is.refused long_key ≡ get xs k s
  unfolding get
  key_refused low long = rw (holds, low, long)

pub same_lookup : (s : ℕ) (es fs : List Entry) (xs ys : List ℕ) → Filled es xs → Filled fs ys → Agree s es fs → (k : List ℕ) (r q : Result Lookup Refusal) → Gets xs k s r → Gets ys k s q → learnt xs r ≡ learnt ys q
same_lookup s es fs xs ys a b agree k r q g h = go (leb s max_number) refl (leb (length k) max_key) refl
  where
    x : Sound xs
    x = filled_sound es xs a

    y : Sound ys
    y = filled_sound fs ys b

    agree_held : Agree s (held xs) (held ys)
    agree_held = rw (filled_held es xs a, filled_held fs ys b) agree

    alike : newest k s (held xs) ≡ newest k s (held ys)
    alike = same_newest k s (held xs) (held ys) agree_held (λ e f i j _. held_single xs x e f i j)

    holds : (zs : List ℕ) → Sound zs → header_holds zs ≡ true
    holds zs z = header_complete zs z.header

    go : (m : Bool) → leb s max_number ≡ m → (n : Bool) → leb (length k) max_key ≡ n → learnt xs r ≡ learnt ys q
    go true m true n = let i = leb-true s max_number m in let j = leb-true (length k) max_key n in learnt_rule xs k s r x g i j ∙ ap learnt_of alike ∙ sym (learnt_rule ys k s q y h i j)
    go true m false n =
        learnt_refused xs k s r long_key g (key_refused xs k s (holds xs x) m n) ∙ sym (learnt_refused ys k s q long_key h (key_refused ys k s (holds ys y) m n))
    go false m n o =
        learnt_refused xs k s r bad_number g (number_refused xs k s (holds xs x) m) ∙ sym (learnt_refused ys k s q bad_number h (number_refused ys k s (holds ys y) m))

-- ---- what changes no row: a string of moves over tables that were filled, and then left as they are

module _ (s : ℕ) (t u : Tables) {t' u' : Tables} {c d : Cursor} {ms ns : List Moment} (m : Run s t' c ms) (n : Run s u' d ns) (same : moves_in ms ≡ moves_in ns) (x : Still t ms) (y : Still u ns) where
  still : Alike s (entries_of t) (entries_of u) → seen_in ms ≡ seen_in ns
  still a = same_rows s m n (go ms ns same x y)
    where
      go : (ms ns : List Moment) → moves_in ms ≡ moves_in ns → Still t ms → Still u ns → Lockstep s ms ns
      go [] [] e x y = tt
      go [] (n ∷ ns) e x y = nil≢cons e
      go (m ∷ ms) [] e x y = cons≢nil e
      go (m ∷ ms) (n ∷ ns) e (p, x) (q, y) = (head-eq_of_cons-eq e, rw (p, q) a, go ms ns (tail-eq_of_cons-eq e) x y)

  module _ {es fs es' fs' : List Entry} (a : Filled es t.first) (b : Filled fs t.second) (i : Filled es' u.first) (j : Filled fs' u.second) (single : Single s (es ++ fs)) where
    held_left : entries_of t ≡ es ++ fs
    held_left = rw (filled_held es t.first a, filled_held fs t.second b)

    held_right : entries_of u ≡ es' ++ fs'
    held_right = rw (filled_held es' u.first i, filled_held fs' u.second j)

    -- later-numbered entries, and all else but the entries up to s
    pub later_hidden : Agree s (es ++ fs) (es' ++ fs') → seen_in ms ≡ seen_in ns
    later_hidden g = still (rw (held_left, held_right) (record { agree = g; single = single }))

    -- the split between the two tables
    pub split_hidden : SameMembers (es ++ fs) (es' ++ fs') → seen_in ms ≡ seen_in ns
    split_hidden g = later_hidden (λ e _. g e)

    -- the order of arrival
    pub arrival_hidden : SameMembers es es' → SameMembers fs fs' → seen_in ms ≡ seen_in ns
    arrival_hidden g h = later_hidden (agree_both s es es' fs fs' (λ e _. g e) (λ e _. h e))

    -- tower heights: the same entries in the same order
    pub heights_hidden : es ≡ es' → fs ≡ fs' → seen_in ms ≡ seen_in ns
    heights_hidden g h = arrival_hidden (λ e. (λ k. rw (← g) k, λ k. rw g k)) (λ e. (λ k. rw (← h) k, λ k. rw h k))

-- ---- and entries accepted between two moves, if they are numbered above s: the move after them shows what it would have shown without them

pub between_hidden : (s : ℕ) {t u : Tables} {c : Cursor} {ms : List Moment} {es fs : List Entry}
    → Run s t c ms → Single s (entries_of t) → Additions t.first es u.first → Later s es → Additions t.second fs u.second → Later s fs
    → (v : Move) (r q : Result Cursor (Stays Cursor)) (w z : Maybe Row) → Moves v t.first t.second s c r → Shows t (moved_as r).cursor w → Moves v u.first u.second s c q
    → Shows u (moved_as q).cursor z → ((moved_as r).refusal ≡ (moved_as q).refusal) × (w ≡ z)
between_hidden s {t} {u} {c} {ms} {es} {fs} run single a i b j v r q w z x p y o =
    let h = run_whole run in
    let g = same_move t c u c (record { left = h; right = whole_grown t u c h a b; same = sym (entry_grown t u c h a b) }) s (record {
      agree = agree_both s (held t.first) (held u.first) (held t.second) (held u.second)
          (rw (additions_held h.first a) (agree_later s (held t.first) es i)) (rw (additions_held h.second b) (agree_later s (held t.second) fs j));
      single = single;
    }) v r q x y in
    (g.refusal, same_shown t (moved_as r).cursor u (moved_as q).cursor g.together w z p o)
