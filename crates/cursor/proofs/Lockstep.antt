-- Two runs in lockstep stay on equal entries. Only promises are used: of `fresh`, `add`, the moves and the views.
use Prim.Native.Nat.{ℕ}
use mathlib.Core.Path.{◌≡◌, refl, sym, ap, ◌∙◌}
use mathlib.Core.List.{List, ◌∷◌}
use mathlib.Core.Bool.{true}
use lib.ListN.{length}
use lib.Dec.{leb}
use borrow.Author.Tests.{le-leb}
use Rattle.std.specs.Prelude.{Result}
use Rattle.rule.specs.Lists.{Maybe, none, some}
use Rattle.rule.specs.Entries.{Entry}
use Rattle.rule.specs.Rows.{newest}
use Rattle.rule.specs.Moves.{Move, Row, target}
use Rattle.rule.proofs.Rows.{same_newest}
use Rattle.rule.proofs.Moves.{same_target}
use Rattle.image.specs.Limits.{max_key, max_number}
use Rattle.image.specs.Nodes.{count}
use Rattle.image.specs.Sound.{Sound}
use Rattle.image.specs.Refusals.{Answer, given, refused, demand, bad_number, long_key}
use Rattle.image.proofs.Sound.{header_complete}
use Rattle.table.specs.Growth.{Additions}
use Rattle.table.proofs.Growth.{begun_sound, additions_grow}
use Rattle.cursor.specs.Places.{image_of, entry_at, CursorIn, inside}
use Rattle.cursor.specs.Moves.{asked, key_given, start_key, MovedIs, moved_as, LeadsTo, Moves}
use Rattle.cursor.specs.Rows.{value_in}
use Rattle.cursor.specs.Runs.{Tables, entries_of, Shows, Moment, seen_in, Run, begun, moved, Alike, Lockstep}
use Rattle.cursor.specs.declared.places.Cursor.{Cursor}
use Rattle.cursor.specs.declared.places.Cursor.TheVariants.{Nowhere, On}
use Rattle.table.specs.declared.memtable_iter.Stays.{Stays}
use Rattle.cursor.proofs.Growth.{cursor_kept, entry_stays}

-- ---- one pair of tables with a cursor

-- undamaged
pub record Whole (t : Tables) (c : Cursor) : Type 0 where
  pub first : Sound t.first
  pub second : Sound t.second
  pub within : CursorIn t.first t.second c

-- the entry that a cursor is on
abbrev pub entry_on : Tables → Cursor → Maybe Entry
entry_on t Nowhere = none
entry_on t (On p) = some (entry_at t.first t.second p)

-- the key of an entry, and the row that it gives
abbrev key_in : Maybe Entry → Maybe (List ℕ)
key_in none = none
key_in (some e) = some e.key

abbrev pub row_in : Maybe Entry → Maybe Row
row_in none = none
row_in (some e) = some (record { key = e.key; value = value_in e })

start_key_lem : (t : Tables) (c : Cursor) → start_key t.first t.second c ≡ key_in (entry_on t c)
start_key_lem t Nowhere = refl
start_key_lem t (On p) = refl

-- what the views show is the row of that entry
pub shows_row : (t : Tables) (c : Cursor) → Whole t c → (w : Maybe Row) → Shows t c w → w ≡ row_in (entry_on t c)
shows_row t Nowhere h none s = refl
shows_row t Nowhere h (some w) s = absurd s
shows_row t (On p) h none s = absurd s
shows_row t (On p) h (some w) (k, v) = rw (← k.rule h.first h.second h.within, ← v.rule h.first h.second h.within)

-- the arguments of a move are refused for the snapshot and the key alone
abbrev pub asked_of : ℕ → List ℕ → Answer {0} Unit
asked_of s k = demand (leb s max_number) bad_number (demand (leb (length k) max_key) long_key (given tt))

pub asked_whole : (t : Tables) (c : Cursor) → Whole t c → (s : ℕ) (k : List ℕ) → asked t.first t.second s c k ≡ asked_of s k
unfolding asked
asked_whole t c h s k = rw (header_complete t.first h.first.header, header_complete t.second h.second.header, go c h.within)
  where
    go : (c : Cursor) → CursorIn t.first t.second c → inside t.first t.second c ≡ true
    go Nowhere i = refl
    go (On p) i = rw (le-leb 1 p.node i.some, le-leb p.node (count (image_of p.table t.first t.second)) i.most)

-- where a move that is not refused ends: on the newest entry of the key that it leads to
abbrev entry_for : ℕ → List Entry → Maybe (List ℕ) → Maybe Entry
entry_for s es none = none
entry_for s es (some k) = newest k s es

pub record Reached (t : Tables) (s : ℕ) (k : Maybe (List ℕ)) (a : MovedIs) : Type 0 where
  pub accepted : a.refusal ≡ 0
  pub within : CursorIn t.first t.second a.cursor
  pub entry : entry_on t a.cursor ≡ entry_for s (entries_of t) k

pub reached : (t : Tables) (s : ℕ) (k : Maybe (List ℕ)) (a : MovedIs) → LeadsTo t.first t.second s k a → Reached t s k a
reached t s none a e = rw e (record { accepted = refl; within = tt; entry = refl })
reached t s (some k) a (p, e, h) = rw e (record { accepted = refl; within = h.inside; entry = sym h.newest_is })

-- ---- two pairs

-- undamaged, with cursors on equal entries
pub record Together (t : Tables) (c : Cursor) (u : Tables) (d : Cursor) : Type 0 where
  pub left : Whole t c
  pub right : Whole u d
  pub same : entry_on t c ≡ entry_on u d

-- what the views show there is equal
pub same_shown : (t : Tables) (c : Cursor) (u : Tables) (d : Cursor) → Together t c u d → (w z : Maybe Row) → Shows t c w → Shows u d z → w ≡ z
same_shown t c u d b w z x y = shows_row t c b.left w x ∙ ap row_in b.same ∙ sym (shows_row u d b.right z y)

-- one move
module _ (t : Tables) (c : Cursor) (u : Tables) (d : Cursor) (b : Together t c u d) (s : ℕ) (a : Alike s (entries_of t) (entries_of u)) (v : Move) (r q : Result Cursor (Stays Cursor))
    (x : Moves v t.first t.second s c r) (y : Moves v u.first u.second s d q) where
  -- both are refused alike, or lead to equal entries
  pub record Same : Type 0 where
    pub refusal : (moved_as r).refusal ≡ (moved_as q).refusal
    pub together : Together t (moved_as r).cursor u (moved_as q).cursor

  targets : target v s (start_key t.first t.second c) (entries_of t) ≡ target v s (start_key u.first u.second d) (entries_of u)
  targets = rw (start_key_lem t c, start_key_lem u d, b.same) (same_target v s (key_in (entry_on u d)) (entries_of t) (entries_of u) a.agree a.single)

  entry_same : (k : Maybe (List ℕ)) → entry_for s (entries_of t) k ≡ entry_for s (entries_of u) k
  entry_same none = refl
  entry_same (some k) = same_newest k s (entries_of t) (entries_of u) a.agree a.single

  pub same_move : Same
  same_move = go (asked_of s (key_given v)) (asked_whole t c b.left s (key_given v)) (asked_whole u d b.right s (key_given v))
    where
      go : (w : Answer {0} Unit) → asked t.first t.second s c (key_given v) ≡ w → asked u.first u.second s d (key_given v) ≡ w → Same
      go (refused o) e f = let i = x.refused o e in let j = y.refused o f in record { refusal = rw (i, j); together = rw (i, j) b }
      go (given n) e f =
          let k = target v s (start_key u.first u.second d) (entries_of u) in
          let m = reached t s k (moved_as r) (rw targets at (x.rule e b.left.first b.left.second)) in
          let n = reached u s k (moved_as q) (y.rule f b.right.first b.right.second) in record {
            refusal = m.accepted ∙ sym n.accepted;
            together = record {
              left = record { first = b.left.first; second = b.left.second; within = m.within };
              right = record { first = b.right.first; second = b.right.second; within = n.within };
              same = m.entry ∙ entry_same k ∙ sym n.entry;
            };
          }

-- ---- growth keeps a cursor on its entry

pub whole_grown : (t u : Tables) (c : Cursor) {es fs : List Entry} → Whole t c → Additions t.first es u.first → Additions t.second fs u.second → Whole u c
whole_grown t u c h a b = let g = additions_grow h.first a in let k = additions_grow h.second b in record {
  first = g.sound;
  second = k.sound;
  within = cursor_kept t.first t.second u.first u.second g k c h.within;
}

pub entry_grown : (t u : Tables) (c : Cursor) {es fs : List Entry} → Whole t c → Additions t.first es u.first → Additions t.second fs u.second → entry_on u c ≡ entry_on t c
entry_grown t u Nowhere h a b = refl
entry_grown t u (On p) h a b = ap {B = Maybe Entry} some (entry_stays t.first t.second u.first u.second (additions_grow h.first a) (additions_grow h.second b) p h.within)

-- ---- any number of moves

-- one run: what a move hands back, refused or not, is in the tables
moved_within : (t : Tables) (c : Cursor) → Whole t c → (s : ℕ) (v : Move) (r : Result Cursor (Stays Cursor)) → Moves v t.first t.second s c r → CursorIn t.first t.second (moved_as r).cursor
moved_within t c h s v r x = go (asked t.first t.second s c (key_given v)) refl
  where
    go : (w : Answer {0} Unit) → asked t.first t.second s c (key_given v) ≡ w → CursorIn t.first t.second (moved_as r).cursor
    go (refused o) e = rw (x.refused o e) h.within
    go (given n) e = (reached t s (target v s (start_key t.first t.second c) (entries_of t)) (moved_as r) (x.rule e h.first h.second)).within

pub run_whole : {s : ℕ} {t : Tables} {c : Cursor} {ms : List Moment} → Run s t c ms → Whole t c
run_whole (begun {t = t} a b) = record { first = (begun_sound t.first a).0; second = (begun_sound t.second b).0; within = tt }
run_whole {s = s} (moved {t = t} {c = c} u v r w m a b x y) = let h = whole_grown t u c (run_whole m) a b in record { first = h.first; second = h.second; within = moved_within u c h s v r x }

-- two runs

pub in_step : (s : ℕ) {t u : Tables} {c d : Cursor} {ms ns : List Moment} → Run s t c ms → Run s u d ns → Lockstep s ms ns → Together t c u d × (seen_in ms ≡ seen_in ns)
in_step s (begun {t = t} a b) (begun {t = u} e f) l = (
  record {
    left = record { first = (begun_sound t.first a).0; second = (begun_sound t.second b).0; within = tt };
    right = record { first = (begun_sound u.first e).0; second = (begun_sound u.second f).0; within = tt };
    same = refl;
  },
  refl,
)
in_step s (begun a b) (moved u v r w n e f x y) l = absurd l
in_step s (moved u v r w m e f x y) (begun a b) l = absurd l
in_step s (moved {t = t} {c = c} {ms = ms} t' v r w m a b x y) (moved {t = u} {c = d} {ms = ns} u' v' q z n e f i j) (same, alike, rest) = after (in_step s m n rest)
  where
    after : Together t c u d × (seen_in ms ≡ seen_in ns)
        → Together t' (moved_as r).cursor u' (moved_as q).cursor × ((record { refusal = (moved_as r).refusal; row = w } ∷ seen_in ms) ≡ (record { refusal = (moved_as q).refusal; row = z } ∷ seen_in ns))
    after (k, h) =
        let g = same_move t' c u' d (record {
          left = whole_grown t t' c k.left a b;
          right = whole_grown u u' d k.right e f;
          same = entry_grown t t' c k.left a b ∙ k.same ∙ sym (entry_grown u u' d k.right e f);
        }) s alike v r q x (rw same i) in
        (g.together, rw (g.refusal, same_shown t' (moved_as r).cursor u' (moved_as q).cursor g.together w z y j, h))
