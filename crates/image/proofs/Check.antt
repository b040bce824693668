-- The check says yes exactly if the image is sound.
use Prim.Native.Nat.{ℕ, zero, suc, ◌+◌, ◌<◌, ◌≤◌}
use native.Mathlib.Omega.{arith}
use native.Mathlib.Decide.{ℕ_discrete}
use mathlib.Core.Path.{◌≡◌, refl, sym, ap, ◌∙◌}
use mathlib.Core.Logic.{◌≢◌, ◌↔◌}
use mathlib.Core.List.{List, [], ◌∷◌}
use mathlib.Core.Bool.{Bool, true, false, true≢false}
use lib.ListN.{length, get_or, set, replicate, length-set}
use lib.Seq.{get_or-set_same, get_or-set_other}
use lib.Dec.{ltb, leb, eqb, T}
use borrow.Author.Tests.{ltb-true, ltb-false, leb-true, le-leb, eqb-true, eq-eqb}
use Rattle.rule.specs.Lists.{both, All, Pairwise}
use Rattle.rule.specs.Order.{less}
use Rattle.rule.specs.Entries.{order}
use Rattle.rule.proofs.Order.{entries, less_true}
use Rattle.rule.proofs.Lists.{both_true, all_nil, all_cons, all_tail, here}
use Rattle.image.specs.Limits.{levels, header_size}
use Rattle.image.specs.Words.{Bytes}
use Rattle.image.specs.Readers.{Read, got, bad}
use Rattle.image.specs.Entries.{encode, entry_in}
use Rattle.image.specs.Nodes.{count, free, slot, Node, node_at, entry_place, NodeIs, height_of, entry_of, entry_from, link_of}
use Rattle.image.specs.Chains.{tall, chain}
use Rattle.image.specs.Sound.{lowest, Sound, header_holds, place_of, size_at}
use Rattle.image.specs.Check.{if_read, nodes_run, all_meet, stepped, may_follow, threads, heads, is_sound}
use Rattle.image.proofs.Nodes.{node_read_lem, node_sound}
use Rattle.image.proofs.Chains.{tall_keep, tall_skip}
use Rattle.image.proofs.Sound.{header_sound, header_complete, place_slot, place_free, lowest_full, sound_by}

-- from node i on, which starts at o, the nodes stand one behind the other
pub record Run (xs : List ℕ) (i o : ℕ) : Type 0 where
  pub starts : place_of xs i ≡ o
  pub follows : (j : ℕ) → i ≤ j → j ≤ count xs → place_of xs (suc j) ≡ slot xs j + size_at xs j
  pub reads : (j : ℕ) → i ≤ j → j ≤ count xs → NodeIs xs j (height_of xs j) (entry_of xs j)

-- a node that is read
pub node_seen : (xs : List ℕ) (i : ℕ) (m : Node) → Bytes xs → free xs ≤ length xs → node_at xs i ≡ got m → NodeIs xs i (height_of xs i) (entry_of xs i) × (m.end ≡ slot xs i + size_at xs i)
unfolding height_of entry_of
node_seen xs i m b le g =
    let (n, end) = node_sound xs (free xs) (slot xs i) m b le g in
    let f : entry_from xs (node_at xs i) ≡ entry_in xs m.parts = ap (entry_from xs) g in
    let h = n.height_here in
    (rw (f, h) n, rw (f, h) end)

pub run_sound : (xs : List ℕ) (k i o : ℕ) → Bytes xs → free xs ≤ length xs → i + k ≡ suc (count xs) → nodes_run xs k i o ≡ true → Run xs i o
run_sound xs zero i o b le n e = record {
  starts = let z : i ≡ suc (count xs) = omega arith in ap (place_of xs) z ∙ place_free xs ∙ sym (eqb-true o (free xs) e);
  follows = λ j p q. absurd (omega arith);
  reads = λ j p q. absurd (omega arith);
}
run_sound xs (suc k) i o b le n e = let (c, d) = both_true (eqb (slot xs i) o) (if_read (node_at xs i) (λ m. nodes_run xs k (suc i) m.end)) e in
    go (node_at xs i) refl d (eqb-true (slot xs i) o c) (λ m. run_sound xs k (suc i) m.end b le (omega arith))
  where
    more : (m : Node) → node_at xs i ≡ got m → slot xs i ≡ o → Run xs (suc i) m.end → Run xs i o
    more m g a r = record { starts = place_slot xs i (omega arith) ∙ a; follows = λ j p q. follow j p q (ℕ_discrete j i); reads = λ j p q. read j p q (ℕ_discrete j i) }
      where
        seen : NodeIs xs i (height_of xs i) (entry_of xs i) × (m.end ≡ slot xs i + size_at xs i)
        seen = node_seen xs i m b le g

        follow : (j : ℕ) → i ≤ j → j ≤ count xs → Dec (j ≡ i) → place_of xs (suc j) ≡ slot xs j + size_at xs j
        follow j p q (yes z) = rw z (r.starts ∙ seen.1)
        follow j p q (no z) = r.follows j (omega arith) q

        read : (j : ℕ) → i ≤ j → j ≤ count xs → Dec (j ≡ i) → NodeIs xs j (height_of xs j) (entry_of xs j)
        read j p q (yes z) = rw z seen.0
        read j p q (no z) = r.reads j (omega arith) q

    go : (r : Read Node) → node_at xs i ≡ r → if_read r (λ m. nodes_run xs k (suc i) m.end) ≡ true → slot xs i ≡ o
        → ((m : Node) → nodes_run xs k (suc i) m.end ≡ true → Run xs (suc i) m.end) → Run xs i o
    go (got m) g d a ih = more m g a (ih m d)
    go (bad p) g d a ih = absurd (true≢false (sym d))

pub run_complete : (xs : List ℕ) → Sound xs → (k i : ℕ) → 1 ≤ i → i + k ≡ suc (count xs) → nodes_run xs k i (place_of xs i) ≡ true
run_complete xs s zero i h n = let z : i ≡ suc (count xs) = omega arith in eq-eqb (place_of xs i) (free xs) (ap (place_of xs) z ∙ place_free xs)
run_complete xs s (suc k) i h n =
    let low : i ≤ count xs = omega arith in
    let g = node_read_lem xs (free xs) (slot xs i) (height_of xs i) (entry_of xs i) (s.reads i h low) in
    let f : entry_place (slot xs i) (height_of xs i) + length (encode (entry_of xs i)) ≡ place_of xs (suc i) = sym (s.follows i h low ∙ omega arith) in
    rw (eq-eqb (slot xs i) (place_of xs i) (sym (place_slot xs i low)), g, f) (run_complete xs s k (suc i) (omega arith) (omega arith))

-- ---- the chains, all levels at once

pub meet_sound : (next : List ℕ) (x h : ℕ) → all_meet next x h ≡ true → (l : ℕ) → l < h → get_or next l 0 ≡ x
meet_sound next x zero e l k = absurd (omega arith)
meet_sound next x (suc h) e l k = let (c, d) = both_true (eqb (get_or next h 0) x) (all_meet next x h) e in go (eqb-true (get_or next h 0) x c) (meet_sound next x h d l) (ℕ_discrete l h)
  where
    go : get_or next h 0 ≡ x → (l < h → get_or next l 0 ≡ x) → Dec (l ≡ h) → get_or next l 0 ≡ x
    go a ih (yes z) = rw z a
    go a ih (no z) = ih (omega arith)

pub meet_complete : (next : List ℕ) (x h : ℕ) → ((l : ℕ) → l < h → get_or next l 0 ≡ x) → all_meet next x h ≡ true
meet_complete next x zero f = refl
meet_complete next x (suc h) f = rw (eq-eqb (get_or next h 0) x (f h (omega arith))) (meet_complete next x h (λ l k. f l (omega arith)))

module _ (xs : List ℕ) (x : ℕ) (next : List ℕ) where
  pub length_stepped : (h : ℕ) → length (stepped xs x next h) ≡ length next
  length_stepped zero = refl
  length_stepped (suc h) = length-set (stepped xs x next h) h (link_of xs x h) ∙ length_stepped h

  pub stepped_on : (h : ℕ) → h ≤ length next → (l : ℕ) → l < h → get_or (stepped xs x next h) l 0 ≡ link_of xs x l
  stepped_on zero b l k = absurd (omega arith)
  stepped_on (suc h) b l k = go (ℕ_discrete l h) (stepped_on h (omega arith) l)
    where
      go : Dec (l ≡ h) → (l < h → get_or (stepped xs x next h) l 0 ≡ link_of xs x l) → get_or (set (stepped xs x next h) h (link_of xs x h)) l 0 ≡ link_of xs x l
      go (yes z) ih = rw z (get_or-set_same (stepped xs x next h) h (link_of xs x h) 0 (omega (arith, length_stepped h)))
      go (no z) ih = get_or-set_other (stepped xs x next h) h l (link_of xs x h) 0 z ∙ ih (omega arith)

  pub stepped_off : (h l : ℕ) → h ≤ l → get_or (stepped xs x next h) l 0 ≡ get_or next l 0
  stepped_off zero l k = refl
  stepped_off (suc h) l k = get_or-set_other (stepped xs x next h) h l (link_of xs x h) 0 (λ e. omega arith) ∙ stepped_off h l (omega arith)

-- each level leads through the rest
abbrev pub Threads : List ℕ → List ℕ → List ℕ → Type 0
Threads xs next rest = (l : ℕ) → l < levels → chain (λ i. link_of xs i l) (get_or next l 0) (tall (height_of xs) l rest)

module _ (xs next : List ℕ) (x : ℕ) (rest : List ℕ) (n : length next ≡ levels) (high : height_of xs x ≤ levels) where
  thread_cons : ((l : ℕ) → l < height_of xs x → get_or next l 0 ≡ x) → Threads xs (stepped xs x next (height_of xs x)) rest → Threads xs next (x ∷ rest)
  thread_cons m t l b = go (ltb l (height_of xs x)) refl
    where
      go : (c : Bool) → ltb l (height_of xs x) ≡ c → chain (λ i. link_of xs i l) (get_or next l 0) (tall (height_of xs) l (x ∷ rest))
      go true e = let k = ltb-true l (height_of xs x) e in rw (tall_keep (height_of xs) l x rest k) (m l k, rw (stepped_on xs x next (height_of xs x) (omega arith) l k) at (t l b))
      go false e = let k = ltb-false l (height_of xs x) e in rw (tall_skip (height_of xs) l x rest k) (rw (stepped_off xs x next (height_of xs x) l k) at (t l b))

  thread_meets : Threads xs next (x ∷ rest) → (l : ℕ) → l < height_of xs x → get_or next l 0 ≡ x
  thread_meets t l k = (rw (tall_keep (height_of xs) l x rest k) at (t l (omega arith))).0

  thread_tail : Threads xs next (x ∷ rest) → Threads xs (stepped xs x next (height_of xs x)) rest
  thread_tail t l b = go (ltb l (height_of xs x)) refl
    where
      go : (c : Bool) → ltb l (height_of xs x) ≡ c → chain (λ i. link_of xs i l) (get_or (stepped xs x next (height_of xs x)) l 0) (tall (height_of xs) l rest)
      go true e = let k = ltb-true l (height_of xs x) e in rw (stepped_on xs x next (height_of xs x) (omega arith) l k) (rw (tall_keep (height_of xs) l x rest k) at (t l b)).1
      go false e = let k = ltb-false l (height_of xs x) e in rw (stepped_off xs x next (height_of xs x) l k) (rw (tall_skip (height_of xs) l x rest k) at (t l b))

abbrev pub Precedes : List ℕ → ℕ → ℕ → Type 0
Precedes xs x y = order (entry_of xs x) (entry_of xs y) ≡ less

precedes_trans : (xs : List ℕ) (x y z : ℕ) → Precedes xs x y → Precedes xs y z → Precedes xs x z
precedes_trans xs x y z p q = entries.trans ((entry_of xs x).key, (entry_of xs x).number) ((entry_of xs y).key, (entry_of xs y).number) ((entry_of xs z).key, (entry_of xs z).number) p q

may_sound : (xs : List ℕ) (p x : ℕ) → may_follow xs p x ≡ true → p ≢ 0 → Precedes xs p x
may_sound xs zero x e n = absurd (n refl)
may_sound xs (suc p) x e n = less_true (order (entry_of xs (suc p)) (entry_of xs x)) e

may_complete : (xs : List ℕ) (p x : ℕ) → (p ≢ 0 → Precedes xs p x) → may_follow xs p x ≡ true
may_complete xs zero x f = refl
may_complete xs (suc p) x f = rw (f (λ e. omega arith))

-- what the walk along the chains finds
pub record Threaded (xs : List ℕ) (k p : ℕ) (next : List ℕ) : Type 0 where
  pub rest : List ℕ
  pub full : length rest ≡ k
  pub within : All (λ x. (1 ≤ x) × (x ≤ count xs)) rest
  pub ascending : Pairwise (Precedes xs) rest
  pub after : p ≢ 0 → All (Precedes xs p) rest
  pub threaded : Threads xs next rest

module _ (xs : List ℕ) (highs : (i : ℕ) → 1 ≤ i → i ≤ count xs → (1 ≤ height_of xs i) × (height_of xs i ≤ levels)) where
  pub threads_sound : (k p : ℕ) (next : List ℕ) → length next ≡ levels → threads xs k p next ≡ true → Threaded xs k p next
  threads_sound zero p next n e = record { rest = []; full = refl; within = all_nil _; ascending = tt; after = λ _. all_nil _; threaded = λ l b. meet_sound next 0 levels e l b }
  threads_sound (suc k) p next n e =
      let (a, b) = both_true (both (leb 1 (get_or next 0 0)) (leb (get_or next 0 0) (count xs))) _ e in
      let (a1, a2) = both_true (leb 1 (get_or next 0 0)) (leb (get_or next 0 0) (count xs)) a in
      let (c, d) = both_true (both (all_meet next (get_or next 0 0) (height_of xs (get_or next 0 0))) (may_follow xs p (get_or next 0 0))) _ b in
      let (c1, c2) = both_true (all_meet next (get_or next 0 0) (height_of xs (get_or next 0 0))) (may_follow xs p (get_or next 0 0)) c in
      more (get_or next 0 0) (leb-true 1 (get_or next 0 0) a1) (leb-true (get_or next 0 0) (count xs) a2) c1 c2
      (threads_sound k (get_or next 0 0) (stepped xs (get_or next 0 0) next (height_of xs (get_or next 0 0))) (length_stepped xs (get_or next 0 0) next (height_of xs (get_or next 0 0)) ∙ n) d)
    where
      more : (x : ℕ) → 1 ≤ x → x ≤ count xs → all_meet next x (height_of xs x) ≡ true → may_follow xs p x ≡ true → Threaded xs k x (stepped xs x next (height_of xs x)) → Threaded xs (suc k) p next
      more x h1 h2 m f t = let all = t.after (λ e. omega arith) in record {
        rest = x ∷ t.rest;
        full = ap suc t.full;
        within = all_cons (h1, h2) t.within;
        ascending = (all, t.ascending);
        after = λ z. let q = may_sound xs p x f z in all_cons q (λ y i. precedes_trans xs p x y q (all y i));
        threaded = thread_cons xs next x t.rest n (highs x h1 h2).1 (meet_sound next x (height_of xs x) m) t.threaded;
      }

  pub threads_complete : (rest : List ℕ) (p : ℕ) (next : List ℕ) → length next ≡ levels → All (λ x. (1 ≤ x) × (x ≤ count xs)) rest → Pairwise (Precedes xs) rest
      → (p ≢ 0 → All (Precedes xs p) rest) → Threads xs next rest
      → threads xs (length rest) p next ≡ true
  threads_complete [] p next n w a f t = meet_complete next 0 levels (λ l k. t l k)
  threads_complete (x ∷ rest) p next n w a f t =
      let (h1, h2) = w x here in
      let (g1, g2) = highs x h1 h2 in
      let m = thread_meets xs next x rest n g2 t in
      rw (m 0 (omega arith), le-leb 1 x h1, le-leb x (count xs) h2, meet_complete next x (height_of xs x) m, may_complete xs p x (λ z. f z x here))
      (threads_complete rest x (stepped xs x next (height_of xs x)) (length_stepped xs x next (height_of xs x) ∙ n) (all_tail w) a.1 (λ _. a.0) (thread_tail xs next x rest n g2 t))

-- ---- the check

pub check_sound : (xs : List ℕ) → Bytes xs → is_sound xs ≡ true → Sound xs
check_sound xs b e =
    let (e1, e2) = both_true (header_holds xs) _ e in
    let (e3, e4) = both_true (nodes_run xs (count xs) 1 header_size) (threads xs (count xs) 0 (heads xs)) e2 in
    let h = header_sound xs e1 in
    let r = run_sound xs (count xs) 1 header_size b (omega (arith, h.high)) (omega arith) e3 in
    let t = threads_sound xs (λ i p q. let n = r.reads i p q in (n.height_some, n.height_most)) (count xs) 0 (heads xs) (length_stepped xs 0 (replicate levels 0) levels) e4 in
    sound_by xs t.rest h r.starts r.follows r.reads (record {
      within = t.within;
      full = t.full;
      ascending = t.ascending;
      chained = λ l k. rw (stepped_on xs 0 (replicate levels 0) levels (omega arith) l k) at (t.threaded l k);
    })

pub check_complete : (xs : List ℕ) → Sound xs → is_sound xs ≡ true
check_complete xs s = rw (header_complete xs s.header, run) walk
  where
    run : nodes_run xs (count xs) 1 header_size ≡ true
    run = rw (← s.begins) (run_complete xs s (count xs) 1 (omega arith) (omega arith))

    walk : threads xs (count xs) 0 (heads xs) ≡ true
    walk = rw (← lowest_full xs) (threads_complete xs (λ i p q. let n = s.reads i p q in (n.height_some, n.height_most)) (lowest xs) 0 (heads xs)
        (length_stepped xs 0 (replicate levels 0) levels) s.within s.ascending (λ z. absurd (z refl))
        (λ l k. rw (stepped_on xs 0 (replicate levels 0) levels (omega arith) l k) (s.chained l k)))

pub check_exact : (xs : List ℕ) → Bytes xs → T (is_sound xs) ↔ Sound xs
check_exact xs b = (λ t. check_sound xs b (T_true (is_sound xs) t), λ s. rw (check_complete xs s) tt)
  where
    T_true : (c : Bool) → T c → c ≡ true
    T_true true t = refl
    T_true false t = absurd t
