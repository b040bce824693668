-- Laws of nodes: one that stands there is read, what is read stands there, and what keeps it.
use Prim.Native.Nat.{ℕ, zero, suc, ◌+◌, ◌≤◌}
use native.Mathlib.Omega.{arith}
use mathlib.Core.Path.{◌≡◌, refl, sym, ap, subst, ◌∙◌}
use mathlib.Core.List.{List}
use lib.ListN.{length}
use lib.Dec.{leb}
use borrow.Author.Tests.{leb-true, le-leb}
use Rattle.rule.specs.Lists.{both}
use Rattle.rule.specs.Entries.{Entry}
use Rattle.rule.proofs.Lists.{both_true}
use Rattle.image.specs.Limits.{header_size, levels}
use Rattle.image.specs.Words.{Bytes, Same, word}
use Rattle.image.specs.Readers.{got, bind}
use Rattle.image.specs.Entries.{encode, Keyed, Parts, keyed_at, rest_at, entry_in}
use Rattle.image.specs.Nodes.{free, slot, slot_place, entry_place, size_of, Lead, lead_at, Node, node_from, entry_from, height_of, entry_of, links_at, NodeHere, NodeIs}
use Rattle.image.proofs.Words.{word_same, holds_same}
use Rattle.image.proofs.Readers.{got_same, bind_got, check_got}
use Rattle.image.proofs.Entries.{keyed_of, parts_of, keyed_read_lem, rest_read, parts_entry, Fills, parts_sound, keyed_inside, rest_inside, keyed_behind, rest_behind}

-- how a node of height h with the entry e at o is read
abbrev pub lead_for : ℕ → ℕ → Entry → Lead
lead_for o h e = record { start = o; height = h; keyed = keyed_of (entry_place o h) e; end = entry_place o h + length (encode e) }

abbrev pub node_for : ℕ → ℕ → Entry → Node
node_for o h e = record { start = o; height = h; parts = parts_of (entry_place o h) e; end = entry_place o h + length (encode e) }

-- a node that stands there is read
pub lead_read_lem : (xs : List ℕ) (limit o h : ℕ) (e : Entry) → NodeHere xs limit o h e → lead_at xs limit o ≡ got (lead_for o h e)
unfolding lead_at
lead_read_lem xs limit o h e n = go (length (encode e)) refl
  where
    go : (len : ℕ) → length (encode e) ≡ len → lead_at xs limit o ≡ got (lead_for o h e)
    go len f = rw (
      n.height_here,
      n.length_here,
      f,
      le-leb header_size o n.after_header,
      le-leb (o + 8) limit (omega (arith, n.inside)),
      le-leb 1 h n.height_some,
      le-leb h levels n.height_most,
      le-leb (entry_place o h + len) limit (omega (arith, n.inside)),
      keyed_read_lem xs (entry_place o h) (entry_place o h + len) e n.legal n.entry_here (ap (λ (k : ℕ). entry_place o h + k) (sym f)),
    )

pub node_read_lem : (xs : List ℕ) (limit o h : ℕ) (e : Entry) → NodeHere xs limit o h e → bind (lead_at xs limit o) (node_from xs) ≡ got (node_for o h e)
node_read_lem xs limit o h e n = rw (lead_read_lem xs limit o h e n, rest_read xs (entry_place o h) (entry_place o h + length (encode e)) e n.legal n.entry_here refl)

pub node_entry : (xs : List ℕ) (limit o h : ℕ) (e : Entry) → limit ≤ length xs → NodeHere xs limit o h e → entry_in xs (node_for o h e).parts ≡ e
node_entry xs limit o h e le n = parts_entry xs (entry_place o h) e n.legal n.entry_here (omega (arith, n.inside))

-- the steps of a reading
pub record LeadSteps (xs : List ℕ) (limit o : ℕ) (m : Lead) : Type 0 where
  pub behind : header_size ≤ o
  pub some_height : 1 ≤ word xs o
  pub most_height : word xs o ≤ levels
  pub before_limit : entry_place o (word xs o) + word xs (o + 4) ≤ limit
  pub keyed : Keyed
  pub read : keyed_at xs (entry_place o (word xs o)) (entry_place o (word xs o) + word xs (o + 4)) ≡ got keyed
  pub is : ◌≡◌ {A = Lead} (record { start = o; height = word xs o; keyed = keyed; end = entry_place o (word xs o) + word xs (o + 4) }) m

pub lead_steps : (xs : List ℕ) (limit o : ℕ) (m : Lead) → lead_at xs limit o ≡ got m → LeadSteps xs limit o m
unfolding lead_at
lead_steps xs limit o m g =
    let (c1, g1) = check_got (both (leb header_size o) (leb (o + 8) limit)) o _ m g in
    let (c2, c3) = both_true (leb header_size o) (leb (o + 8) limit) c1 in
    let (c4, g2) = check_got (both (leb 1 (word xs o)) (leb (word xs o) levels)) o _ m g1 in
    let (c5, c6) = both_true (leb 1 (word xs o)) (leb (word xs o) levels) c4 in
    let (c7, g3) = check_got (leb (entry_place o (word xs o) + word xs (o + 4)) limit) o _ m g2 in
    let (k, gk, g4) = bind_got (keyed_at xs (entry_place o (word xs o)) (entry_place o (word xs o) + word xs (o + 4))) _ m g3 in
    record {
      behind = leb-true header_size o c2;
      some_height = leb-true 1 (word xs o) c5;
      most_height = leb-true (word xs o) levels c6;
      before_limit = leb-true (entry_place o (word xs o) + word xs (o + 4)) limit c7;
      keyed = k;
      read = gk;
      is = got_same g4;
    }

pub record NodeSteps (xs : List ℕ) (m : Lead) (n : Node) : Type 0 where
  pub parts : Parts
  pub read : rest_at xs m.end m.keyed ≡ got parts
  pub is : ◌≡◌ {A = Node} (record { start = m.start; height = m.height; parts = parts; end = m.end }) n

pub node_steps : (xs : List ℕ) (m : Lead) (n : Node) → node_from xs m ≡ got n → NodeSteps xs m n
node_steps xs m n g = let (p, gp, g1) = bind_got (rest_at xs m.end m.keyed) _ n g in record { parts = p; read = gp; is = got_same g1 }

-- and what is read stands there
pub node_sound : (xs : List ℕ) (limit o : ℕ) (n : Node) → Bytes xs → limit ≤ length xs → bind (lead_at xs limit o) (node_from xs) ≡ got n
    → NodeHere xs limit o n.height (entry_in xs n.parts) × (n.end ≡ o + size_of n.height (entry_in xs n.parts))
node_sound xs limit o n b le g = let (m, gm, gn) = bind_got (lead_at xs limit o) (node_from xs) n g in go m (lead_steps xs limit o m gm) (node_steps xs m n gn)
  where
    h : ℕ
    h = word xs o

    end : ℕ
    end = entry_place o (word xs o) + word xs (o + 4)

    whole : header_size ≤ o → 1 ≤ h → h ≤ levels → end ≤ limit → (p : Parts) → Fills xs (entry_place o h) end (entry_in xs p) → NodeHere xs limit o h (entry_in xs p) × (end ≡ o + size_of h (entry_in xs p))
    whole a h1 h2 low p f = (
      record {
        after_header = a;
        height_here = refl;
        length_here = omega (arith, f.full);
        height_some = h1;
        height_most = h2;
        legal = f.legal;
        entry_here = f.holds;
        inside = omega (arith, f.full);
      },
      omega (arith, f.full),
    )

    go : (m : Lead) → LeadSteps xs limit o m → NodeSteps xs m n → NodeHere xs limit o n.height (entry_in xs n.parts) × (n.end ≡ o + size_of n.height (entry_in xs n.parts))
    go m s t =
        let k : s.keyed ≡ m.keyed = ap (λ (q : Lead). q.keyed) s.is in
        let e : end ≡ m.end = ap (λ (q : Lead). q.end) s.is in
        let hm : h ≡ m.height = ap (λ (q : Lead). q.height) s.is in
        let low = s.before_limit in
        let f : Fills xs (entry_place o h) end (entry_in xs t.parts) = parts_sound xs (entry_place o h) end s.keyed t.parts b (omega arith) s.read (rw (k, e) t.read) in
        subst (λ (q : Node). NodeHere xs limit o q.height (entry_in xs q.parts) × (q.end ≡ o + size_of q.height (entry_in xs q.parts))) t.is
        (rw (← hm, ← e) (whole s.behind s.some_height s.most_height s.before_limit t.parts f))

-- on any list: a node that is read starts behind the header, and its links and its parts lie before the limit
pub record Bounds (xs : List ℕ) (limit o : ℕ) (m : Lead) : Type 0 where
  pub start_is : m.start ≡ o
  pub height_is_word : m.height ≡ word xs o
  pub behind : header_size ≤ o
  pub some_height : 1 ≤ m.height
  pub most_height : m.height ≤ levels
  pub links_inside : entry_place o m.height ≤ limit
  pub end_inside : m.end ≤ limit
  pub key_inside : m.keyed.key_at + m.keyed.key_len + 8 ≤ m.end
  pub rest_is : m.keyed.rest ≡ m.keyed.key_at + m.keyed.key_len + 8

pub lead_bounds : (xs : List ℕ) (limit o : ℕ) (m : Lead) → lead_at xs limit o ≡ got m → Bounds xs limit o m
lead_bounds xs limit o m g = go (lead_steps xs limit o m g)
  where
    go : LeadSteps xs limit o m → Bounds xs limit o m
    go s =
        let h : word xs o ≡ m.height = ap (λ (q : Lead). q.height) s.is in
        let e : entry_place o (word xs o) + word xs (o + 4) ≡ m.end = ap (λ (q : Lead). q.end) s.is in
        let (a, r) = keyed_inside xs (entry_place o (word xs o)) (entry_place o (word xs o) + word xs (o + 4)) s.keyed s.read in
        record {
          start_is = sym (ap (λ (q : Lead). q.start) s.is);
          height_is_word = sym h;
          behind = s.behind;
          some_height = omega (arith, s.some_height);
          most_height = omega (arith, s.most_height);
          links_inside = omega (arith, s.before_limit);
          end_inside = omega (arith, s.before_limit);
          key_inside = rw (← s.is) a;
          rest_is = rw (← s.is) r;
        }

-- and so do the parts of a whole node
pub node_inside : (xs : List ℕ) (limit o : ℕ) (n : Node) → bind (lead_at xs limit o) (node_from xs) ≡ got n
    → (n.parts.keyed.key_at + n.parts.keyed.key_len ≤ limit) × (n.parts.value_at + n.parts.value_len ≤ limit)
node_inside xs limit o n g = let (m, gm, gn) = bind_got (lead_at xs limit o) (node_from xs) n g in go m (lead_bounds xs limit o m gm) (node_steps xs m n gn)
  where
    go : (m : Lead) → Bounds xs limit o m → NodeSteps xs m n → (n.parts.keyed.key_at + n.parts.keyed.key_len ≤ limit) × (n.parts.value_at + n.parts.value_len ≤ limit)
    go m b s = let (k, v) = rest_inside xs m.end m.keyed s.parts s.read in let high = b.end_inside in
        (rw (← s.is, k) (omega (arith, b.key_inside)), rw (← s.is) (omega arith))

-- its value stands behind the header
pub value_behind : (xs : List ℕ) (limit o : ℕ) (n : Node) → bind (lead_at xs limit o) (node_from xs) ≡ got n → header_size ≤ n.parts.value_at
value_behind xs limit o n g = let (m, gm, gn) = bind_got (lead_at xs limit o) (node_from xs) n g in go m (lead_steps xs limit o m gm) (lead_bounds xs limit o m gm) (node_steps xs m n gn)
  where
    go : (m : Lead) → LeadSteps xs limit o m → Bounds xs limit o m → NodeSteps xs m n → header_size ≤ n.parts.value_at
    go m s b t =
        let k : s.keyed ≡ m.keyed = ap (λ (q : Lead). q.keyed) s.is in
        let at : entry_place o (word xs o) ≤ m.keyed.key_at = rw (← k) (keyed_behind xs (entry_place o (word xs o)) (entry_place o (word xs o) + word xs (o + 4)) s.keyed s.read) in
        let rest = rest_behind xs m.end m.keyed t.parts t.read in
        rw (← t.is) (omega (arith, b.behind, b.rest_is, at, rest))

-- a node is kept where its height, its length and its entry are
pub node_same : (xs ys : List ℕ) (limit limit' o h : ℕ) (e : Entry) → limit ≤ limit' → Same xs ys o (o + 8) → Same xs ys (entry_place o h) (o + size_of h e)
    → NodeHere xs limit o h e → NodeHere ys limit' o h e
node_same xs ys limit limit' o h e le s t n = record {
  after_header = n.after_header;
  height_here = sym (word_same xs ys o (λ i p q. s i p (omega arith))) ∙ n.height_here;
  length_here = sym (word_same xs ys (o + 4) (λ i p q. s i (omega arith) (omega arith))) ∙ n.length_here;
  height_some = n.height_some;
  height_most = n.height_most;
  legal = n.legal;
  entry_here = holds_same xs ys (entry_place o h) (encode e) (λ i p q. t i p (omega arith)) n.entry_here;
  inside = omega (arith, n.inside);
}

-- ---- nodes by their numbers

-- the links of a node stand behind its length
pub links_node : (xs : List ℕ) (i : ℕ) → 1 ≤ i → links_at xs i ≡ slot xs i + 8
links_node xs zero h = absurd (omega arith)
links_node xs (suc i) h = refl

pub height_is : (xs : List ℕ) (i h : ℕ) (e : Entry) → NodeIs xs i h e → height_of xs i ≡ h
unfolding height_of
height_is xs i h e n = n.height_here

pub entry_is : (xs : List ℕ) (i h : ℕ) (e : Entry) → free xs ≤ length xs → NodeIs xs i h e → entry_of xs i ≡ e
unfolding entry_of
entry_is xs i h e le n = ap (entry_from xs) (node_read_lem xs (free xs) (slot xs i) h e n) ∙ node_entry xs (free xs) (slot xs i) h e le n

-- a write keeps node i if it keeps its slot, its height, its length and its entry
pub node_kept : (xs ys : List ℕ) (i h : ℕ) (e : Entry) → length ys ≡ length xs → free xs ≤ free ys → Same xs ys (slot_place xs i) (slot_place xs i + 4) → Same xs ys (slot xs i) (slot xs i + 8)
    → Same xs ys (entry_place (slot xs i) h) (slot xs i + size_of h e) → NodeIs xs i h e → (slot ys i ≡ slot xs i) × NodeIs ys i h e
node_kept xs ys i h e len le a b c n = (same, rw same (node_same xs ys (free xs) (free ys) (slot xs i) h e le b c n))
  where
    same : slot ys i ≡ slot xs i
    same = rw len (sym (word_same xs ys (slot_place xs i) a))
