-- The check as code makes it: each way out of the code.
use Prim.Native.Nat.{ℕ, zero, suc, ◌+◌, ◌-◌, ◌*◌, ◌<◌, ◌≤◌}
use native.Mathlib.Omega.{arith}
use native.Mathlib.Numerals.{add-one}
use mathlib.Core.Path.{◌≡◌, refl, sym, ap, ◌∙◌}
use mathlib.Core.List.{List}
use mathlib.Core.Bool.{Bool, true, false}
use lib.ListN.{length, get_or, set, take}
use lib.Dec.{leb, eqb}
use lib.Seq.{take-length}
use borrow.Author.Tests.{le-leb, eq-eqb}
use Rattle.std.specs.Prelude.{Option, Some, None, ◌&&◌}
use Rattle.std.specs.List.{list_all}
use Rattle.std.proofs.lemmas.List.Folds.{list_all_more}
use Rattle.rule.specs.Lists.{both}
use Rattle.rule.specs.Order.{is_less}
use Rattle.rule.specs.Entries.{Entry, order}
use Rattle.image.specs.Limits.{header_size, levels}
use Rattle.image.specs.Words.{Bytes, word}
use Rattle.image.specs.Readers.{got, bad, bind}
use Rattle.image.specs.Entries.{key_in, number_in, compare_keyed, entry_in, Keyed as KeyedIs}
use Rattle.image.specs.Nodes.{count, free, slot, lead_at, Lead, Node, node_from, lead_of, height_of, entry_of, link_of}
use Rattle.image.specs.Sound.{header_holds}
use Rattle.image.specs.Meaning.{IsNode}
use Rattle.image.specs.Check.{nodes_run, all_meet, stepped, may_follow, threads, heads, is_sound}
use Rattle.image.proofs.Readers.{bad_got, got_same}
use Rattle.image.proofs.Nodes.{lead_for, node_for, lead_read_lem, node_entry, Bounds, lead_bounds}
use Rattle.image.proofs.Check.{run_sound, length_stepped, check_sound, check_complete}
use Rattle.table.specs.Entries.{keyed_of}
use Rattle.table.specs.Framed.{Framed}
use Rattle.table.specs.Nodes.{lead_is}
use Rattle.table.specs.Check.{Checked, Whole, LinksInside, StepsTo, KeyInside, LastInside, last_before}
use Rattle.table.specs.declared.tested.Frame.{Frame}
use Rattle.table.specs.declared.entries.Keyed.{Keyed}
use Rattle.table.specs.declared.nodes.Lead.{Lead as LeadCode}
use Rattle.table.proofs.NodesLaws.{framed_holds, lead_links}

-- ---- the pass over the nodes

-- in the pass: the nodes from i on are left, and node i is to start at `end`
pub record Passing (xs : List ℕ) (i end : ℕ) : Type 0 where
  pub same : nodes_run xs (count xs) 1 header_size ≡ nodes_run xs (count xs + 1 - i) i end

-- node i starts there and can be read whole
pub pass_on : (xs : List ℕ) {f : Frame} → Framed xs f → {i end : ℕ} → Passing xs i end → i < f.count + 1 → {start : ℕ} → start ≡ slot xs i → start ≡ end → {m : Node}
    → got m ≡ bind (lead_at xs (free xs) start) (node_from xs) → Passing xs (i + 1) m.end
pass_on xs framed {i} {end} p more at here g =
    let one : count xs + 1 - i ≡ suc (count xs + 1 - (i + 1)) = omega (arith, framed.count_is) in
    record { same = p.same ∙ ap (λ (k : ℕ). nodes_run xs k i end) one ∙ rw (eq-eqb (slot xs i) end (sym at ∙ here), ← at, ← g, add-one i) }

-- ---- the levels

-- the levels below h all meet x if each of the first h nodes that are to be met is x
meets : (next : List ℕ) (x h : ℕ) → h ≤ length next → list_all (λ y. eqb y x) (take h next) ≡ all_meet next x h
meets next x zero l = refl
meets next x (suc h) l =
    rw add-one at (list_all_more (λ y. eqb y x) next h 0 (omega arith)) ∙ ap (λ (b : Bool). b && eqb (get_or next h 0) x) (meets next x h (omega arith))
    ∙ turned (all_meet next x h) (eqb (get_or next h 0) x)
  where
    turned : (a b : Bool) → (a && b) ≡ both b a
    turned true true = refl
    turned true false = refl
    turned false true = refl
    turned false false = refl

-- and all levels do if each node that is to be met is x
pub all_of : (next : List ℕ) (x : ℕ) → list_all (λ y. eqb y x) next ≡ all_meet next x (length next)
all_of next x = rw take-length at (meets next x (length next) (omega arith))

-- so the first h nodes that are to be met say what the levels below h do
first_of : (next : List ℕ) (x h : ℕ) → h ≤ length next → all_meet (take h next) x (length (take h next)) ≡ all_meet next x h
first_of next x h l = sym (all_of (take h next) x) ∙ meets next x h l

-- one level more is set
pub step_on : (xs : List ℕ) (at : ℕ) (next : List ℕ) {links : List ℕ} {l : ℕ} → StepsTo xs at next l links → {k : ℕ} → k ≡ word xs (at + 4 * l) → StepsTo xs at next (l + 1) (set links l k)
unfolding link_of
step_on xs at next {links} {l} p e = record { is = λ x f. rw (add-one l, e, p.is x f, f) }

-- ---- the nodes that the pass has shown whole

module _ (xs : List ℕ) (i : ℕ) (w : Whole xs) (n : IsNode xs i) where
  lead_here : lead_of xs i ≡ got (lead_for (slot xs i) (height_of xs i) (entry_of xs i))
  lead_here = lead_read_lem xs (free xs) (slot xs i) (height_of xs i) (entry_of xs i) (w.reads i n.some n.most)

  -- its lead is read
  pub lead_never_bad : {o : ℕ} → bad o ≡ lead_of xs i → ⊥
  lead_never_bad e = bad_got (e ∙ lead_here)

  -- and has the height, the key and the number of the node, all of it in the image
  module _ {m : Lead} (g : got m ≡ lead_of xs i) where
    bounds : Bounds xs (free xs) (slot xs i) m
    bounds = lead_bounds xs (free xs) (slot xs i) m (sym g)

    entry_here : entry_in xs (node_for (slot xs i) (height_of xs i) (entry_of xs i)).parts ≡ entry_of xs i
    entry_here = node_entry xs (free xs) (slot xs i) (height_of xs i) (entry_of xs i) (omega (arith, w.header.high)) (w.reads i n.some n.most)

    lead_same : m ≡ lead_for (slot xs i) (height_of xs i) (entry_of xs i)
    lead_same = got_same (g ∙ lead_here)

    height_here : m.height ≡ height_of xs i
    height_here = ap (λ (q : Lead). q.height) lead_same

    key_here : key_in xs m.keyed ≡ (entry_of xs i).key
    key_here = rw lead_same (ap (λ (e : Entry). e.key) entry_here)

    number_here : number_in m.keyed ≡ (entry_of xs i).number
    number_here = rw lead_same (ap (λ (e : Entry). e.number) entry_here)

    pub height_most : m.height ≤ levels
    height_most = bounds.most_height

    pub links_inside : LinksInside xs (m.start + 8) m.height
    links_inside = record { most = bounds.most_height; inside = omega (arith, bounds.links_inside, bounds.start_is, w.header.high) }

    pub key_inside : m.keyed.key_at + m.keyed.key_len ≤ length xs
    key_inside = omega (arith, bounds.key_inside, bounds.end_inside, w.header.high)

-- two leads are in the order of the entries
leads_order : (xs : List ℕ) (i j : ℕ) → Whole xs → IsNode xs i → IsNode xs j → {m n : Lead} → got m ≡ lead_of xs i → got n ≡ lead_of xs j
    → compare_keyed xs m.keyed n.keyed ≡ order (entry_of xs i) (entry_of xs j)
leads_order xs i j w ni nj gi gj = rw (key_here xs i w ni gi, number_here xs i w ni gi, key_here xs j w nj gj, number_here xs j w nj gj)

-- ---- the walk along the chains

-- p is the node met last, 0 for none
abbrev pub MetIs : List ℕ → ℕ → Option Keyed → Type 0
MetIs xs p None = p ≡ 0
MetIs xs p (Some k) = IsNode xs p × ((m : Lead) × (got m ≡ lead_of xs p) × (m.keyed ≡ keyed_of k))

-- in the walk: k nodes have been met, `last` last, and each level is to meet `next`
pub record Walking (xs : List ℕ) (k : ℕ) (last : Option Keyed) (next : List ℕ) : Type 0 where
  pub node : ℕ
  pub met : MetIs xs node last
  pub wide : length next ≡ levels
  pub same : threads xs (count xs) 0 (heads xs) ≡ threads xs (count xs - k) node next

-- what is met last lies in the image
pub met_inside : (xs : List ℕ) → Whole xs → {k : ℕ} {last : Option Keyed} {next : List ℕ} → Walking xs k last next → LastInside xs last
met_inside xs w {k} {last} {next} q = go last q.met
  where
    go : (last : Option Keyed) → MetIs xs q.node last → LastInside xs last
    go None e = tt
    go (Some k) (n, (m, g, e)) = let h = key_inside xs q.node w n g in record { inside = rw e at h }

module _ (xs : List ℕ) {k : ℕ} {last : Option Keyed} {next : List ℕ} (q : Walking xs k last next)
    {n : ℕ} (all : n ≡ count xs) (more : k < n) {x : ℕ} (first : x ≡ get_or next 0 0) (some : 1 ≤ x) (most : x ≤ n) (w : Whole xs) where
  -- the nodes that are left after this one
  abbrev rest : ℕ
  rest = count xs - (k + 1)

  this_walk : threads xs (count xs) 0 (heads xs) ≡ both (both (leb 1 x) (leb x n))
      (both (both (all_meet next x (height_of xs x)) (may_follow xs q.node x)) (threads xs rest x (stepped xs x next (height_of xs x))))
  this_walk = let one : count xs - k ≡ suc rest = omega arith in q.same ∙ ap (λ (j : ℕ). threads xs j q.node next) one ∙ rw (first, all)

  pub is_node : IsNode xs x
  is_node = record { some = some; most = omega arith }

  module _ (m : LeadCode) (lead : got (lead_is m) ≡ lead_of xs x) where
    pub key_inside_here : KeyInside xs m.keyed
    key_inside_here = record { inside = key_inside xs x w is_node lead }

    high : m.height ≡ height_of xs x
    high = height_here xs x w is_node lead

    -- what the code compares is what the definition does
    may : last_before xs last m.keyed ≡ may_follow xs q.node x
    may = go last q.node q.met
      where
        go : (last : Option Keyed) (p : ℕ) → MetIs xs p last → last_before xs last m.keyed ≡ may_follow xs p x
        go None p e = rw e
        go (Some a) zero (k, g) = absurd (omega (arith, k.some))
        go (Some a) (suc p) (k, (b, g, e)) =
            ap (λ (c : KeyedIs). is_less (compare_keyed xs c (keyed_of m.keyed))) (sym e) ∙ ap is_less (leads_order xs (suc p) x w k is_node g lead)

    module _ {b : Bool} (meet : b ≡ all_meet (take m.height next) (get_or next 0 0) (length (take m.height next))) where
      meets_all : {t : Bool} → b ≡ t → all_meet next x (height_of xs x) ≡ t
      meets_all e =
          let low : m.height ≤ length next = omega (arith, height_most xs x w is_node lead, q.wide) in
          rw (← high, first) (sym (first_of next (get_or next 0 0) m.height low) ∙ sym meet ∙ e)

      pub walk_misses : b ≡ false → false ≡ threads xs (count xs) 0 (heads xs)
      walk_misses e = rw (this_walk, le-leb 1 x some, le-leb x n most, meets_all e)

      module _ (met : b ≡ true) {d : Bool} (follows : d ≡ last_before xs last m.keyed) where
        pub walk_disordered : d ≡ false → false ≡ threads xs (count xs) 0 (heads xs)
        walk_disordered e = rw (this_walk, le-leb 1 x some, le-leb x n most, meets_all met, ← may, ← follows, e)

        pub walk_on : d ≡ true → {links : List ℕ} → StepsTo xs (m.start + 8) next m.height links → Walking xs (k + 1) (Some m.keyed) links
        walk_on e {links} f = let z : links ≡ stepped xs x next (height_of xs x) = f.is x (sym (lead_links xs x some lead)) ∙ ap (stepped xs x next) high in record {
          node = x;
          met = (is_node, (lead_is m, lead, refl));
          wide = rw z (length_stepped xs x next (height_of xs x) ∙ q.wide);
          same = rw (this_walk, le-leb 1 x some, le-leb x n most, meets_all met, ← may, ← follows, e, ← z);
        }

-- ---- the check

module _ (xs : List ℕ) (b : Bytes xs) where
  -- an answer that is the test's is yes exactly if the image is sound
  checked : {yes : Bool} → yes ≡ is_sound xs → Checked xs yes
  checked e = record { exact = e; rule = (λ y. check_sound xs b (sym e ∙ y), λ s. e ∙ check_complete xs s) }

  pub bad_header : header_holds xs ≡ false → Checked xs false
  bad_header e = checked (rw e)

  module _ {f : Frame} (framed : Framed xs f) {n : Bool} (nodes : n ≡ nodes_run xs (count xs) 1 header_size) where
    pub bad_nodes : n ≡ false → Checked xs n
    bad_nodes e = checked (rw (framed_holds xs framed, ← nodes, e))

    module _ (run : n ≡ true) where
      pub whole_nodes : Whole xs
      whole_nodes = record { header = framed.header; reads = (run_sound xs (count xs) 1 header_size b (omega (arith, framed.header.high)) (omega arith) (sym nodes ∙ run)).reads }

      pub chains_decide : {yes : Bool} → yes ≡ threads xs (count xs) 0 (heads xs) → Checked xs yes
      chains_decide e = checked (rw (framed_holds xs framed, ← nodes, run, e))
