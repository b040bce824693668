-- The addition: on a sound image it refuses what is held already, and else appends exactly this entry; on any image it changes only what it names.
use Prim.Native.Nat.{ℕ, suc, ◌+◌, ◌-◌, ◌*◌, ◌<◌, ◌≤◌}
use native.Mathlib.Omega.{arith}
use mathlib.Core.Path.{◌≡◌, refl, sym, ap, ◌∙◌}
use mathlib.Core.Logic.{◌⊎◌, inl, inr, ⊎_elim}
use mathlib.Core.List.Memᴰ
use mathlib.Core.List.{List, ◌++◌, Memᴰ}
use mathlib.Core.Bool.{Bool, true, false, true≢false}
use lib.ListN.{length, get_or}
use lib.Dec.{ltb, leb}
use borrow.Author.Tests.{ltb-true, leb-true, le-leb}
use Rattle.rule.specs.Lists.{both, All}
use Rattle.rule.specs.Order.{Ord, equal}
use Rattle.rule.specs.Entries.{Entry, Duplicates}
use Rattle.rule.proofs.Lists.{both_true}
use Rattle.rule.proofs.Order.{entries, equal_true}
use Rattle.image.specs.Limits.{max_key, max_value, max_number, max_nodes, levels, header_size}
use Rattle.image.specs.Words.{Bytes}
use Rattle.image.specs.Readers.{Read, got}
use Rattle.image.specs.Entries.{Legal, encode}
use Rattle.image.specs.Nodes.{count, free, slot, entry_of, links_at, link_place, link_of}
use Rattle.image.specs.Sound.{Sound, Header, header_holds}
use Rattle.image.specs.Search.{to_stop, turn_by, Found, hit, ends, searched}
use Rattle.image.specs.Refusals.{bad_image, bad_kind, bad_number, long_key, long_value, bad_height, no_room, damaged, refused, given, reading}
use Rattle.image.specs.Add.{with_entry, Grown, has_room, placed, add}
use Rattle.image.specs.Added.{HasDuplicate, Added, Outcome, held_already, lacks_room, accepted, HasLink, in_header, in_node, in_slot, in_link, Confined}
use Rattle.image.proofs.Refusals.{refused_given, demand_given, demand_damaged, reading_given}
use Rattle.image.proofs.Entries.{encode_bytes}
use Rattle.image.proofs.Nodes.{links_node, lead_bounds}
use Rattle.image.proofs.Probe.{probe}
use Rattle.image.proofs.Sound.{header_sound, header_complete, everywhere}
use Rattle.image.proofs.Search.{is_onward, is_halt, searched_good, pass_test, stop_test, stop_pass, stop_stop, Searched, search_sound}
use Rattle.image.proofs.Write.{written_length, written_kept, written_bytes}
use Rattle.image.proofs.Held.{held_has, held_from_lem}
use Rattle.image.proofs.Grow.{Room, entry_added}

-- arguments that pass every test before the search
pub record Allowed (e : Entry) (h : ℕ) : Type 0 where
  pub legal : Legal e
  pub low : 1 ≤ h
  pub high : h ≤ levels

pub room_for : (xs : List ℕ) (e : Entry) (h : ℕ) → Allowed e h → has_room xs e h ≡ true → Room xs e h
room_for xs e h a r = let (m, s) = both_true (ltb (count xs) max_nodes) _ r in record {
  low = a.low;
  high = a.high;
  legal = a.legal;
  more = ltb-true (count xs) max_nodes m;
  space = leb-true (12 + 4 * h + length (encode e)) (length xs - 4 * count xs - free xs) s;
}

-- with a good header and such arguments the search decides
pub add_searches : (xs : List ℕ) (e : Entry) (h : ℕ) → Header xs → Allowed e h → add xs e h ≡ reading (searched xs to_stop e.key e.number) (placed xs e h)
unfolding add
add_searches xs e h head a =
    rw (
      header_complete xs head,
      le-leb e.kind 1 a.legal.kind_known,
      le-leb e.number max_number a.legal.number_low,
      le-leb (length e.key) max_key a.legal.key_short,
      le-leb (length e.value) max_value a.legal.value_short,
      le-leb 1 h a.low,
      le-leb h levels a.high,
    )

-- and an addition that is accepted had them
pub record Accepted (xs : List ℕ) (e : Entry) (h : ℕ) (g : Grown) : Type 0 where
  pub header : Header xs
  pub room : Room xs e h
  pub recorded : List ℕ
  pub found : (p : ℕ) × (x : ℕ) × (looks : ℕ) × (searched xs to_stop e.key e.number ≡ got (ends p x looks recorded))
  pub node_is : g.node ≡ suc (count xs)
  pub image_is : g.image ≡ with_entry xs e h recorded

pub add_accepted : (xs : List ℕ) (e : Entry) (h : ℕ) (g : Grown) → add xs e h ≡ given g → Accepted xs e h g
unfolding add
add_accepted xs e h g a =
    let (c1, a1) = demand_given (header_holds xs) bad_image _ g a in
    let (c2, a2) = demand_given (leb e.kind 1) bad_kind _ g a1 in
    let (c3, a3) = demand_given (leb e.number max_number) bad_number _ g a2 in
    let (c4, a4) = demand_given (leb (length e.key) max_key) long_key _ g a3 in
    let (c5, a5) = demand_given (leb (length e.value) max_value) long_value _ g a4 in
    let (c6, a6) = demand_given (both (leb 1 h) (leb h levels)) bad_height _ g a5 in
    let (c7, c8) = both_true (leb 1 h) (leb h levels) c6 in
    let (r, f, a7) = reading_given (searched xs to_stop e.key e.number) (placed xs e h) g a6 in
    go (header_sound xs c1) (record {
      legal =
          record {
            key_short = leb-true (length e.key) max_key c4;
            value_short = leb-true (length e.value) max_value c5;
            number_low = leb-true e.number max_number
                c3;
            kind_known = leb-true e.kind 1 c2;
          };
      low = leb-true 1 h c7;
      high = leb-true h levels c8;
    }) r f a7
  where
    same : (x y : Grown) → given x ≡ given y → x ≡ y
    same x y q = cc

    go : Header xs → Allowed e h → (r : Found) → searched xs to_stop e.key e.number ≡ got r → placed xs e h r ≡ given g → Accepted xs e h g
    go head ok (hit x looks) f b = absurd (refused_given b)
    go head ok (ends p x looks prev) f b =
        let (c, d) = demand_given (has_room xs e h) no_room _ g b in
        let q = same _ g d in
        record { header = head; room = room_for xs e h ok c; recorded = prev; found = (p, x, looks, f); node_is = sym (ap (λ (y : Grown). y.node) q); image_is = sym (ap (λ (y : Grown). y.image) q) }

-- ---- on a sound image

module _ (xs : List ℕ) (s : Sound xs) (e : Entry) (h : ℕ) where
  -- the entry is there already, room or not
  pub record IsDuplicate : Type 0 where
    pub node : ℕ
    pub some : 1 ≤ node
    pub most : node ≤ count xs
    pub same : Duplicates (entry_of xs node) e
    pub looks : ℕ
    pub found : searched xs to_stop e.key e.number ≡ got (hit node looks)

  -- it is nowhere, and with room it is added behind the nodes that the search recorded
  pub record IsNew : Type 0 where
    pub before : ℕ
    pub after : ℕ
    pub looks : ℕ
    pub recorded : List ℕ
    pub found : searched xs to_stop e.key e.number ≡ got (ends before after looks recorded)
    pub nowhere : (x : ℕ) → 1 ≤ x → x ≤ count xs → Duplicates (entry_of xs x) e → ⊥
    pub added : Room xs e h → Added xs e h (with_entry xs e h recorded)

  pub search_decides : IsDuplicate ⊎ IsNew
  search_decides = go (search_sound xs s to_stop e.key e.number) (search_sound xs s to_stop e.key e.number).found refl
    where
      k : List ℕ
      k = e.key

      n : ℕ
      n = e.number

      equal_node : (x : ℕ) → stop_test xs to_stop k n x ≡ true → Duplicates (entry_of xs x) e
      equal_node x f =
          let z = entries.eq ((entry_of xs x).key, (entry_of xs x).number) (k, n) (equal_true (probe (entry_of xs) k n x) (sym (stop_stop xs k n x) ∙ f)) in
          (ap (λ (t : List ℕ × ℕ). t.0) z, ap (λ (t : List ℕ × ℕ). t.1) z)

      node_equal : (x : ℕ) → Duplicates (entry_of xs x) e → probe (entry_of xs) k n x ≡ equal
      node_equal x d = rw (d.0, d.1) (entries.same (k, n))

      unequal : (pre post : List ℕ) → All (λ x. pass_test xs to_stop k n x ≡ true) pre → All (λ x. stop_test xs to_stop k n x ≡ false) post
          → (x : ℕ) → Memᴰ x (pre ++ post) → Duplicates (entry_of xs x) e → ⊥
      unequal pre post p q x m d = ⊎_elim (λ i. true≢false (sym (p x i) ∙ ap (λ (o : Ord). is_onward (turn_by to_stop o)) (node_equal x d)))
          (λ i. true≢false (ap (λ (o : Ord). is_halt (turn_by to_stop o)) (sym (node_equal x d)) ∙ q x i)) (Memᴰ.append_cases pre m)

      go : (q : Searched xs s to_stop k n) (r : Found) → q.found ≡ r → IsDuplicate ⊎ IsNew
      go q (hit x looks) f = let (m, t) = q.hits x looks f in let w = s.within x (rw q.split (Memᴰ.append_right q.before m)) in
          inl (record { node = x; some = w.0; most = w.1; same = equal_node x t; looks = looks; found = q.search ∙ ap {B = Read Found} got f })
      go q (ends u x looks prev) f = let m = q.misses u x looks prev f in inr (record {
        before = u;
        after = x;
        looks = looks;
        recorded = prev;
        found = q.search ∙ ap {B = Read Found} got f;
        nowhere = λ y a b d. unequal q.before q.behind q.passes m.nothing y (rw q.split at (everywhere xs s y a b)) d;
        added = λ room. entry_added xs s e h room prev q.before q.behind q.split (λ l i. m.recorded l (omega (arith, room.high)))
            (λ y i. sym (stop_pass xs k n y) ∙ q.passes y i) (λ y i. sym (stop_pass xs k n y) ∙ q.refuses y i) (λ y i. sym (stop_stop xs k n y) ∙ m.nothing y i);
      })

  -- what an accepted addition comes to
  pub add_added : (g : Grown) → add xs e h ≡ given g → (g.node ≡ suc (count xs)) × Added xs e h g.image
  add_added g a = go (add_accepted xs e h g a) search_decides
    where
      go : Accepted xs e h g → IsDuplicate ⊎ IsNew → (g.node ≡ suc (count xs)) × Added xs e h g.image
      go c (inl d) = let (p, x, l, f) = c.found in absurd (let z : ◌≡◌ {A = ℕ} 0 1 = cc (f, d.found) in omega arith)
      go c (inr d) = let (p, x, l, f) = c.found in let q : c.recorded ≡ d.recorded = cc (f, d.found) in (c.node_is, rw (c.image_is, q) (d.added c.room))

  -- a duplicate among the nodes is one among the entries held
  node_duplicate : (x : ℕ) → 1 ≤ x → x ≤ count xs → Duplicates (entry_of xs x) e → HasDuplicate xs e
  node_duplicate x p q d = (entry_of xs x, held_has xs (count xs) x p q, d)

  duplicate_node : HasDuplicate xs e → (x : ℕ) × (1 ≤ x) × (x ≤ count xs) × Duplicates (entry_of xs x) e
  duplicate_node (d, m, (k, n)) = let (x, p, q, f) = held_from_lem xs (count xs) d m in (x, p, q, (ap (λ (c : Entry). c.key) f ∙ k, ap (λ (c : Entry). c.number) f ∙ n))

  -- with legal arguments there are three outcomes
  pub add_decides : Allowed e h → Outcome xs e h (add xs e h)
  add_decides ok = go search_decides
    where
      after : (r : Found) → searched xs to_stop e.key e.number ≡ got r → add xs e h ≡ placed xs e h r
      after r f = add_searches xs e h s.header ok ∙ ap (λ (t : Read Found). reading t (placed xs e h)) f

      new : (c : IsNew) → (HasDuplicate xs e → ⊥) → (b : Bool) → has_room xs e h ≡ b → Outcome xs e h (add xs e h)
      new c n true r = rw (after (ends c.before c.after c.looks c.recorded) c.found, r) (accepted n r (c.added (room_for xs e h ok r)))
      new c n false r = rw (after (ends c.before c.after c.looks c.recorded) c.found, r) (lacks_room n r)

      go : IsDuplicate ⊎ IsNew → Outcome xs e h (add xs e h)
      go (inl c) = rw (after (hit c.node c.looks) c.found) (held_already (node_duplicate c.node c.some c.most c.same))
      go (inr c) = new c (λ d. let (x, p, q, f) = duplicate_node d in c.nowhere x p q f) (has_room xs e h) refl

  -- and damage is never met
  pub add_undamaged : add xs e h ≡ refused damaged → ⊥
  unfolding add
  add_undamaged a = go search_decides
    where
      other : (r : Found) → placed xs e h r ≡ refused damaged → ⊥
      other (hit x looks) f = let z : ◌≡◌ {A = ℕ} 0 1 = cc in omega arith
      other (ends p x looks prev) f = refused_given (sym (demand_damaged (has_room xs e h) no_room _ (λ z. omega arith) f))

      searches : (r : Found) → searched xs to_stop e.key e.number ≡ got r → ⊥
      searches r f =
          let a1 = demand_damaged (header_holds xs) bad_image _ (λ z. omega arith) a in
          let a2 = demand_damaged (leb e.kind 1) bad_kind _ (λ z. omega arith) a1 in
          let a3 = demand_damaged (leb e.number max_number) bad_number _ (λ z. omega arith) a2 in
          let a4 = demand_damaged (leb (length e.key) max_key) long_key _ (λ z. omega arith) a3 in
          let a5 = demand_damaged (leb (length e.value) max_value) long_value _ (λ z. omega arith) a4 in
          let a6 = demand_damaged (both (leb 1 h) (leb h levels)) bad_height _ (λ z. omega arith) a5 in
          other r (rw f at a6)

      go : IsDuplicate ⊎ IsNew → ⊥
      go (inl c) = searches (hit c.node c.looks) c.found
      go (inr c) = searches (ends c.before c.after c.looks c.recorded) c.found

-- ---- on any image

-- a link that a search recorded stands behind the fixed part of the header and before the first free byte
pub good_place : (xs : List ℕ) → header_size ≤ free xs → (x l : ℕ) → l < levels → HasLink xs x l → (16 ≤ link_place xs x l) × (link_place xs x l + 4 ≤ free xs)
good_place xs low x l b (inl e) = (omega (arith, ap (links_at xs) e), omega (arith, ap (links_at xs) e))
good_place xs low x l b (inr (p, q, (m, g, c))) = let d = lead_bounds xs (free xs) (slot xs x) m g in let f = links_node xs x p in (omega arith, omega arith)

-- only n, F, the new node, its slot and at most h links change
pub add_confined : (xs : List ℕ) (e : Entry) (h : ℕ) (g : Grown) → add xs e h ≡ given g → Confined xs e h g.image
add_confined xs e h g a = go (add_accepted xs e h g a)
  where
    go : Accepted xs e h g → Confined xs e h g.image
    go c = let (p, x, k, f) = c.found in let room = c.room in let high = room.high in rw c.image_is (record {
      leader = λ l. get_or c.recorded l 0;
      leads = λ l k. searched_good xs to_stop e.key e.number (ends p x _ c.recorded) f l (omega arith);
      length_same = written_length xs (count xs) (free xs) h e _ _;
      kept = λ q n. written_kept xs (count xs) (free xs) h e _ _ q (omega (arith, room.space)) (λ a b. n (in_header (a, b))) (λ a b. n (in_node (a, b)))
          (λ a b. n (in_slot (a, omega (arith, room.space)))) (λ l k a b. n (in_link l k (a, b)));
    })

-- a refusal changes nothing
pub unchanged_confined : (xs : List ℕ) (e : Entry) (h : ℕ) → Confined xs e h xs
unchanged_confined xs e h = record { leader = λ l. 0; leads = λ l k. inl refl; length_same = refl; kept = λ q n. refl }

-- bytes stay bytes
pub add_bytes : (xs : List ℕ) (e : Entry) (h : ℕ) (g : Grown) → Bytes e.key → Bytes e.value → Bytes xs → add xs e h ≡ given g → Bytes g.image
add_bytes xs e h g k v b a = go (add_accepted xs e h g a)
  where
    go : Accepted xs e h g → Bytes g.image
    go c =
        let prev = c.recorded in
        rw c.image_is (written_bytes xs (count xs) (free xs) h e (λ l. link_of xs (get_or prev l 0) l) (λ l. link_place xs (get_or prev l 0) l) (encode_bytes e c.room.legal k v) b)
