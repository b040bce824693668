-- Header and nodes as code reads them: each way out of the code.
use Rattle.std.proofs.Common.{ℕ, ◌+◌, ◌<◌, ◌≤◌, ◌≡◌, refl, sym, ap, ◌∙◌, arith, inl, inr, List, Bool, true, false, length, Option, Some, None, is_some, le-leb}
use Rattle.std.proofs.lemmas.Bool.{lt-leb}
use Rattle.image.specs.Limits.{header_size, levels}
use Rattle.image.specs.Words.{word}
use Rattle.image.specs.Readers.{got, bad}
use Rattle.image.specs.Entries.{Keyed, keyed_at, rest_at}
use Rattle.image.specs.Nodes.{free, slot, entry_place, Lead, lead_at, lead_of, Node, node_from, node_at, links_at, link_place}
use Rattle.image.specs.Sound.{Header, header_holds}
use Rattle.image.proofs.Readers.{got_same, bind_got}
use Rattle.image.proofs.Nodes.{lead_bounds, links_node}
use Rattle.image.proofs.Sound.{header_sound, header_complete}
use Rattle.image.specs.Added.{HasLink}
use Rattle.table.specs.Framed.{Framed}
use Rattle.table.specs.Nodes.{Opens}
use Rattle.table.specs.declared.tested.Frame.{Frame}
use Rattle.table.specs.declared.tested.Table.{Table}

-- ---- the header

-- a test of the header that fails
pub header_fails : (xs : List ℕ) → (Header xs → ⊥) → header_holds xs ≡ false
header_fails xs n = go (header_holds xs) refl
  where
    go : (t : Bool) → header_holds xs ≡ t → t ≡ false
    go true e = absurd (n (header_sound xs e))
    go false e = refl

-- a header that was read holds
pub framed_holds : (xs : List ℕ) {f : Frame} → Framed xs f → header_holds xs ≡ true
framed_holds xs f = header_complete xs f.header

-- a table is opened exactly if the header holds
pub opened_holds : (xs : List ℕ) (t : Option Table) → Opens xs t → is_some t ≡ header_holds xs
opened_holds xs (Some t) e = sym (framed_holds xs (rw e at t.framed))
opened_holds xs None e = sym e

-- ---- the lead of a node

module _ (xs : List ℕ) (limit o : ℕ) where
  pub lead_header : o < header_size → bad o ≡ lead_at xs limit o
  unfolding lead_at
  lead_header h = rw (lt-leb header_size o h)

  module _ (behind : header_size ≤ o) where
    pub lead_cut : limit < o + 8 → bad o ≡ lead_at xs limit o
    unfolding lead_at
    lead_cut h = rw (le-leb header_size o behind, lt-leb (o + 8) limit h)

    module _ (room : o + 8 ≤ limit) {height : ℕ} (first : height ≡ word xs o) where
      pub lead_flat : height < 1 → bad o ≡ lead_at xs limit o
      unfolding lead_at
      lead_flat h = rw (← first, le-leb header_size o behind, le-leb (o + 8) limit room, lt-leb 1 height h)

      module _ (some : 1 ≤ height) where
        pub lead_tall : levels < height → bad o ≡ lead_at xs limit o
        unfolding lead_at
        lead_tall h = rw (← first, le-leb header_size o behind, le-leb (o + 8) limit room, le-leb 1 height some, lt-leb height levels h)

        module _ (most : height ≤ levels) {len : ℕ} (second : len ≡ word xs (o + 4)) where
          pub lead_out : limit < entry_place o height + len → bad o ≡ lead_at xs limit o
          unfolding lead_at
          lead_out h = rw (← first, ← second, le-leb header_size o behind, le-leb (o + 8) limit room, le-leb 1 height some, le-leb height levels most, lt-leb (entry_place o height + len) limit h)

          module _ (inside : entry_place o height + len ≤ limit) where
            pub lead_bad : {p : ℕ} → bad p ≡ keyed_at xs (entry_place o height) (entry_place o height + len) → bad p ≡ lead_at xs limit o
            unfolding lead_at
            lead_bad e =
                rw (← first, ← second, le-leb header_size o behind, le-leb (o + 8) limit room, le-leb 1 height some, le-leb height levels most, le-leb (entry_place o height + len) limit inside, ← e)

            pub lead_whole : {k : Keyed} → got k ≡ keyed_at xs (entry_place o height) (entry_place o height + len)
                → got (record { start = o; height = height; keyed = k; end = entry_place o height + len }) ≡ lead_at xs limit o
            unfolding lead_at
            lead_whole e =
                rw (← first, ← second, le-leb header_size o behind, le-leb (o + 8) limit room, le-leb 1 height some, le-leb height levels most, le-leb (entry_place o height + len) limit inside, ← e)

-- a lead that was read ends in the image, and its key and tag before its end
pub lead_inside : (xs : List ℕ) (limit o : ℕ) {m : Lead} → limit ≤ length xs → got m ≡ lead_at xs limit o → (m.end ≤ length xs) × (m.keyed.key_at + m.keyed.key_len + 8 ≤ m.end)
lead_inside xs limit o {m} h e = let b = lead_bounds xs limit o m (sym e) in (omega arith, omega arith)

-- ---- links

-- the links of a node that was read stand behind its first two words
pub lead_links : (xs : List ℕ) (x : ℕ) {m : Lead} → 1 ≤ x → got m ≡ lead_of xs x → m.start + 8 ≡ links_at xs x
lead_links xs x {m} p e = omega (arith, links_node xs x p, (lead_bounds xs (free xs) (slot xs x) m (sym e)).start_is)

-- the head, or a node tall enough for the level, has a link there
pub good_inside : (xs : List ℕ) (i level : ℕ) → Header xs → level < levels → HasLink xs i level → link_place xs i level + 4 ≤ length xs
good_inside xs i level h b (inl e) = omega (arith, ap (links_at xs) e, h.long)
good_inside xs i level h b (inr (p, q, (m, g, c))) = let d = lead_bounds xs (free xs) (slot xs i) m g in omega (arith, links_node xs i p, d, h.high)

-- the same of a node that was read whole, and its lowest link lies in the image
node_bounds : (xs : List ℕ) (i : ℕ) {n : Node} → got n ≡ node_at xs i → (n.start ≡ slot xs i) × (slot xs i + 12 ≤ free xs)
node_bounds xs i {n} e =
    let (m, g, f) = bind_got (lead_of xs i) (node_from xs) n (sym e) in
    let (p, r, h) = bind_got (rest_at xs m.end m.keyed) (λ q. got (record { start = m.start; height = m.height; parts = q; end = m.end })) n f in
    let b = lead_bounds xs (free xs) (slot xs i) m g in (ap (λ (q : Node). q.start) (sym (got_same h)) ∙ b.start_is, omega (arith, b.links_inside, b.some_height))

pub node_links : (xs : List ℕ) (i : ℕ) {n : Node} → 1 ≤ i → got n ≡ node_at xs i → n.start + 8 ≡ links_at xs i
node_links xs i {n} p e = omega (arith, links_node xs i p, (node_bounds xs i e).0)

pub node_link_inside : (xs : List ℕ) (i : ℕ) {n : Node} → Header xs → got n ≡ node_at xs i → n.start + 8 + 4 ≤ length xs
node_link_inside xs i h e = let (a, b) = node_bounds xs i e in omega (arith, h.high)
