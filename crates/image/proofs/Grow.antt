-- An entry put into a sound image, behind the nodes that a search recorded: the image is sound, keeps its nodes, and has one more.
use Prim.Native.Nat.{ℕ, zero, suc, ◌+◌, ◌-◌, ◌*◌, ◌<◌, ◌≤◌}
use native.Mathlib.Omega.{arith}
use native.Mathlib.Decide.{ℕ_discrete}
use mathlib.Core.Path.{◌≡◌, refl, sym, ap, ◌∙◌}
use mathlib.Core.Logic.{◌⊎◌, inl, inr, ⊎_elim, ◌≢◌}
use mathlib.Core.List.Memᴰ
use mathlib.Core.List.{List, [], ◌∷◌, ◌++◌, Memᴰ}
use mathlib.Core.Bool.{true, false}
use lib.ListN.{length, get_or, length-append}
use Rattle.rule.specs.Lists.{All, Pairwise}
use Rattle.rule.specs.Order.{less}
use Rattle.rule.specs.Entries.{Entry, order}
use Rattle.rule.proofs.Lists.{all_left, all_append, all_cons}
use Rattle.image.specs.Limits.{levels, max_nodes, header_size}
use Rattle.image.specs.Words.{word}
use Rattle.image.specs.Entries.{Legal, encode}
use Rattle.image.specs.Nodes.{count, free, slot, NodeIs, height_of, entry_of, link_place, link_of}
use Rattle.image.specs.Chains.{tall}
use Rattle.image.specs.Sound.{lowest, Sound, Header, place_of, size_at, held, held_up_to}
use Rattle.image.specs.Add.{with_entry}
use Rattle.image.specs.Added.{Added}
use Rattle.image.proofs.Words.{word_same}
use Rattle.image.proofs.Nodes.{links_node, height_is, entry_is, node_kept}
use Rattle.image.proofs.Chains.{last, last_mem, tall_mem, tall_ext, Linked, linked_chained, link_lands}
use Rattle.image.proofs.Insert.{Inserted, insert_linked, linked_ext, linked_last}
use Rattle.image.proofs.Sound.{place_slot, place_free, lowest_full, sound_by, ends_free, linked, pairwise_ext}
use Rattle.image.proofs.Links.{Lands, place_low, place_high, link_apart, link_outside}
use Rattle.image.proofs.Probe.{before, exact, insert_ascending}
use Rattle.image.proofs.Write.{Fits, Written, is_written}

-- there is room for one more node
pub record Room (xs : List ℕ) (e : Entry) (h : ℕ) : Type 0 where
  pub low : 1 ≤ h
  pub high : h ≤ levels
  pub legal : Legal e
  pub more : count xs < max_nodes
  pub space : 12 + 4 * h + length (encode e) ≤ length xs - 4 * count xs - free xs

module _ (xs : List ℕ) (s : Sound xs) (e : Entry) (h : ℕ) (room : Room xs e h) (prev pre post : List ℕ) (split : lowest xs ≡ pre ++ post)
    (recorded : (l : ℕ) → l < h → get_or prev l 0 ≡ last 0 (tall (height_of xs) l pre)) where
  pred_mem : (l : ℕ) → l < h → (get_or prev l 0 ≡ 0) ⊎ (Memᴰ (get_or prev l 0) (lowest xs) × (l < height_of xs (get_or prev l 0)))
  pred_mem l k =
      rw (recorded l k) (⊎_elim inl (λ m. let (a, b) = tall_mem (height_of xs) l pre _ m in inr (rw split (Memᴰ.append_left post a), b)) (Memᴰ.cases_cons (last_mem 0 (tall (height_of xs) l pre))))

  pred_lands : (l : ℕ) → l < h → Lands xs (get_or prev l 0) l
  pred_lands l k = ⊎_elim inl (λ (m, b). let w = s.within _ m in inr (w.0, w.1, b)) (pred_mem l k)

  link_value : (l : ℕ) → l < h → link_of xs (get_or prev l 0) l ≤ count xs
  link_value l k = go (link_lands levels (height_of xs) (link_of xs) (lowest xs) (linked xs s) l (omega (arith, room.high)) (get_or prev l 0) (pred_mem l k))
    where
      go : {x : ℕ} → (x ≡ 0) ⊎ (Memᴰ x (lowest xs) × (l < height_of xs x)) → x ≤ count xs
      go (inl z) = omega arith
      go (inr (m, b)) = (s.within _ m).1

  fits : Fits xs (count xs) (free xs) h e (λ l. link_of xs (get_or prev l 0) l) (λ l. link_place xs (get_or prev l 0) l)
  fits = record {
    image_small = omega (arith, s.header.short);
    behind = s.header.low;
    number_small = omega (arith, room.more);
    space = omega (arith, room.space);
    links_small = λ l k. omega (arith, link_value l k, s.header.few);
    places_low = λ l k. place_low xs s (get_or prev l 0) l (pred_lands l k);
    places_high = λ l k. place_high xs s (get_or prev l 0) l (omega (arith, room.high)) (pred_lands l k);
    places_apart = λ l m a b n. link_apart xs s (get_or prev l 0) l (get_or prev m 0) m (omega (arith, room.high)) (omega (arith, room.high)) (pred_lands l a) (pred_lands m b) (λ _. n);
  }

  ys : List ℕ
  ys = with_entry xs e h prev

  w : Written xs (count xs) (free xs) h e (λ l. link_of xs (get_or prev l 0) l) (λ l. link_place xs (get_or prev l 0) l) ys
  unfolding ys
  w = is_written xs (count xs) (free xs) h e (λ l. link_of xs (get_or prev l 0) l) (λ l. link_place xs (get_or prev l 0) l) fits

  length_ys : length ys ≡ length xs
  length_ys = w.length_kept

  -- a byte that is not in the free part, in the count or first free byte, or in a link that changes
  kept_byte : (q : ℕ) → (4 ≤ q → q < 12 → ⊥) → (free xs ≤ q → q < length xs - 4 * count xs → ⊥)
      → ((l : ℕ) → l < h → link_place xs (get_or prev l 0) l ≤ q → q < link_place xs (get_or prev l 0) l + 4 → ⊥) → get_or xs q 0 ≡ get_or ys q 0
  kept_byte q a b c = sym (w.kept q a (λ x y. b x (omega (arith, room.space))) (λ x y. b (omega (arith, room.space)) y) c)

  old : (i : ℕ) → 1 ≤ i → i ≤ count xs → (slot ys i ≡ slot xs i) × NodeIs ys i (height_of xs i) (entry_of xs i)
  old i p r = node_kept xs ys i (height_of xs i) (entry_of xs i) length_ys (omega (arith, w.free_is))
      (λ q a b. kept_byte q (λ x y. omega (arith, room.space, s.header.low)) (λ x y. omega arith) (λ l k x y. omega (arith, places l k, room.space)))
      (λ q a b. kept_byte q (λ x y. omega (arith, start)) (λ x y. omega (arith, end))
      (λ l k. link_outside xs s (get_or prev l 0) l i q (omega (arith, room.high)) (pred_lands l k) p r a (omega arith) (λ x y. omega arith)))
      (λ q a b. kept_byte q (λ x y. omega (arith, start)) (λ x y. omega (arith, end))
      (λ l k. link_outside xs s (get_or prev l 0) l i q (omega (arith, room.high)) (pred_lands l k) p r (omega arith) b (λ x y. omega arith)))
      (s.reads i p r)
    where
      start : header_size ≤ slot xs i
      start = (s.reads i p r).after_header

      end : slot xs i + size_at xs i ≤ free xs
      end = ends_free xs s i p r

      places : (l : ℕ) → l < h → link_place xs (get_or prev l 0) l + 4 ≤ free xs
      places l k = fits.places_high l k

  new_slot : slot ys (suc (count xs)) ≡ free xs
  new_slot = rw length_ys w.slot_is

  new : NodeIs ys (suc (count xs)) h e
  new = rw new_slot (record {
    after_header = s.header.low;
    height_here = w.node_is.height_written;
    length_here = w.node_is.length_written;
    height_some = room.low;
    height_most = room.high;
    legal = room.legal;
    entry_here = w.node_is.entry_written;
    inside = omega (arith, w.free_is);
  })

  free_ys : free ys ≤ length ys
  free_ys = omega (arith, w.free_is, room.space, length_ys)

  old_height : (i : ℕ) → 1 ≤ i → i ≤ count xs → height_of ys i ≡ height_of xs i
  old_height i p r = height_is ys i (height_of xs i) (entry_of xs i) (old i p r).1

  old_entry : (i : ℕ) → 1 ≤ i → i ≤ count xs → entry_of ys i ≡ entry_of xs i
  old_entry i p r = entry_is ys i (height_of xs i) (entry_of xs i) free_ys (old i p r).1

  new_height : height_of ys (suc (count xs)) ≡ h
  new_height = height_is ys (suc (count xs)) h e new

  new_entry : entry_of ys (suc (count xs)) ≡ e
  new_entry = entry_is ys (suc (count xs)) h e free_ys new

  link_place_lem : (i l : ℕ) → Lands xs i l → link_place ys i l ≡ link_place xs i l
  link_place_lem i l (inl z) = rw z
  link_place_lem i l (inr (p, r, _)) = omega (arith, links_node xs i p, links_node ys i p, (old i p r).0)

  link_kept : (i l : ℕ) → l < levels → Lands xs i l → (l < h → i ≢ get_or prev l 0) → link_of ys i l ≡ link_of xs i l
  unfolding link_of
  link_kept i l p c n =
      rw (link_place_lem i l c) (sym (word_same xs ys (link_place xs i l) (λ q a b. kept_byte q (λ x y. omega (arith, place_low xs s i l c)) (λ x y. omega (arith, place_high xs s i l p c))
      (λ k j x y. link_apart xs s (get_or prev k 0) k i l (omega (arith, room.high)) p (pred_lands k j) c
      (λ z f. n (rw (← f) j) (sym z ∙ ap (λ (m : ℕ). get_or prev m 0) f)) (omega arith) (omega arith)))))

  link_joined : (l : ℕ) → l < h → link_of ys (get_or prev l 0) l ≡ suc (count xs)
  unfolding link_of
  link_joined l k = rw (link_place_lem (get_or prev l 0) l (pred_lands l k)) (w.joined l k)

  link_new : (l : ℕ) → l < h → link_of ys (suc (count xs)) l ≡ link_of xs (get_or prev l 0) l
  unfolding link_of
  link_new l k = rw new_slot (w.node_is.links_written l k)

  in_both : All (λ x. (1 ≤ x) × (x ≤ count xs)) (pre ++ post)
  in_both = rw split at s.within

  heights_same : All (λ x. height_of xs x ≡ height_of ys x) (pre ++ post)
  heights_same x m = let b = in_both x m in sym (old_height x b.0 b.1)

  rec : (l : ℕ) → l < h → get_or prev l 0 ≡ last 0 (tall (height_of ys) l pre)
  rec l k = recorded l k ∙ ap (last 0) (tall_ext (height_of xs) (height_of ys) l pre (all_left pre post heights_same))

  linked_old : Linked levels (height_of ys) (link_of xs) (pre ++ post)
  linked_old = linked_ext levels (height_of xs) (height_of ys) (link_of xs) (link_of xs) (pre ++ post) heights_same (λ l p. refl) (λ l p x m q. refl) (rw split at (linked xs s))

  inserts : Inserted levels (height_of ys) (link_of xs) (link_of ys) (suc (count xs)) pre post
  inserts = record {
    fresh = λ l p q. let k : l < h = rw new_height at q in link_new l k ∙ rw (rec l k) (linked_last levels (height_of ys) (link_of xs) pre post linked_old l p);
    joined = λ l p q. let k : l < h = rw new_height at q in rw (← rec l k) (link_joined l k);
    head_kept = λ l p n. link_kept 0 l p (inl refl) (λ k z. n (rw new_height k) (z ∙ rec l k));
    kept = λ l p i m q n. let b = in_both i m in link_kept i l p (inr (b.0, b.1, rw (heights_same i m) q)) (λ k z. n (rw new_height k) (z ∙ rec l k));
  }

  linked_new : Linked levels (height_of ys) (link_of ys) (pre ++ (suc (count xs) ∷ post))
  linked_new = insert_linked levels (height_of ys) (link_of xs) (link_of ys) (suc (count xs)) pre post linked_old (λ x m z. omega (arith, in_both x m)) inserts

  kept_word : (p : ℕ) → (p ≡ 0) ⊎ (p ≡ 12) → word ys p ≡ word xs p
  kept_word p (inl z) = sym (word_same xs ys p (λ q a b. kept_byte q (λ x y. omega arith) (λ x y. omega (arith, s.header.low)) (λ l k x y. omega (arith, fits.places_low l k))))
  kept_word p (inr z) = sym (word_same xs ys p (λ q a b. kept_byte q (λ x y. omega arith) (λ x y. omega (arith, s.header.low)) (λ l k x y. omega (arith, fits.places_low l k))))

  header_ys : Header ys
  header_ys = record {
    long = omega (arith, s.header.long, length_ys);
    short = omega (arith, s.header.short, length_ys);
    total = kept_word 0 (inl refl) ∙ s.header.total ∙ sym length_ys;
    leveled = kept_word 12 (inr refl) ∙ s.header.leveled;
    few = omega (arith, w.count_is, room.more);
    low = omega (arith, w.free_is, s.header.low);
    high = omega (arith, w.free_is, w.count_is, room.space, length_ys);
  }

  -- the nodes start where the places were
  starts : (i : ℕ) → 1 ≤ i → i ≤ suc (count xs) → slot ys i ≡ place_of xs i
  starts i p r = go (ℕ_discrete i (suc (count xs)))
    where
      go : Dec (i ≡ suc (count xs)) → slot ys i ≡ place_of xs i
      go (yes z) = rw z (new_slot ∙ sym (place_free xs))
      go (no n) = (old i p (omega arith)).0 ∙ sym (place_slot xs i (omega arith))

  reads_ys : (i : ℕ) → 1 ≤ i → i ≤ suc (count xs) → NodeIs ys i (height_of ys i) (entry_of ys i)
  reads_ys i p r = go (ℕ_discrete i (suc (count xs)))
    where
      go : Dec (i ≡ suc (count xs)) → NodeIs ys i (height_of ys i) (entry_of ys i)
      go (yes z) = rw (z, new_height, new_entry) new
      go (no n) = rw (old_height i p (omega arith), old_entry i p (omega arith)) (old i p (omega arith)).1

  follows_ys : (i : ℕ) → 1 ≤ i → i ≤ suc (count xs) → place_of ys (suc i) ≡ slot ys i + size_at ys i
  follows_ys i p r = go (ℕ_discrete i (suc (count xs)))
    where
      go : Dec (i ≡ suc (count xs)) → place_of ys (suc i) ≡ slot ys i + size_at ys i
      go (yes z) = rw (z, ← w.count_is, place_free ys, w.count_is, new_slot, new_height, new_entry) w.free_is
      go (no n) = place_slot ys (suc i) (omega (arith, w.count_is)) ∙ starts (suc i) (omega arith) (omega arith) ∙ s.follows i p (omega arith)
          ∙ rw (old_height i p (omega arith), old_entry i p (omega arith), (old i p (omega arith)).0)

  held_old : (i : ℕ) → i ≤ count xs → held_up_to ys i ≡ held_up_to xs i
  held_old zero r = refl
  held_old (suc i) r = rw (held_old i (omega arith), old_entry (suc i) (omega arith) r)

  held_new : held ys ≡ held xs ++ (e ∷ [])
  held_new = rw (w.count_is, held_old (count xs) (omega arith), new_entry)

  module _ (passes : All (λ x. before (entry_of xs) e.key e.number x ≡ true) pre) (refuses : All (λ x. before (entry_of xs) e.key e.number x ≡ false) post)
      (differs : All (λ x. exact (entry_of xs) e.key e.number x ≡ false) post) where
    old_same : All (λ x. entry_of ys x ≡ entry_of xs x) (pre ++ post)
    old_same x m = let b = in_both x m in old_entry x b.0 b.1

    ascending_ys : Pairwise (λ x y. order (entry_of ys x) (entry_of ys y) ≡ less) (pre ++ (suc (count xs) ∷ post))
    ascending_ys = insert_ascending (entry_of ys) e.key e.number (suc (count xs)) (ap (λ (f : Entry). f.key) new_entry) (ap (λ (f : Entry). f.number) new_entry) pre post
        (pairwise_ext (entry_of xs) (entry_of ys) (pre ++ post) old_same (rw split at s.ascending))
        (λ x m. rw (old_same x (Memᴰ.append_left post m)) (passes x m))
        (λ x m. rw (old_same x (Memᴰ.append_right pre m)) (refuses x m))
        (λ x m. rw (old_same x (Memᴰ.append_right pre m)) (differs x m))

    sound_ys : Sound ys
    sound_ys = sound_by ys (pre ++ (suc (count xs) ∷ post)) header_ys begins (λ i p r. follows_ys i p (omega (arith, w.count_is))) (λ i p r. reads_ys i p (omega (arith, w.count_is))) (record {
      within = rw w.count_is (all_append pre (suc (count xs) ∷ post) front (all_cons (omega arith, omega arith) back));
      full = omega (arith, w.count_is, length-append pre (suc (count xs) ∷ post), length-append pre post, ap length split, lowest_full xs);
      ascending = ascending_ys;
      chained = linked_chained levels (height_of ys) (link_of ys) (pre ++ (suc (count xs) ∷ post)) linked_new;
    })
      where
        begins : place_of ys 1 ≡ header_size
        begins = place_slot ys 1 (omega (arith, w.count_is)) ∙ starts 1 (omega arith) (omega arith) ∙ s.begins

        front : All (λ x. (1 ≤ x) × (x ≤ suc (count xs))) pre
        front x m = let b = in_both x (Memᴰ.append_left post m) in (b.0, omega arith)

        back : All (λ x. (1 ≤ x) × (x ≤ suc (count xs))) post
        back x m = let b = in_both x (Memᴰ.append_right pre m) in (b.0, omega arith)

    pub entry_added : Added xs e h (with_entry xs e h prev)
    unfolding ys
    entry_added = record {
      sound = sound_ys;
      length_same = length_ys;
      one_more = w.count_is;
      moved = w.free_is;
      heights_kept = old_height;
      entries_kept = old_entry;
      height_new = new_height;
      entry_new = new_entry;
      held_more = held_new;
    }
