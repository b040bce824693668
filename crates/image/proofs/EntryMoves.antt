-- The entry cursor on a sound image: never damaged, and it visits the entries held in their order, upward and downward.
use Prim.Native.Nat.{ℕ, zero, suc, ◌≤◌, ◌<◌}
use native.Mathlib.Omega.{arith}
use mathlib.Core.Path.{◌≡◌, refl, sym, ap, ◌∙◌}
use mathlib.Core.Logic.{◌⊎◌, inl, inr}
use mathlib.Core.List.Memᴰ
use mathlib.Core.List.{List, [], ◌∷◌, ◌++◌, append_assoc, Memᴰ}
use mathlib.Core.Bool.{Bool, true, false, not, true≢false}
use lib.ListN.{length}
use borrow.Author.Tests.{le-leb}
use Rattle.rule.specs.Lists.{All}
use Rattle.rule.specs.Order.{Ord, less, equal, greater, compare_entries, is_less}
use Rattle.rule.specs.Entries.{Entry, order}
use Rattle.rule.proofs.Lists.{here, all_nil, all_cons, all_append, mem_split, pairwise_middle}
use Rattle.rule.proofs.Order.{entries, compare_pairs, less_greater}
use Rattle.image.specs.Limits.{max_key, max_number, levels}
use Rattle.image.specs.Readers.{got}
use Rattle.image.specs.Entries.{entry_in, compare_keyed}
use Rattle.image.specs.Nodes.{count, Node, node_at, height_of, entry_of, link_place, link_of}
use Rattle.image.specs.Sound.{lowest, Sound, held}
use Rattle.image.specs.Search.{to_stop, to_go_down, turn_by, Found, hit, ends, standing, passed}
use Rattle.image.specs.Refusals.{given}
use Rattle.image.specs.EntryMoves.{Cursor, nowhere, on, cursor_at, in_table, EntryMove, first, seek, next, previous, follow, landing, landing_after, first_entry, last_before, moved, entry_move}
use Rattle.image.specs.Meaning.{IsNode, Stands, Fitting, Foremost, Leads}
use Rattle.image.proofs.Chains.{last, last_middle, tall_all, link_lands}
use Rattle.image.proofs.Chains as chains
use Rattle.image.proofs.Sound.{header_complete, linked, positive, everywhere}
use Rattle.image.proofs.Probe.{probe}
use Rattle.image.proofs.Search.{is_onward, is_halt, pass_test, stop_test, stop_pass, Searched, search_sound}
use Rattle.image.proofs.Held.{held_from_lem}
use Rattle.image.proofs.Lookup.{node_is}

-- an entry that comes before another does not come after it
order_flip : (e f : Entry) → order e f ≡ less → is_less (order f e) ≡ false
order_flip e f p = ap is_less (less_greater compare_pairs entries (e.key, e.number) (f.key, f.number) p)

order_same : (e : Entry) → is_less (order e e) ≡ false
order_same e = ap is_less (entries.same (e.key, e.number))

module _ (xs : List ℕ) (s : Sound xs) where
  abbrev Ahead : ℕ → ℕ → Type 0
  Ahead x y = order (entry_of xs x) (entry_of xs y) ≡ less

  -- what holds of the nodes in order holds of the entries held
  all_held : (P : Entry → Type 0) → All (λ x. P (entry_of xs x)) (lowest xs) → All P (held xs)
  all_held P h e m = let (i, p, q, f) = held_from_lem xs (count xs) e m in rw (← f) (h i (everywhere xs s i p q))

  node_in : (x : ℕ) → Memᴰ x (lowest xs) → IsNode xs x
  node_in x m = let w = s.within x m in record { some = w.0; most = w.1 }

  on_node : (x : ℕ) → IsNode xs x → cursor_at x ≡ on x
  on_node zero n = absurd (omega (arith, n.some))
  on_node (suc x) n = refl

  -- ---- a cut that parts the nodes in order

  module _ (cmp : Entry → Entry → Ord) (cut : Entry → Bool) where
    none_there : All (λ x. cut (entry_of xs x) ≡ false) (lowest xs) → Foremost cmp cut xs nowhere
    none_there h = all_held (λ e. cut e ≡ true → ⊥) (λ x m t. true≢false (sym t ∙ h x m))

    one_there : (a : List ℕ) (y : ℕ) (b : List ℕ) → lowest xs ≡ a ++ (y ∷ b) → cut (entry_of xs y) ≡ true → is_less (cmp (entry_of xs y) (entry_of xs y)) ≡ false
        → All (λ x. cut (entry_of xs x) ≡ true → is_less (cmp (entry_of xs x) (entry_of xs y)) ≡ false) a → All (λ x. cut (entry_of xs x) ≡ true → is_less (cmp (entry_of xs x) (entry_of xs y)) ≡ false) b
        → Foremost cmp cut xs (cursor_at y)
    one_there a y b e t r h k = let n = node_in y (rw e (Memᴰ.append_right a here)) in
        rw (on_node y n) (n, t, all_held (λ f. cut f ≡ true → is_less (cmp f (entry_of xs y)) ≡ false) (rw e (all_append a (y ∷ b) h (all_cons (λ _. r) k))))

  -- upward it stands at the first node that the cut admits, downward at the last
  module _ (cut : Entry → Bool) (pre post : List ℕ) (split : lowest xs ≡ pre ++ post) where
    pub foremost_first : All (λ x. cut (entry_of xs x) ≡ false) pre → All (λ x. cut (entry_of xs x) ≡ true) post → Foremost order cut xs (cursor_at (chains.first post))
    foremost_first n y = go post split y
      where
        go : (post : List ℕ) → lowest xs ≡ pre ++ post → All (λ x. cut (entry_of xs x) ≡ true) post → Foremost order cut xs (cursor_at (chains.first post))
        go [] e y = none_there order cut (rw e (all_append pre [] n (all_nil _)))
        go (z ∷ zs) e y = one_there order cut pre z zs e (y z here) (order_same (entry_of xs z)) (λ x m t. absurd (true≢false (sym t ∙ n x m)))
            (λ x m t. order_flip (entry_of xs z) (entry_of xs x) ((pairwise_middle Ahead pre z zs (rw e at s.ascending)).1 x m))

    pub foremost_last : All (λ x. cut (entry_of xs x) ≡ true) pre → All (λ x. cut (entry_of xs x) ≡ false) post → Foremost (λ e f. order f e) cut xs (cursor_at (last 0 pre))
    foremost_last y n = go pre split y (ends_with pre)
      where
        ends_with : (l : List ℕ) → (l ≡ []) ⊎ ((a : List ℕ) × (z : ℕ) × (l ≡ a ++ (z ∷ [])))
        ends_with [] = inl refl
        ends_with (z ∷ l) = inr (more z l (ends_with l))
          where
            more : (z : ℕ) (l : List ℕ) → (l ≡ []) ⊎ ((a : List ℕ) × (w : ℕ) × (l ≡ a ++ (w ∷ []))) → (a : List ℕ) × (w : ℕ) × ((z ∷ l) ≡ a ++ (w ∷ []))
            more z l (inl e) = ([], z, ap {B = List ℕ} (λ r. z ∷ r) e)
            more z l (inr (a, w, e)) = (z ∷ a, w, ap {B = List ℕ} (λ r. z ∷ r) e)

        go : (l : List ℕ) → lowest xs ≡ l ++ post → All (λ x. cut (entry_of xs x) ≡ true) l → (l ≡ []) ⊎ ((a : List ℕ) × (z : ℕ) × (l ≡ a ++ (z ∷ [])))
            → Foremost (λ e f. order f e) cut xs (cursor_at (last 0 l))
        go l e y (inl f) = rw f (none_there (λ e f. order f e) cut (rw (e, f) n))
        go l e y (inr (a, z, f)) =
            rw (f, last_middle 0 a z []) (one_there (λ e f. order f e) cut a z post (rw (e, f) (append_assoc a (z ∷ []) post)) (y z (rw f (Memᴰ.append_right a here))) (order_same (entry_of xs z))
            (λ x m t. order_flip (entry_of xs x) (entry_of xs z) ((pairwise_middle Ahead a z post (rw (e, f, append_assoc a (z ∷ []) post) at s.ascending)).0 x m))
            (λ x m t. absurd (true≢false (sym t ∙ n x m))))

  -- ---- the moves

  -- the lowest link of the head leads to the first node, and that of a node to the next
  follow_to : (x : ℕ) (post : List ℕ) → (x ≡ 0) ⊎ (Memᴰ x (lowest xs) × (0 < height_of xs x)) → link_of xs x 0 ≡ chains.first post → follow xs x ≡ got (cursor_at (chains.first post))
  follow_to x post h e = go (link_lands levels (height_of xs) (link_of xs) (lowest xs) (linked xs s) 0 (omega arith) x h)
    where
      low : {y : ℕ} → (y ≡ 0) ⊎ (Memᴰ y (lowest xs) × (0 < height_of xs y)) → y ≤ count xs
      low (inl z) = omega arith
      low (inr (m, _)) = (s.within _ m).1

      go : (link_of xs x 0 ≡ 0) ⊎ (Memᴰ (link_of xs x 0) (lowest xs) × (0 < height_of xs (link_of xs x 0))) → follow xs x ≡ got (cursor_at (chains.first post))
      go l = rw (le-leb (link_of xs x 0) (count xs) (low l), e)

  start : (d : Cursor) → d ≡ cursor_at (chains.first (lowest xs)) → Foremost order (λ e. true) xs d
  start d e = rw e (foremost_first (λ e. true) [] (lowest xs) refl (all_nil _) (λ x m. refl))

  -- from the head the first node is met
  pub follow_head : follow xs 0 ≡ got (cursor_at (chains.first (lowest xs)))
  follow_head = follow_to 0 (lowest xs) (inl refl) ((linked xs s).start 0 (omega arith) ∙ ap chains.first (tall_all (height_of xs) 0 (lowest xs) (positive xs s)))

  -- every node can be read whole, so a move may end on it
  pub landing_sound : (d : Cursor) → Stands xs d → landing xs d ≡ got d
  landing_sound nowhere h = refl
  landing_sound (on i) h = let (m, g, e) = node_is xs s i h in rw g

  pub foremost_stands : (cmp : Entry → Entry → Ord) (cut : Entry → Bool) (d : Cursor) → Foremost cmp cut xs d → Stands xs d
  foremost_stands cmp cut nowhere f = tt
  foremost_stands cmp cut (on i) f = f.0

  pub first_is : first_entry xs ≡ got (cursor_at (chains.first (lowest xs)))
  first_is = let d = cursor_at (chains.first (lowest xs)) in rw follow_head (landing_sound d (foremost_stands order (λ e. true) d (start d refl)))

  -- behind an entry that comes before the one that it stands on
  landing_after_lem : (i : ℕ) (m : Node) → entry_in xs m.parts ≡ entry_of xs i → (o : ℕ) (d : Cursor) → Foremost order (λ e. is_less (order (entry_of xs i) e)) xs d
      → landing_after xs m.parts.keyed o d ≡ got d
  landing_after_lem i m e o nowhere f = refl
  landing_after_lem i m e o (on j) f =
      let (t, g, d) = node_is xs s j f.0 in
      let z : is_less (compare_keyed xs m.parts.keyed t.parts.keyed) ≡ true = less_by (entry_in xs m.parts) (entry_in xs t.parts) e d f.1 in
      rw (g, z)
    where
      less_by : (a b : Entry) → a ≡ entry_of xs i → b ≡ entry_of xs j → is_less (order (entry_of xs i) (entry_of xs j)) ≡ true → is_less (order a b) ≡ true
      less_by a b p q h = rw (p, q) h

  step : (i : ℕ) → IsNode xs i → (d : Cursor) × (moved xs next (on i) ≡ got d) × Foremost order (λ e. is_less (order (entry_of xs i) e)) xs d
  step i n = let m = everywhere xs s i n.some n.most in let (a, b, e) = mem_split m in go a b e m
    where
      go : (a b : List ℕ) → lowest xs ≡ a ++ (i ∷ b) → Memᴰ i (lowest xs) → (d : Cursor) × (moved xs next (on i) ≡ got d) × Foremost order (λ e. is_less (order (entry_of xs i) e)) xs d
      go a b e m = (cursor_at (chains.first b), rw (node.1, follows) (landing_after_lem i node.0 node.2 (link_place xs i 0) (cursor_at (chains.first b)) foremost), foremost)
        where
          node : (t : Node) × (node_at xs i ≡ got t) × (entry_in xs t.parts ≡ entry_of xs i)
          node = node_is xs s i n

          follows : follow xs i ≡ got (cursor_at (chains.first b))
          follows =
              follow_to i b (inr (m, positive xs s i m))
              ((linked xs s).step 0 (omega arith) a i b e (positive xs s i m) ∙ ap chains.first
              (tall_all (height_of xs) 0 b (λ x k. positive xs s x (rw e (Memᴰ.append_right a (Memᴰ.tail k))))))

          foremost : Foremost order (λ e. is_less (order (entry_of xs i) e)) xs (cursor_at (chains.first b))
          foremost = foremost_first (λ e. is_less (order (entry_of xs i) e)) (a ++ (i ∷ [])) b (e ∙ sym (append_assoc a (i ∷ []) b))
              (all_append a (i ∷ []) (λ x k. order_flip (entry_of xs x) (entry_of xs i) ((pairwise_middle Ahead a i b (rw e at s.ascending)).0 x k))
              (all_cons (order_same (entry_of xs i)) (all_nil _)))
              (λ x k. ap is_less ((pairwise_middle Ahead a i b (rw e at s.ascending)).1 x k))

  sought : (k : List ℕ) (n : ℕ) (q : Searched xs s to_stop k n) → Foremost order (λ e. not (is_less (compare_entries e.key e.number k n))) xs (cursor_at (standing q.found))
  sought k n q =
      rw q.stands (foremost_first (λ e. not (is_less (compare_entries e.key e.number k n))) q.before q.behind q.split
      (λ x m. ap not (sym (stop_pass xs k n x) ∙ q.passes x m)) (λ x m. ap not (sym (stop_pass xs k n x) ∙ q.refuses x m)))

  -- a search that goes down on equality passes what is before its probe, and never stops
  pub down_pass : (k : List ℕ) (n x : ℕ) → pass_test xs to_go_down k n x ≡ is_less (probe (entry_of xs) k n x)
  down_pass k n x = go (probe (entry_of xs) k n x)
    where
      go : (o : Ord) → is_onward (turn_by to_go_down o) ≡ is_less o
      go less = refl
      go equal = refl
      go greater = refl

  pub down_stop : (k : List ℕ) (n x : ℕ) → stop_test xs to_go_down k n x ≡ false
  down_stop k n x = go (probe (entry_of xs) k n x)
    where
      go : (o : Ord) → is_halt (turn_by to_go_down o) ≡ false
      go less = refl
      go equal = refl
      go greater = refl

  -- the last node before a key and number
  smaller_than : (k : List ℕ) (n : ℕ) (q : Searched xs s to_go_down k n) → Foremost (λ e f. order f e) (λ e. is_less (compare_entries e.key e.number k n)) xs (cursor_at (passed q.found))
  smaller_than k n q = go q.found refl
    where
      go : (r : Found) → q.found ≡ r → Foremost (λ e f. order f e) (λ e. is_less (compare_entries e.key e.number k n)) xs (cursor_at (passed r))
      go (hit x looks) f = absurd (true≢false (sym (q.hits x looks f).1 ∙ down_stop k n x))
      go (ends p x looks prev) f =
          rw (q.misses p x looks prev f).last_passed
          (foremost_last (λ e. is_less (compare_entries e.key e.number k n)) q.before q.behind q.split (λ x m. sym (down_pass k n x) ∙ q.passes x m)
          (λ x m. sym (down_pass k n x) ∙ q.refuses x m))

  back : (i : ℕ) → IsNode xs i → (d : Cursor) × (moved xs previous (on i) ≡ got d) × Foremost (λ e f. order f e) (λ e. is_less (order e (entry_of xs i))) xs d
  back i n =
      let (m, g, e) = node_is xs s i n in
      let q = search_sound xs s to_go_down (entry_of xs i).key (entry_of xs i).number in
      let f = smaller_than (entry_of xs i).key (entry_of xs i).number q in (
        cursor_at (passed q.found),
        rw g (ap (λ (d : Entry). last_before xs d.key d.number) e ∙ goes q (foremost_stands (λ e f. order f e) (λ e. is_less (order e (entry_of xs i))) (cursor_at (passed q.found)) f)),
        f,
      )
    where
      goes : (q : Searched xs s to_go_down (entry_of xs i).key (entry_of xs i).number) → Stands xs (cursor_at (passed q.found))
          → last_before xs (entry_of xs i).key (entry_of xs i).number ≡ got (cursor_at (passed q.found))
      goes q h = rw q.search (landing_sound (cursor_at (passed q.found)) h)

  moved_leads : (m : EntryMove) (c : Cursor) → Stands xs c → (d : Cursor) × (moved xs m c ≡ got d) × Leads xs m c d
  moved_leads first c h = (cursor_at (chains.first (lowest xs)), first_is, start _ refl)
  moved_leads (seek k n) c h =
      let q = search_sound xs s to_stop k n in
      let f = sought k n q in
      let d = cursor_at (standing q.found) in
      (d, rw q.search (landing_sound d (foremost_stands order (λ e. not (is_less (compare_entries e.key e.number k n))) d f)), f)
  moved_leads next nowhere h = (cursor_at (chains.first (lowest xs)), first_is, start _ refl)
  moved_leads next (on i) h = step i h
  moved_leads previous nowhere h = (nowhere, refl, refl)
  moved_leads previous (on i) h = back i h

  -- each move is accepted, and leads where the order says
  pub move_leads : (m : EntryMove) (c : Cursor) → Stands xs c → Fitting m → (d : Cursor) × (entry_move xs m c ≡ given d) × Leads xs m c d
  unfolding entry_move
  move_leads m c h f = let (d, g, l) = moved_leads m c h in (d, accepted m c h f d g, l)
    where
      in_table_lem : (c : Cursor) → Stands xs c → in_table xs c ≡ true
      in_table_lem nowhere h = refl
      in_table_lem (on i) h = rw (le-leb 1 i h.some, le-leb i (count xs) h.most)

      accepted : (m : EntryMove) (c : Cursor) → Stands xs c → Fitting m → (d : Cursor) → moved xs m c ≡ got d → entry_move xs m c ≡ given d
      accepted first c h f d g = rw (header_complete xs s.header, in_table_lem c h, g)
      accepted (seek k n) c h f d g = rw (header_complete xs s.header, in_table_lem c h, le-leb n max_number f.0, le-leb (length k) max_key f.1, g)
      accepted next c h f d g = rw (header_complete xs s.header, in_table_lem c h, g)
      accepted previous c h f d g = rw (header_complete xs s.header, in_table_lem c h, g)
