-- The search of an image: bounded on any bytes, and on a sound image the search of a skip list.
use Prim.Native.Nat.{ℕ, zero, suc, ◌+◌, ◌-◌, ◌<◌, ◌≤◌}
use native.Mathlib.Omega.{arith}
use native.Mathlib.Decide.{ℕ_discrete}
use mathlib.Core.Path.{◌≡◌, refl, sym, ap, ◌∙◌}
use mathlib.Core.Logic.{◌⊎◌, inl, inr, ◌≢◌}
use mathlib.Core.List.{List, [], ◌∷◌, ◌++◌, Memᴰ}
use mathlib.Core.Bool.{Bool, true, false, true≢false}
use lib.ListN.{length, get_or, set, replicate, length-append, length-set}
use lib.Seq.{get_or-set_same, get_or-set_other}
use lib.Dec.{ltb, leb}
use borrow.Author.Tests.{lt-ltb, le-leb, leb-true, ltb-true}
use Rattle.rule.specs.Lists.{cond, All}
use Rattle.rule.specs.Order.{Ord, less, equal, greater, compare_entries, is_less, is_equal}
use Rattle.rule.specs.Entries.{Entry, order}
use Rattle.rule.proofs.Order.{entries, compare_pairs, less_equal}
use Rattle.rule.proofs.Lists.{here, part, pairwise_map}
use Rattle.image.specs.Limits.{levels}
use Rattle.image.specs.Readers.{Read, got, bad, check}
use Rattle.image.specs.Nodes.{count, free, slot, lead_of, height_of, entry_of, link_place, link_of}
use Rattle.image.specs.Chains.{tall}
use Rattle.image.specs.Sound.{lowest, Sound}
use Rattle.image.specs.Added.{HasLink}
use Rattle.image.specs.Search.{Turn, onward, halt, below, OnEqual, to_stop, to_go_down, to_pass, turn_by, Found, hit, ends, ask, meet, look, searched, looks_of, standing}
use Rattle.image.proofs.Readers.{got_same, bind_got, check_got}
use Rattle.image.proofs.Nodes.{lead_read_lem, node_entry}
use Rattle.image.proofs.Sound.{lowest_full, linked, nonzero, positive}
use Rattle.image.proofs.Chains.{first, last, link_lands}
use Rattle.image.proofs.Machine.{find_keeps, find_looks, Records, find_records}
use Rattle.image.proofs.SkipSearch as skip
use Rattle.image.proofs.SkipSearch.{turn, Parted, Right, stops_at, none_stops}
use Rattle.image.proofs.Probe.{probe, before, exact, probe_parted}

-- the test of a turn
abbrev pub is_onward : Turn → Bool
is_onward onward = true
is_onward halt = false
is_onward below = false

abbrev pub is_halt : Turn → Bool
is_halt onward = false
is_halt halt = true
is_halt below = false

-- ---- on any bytes

module _ (xs : List ℕ) (mode : OnEqual) (k : List ℕ) (s : ℕ) where
  -- a search looks at no more links than the table's count plus twelve
  pub searched_looks : (r : Found) → searched xs mode k s ≡ got r → looks_of r ≤ count xs + levels
  searched_looks r e = omega (arith, find_looks (look xs mode k s) (link_of xs) (link_place xs) (count xs + levels) 0 (levels - 1) 0 (replicate levels 0) r e)

  -- it records a node for each level
  pub searched_records : (r : Found) → searched xs mode k s ≡ got r → Records (look xs mode k s) (link_of xs) (link_place xs) levels r
  searched_records r e = find_records (look xs mode k s) (link_of xs) (link_place xs) (count xs + levels) 0 (levels - 1) 0 (replicate levels 0) r e

pub good_lower : (xs : List ℕ) (x l k : ℕ) → k ≤ l → HasLink xs x l → HasLink xs x k
good_lower xs x l k h (inl e) = inl e
good_lower xs x l k h (inr (a, b, (m, g, c))) = inr (a, b, (m, g, omega arith))

module _ (xs : List ℕ) (mode : OnEqual) (k : List ℕ) (s : ℕ) where
  -- a search passes only such nodes
  pub look_good : (cur level : ℕ) → look xs mode k s cur level ≡ got onward → HasLink xs (link_of xs cur level) level
  unfolding look
  look_good cur level e =
      let (p, q) = check_got (leb (link_of xs cur level) (count xs)) (link_place xs cur level) (meet xs mode k s level (link_place xs cur level) (link_of xs cur level)) onward e in
      go (link_of xs cur level) (leb-true (link_of xs cur level) (count xs) p) q
    where
      go : (x : ℕ) → x ≤ count xs → meet xs mode k s level (link_place xs cur level) x ≡ got onward → HasLink xs x level
      go zero h f = let z : below ≡ onward = got_same f in inl refl
      go (suc x) h f =
          let (m, g, f1) = bind_got (lead_of xs (suc x)) (ask xs mode k s level (link_place xs cur level)) onward f in
          let (c, f2) = check_got (ltb level m.height) (link_place xs cur level) _ onward f1 in
          inr (omega arith, h, (m, g, ltb-true level m.height c))

  -- so what it records at each level can be written to
  abbrev pub AllGood : Found → Type 0
  AllGood (hit x looks) = Unit
  AllGood (ends p x looks prev) = (l : ℕ) → l < levels → HasLink xs (get_or prev l 0) l

  -- where it stands, and what is recorded of the levels above
  record Standing (cur level : ℕ) (prev : List ℕ) : Type 0 where
    wide : length prev ≡ levels
    here : HasLink xs cur level
    above : (l : ℕ) → level < l → l < levels → HasLink xs (get_or prev l 0) l

  record_good : (cur level : ℕ) (prev : List ℕ) → Standing cur level prev → (l : ℕ) → level ≤ l → l < levels → HasLink xs (get_or (set prev level cur) l 0) l
  record_good cur level prev t l a b = go (ℕ_discrete l level)
    where
      go : Dec (l ≡ level) → HasLink xs (get_or (set prev level cur) l 0) l
      go (yes e) = rw (e, get_or-set_same prev level cur 0 (omega (arith, t.wide))) t.here
      go (no z) = rw (get_or-set_other prev level l cur 0 z) (t.above l (omega arith) b)

  pub searched_good : (r : Found) → searched xs mode k s ≡ got r → AllGood r
  searched_good r e = find_keeps (look xs mode k s) (link_of xs) (link_place xs) (λ n cur level looks prev. Standing cur level prev) AllGood (record {
    passing = λ n cur level looks prev f t. record { wide = t.wide; here = look_good cur level f; above = t.above };
    stopping = λ n cur level looks prev f t. tt;
    lowering =
        λ n cur low looks prev f t. record {
          wide = length-set prev (suc low) cur ∙ t.wide;
          here = good_lower xs cur (suc low) low (omega arith) t.here;
          above
              = λ l a b. record_good cur (suc low) prev t l (omega arith) b;
        };
    ending = λ n cur looks prev f t l b. record_good cur 0 prev t l (omega arith) b;
  }) (count xs + levels) 0 (levels - 1) 0 (replicate levels 0) r (record { wide = refl; here = inl refl; above = λ l a b. absurd (omega arith) }) e

-- ---- on a sound image

-- the two tests of the search
module _ (xs : List ℕ) (mode : OnEqual) (k : List ℕ) (s : ℕ) where
  abbrev pub pass_test : ℕ → Bool
  pass_test x = is_onward (turn_by mode (probe (entry_of xs) k s x))

  abbrev pub stop_test : ℕ → Bool
  stop_test x = is_halt (turn_by mode (probe (entry_of xs) k s x))

  turn_is : (x : ℕ) → x ≢ 0 → turn pass_test stop_test x ≡ turn_by mode (probe (entry_of xs) k s x)
  turn_is zero h = absurd (h refl)
  turn_is (suc x) h = go (turn_by mode (probe (entry_of xs) k s (suc x)))
    where
      go : (t : Turn) → cond (is_onward t) onward (cond (is_halt t) halt below) ≡ t
      go onward = refl
      go halt = refl
      go below = refl

-- a search that stops on equality passes what is before its probe, and stops at what is equal
pub stop_pass : (xs k : List ℕ) (s x : ℕ) → pass_test xs to_stop k s x ≡ before (entry_of xs) k s x
stop_pass xs k s x = go (probe (entry_of xs) k s x)
  where
    go : (o : Ord) → is_onward (turn_by to_stop o) ≡ is_less o
    go less = refl
    go equal = refl
    go greater = refl

pub stop_stop : (xs k : List ℕ) (s x : ℕ) → stop_test xs to_stop k s x ≡ exact (entry_of xs) k s x
stop_stop xs k s x = go (probe (entry_of xs) k s x)
  where
    go : (o : Ord) → is_halt (turn_by to_stop o) ≡ is_equal o
    go less = refl
    go equal = refl
    go greater = refl

-- a look at a link that leads to none or to a node of the sequence says the turn of that node
module _ (xs : List ℕ) (sound : Sound xs) (mode : OnEqual) (k : List ℕ) (s : ℕ) where
  look_right : (cur level : ℕ) → (link_of xs cur level ≡ 0) ⊎ (Memᴰ (link_of xs cur level) (lowest xs) × (level < height_of xs (link_of xs cur level)))
      → look xs mode k s cur level ≡ got (turn (pass_test xs mode k s) (stop_test xs mode k s) (link_of xs cur level))
  unfolding look
  look_right cur level h = go (link_of xs cur level) h
    where
      node : (x : ℕ) → Memᴰ x (lowest xs) → level < height_of xs x → x ≢ 0 → meet xs mode k s level (link_place xs cur level) x ≡ got (turn_by mode (probe (entry_of xs) k s x))
      node zero m l n = absurd (n refl)
      node (suc x) m l n = let w = sound.within (suc x) m in let r = sound.reads (suc x) w.0 w.1 in
          rw (lead_read_lem xs (free xs) (slot xs (suc x)) (height_of xs (suc x)) (entry_of xs (suc x)) r, lt-ltb level (height_of xs (suc x)) l)
          (ap (λ (e : Entry). got (turn_by mode (compare_entries e.key e.number k s)))
          (node_entry xs (free xs) (slot xs (suc x)) (height_of xs (suc x)) (entry_of xs (suc x)) (omega (arith, sound.header.high)) r))

      go : (x : ℕ) → (x ≡ 0) ⊎ (Memᴰ x (lowest xs) × (level < height_of xs x))
          → check (leb x (count xs)) (link_place xs cur level) (meet xs mode k s level (link_place xs cur level) x) ≡ got (turn (pass_test xs mode k s) (stop_test xs mode k s) x)
      go x (inl e) = rw (e, le-leb 0 (count xs) (omega arith))
      go x (inr (m, l)) = let w = sound.within x m in let z : x ≢ 0 = (λ e. omega arith) in rw (le-leb x (count xs) w.1, turn_is xs mode k s x z) (node x m l z)

  -- the search is never bad, and right
  pub search_right : (pre post : List ℕ) → lowest xs ≡ pre ++ post → Parted (height_of xs) (pass_test xs mode k s) (stop_test xs mode k s) pre post
      → Right (levels - 1) (height_of xs) (stop_test xs mode k s) pre post (searched xs mode k s)
  search_right pre post e p = skip.search (levels - 1) (height_of xs) (look xs mode k s) (link_of xs) (link_place xs) (pass_test xs mode k s) (stop_test xs mode k s) pre post (rw e at (linked xs sound)) p
      (λ x l h lands. look_right x l (link_lands levels (height_of xs) (link_of xs) (lowest xs) (linked xs sound) l (omega arith) x (rw e lands)))
      (count xs + levels) (replicate levels 0) (omega (arith, lowest_full xs, ap length e, length-append pre post))

-- the nodes that a search passes, and those that it does not
module _ (xs : List ℕ) (sound : Sound xs) (k : List ℕ) (s : ℕ) where
  abbrev pub Splits : OnEqual → Type 0
  Splits mode = (pre : List ℕ) × (post : List ℕ) × (lowest xs ≡ pre ++ post) × Parted (height_of xs) (pass_test xs mode k s) (stop_test xs mode k s) pre post

  stop_splits : Splits to_stop
  stop_splits = let (pre, post, e, p, q) = probe_parted (entry_of xs) k s (height_of xs) (lowest xs) (nonzero xs sound) (positive xs sound) sound.ascending in (
    pre,
    post,
    e,
    record {
      nonzero = p.nonzero;
      high = p.high;
      passes = λ x m. stop_pass xs k s x ∙ p.passes x m;
      refuses = λ x m. stop_pass xs k s x ∙
          p.refuses x m;
      stops = λ x m h. p.stops x m (sym (stop_stop xs k s x) ∙ h);
    },
  )

  never_splits : (mode : OnEqual) → ((o : Ord) → is_halt (turn_by mode o) ≡ false) → Splits mode
  never_splits mode never = go (part (pass_test xs mode k s) (lowest xs) (pairwise_map _ _ (lowest xs) keeps sound.ascending))
    where
      keep : (a b : Ord) → (b ≡ less → a ≡ less) → (b ≡ equal → a ≡ less) → is_onward (turn_by mode b) ≡ true → is_onward (turn_by mode a) ≡ true
      keep a less f g h = rw (f refl)
      keep a equal f g h = rw (g refl)
      keep a greater f g h = absurd (true≢false (sym h))

      keeps : (x y : ℕ) → order (entry_of xs x) (entry_of xs y) ≡ less → pass_test xs mode k s y ≡ true → pass_test xs mode k s x ≡ true
      keeps x y h = keep (probe (entry_of xs) k s x) (probe (entry_of xs) k s y)
          (λ e. entries.trans ((entry_of xs x).key, (entry_of xs x).number) ((entry_of xs y).key, (entry_of xs y).number) (k, s) h e)
          (λ e. less_equal compare_pairs entries ((entry_of xs x).key, (entry_of xs x).number) ((entry_of xs y).key, (entry_of xs y).number) (k, s) h e)

      go : (pre : List ℕ) × (post : List ℕ) × (lowest xs ≡ pre ++ post) × All (λ x. pass_test xs mode k s x ≡ true) pre × All (λ x. pass_test xs mode k s x ≡ false) post → Splits mode
      go (pre, post, e, h, g) = (
        pre,
        post,
        e,
        record {
          nonzero = rw e at (nonzero xs sound);
          high = rw e at (positive xs sound);
          passes = h;
          refuses = g;
          stops = λ x m f.
              absurd (true≢false (sym f ∙ never (probe (entry_of xs) k s x)));
        },
      )

  pub splits : (mode : OnEqual) → Splits mode
  splits to_stop = stop_splits
  splits to_go_down = never_splits to_go_down never
    where
      never : (o : Ord) → is_halt (turn_by to_go_down o) ≡ false
      never less = refl
      never equal = refl
      never greater = refl
  splits to_pass = never_splits to_pass never
    where
      never : (o : Ord) → is_halt (turn_by to_pass o) ≡ false
      never less = refl
      never equal = refl
      never greater = refl

-- ---- what a search on a sound image says, for the layers above

-- a search that ends: nothing equal is there, and it passed and recorded the last nodes before the probe
pub record Missed (xs : List ℕ) (mode : OnEqual) (k : List ℕ) (s : ℕ) (before behind : List ℕ) (p : ℕ) (prev : List ℕ) : Type 0 where
  pub nothing : All (λ y. stop_test xs mode k s y ≡ false) behind
  pub last_passed : p ≡ last 0 before
  pub recorded : (l : ℕ) → l < levels → get_or prev l 0 ≡ last 0 (tall (height_of xs) l before)

-- the nodes in order are those that it passed and those that it did not, and it stands at the first of these
pub record Searched (xs : List ℕ) (sound : Sound xs) (mode : OnEqual) (k : List ℕ) (s : ℕ) : Type 0 where
  pub before : List ℕ
  pub behind : List ℕ
  pub split : lowest xs ≡ before ++ behind
  pub passes : All (λ x. pass_test xs mode k s x ≡ true) before
  pub refuses : All (λ x. pass_test xs mode k s x ≡ false) behind
  pub found : Found
  pub search : searched xs mode k s ≡ got found
  pub stands : standing found ≡ first behind
  pub hits : (x looks : ℕ) → found ≡ hit x looks → Memᴰ x behind × (stop_test xs mode k s x ≡ true)
  pub misses : (p x looks : ℕ) (prev : List ℕ) → found ≡ ends p x looks prev → Missed xs mode k s before behind p prev

pub search_sound : (xs : List ℕ) (sound : Sound xs) (mode : OnEqual) (k : List ℕ) (s : ℕ) → Searched xs sound mode k s
search_sound xs sound mode k s = let (pre, post, e, p) = splits xs sound k s mode in go pre post e p (searched xs mode k s) refl (search_right xs sound mode k s pre post e p)
  where
    Parts : List ℕ → List ℕ → Type 0
    Parts pre post = Parted (height_of xs) (pass_test xs mode k s) (stop_test xs mode k s) pre post

    with_answer : (pre post : List ℕ) → lowest xs ≡ pre ++ post → Parts pre post → (r : Found) → searched xs mode k s ≡ got r → standing r ≡ first post
        → ((x looks : ℕ) → r ≡ hit x looks → Memᴰ x post × (stop_test xs mode k s x ≡ true)) →
        ((u x looks : ℕ) (prev : List ℕ) → r ≡ ends u x looks prev → Missed xs mode k s pre post u prev) → Searched xs sound mode k s
    with_answer pre post e p r f g h m = record { before = pre; behind = post; split = e; passes = p.passes; refuses = p.refuses; found = r; search = f; stands = g; hits = h; misses = m }

    stops : (post : List ℕ) (x y : ℕ) → stops_at (stop_test xs mode k s) post ≡ true → x ≡ first post → x ≡ y → Memᴰ y post × (stop_test xs mode k s y ≡ true)
    stops [] x y t f q = absurd (true≢false (sym t))
    stops (z ∷ post) x y t f q = rw (← q, f) (here, t)

    go : (pre post : List ℕ) → lowest xs ≡ pre ++ post → Parts pre post → (r : Read Found) → searched xs mode k s ≡ r
        → Right (levels - 1) (height_of xs) (stop_test xs mode k s) pre post r → Searched xs sound mode k s
    go pre post e p (bad o) f g = absurd g
    go pre post e p (got (hit x looks)) f g =
        with_answer pre post e p (hit x looks) f g.node (λ y l q. stops post x y g.present g.node (cc)) (λ u y l prev q. absurd (let z : ◌≡◌ {A = ℕ} 0 1 = cc in omega arith))
    go pre post e p (got (ends u x looks prev)) f g = with_answer pre post e p (ends u x looks prev) f g.after (λ y l q. absurd (let z : ◌≡◌ {A = ℕ} 0 1 = cc in omega arith)) (λ v y l w q.
        let a : u ≡ v = cc in let b : prev ≡ w = cc in record {
          nothing = none_stops (height_of xs) (pass_test xs mode k s) (stop_test xs mode k s) pre post p g.absent;
          last_passed = rw (← a) g.before;
          recorded = λ l h. rw (← b) (g.recorded l (omega arith) (omega (arith, searched_records xs mode k s (ends u x looks prev) f)));
        })

-- so it never meets damage
pub search_undamaged : (xs : List ℕ) → Sound xs → (mode : OnEqual) (k : List ℕ) (s : ℕ) → (r : Found) × (searched xs mode k s ≡ got r) × (looks_of r ≤ count xs + levels)
search_undamaged xs sound mode k s = let q = search_sound xs sound mode k s in (q.found, q.search, searched_looks xs mode k s q.found q.search)
