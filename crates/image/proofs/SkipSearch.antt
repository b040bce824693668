-- The search of a skip list: it is never bad, ends between the right nodes, records the right ones, and looks at most once for each node and level.
use Prim.Native.Nat.{ℕ, zero, suc, ◌<◌, ◌≤◌, ◌+◌}
use native.Mathlib.Omega.{arith}
use native.Mathlib.Decide.{ℕ_discrete}
use mathlib.Core.Path.{◌≡◌, refl, sym, ap, ◌∙◌}
use mathlib.Core.Logic.{◌⊎◌, inl, inr, ◌≢◌}
use mathlib.Core.List.Memᴰ
use mathlib.Core.List.{List, [], ◌∷◌, ◌++◌, append_assoc, Memᴰ}
use mathlib.Core.Bool.{Bool, true, false, true≢false}
use lib.ListN.{length, length-append, set, get_or, length-set}
use lib.Seq.{get_or-set_same, get_or-set_other}
use Rattle.rule.specs.Lists.{cond, All}
use Rattle.rule.proofs.Lists.{here, all_left, all_right}
use Rattle.image.specs.Readers.{Read, got, bad}
use Rattle.image.specs.Chains.{tall}
use Rattle.image.specs.Search.{Turn, onward, halt, below, Found, hit, ends, find}
use Rattle.image.proofs.Chains.{first, last, last_middle, next_tall, tall_append, tall_keep, tall_mem, tall_all, tall_split, Linked}
use Rattle.image.proofs.Machine.{find_onward, find_halt, find_ends, find_down}

-- where a search turns at a node, by the two tests of a node: whether it is passed, and if not whether the search stops there
module _ (pass stop : ℕ → Bool) where
  abbrev pub turn : ℕ → Turn
  turn zero = below
  turn (suc x) = cond (pass (suc x)) onward (cond (stop (suc x)) halt below)

  pub turn_pass : (x : ℕ) → x ≢ 0 → pass x ≡ true → turn x ≡ onward
  turn_pass zero h e = absurd (h refl)
  turn_pass (suc x) h e = rw e

  pub turn_refuse : (x : ℕ) → x ≢ 0 → pass x ≡ false → turn x ≡ cond (stop x) halt below
  turn_refuse zero h e = absurd (h refl)
  turn_refuse (suc x) h e = rw e

-- whether the first of a list stops the search
abbrev pub stops_at : (ℕ → Bool) → List ℕ → Bool
stops_at stop [] = false
stops_at stop (y ∷ ys) = stop y

stops_at_first : (stop : ℕ → Bool) (ys : List ℕ) (y : ℕ) → Memᴰ y ys → y ≡ first ys → stop y ≡ true → stops_at stop ys ≡ true
stops_at_first stop [] y m e h = absurd (Memᴰ.not-nil m)
stops_at_first stop (z ∷ zs) y m e h = rw (← e) h

-- a search that turns down at the first of a list does not stop there
stops_at_below : (pass stop : ℕ → Bool) (ys : List ℕ) → All (λ x. x ≢ 0) ys → All (λ x. pass x ≡ false) ys → turn pass stop (first ys) ≡ below → stops_at stop ys ≡ false
stops_at_below pass stop [] z r e = refl
stops_at_below pass stop (y ∷ ys) z r e = go (stop y) refl
  where
    go : (b : Bool) → stop y ≡ b → stop y ≡ false
    go true f = cc (turn_refuse pass stop y (z y here) (r y here))
    go false f = f

-- the tests part the nodes in two: it passes those of pre, and of post at most the first stops it
pub record Parted (height : ℕ → ℕ) (pass stop : ℕ → Bool) (pre post : List ℕ) : Type 0 where
  pub nonzero : All (λ x. x ≢ 0) (pre ++ post)
  pub high : All (λ x. 0 < height x) (pre ++ post)
  pub passes : All (λ x. pass x ≡ true) pre
  pub refuses : All (λ x. pass x ≡ false) post
  pub stops : All (λ x. stop x ≡ true → x ≡ first post) post

-- if the first of post does not stop the search, nothing does
pub none_stops : (height : ℕ → ℕ) (pass stop : ℕ → Bool) (pre post : List ℕ) → Parted height pass stop pre post → stops_at stop post ≡ false → All (λ x. stop x ≡ false) post
none_stops height pass stop pre post p e x m = go (stop x) refl
  where
    go : (b : Bool) → stop x ≡ b → stop x ≡ false
    go true f = absurd (true≢false (sym (stops_at_first stop post x m (p.stops x m f) f) ∙ e))
    go false f = f

-- t: the highest level
module _ (t : ℕ) (height : ℕ → ℕ) (stop : ℕ → Bool) (pre post : List ℕ) where
  pub record Hits (x looks : ℕ) : Type 0 where
    pub present : stops_at stop post ≡ true
    pub node : x ≡ first post
    pub bound : looks ≤ length pre + suc t

  pub record Ends (p x looks : ℕ) (prev : List ℕ) : Type 0 where
    pub absent : stops_at stop post ≡ false
    pub before : p ≡ last 0 pre
    pub after : x ≡ first post
    pub bound : looks ≤ length pre + suc t
    pub recorded : (l : ℕ) → l ≤ t → l < length prev → get_or prev l 0 ≡ last 0 (tall height l pre)

  -- what a search may answer: it is never bad
  abbrev pub Right : Read Found → Type 0
  Right (bad o) = ⊥
  Right (got (hit x looks)) = Hits x looks
  Right (got (ends p x looks prev)) = Ends p x looks prev

module _ (t : ℕ) (height : ℕ → ℕ) (look : ℕ → ℕ → Read Turn) (link : ℕ → ℕ → ℕ) (pass stop : ℕ → Bool) (pre post : List ℕ) where
  -- what a look says at a node: the turn of the node that its link names
  abbrev pub Seen : ℕ → ℕ → Type 0
  Seen cur level = (l : ℕ) → l ≤ level → look cur l ≡ got (turn pass stop (link cur l))

  -- where a search stands: rest are the nodes after cur that it is still to pass
  pub record State (cur level looks : ℕ) (prev rest : List ℕ) : Type 0 where
    pub done : List ℕ
    pub parts : pre ≡ done ++ rest
    pub ahead : (l : ℕ) → l ≤ level → link cur l ≡ next_tall height l (rest ++ post)
    pub lasts : (l : ℕ) → l ≤ level → last cur (tall height l rest) ≡ last 0 (tall height l pre)
    pub seen : Seen cur level
    pub low : level ≤ t
    pub recorded : (l : ℕ) → level < l → l ≤ t → l < length prev → get_or prev l 0 ≡ last 0 (tall height l pre)
    pub spent : looks + length rest + level < length pre + suc t

module _ (t : ℕ) (height : ℕ → ℕ) (look : ℕ → ℕ → Read Turn) (link place : ℕ → ℕ → ℕ) (pass stop : ℕ → Bool) (pre post : List ℕ)
    (linked : Linked (suc t) height link (pre ++ post)) (parted : Parted height pass stop pre post)
    (seen : (x l : ℕ) → l ≤ t → (x ≡ 0) ⊎ (Memᴰ x (pre ++ post) × (l < height x)) → look x l ≡ got (turn pass stop (link x l))) where
  -- what it meets at a level once nothing is left to pass there
  front : (l : ℕ) → (turn pass stop (next_tall height l post) ≡ below) ⊎ ((turn pass stop (next_tall height l post) ≡ halt) × (next_tall height l post ≡ first post) × (stops_at stop post ≡ true))
  front l = go (tall height l post) (tall_mem height l post)
    where
      met : (y : ℕ) → Memᴰ y post → turn pass stop y ≡ cond (stop y) halt below → (b : Bool) → stop y ≡ b
          → (turn pass stop y ≡ below) ⊎ ((turn pass stop y ≡ halt) × (y ≡ first post) × (stops_at stop post ≡ true))
      met y m e true f = inr (cc, parted.stops y m f, stops_at_first stop post y m (parted.stops y m f) f)
      met y m e false f = inl (cc)

      go : (ys : List ℕ) → All (λ y. Memᴰ y post × (l < height y)) ys
          → (turn pass stop (first ys) ≡ below) ⊎ ((turn pass stop (first ys) ≡ halt) × (first ys ≡ first post) × (stops_at stop post ≡ true))
      go [] h = inl refl
      go (y ∷ ys) h = let m = (h y here).0 in met y m (turn_refuse pass stop y (parted.nonzero y (Memᴰ.append_right pre m)) (parted.refuses y m)) (stop y) refl

  -- a look says the turn that is known
  says : {cur level looks : ℕ} {prev rest : List ℕ} {l : ℕ} {d : Turn} → State t height look link pass stop pre post cur level looks prev rest → l ≤ level
      → turn pass stop (link cur l) ≡ d → look cur l ≡ got d
  says {l = l} s h e = s.seen l h ∙ ap {B = Read Turn} got e

  -- with nothing to pass at a level, the node in front is one of post
  in_front : {cur level looks : ℕ} {prev rest : List ℕ} → State t height look link pass stop pre post cur level looks prev rest → tall height level rest ≡ []
      → link cur level ≡ next_tall height level post
  in_front {level = level} {rest = rest} s e = s.ahead level (omega arith) ∙ rw (tall_append height level rest post, e)

  -- and the node that it stands on is the last of pre that has the level
  on_last : {cur level looks : ℕ} {prev rest : List ℕ} → State t height look link pass stop pre post cur level looks prev rest → tall height level rest ≡ [] → cur ≡ last 0 (tall height level pre)
  on_last {level = level} s e = rw e at (s.lasts level (omega arith))

  -- the node is recorded on the way down
  records : {cur level looks : ℕ} {prev rest : List ℕ} → State t height look link pass stop pre post cur level looks prev rest → tall height level rest ≡ []
      → (l : ℕ) → level ≤ l → l ≤ t → l < length (set prev level cur) → get_or (set prev level cur) l 0 ≡ last 0 (tall height l pre)
  records {cur} {level} {prev = prev} s e l h k m = go (ℕ_discrete l level)
    where
      short : l < length prev
      short = rw length-set at m

      go : Dec (l ≡ level) → get_or (set prev level cur) l 0 ≡ last 0 (tall height l pre)
      go (yes f) = rw f (get_or-set_same prev level cur 0 (rw f at short) ∙ on_last s e)
      go (no f) = get_or-set_other prev level l cur 0 f ∙ s.recorded l (omega arith) k short

  -- one step onward: rest is c, then x, then d
  onward_state : {cur level looks : ℕ} {prev rest : List ℕ} → State t height look link pass stop pre post cur level looks prev rest
      → (c : List ℕ) (x : ℕ) (d : List ℕ) → rest ≡ c ++ (x ∷ d) → level < height x → State t height look link pass stop pre post x level (suc looks) prev d
  onward_state {cur} {level} {looks} {prev} {rest} s c x d e h = record {
    done = s.done ++ (c ++ (x ∷ []));
    parts = s.parts ∙ rw e (simp append_assoc);
    ahead = λ l k. linked.step l (omega arith) (s.done ++ c) x (d ++ post) (rw (s.parts, e) (simp append_assoc)) (omega arith);
    lasts = λ l k. sym (last_middle cur (tall height l c) x (tall height l d)) ∙ (rw (e, tall_append height l c (x ∷ d), tall_keep height l x d (omega arith)) at (s.lasts l k));
    seen = λ l k. seen x l (omega (arith, s.low)) (inr (rw (s.parts, e, append_assoc) (Memᴰ.append_right s.done (Memᴰ.append_left post (Memᴰ.append_right c here))), omega arith));
    low = s.low;
    recorded = s.recorded;
    spent = omega (arith, ap length e, length-append c (x ∷ d), s.spent);
  }

  down_state : {cur low looks : ℕ} {prev rest : List ℕ} → State t height look link pass stop pre post cur (suc low) looks prev rest
      → tall height (suc low) rest ≡ [] → State t height look link pass stop pre post cur low (suc looks) (set prev (suc low) cur) rest
  down_state {cur} {low} s e = record {
    done = s.done;
    parts = s.parts;
    ahead = λ l k. s.ahead l (omega arith);
    lasts = λ l k. s.lasts l (omega arith);
    seen = λ l k. s.seen l (omega arith);
    low = omega (arith, s.low);
    recorded = λ l k. records s e l k;
    spent = omega (arith, s.spent);
  }

  -- down from a level at which nothing is left to pass; what is found from the level below is given
  down_right : (n cur level looks : ℕ) (prev rest : List ℕ) → State t height look link pass stop pre post cur level looks prev rest → tall height level rest ≡ []
      → turn pass stop (link cur level) ≡ below
      → ((low : ℕ) → suc low ≡ level → State t height look link pass stop pre post cur low (suc looks) (set prev level cur) rest → Right t height stop pre post
      (find look link place n cur low (suc looks) (set prev level cur)))
      → Right t height stop pre post (find look link place (suc n) cur level looks prev)
  down_right n cur zero looks prev rest s e b next = rw (find_ends look link place n cur looks prev (says s (omega arith) b)) (record {
    absent = stops_at_below pass stop post (all_right pre post parted.nonzero) parted.refuses (rw (← meets) b);
    before = on_last s e ∙ ap (last 0) (tall_all height 0 pre (all_left pre post parted.high));
    after = meets;
    bound = omega (arith, s.spent);
    recorded = λ l k. records s e l (omega arith) k;
  })
    where
      meets : link cur 0 ≡ first post
      meets = in_front s e ∙ ap first (tall_all height 0 post (all_right pre post parted.high))
  down_right n cur (suc low) looks prev rest s e b next = rw (find_down look link place n cur low looks prev (says s (omega arith) b)) (next low refl (down_state s e))

  pub search_right : (n cur level looks : ℕ) (prev rest : List ℕ) → State t height look link pass stop pre post cur level looks prev rest
      → length rest + level < n → Right t height stop pre post (find look link place n cur level looks prev)
  search_right zero cur level looks prev rest s h = absurd (omega arith)
  search_right (suc n) cur level looks prev rest s h = go (search_right n) (tall_split height level rest) (front level)
    where
      go : ((cur level looks : ℕ) (prev rest : List ℕ) → State t height look link pass stop pre post cur level looks prev rest → length rest + level < n → Right t
          height stop pre post (find look link place n cur level looks prev))
          → (tall height level rest ≡ []) ⊎ ((a : List ℕ) × (x : ℕ) × (b : List ℕ) × (rest ≡ a ++ (x ∷ b)) × (tall height level a ≡ []) × (level < height x))
          → (turn pass stop (next_tall height level post) ≡ below) ⊎ ((turn pass stop (next_tall height level post) ≡ halt) × (next_tall height level post ≡ first post) × (stops_at stop post ≡ true))
          → Right t height stop pre post (find look link place (suc n) cur level looks prev)
      go ih (inl e) (inl b) = down_right n cur level looks prev rest s e (rw (in_front s e) b) (λ low p s2. ih cur low (suc looks) (set prev level cur) rest s2 (omega arith))
      go ih (inl e) (inr (p, q, r)) =
          rw (find_halt look link place n cur level looks prev (says s (omega arith) (rw (in_front s e) p))) (record { present = r; node = in_front s e ∙ q; bound = omega (arith, s.spent) })
      go ih (inr (c, x, d, e, q, k)) f =
          rw (find_onward look link place n cur level looks prev (says s (omega arith) (rw meets passed)), meets)
          (ih x level (suc looks) prev d (onward_state s c x d e k) (omega (arith, ap length e, length-append c (x ∷ d))))
        where
          meets : link cur level ≡ x
          meets = s.ahead level (omega arith) ∙ rw (e, append_assoc c (x ∷ d) post, tall_append height level c (x ∷ (d ++ post)), q, tall_keep height level x (d ++ post) k)

          mem : Memᴰ x pre
          mem = rw (s.parts, e) (Memᴰ.append_right s.done (Memᴰ.append_right c here))

          passed : turn pass stop x ≡ onward
          passed = turn_pass pass stop x (parted.nonzero x (Memᴰ.append_left post mem)) (parted.passes x mem)

  start_state : (prev : List ℕ) → State t height look link pass stop pre post 0 t 0 prev pre
  start_state prev = record {
    done = [];
    parts = refl;
    ahead = λ l k. linked.start l (omega arith);
    lasts = λ l k. refl;
    seen = λ l k. seen 0 l k (inl refl);
    low = omega arith;
    recorded = λ l k m. absurd (omega arith);
    spent = omega arith;
  }

  -- the whole search, from the head at the highest level: never stuck, and right
  pub search : (n : ℕ) (prev : List ℕ) → length pre + t < n → Right t height stop pre post (find look link place n 0 t 0 prev)
  search n prev h = search_right n 0 t 0 prev pre (start_state prev) h
