-- A key and a number beside the entries of the nodes: the order parts the nodes in two, and the newest entry stands at the parting.
use Prim.Native.Nat.{ℕ, ◌<◌}
use mathlib.Core.Path.{◌≡◌, refl, sym, ap, ◌∙◌}
use mathlib.Core.Logic.{◌≢◌}
use mathlib.Core.List.{List, [], ◌∷◌, ◌++◌, map, map-append}
use mathlib.Core.Bool.{Bool, true, false, true≢false}
use Rattle.rule.specs.Lists.{All, Pairwise}
use Rattle.rule.specs.Order.{Ord, less, compare_entries, is_less, is_equal}
use Rattle.rule.specs.Entries.{Entry, order}
use Rattle.rule.specs.Rows.{newest}
use Rattle.rule.proofs.Order.{entries, compare_pairs, less_passes, less_equal, less_true, not_less_other, equal_true}
use Rattle.rule.proofs.Lists.{here, all_nil, all_cons, all_map, pairwise_right, pairwise_map, pairwise_on, pairwise_insert, part}
use Rattle.rule.proofs.Rows.{front, newest_front}
use Rattle.image.proofs.Chains.{first}
use Rattle.image.proofs.SkipSearch.{Parted}

module _ (entry : ℕ → Entry) (k : List ℕ) (s : ℕ) where
  -- the node's entry beside the probe
  abbrev pub probe : ℕ → Ord
  probe x = compare_entries (entry x).key (entry x).number k s

  abbrev pub before : ℕ → Bool
  before x = is_less (probe x)

  abbrev pub exact : ℕ → Bool
  exact x = is_equal (probe x)

  -- of the nodes that are not before the probe, only the first can be it
  exact_first : (post : List ℕ) → Pairwise (λ x y. order (entry x) (entry y) ≡ less) post → All (λ x. before x ≡ false) post → All (λ x. exact x ≡ true → x ≡ first post) post
  exact_first [] a h = all_nil _
  exact_first (y ∷ ys) a h =
      all_cons (λ _. refl) (λ x m e. absurd (true≢false
      (sym (ap is_less (less_equal compare_pairs entries ((entry y).key, (entry y).number) ((entry x).key, (entry x).number) (k, s) (a.0 x m)
      (equal_true (probe x) e))) ∙ h y here)))

  -- a search with these two tests is parted, and the newest entry is at the first node that is not before the probe
  pub probe_parted : (height : ℕ → ℕ) (xs : List ℕ) → All (λ x. x ≢ 0) xs → All (λ x. 0 < height x) xs → Pairwise (λ x y. order (entry x) (entry y) ≡ less) xs
      → (pre : List ℕ) × (post : List ℕ) × (xs ≡ pre ++ post) × Parted height before exact pre post × (newest k s (map entry xs) ≡ front k (map entry post))
  probe_parted height xs nz high a =
      go (part before xs (pairwise_map _ _ xs (λ x y h. less_passes compare_pairs entries ((entry x).key, (entry x).number) ((entry y).key, (entry y).number) (k, s) h) a))
    where
      go : (pre : List ℕ) × (post : List ℕ) × (xs ≡ pre ++ post) × All (λ x. before x ≡ true) pre × All (λ x. before x ≡ false) post
          → (pre : List ℕ) × (post : List ℕ) × (xs ≡ pre ++ post) × Parted height before exact pre post × (newest k s (map entry xs) ≡ front k (map entry post))
      go (pre, post, e, h, g) = (
        pre,
        post,
        e,
        record { nonzero = rw e at nz; high = rw e at high; passes = h; refuses = g; stops = exact_first post (pairwise_right _ pre post (rw e at a)) g },
        rw (e, map-append entry pre post)
            (newest_front k s (map entry pre) (map entry post) (rw (← map-append entry pre post) (pairwise_on entry _ (pre ++ post) (rw e at a))) (all_map entry _ pre h)
            (all_map entry _ post g)),
      )

  -- a node of the probe's key and number, put in at its place, keeps the order
  pub insert_ascending : (m : ℕ) → (entry m).key ≡ k → (entry m).number ≡ s → (pre post : List ℕ) → Pairwise (λ x y. order (entry x) (entry y) ≡ less) (pre ++ post)
      → All (λ x. before x ≡ true) pre → All (λ x. before x ≡ false) post → All (λ x. exact x ≡ false) post → Pairwise (λ x y. order (entry x) (entry y) ≡ less) (pre ++ (m ∷ post))
  insert_ascending m p q pre post a h g n = pairwise_insert _ pre m post a (λ x i. rw (p, q) (less_true (probe x) (h x i)))
      (λ x i. rw (p, q) (not_less_other compare_pairs entries ((entry x).key, (entry x).number) (k, s) (g x i) (n x i)))
