-- The key that comes next behind a cut: on a sound image never damaged and the right one.
use Prim.Native.Nat.{ℕ, ◌≤◌}
use native.Mathlib.Omega.{arith}
use mathlib.Core.Path.{◌≡◌, refl, sym, ◌∙◌}
use mathlib.Core.List.{List, [], ◌++◌}
use mathlib.Core.Bool.{Bool, true, false, not, true≢false}
use borrow.Author.Tests.{not-true, not-false}
use Rattle.rule.specs.Lists.{All}
use Rattle.rule.specs.Order.{Ord, less, equal, greater, then, compare_numbers, compare_keys, compare_entries, is_less}
use Rattle.rule.specs.Entries.{Entry, order}
use Rattle.rule.specs.Nearest.{Onward}
use Rattle.rule.proofs.Lists.{all_nil, all_left, all_right}
use Rattle.rule.proofs.Order.{Order, keys, opposite, flip, Says, numbers_known}
use Rattle.rule.proofs.Nearest.{every_onward, from_onward, past_onward}
use Rattle.image.specs.Limits.{max_number}
use Rattle.image.specs.Readers.{got}
use Rattle.image.specs.Nodes.{count, entry_of}
use Rattle.image.specs.Sound.{lowest, Sound}
use Rattle.image.specs.Search.{OnEqual, to_stop, to_go_down, to_pass, turn_by, Found, hit, ends, standing, passed}
use Rattle.image.specs.Refusals.{given}
use Rattle.image.specs.EntryMoves.{Cursor, nowhere, on, cursor_at, first_not_passed, last_before}
use Rattle.image.specs.Meaning.{Stands, Foremost}
use Rattle.image.specs.Cuts.{Cut, all, from, above, below, cmp_of, admits, past_of, near_at, nearest, NearestIs}
use Rattle.image.proofs.Chains.{first, last}
use Rattle.image.proofs.Sound.{header_complete}
use Rattle.image.proofs.Search.{is_onward, pass_test, stop_pass, Searched, search_sound}
use Rattle.image.proofs.Probe.{probe}
use Rattle.image.proofs.Held.{held_has}
use Rattle.image.proofs.EntryMoves.{landing_sound, first_is, foremost_first, foremost_last, down_pass, down_stop}

-- ---- the way of a cut

-- it is an order of the keys
pub way : (c : Cut) → Order (List ℕ) (cmp_of c)
way all = keys
way from = keys
way above = keys
way below = opposite compare_keys keys

-- what a cut admits it admits further on
pub onward : (c : Cut) (t : List ℕ) → Onward (cmp_of c) (admits c t)
onward all t = every_onward compare_keys keys
onward from t = from_onward compare_keys keys t
onward above t = past_onward compare_keys keys t
onward below t = past_onward (λ a b. compare_keys b a) (opposite compare_keys keys) t

-- the cut just past a key has the same way, and admits what comes after the key
pub past_way : (c : Cut) → cmp_of (past_of c) ≡ cmp_of c
past_way all = refl
past_way from = refl
past_way above = refl
past_way below = refl

pub past_admits : (c : Cut) (t : List ℕ) → admits (past_of c) t ≡ (λ k. is_less (cmp_of c t k))
past_admits all t = refl
past_admits from t = refl
past_admits above t = refl
past_admits below t = refl

-- ---- what a search passes, by keys alone

-- for the highest number, the keys below
pub before_key : (o : Ord) (n : ℕ) → n ≤ max_number → is_less (then o (compare_numbers max_number n)) ≡ is_less o
before_key less n h = refl
before_key equal n h = go (compare_numbers max_number n) (numbers_known max_number n refl)
  where
    go : (p : Ord) → Says max_number n p → is_less p ≡ false
    go less z = absurd (omega arith)
    go equal z = refl
    go greater z = refl
before_key greater n h = refl

-- for the number 0, passing what is equal, the keys that are not above
pub upto_key : (o : Ord) (n : ℕ) → is_onward (turn_by to_pass (then o (compare_numbers 0 n))) ≡ not (is_less (flip o))
upto_key less n = refl
upto_key equal n = go (compare_numbers 0 n) (numbers_known 0 n refl)
  where
    go : (p : Ord) → Says 0 n p → is_onward (turn_by to_pass p) ≡ true
    go less z = refl
    go equal z = refl
    go greater z = absurd (omega arith)
upto_key greater n = refl

-- ---- on a sound image

-- an entry that is not before another has no key before the other's
key_order : (e f : Entry) → is_less (order e f) ≡ false → is_less (compare_keys e.key f.key) ≡ false
unfolding compare_entries
key_order e f = go (compare_keys e.key f.key) (compare_numbers f.number e.number)
  where
    go : (o p : Ord) → is_less (then o p) ≡ false → is_less o ≡ false
    go less p h = h
    go equal p h = refl
    go greater p h = refl

module _ (xs : List ℕ) (s : Sound xs) where
  abbrev key_of : ℕ → List ℕ
  key_of x = (entry_of xs x).key

  -- a search for the highest number passes the nodes whose keys are below, if it passes what is less
  before_pass : (mode : OnEqual) (t : List ℕ) → ((x : ℕ) → pass_test xs mode t max_number x ≡ is_less (probe (entry_of xs) t max_number x))
      → All (λ x. pass_test xs mode t max_number x ≡ is_less (compare_keys (key_of x) t)) (lowest xs)
  unfolding compare_entries
  before_pass mode t passes x m = let w = s.within x m in passes x ∙ before_key (compare_keys (key_of x) t) (entry_of xs x).number (s.reads x w.0 w.1).legal.number_low

  -- a search for the number 0 that passes what is equal passes the nodes whose keys are not above
  upto_pass : (t : List ℕ) (x : ℕ) → pass_test xs to_pass t 0 x ≡ not (is_less (compare_keys t (key_of x)))
  unfolding compare_entries
  upto_pass t x = rw (keys.flips (key_of x) t) (upto_key (compare_keys (key_of x) t) (entry_of xs x).number)

  module _ (c : Cut) (t : List ℕ) where
    -- the foremost entry behind the cut has the nearest key
    nearest_by : (cmp : Entry → Entry → Ord) → ((e f : Entry) → is_less (cmp e f) ≡ false → is_less (cmp_of c e.key f.key) ≡ false) → (d : Cursor)
        → Foremost cmp (λ e. admits c t e.key) xs d → NearestIs xs c t d
    nearest_by cmp keeps nowhere f = f
    nearest_by cmp keeps (on i) (n, a, f) = (n, ((entry_of xs i, held_has xs (count xs) i n.some n.most, refl), a, λ e m q. keeps e (entry_of xs i) (f e m q)))

    nearest_stands : (d : Cursor) → NearestIs xs c t d → Stands xs d
    nearest_stands nowhere n = tt
    nearest_stands (on i) n = n.0

    -- where the search passes what the cut leaves out, it stands at the answer
    upward : (mode : OnEqual) (n : ℕ) → ((e f : Entry) → is_less (order e f) ≡ false → is_less (cmp_of c e.key f.key) ≡ false)
        → All (λ x. pass_test xs mode t n x ≡ not (admits c t (key_of x))) (lowest xs)
        → (d : Cursor) × (first_not_passed xs mode t n ≡ got d) × NearestIs xs c t d
    upward mode n keeps pass = let q = search_sound xs s mode t n in let p = rw q.split at pass in let near = near_at_lem q p in (
      cursor_at (standing q.found),
      rw q.search (landing_sound xs s (cursor_at (standing q.found)) (nearest_stands (cursor_at (standing q.found)) near)),
      near,
    )
      where
        near_at_lem : (q : Searched xs s mode t n) → All (λ x. pass_test xs mode t n x ≡ not (admits c t (key_of x))) (q.before ++ q.behind) → NearestIs xs c t (cursor_at (standing q.found))
        near_at_lem q p = rw q.stands (nearest_by order keeps (cursor_at (first q.behind)) (foremost_first xs s (λ e. admits c t e.key) q.before q.behind q.split
            (λ x m. not-true _ (sym (all_left q.before q.behind p x m) ∙ q.passes x m)) (λ x m. not-false _ (sym (all_right q.before q.behind p x m) ∙ q.refuses x m))))

    -- where it passes what the cut admits, the last node passed is the answer
    downward : (n : ℕ) → ((e f : Entry) → is_less (order f e) ≡ false → is_less (cmp_of c e.key f.key) ≡ false) → All (λ x. pass_test xs to_go_down t n x ≡ admits c t (key_of x)) (lowest xs)
        → (d : Cursor) × (last_before xs t n ≡ got d) × NearestIs xs c t d
    downward n keeps pass = let q = search_sound xs s to_go_down t n in let near = near_at_lem q (rw q.split at pass) in (
      cursor_at (passed q.found),
      rw q.search (landing_sound xs s (cursor_at (passed q.found)) (nearest_stands (cursor_at (passed q.found)) near)),
      near,
    )
      where
        last_passed : (q : Searched xs s to_go_down t n) (r : Found) → q.found ≡ r → passed r ≡ last 0 q.before
        last_passed q (hit x looks) f = absurd (true≢false (sym (q.hits x looks f).1 ∙ down_stop xs s t n x))
        last_passed q (ends p x looks prev) f = (q.misses p x looks prev f).last_passed

        near_at_lem : (q : Searched xs s to_go_down t n) → All (λ x. pass_test xs to_go_down t n x ≡ admits c t (key_of x)) (q.before ++ q.behind) → NearestIs xs c t (cursor_at (passed q.found))
        near_at_lem q p =
            rw (last_passed q q.found refl) (nearest_by (λ e f. order f e) keeps (cursor_at (last 0 q.before)) (foremost_last xs s (λ e. admits c t e.key) q.before q.behind q.split
            (λ x m. sym (all_left q.before q.behind p x m) ∙ q.passes x m) (λ x m. sym (all_right q.before q.behind p x m) ∙ q.refuses x m)))

  -- the nearest key behind a cut: never damaged, and the right one
  near_right : (c : Cut) (t : List ℕ) → (d : Cursor) × (near_at xs c t ≡ got d) × NearestIs xs c t d
  near_right all t = let there = foremost_first xs s (λ e. true) [] (lowest xs) refl (all_nil _) (λ x m. refl) in
      (cursor_at (first (lowest xs)), first_is xs s, nearest_by all t order key_order (cursor_at (first (lowest xs))) there)
  near_right from t = upward from t to_stop max_number key_order (λ x m. before_pass to_stop t (stop_pass xs t max_number) x m ∙ sym (not_not (is_less (compare_keys (key_of x) t))))
    where
      not_not : (b : Bool) → not (not b) ≡ b
      not_not true = refl
      not_not false = refl
  near_right above t = upward above t to_pass 0 key_order (λ x m. upto_pass t x)
  near_right below t = downward below t max_number (λ e f. key_order f e) (before_pass to_go_down t (down_pass xs s t max_number))

  pub nearest_right : (c : Cut) (t : List ℕ) → (d : Cursor) × (nearest xs c t ≡ given d) × NearestIs xs c t d
  unfolding nearest
  nearest_right c t = let (d, e, n) = near_right c t in (d, rw (header_complete xs s.header, e), n)
