-- The entries that an image holds, by arrival and by order; and what a search says of them.
use Prim.Native.Nat.{ℕ, zero, suc, ◌≤◌}
use native.Mathlib.Omega.{arith}
use native.Mathlib.Nat.{le_refl}
use native.Mathlib.Decide.{ℕ_discrete}
use mathlib.Core.Path.{◌≡◌, refl, sym, ap, ◌∙◌}
use mathlib.Core.Logic.{◌⊎◌, inl, inr, ⊎_elim, ◌≢◌}
use mathlib.Core.List.Memᴰ
use mathlib.Core.List.{List, [], ◌∷◌, ◌++◌, map, map-append, Memᴰ}
use Rattle.rule.specs.Lists.{cond, Maybe, none, some, All}
use Rattle.rule.specs.Order.{Ord, compare_keys, is_less, is_equal}
use Rattle.rule.specs.Entries.{Entry, Ascending, Agree}
use Rattle.rule.specs.Rows.{newest}
use Rattle.rule.proofs.Rows.{ascending_single, same_newest, front, newest_front}
use Rattle.rule.proofs.Lists.{here, all_map, pairwise_on, all_right}
use Rattle.image.specs.Nodes.{count, entry_of}
use Rattle.image.specs.Sound.{lowest, Sound, held_up_to, held}
use Rattle.image.specs.Search.{OnEqual, turn_by, standing}
use Rattle.image.proofs.Chains.{first}
use Rattle.image.proofs.Probe.{probe}
use Rattle.image.proofs.Sound.{everywhere, nonzero}
use Rattle.image.proofs.Search.{is_onward, Searched, search_sound}

-- the entry of each node is held, and what is held is the entry of a node
pub held_has : (xs : List ℕ) (n i : ℕ) → 1 ≤ i → i ≤ n → Memᴰ (entry_of xs i) (held_up_to xs n)
held_has xs zero i p q = absurd (omega arith)
held_has xs (suc n) i p q = go (ℕ_discrete i (suc n)) (held_has xs n i p)
  where
    go : Dec (i ≡ suc n) → (i ≤ n → Memᴰ (entry_of xs i) (held_up_to xs n)) → Memᴰ (entry_of xs i) (held_up_to xs (suc n))
    go (yes e) ih = Memᴰ.append_right (held_up_to xs n) (Memᴰ.head (ap (entry_of xs) e))
    go (no z) ih = Memᴰ.append_left (entry_of xs (suc n) ∷ []) (ih (omega arith))

pub held_from_lem : (xs : List ℕ) (n : ℕ) (e : Entry) → Memᴰ e (held_up_to xs n) → (i : ℕ) × (1 ≤ i) × (i ≤ n) × (entry_of xs i ≡ e)
held_from_lem xs zero e m = absurd (Memᴰ.not-nil m)
held_from_lem xs (suc n) e m = go (held_from_lem xs n e) (Memᴰ.append_cases (held_up_to xs n) m)
  where
    go : (Memᴰ e (held_up_to xs n) → (i : ℕ) × (1 ≤ i) × (i ≤ n) × (entry_of xs i ≡ e)) → Memᴰ e (held_up_to xs n) ⊎ Memᴰ e (entry_of xs (suc n) ∷ [])
        → (i : ℕ) × (1 ≤ i) × (i ≤ suc n) × (entry_of xs i ≡ e)
    go ih (inl m) = let (i, p, q, f) = ih m in (i, p, omega arith, f)
    go ih (inr m) = (suc n, omega arith, omega arith, ⊎_elim sym (λ z. absurd (Memᴰ.not-nil z)) (Memᴰ.cases_cons m))

-- the entry of a node, if it has the key
abbrev pub entry_if : List ℕ → List ℕ → ℕ → Maybe Entry
entry_if xs k zero = none
entry_if xs k (suc i) = cond (is_equal (compare_keys (entry_of xs (suc i)).key k)) (some (entry_of xs (suc i))) none

module _ (xs : List ℕ) (s : Sound xs) where
  abbrev pub in_order : List Entry
  in_order = map (entry_of xs) (lowest xs)

  pub ordered : Ascending in_order
  ordered = pairwise_on (entry_of xs) _ (lowest xs) s.ascending

  -- the entries by order are those held
  pub held_agree : (t : ℕ) → Agree t in_order (held xs)
  held_agree t e l = (
    λ m. let (i, n, f) = Memᴰ.of_map (entry_of xs) (lowest xs) m in let w = s.within i n in Memᴰ.cast (sym f) (held_has xs (count xs) i w.0 w.1),
    λ m. let (i, p, q, f) = held_from_lem xs (count xs) e m in Memᴰ.cast (sym f) (Memᴰ.map (entry_of xs) (everywhere xs s i p q)),
  )

  pub held_newest : (k : List ℕ) (t : ℕ) → newest k t (held xs) ≡ newest k t in_order
  held_newest k t = sym (same_newest k t in_order (held xs) (held_agree t) (ascending_single t in_order ordered))

  front_is : (k : List ℕ) (post : List ℕ) → All (λ x. x ≢ 0) post → front k (map (entry_of xs) post) ≡ entry_if xs k (first post)
  front_is k [] z = refl
  front_is k (zero ∷ post) z = absurd (z 0 here refl)
  front_is k (suc x ∷ post) z = refl

  -- a search that passes what is less stands at the node of the newest entry, if there is one
  pub lookup_right : (mode : OnEqual) → ((o : Ord) → is_onward (turn_by mode o) ≡ is_less o) → (k : List ℕ) (t : ℕ) → newest k t (held xs) ≡ entry_if xs k (standing (search_sound xs s mode k t).found)
  lookup_right mode passes_less k t = go (search_sound xs s mode k t)
    where
      go : (q : Searched xs s mode k t) → newest k t (held xs) ≡ entry_if xs k (standing q.found)
      go q = held_newest k t ∙ ap (newest k t) halves
          ∙ newest_front k t (map (entry_of xs) q.before) (map (entry_of xs) q.behind) (rw halves at ordered)
          (all_map (entry_of xs) _ q.before (λ x m. sym (passes_less (probe (entry_of xs) k t x)) ∙ q.passes x m))
          (all_map (entry_of xs) _ q.behind (λ x m. sym (passes_less (probe (entry_of xs) k t x)) ∙ q.refuses x m))
          ∙ front_is k q.behind (all_right q.before q.behind (rw q.split at (nonzero xs s))) ∙ ap (entry_if xs k) (sym q.stands)
        where
          halves : in_order ≡ map (entry_of xs) q.before ++ map (entry_of xs) q.behind
          halves = ap (map (entry_of xs)) q.split ∙ map-append (entry_of xs) q.before q.behind

-- no two entries held have one key and number
pub held_single : (xs : List ℕ) → Sound xs → (e f : Entry) → Memᴰ e (held xs) → Memᴰ f (held xs) → e.key ≡ f.key → e.number ≡ f.number → e ≡ f
held_single xs s e f m n p q =
    ascending_single e.number (in_order xs s) (ordered xs s) e f ((held_agree xs s e.number e (le_refl _)).1 m) ((held_agree xs s e.number f (rw q (le_refl _))).1 n) (le_refl _) p q
