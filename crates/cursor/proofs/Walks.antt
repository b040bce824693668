-- The walk: one turn, what is kept between turns, and where it ends.
use Prim.Native.Nat.{ℕ, ◌+◌, ◌-◌, ◌≤◌, ◌<◌}
use native.Mathlib.Omega.{arith}
use mathlib.Core.Path.{◌≡◌, refl, sym, ap, subst, ◌∙◌}
use mathlib.Core.Logic.{◌⊎◌, inl, inr, ⊎_elim}
use mathlib.Core.List.{List}
use Rattle.std.specs.Prelude.{Option, Some, None, Result, Ok, Err}
use mathlib.Core.Bool.{Bool, true, false}
use lib.Dec.{ltb}
use borrow.Author.Tests.{ltb-true, ltb-false}
use Rattle.rule.specs.Lists.{cond, Maybe, none, some, is_some}
use Rattle.rule.specs.Order.{is_less}
use Rattle.rule.specs.Entries.{Entry}
use Rattle.rule.specs.Rows.{row}
use Rattle.rule.specs.Moves.{best}
use Rattle.rule.specs.Nearest.{HasKey, Least, remaining}
use Rattle.rule.proofs.Nearest.{best_end, best_done, best_past, remaining_length, remaining_mono, remaining_less}
use Rattle.image.specs.Nodes.{count, entry_of}
use Rattle.image.specs.Sound.{header_holds, Sound, held}
use Rattle.image.specs.EntryMoves.{on, parts_on, view_refusal}
use Rattle.image.specs.Cuts.{Cut, cmp_of, admits, past_of}
use Rattle.image.proofs.Nearest.{way, onward, past_way, past_admits}
use Rattle.image.proofs.Landing.{key_read}
use Rattle.table.specs.Questions.{nodes_of}
use Rattle.table.specs.declared.key_types.Kind.TheVariants.{Value}
use Rattle.table.specs.declared.refusals.Damage.{Damage}
use Rattle.table.proofs.Laws.{node_held, held_length, past_past}
use Rattle.cursor.specs.Places.{image_of, all_entries, entry_at, key_at}
use Rattle.cursor.specs.Merging.{PlaceReads, HasNode, NearestOfAll, NewestDamaged, NewestOfAll}
use Rattle.cursor.specs.Walks.{StepRule, Stepped, cut_from, key_from, tick_of, spent_of, best_of, Ends, Walked, Passes, start, more}
use Rattle.cursor.specs.declared.places.Place.{Place}
use Rattle.cursor.specs.declared.merging_iter.Meeting.{Meeting}
use Rattle.cursor.specs.declared.merging_iter.Version.{Version}
use Rattle.cursor.specs.declared.walk.Step.TheVariants as step
use Rattle.cursor.specs.declared.walk.Left.{Left}

-- the key of a place that can be read is the one that its table shows
pub key_read_at : (f g : List ℕ) (p : Place) → PlaceReads f g p → key_at f g p ≡ (entry_at f g p).key
key_read_at f g p r = key_read (image_of p.table f g) p.node r.readable

-- ---- one turn

module _ (f g : List ℕ) (s : ℕ) (c : Cut) (t : List ℕ) where
  module _ {m : Meeting} (n : NearestOfAll f g c t (Ok (Some m))) {k : List ℕ} (e : k ≡ key_at f g m.place) where
    pub step_hurt : {d : Damage} → NewestOfAll f g k s (Err d) → Stepped f g s c t (Err d)
    step_hurt r = record { rule = r.over.rule; lands = inr (m, n.lands, subst (λ (l : List ℕ). NewestDamaged f g l s) (e ∙ key_read_at f g m.place n.lands.reads) r.over.lands) }

    pub step_done : {v : Version} → NewestOfAll f g k s (Ok (Some v)) → v.kind ≡ Value → Stepped f g s c t (Ok (step.Done v.place))
    step_done {v} r h = record {
      rule = λ x y. let o = r.over.rule x y in
          (k, rw e (n.rule x y), record { inside = r.over.lands.reads.inside; newest_is = o.0; value_is = rw h at o.1; first = r.first x y });
      lands = let o = r.over.lands in record {
        reads = o.reads;
        admitted = rw (o.key_is, e, key_read_at f g m.place n.lands.reads) n.lands.admitted;
        value_is = rw h at o.kind_is;
        number_most = o.number_most;
      };
    }

-- ---- -- what it counts

-- what is left of both counts where neither is used up
abbrev rest_of : Left → Meeting → Left
rest_of l m = record { first = l.first - tick_of m.first; second = l.second - tick_of m.second }

-- a count is used up, or not
over_means : (l : Left) (m : Meeting) → spent_of l m ≡ None → (l.first < tick_of m.first) ⊎ (l.second < tick_of m.second)
over_means l m e = go (ltb l.first (tick_of m.first)) refl (ltb l.second (tick_of m.second)) refl e
  where
    go : (p : Bool) → ltb l.first (tick_of m.first) ≡ p → (q : Bool) → ltb l.second (tick_of m.second) ≡ q → cond p None (cond q None (Some (rest_of l m))) ≡ None
        → (l.first < tick_of m.first) ⊎ (l.second < tick_of m.second)
    go true p q d e = inl (ltb-true l.first (tick_of m.first) p)
    go false p true d e = inr (ltb-true l.second (tick_of m.second) d)
    go false p false d e = absurd cc

rest_means : (l : Left) (m : Meeting) (r : Left) → spent_of l m ≡ Some r → (tick_of m.first + r.first ≡ l.first) × (tick_of m.second + r.second ≡ l.second)
rest_means l m r e = go (ltb l.first (tick_of m.first)) refl (ltb l.second (tick_of m.second)) refl e
  where
    go : (p : Bool) → ltb l.first (tick_of m.first) ≡ p → (q : Bool) → ltb l.second (tick_of m.second) ≡ q → cond p None (cond q None (Some (rest_of l m))) ≡ Some r
        → (tick_of m.first + r.first ≡ l.first) × (tick_of m.second + r.second ≡ l.second)
    go true p q d e = absurd cc
    go false p true d e = absurd cc
    go false p false d e = let z : rest_of l m ≡ r = cc in
        (omega (arith, ap (λ (x : Left). x.first) z, ltb-false l.first (tick_of m.first) p), omega (arith, ap (λ (x : Left). x.second) z, ltb-false l.second (tick_of m.second) d))

-- ---- a key that is passed

-- d is where the walk has come to, c where it began, and the cuts past a key are the same: what comes after a key behind the cut is behind it too
pub behind_key : (c d : Cut) (u k : List ℕ) → past_of d ≡ past_of c → admits d u k ≡ true → (l : List ℕ) → admits (past_of c) k l ≡ true → admits d u l ≡ true
behind_key c d u k e a l h = onward d u k l a (ap (λ (q : List ℕ → Bool). q l) (sym (past_admits d k)) ∙ rw e h)

module _ (c d : Cut) (u k : List ℕ) (e : past_of d ≡ past_of c) where
  -- without a row the search goes on behind it
  best_on : (s : ℕ) (es : List Entry) → Least (cmp_of d) (admits d u) es (some k) → is_some (row k s es) ≡ false
      → best (λ a b. is_less (cmp_of d a b)) (admits d u) s es ≡ best (λ a b. is_less (cmp_of (past_of c) a b)) (admits (past_of c) k) s es
  best_on s es least h = best_past (cmp_of d) (way d) s es (admits d u) k least (onward d u) h ∙ rw (← past_admits d k, ← past_way d, e)

  -- a table that has the key has one entry less behind the cut, and none has more
  one_less : admits d u k ≡ true → (fs : List Entry) (b : Bool) → (b ≡ true → HasKey k fs) → tick_of b + remaining (admits (past_of c) k) fs ≤ remaining (admits d u) fs
  one_less a fs false h = omega (arith, remaining_mono (admits d u) (admits (past_of c) k) (behind_key c d u k e a) fs)
  one_less a fs true h = omega (arith, remaining_less (admits d u) (admits (past_of c) k) (behind_key c d u k e a) k a itself fs (h refl))
    where
      itself : admits (past_of c) k k ≡ false
      itself = rw (← e, past_admits d k, (way d).same k)

-- a node that can be read is in a table whose header holds
header_read : (xs : List ℕ) (i : ℕ) → view_refusal xs (on i) ≡ 0 → header_holds xs ≡ true
unfolding parts_on
header_read xs i e = go (header_holds xs) refl
  where
    go : (b : Bool) → header_holds xs ≡ b → header_holds xs ≡ true
    go true h = h
    go false h = let z : view_refusal xs (on i) ≡ 1 = rw h in absurd (omega (arith, z, e))

-- the cut past the key of a place is the same from wherever the walk has come to
past_from : (c : Cut) (at : Option Place) → past_of (cut_from c at) ≡ past_of c
past_from c None = refl
past_from c (Some p) = past_past c

-- a key that a turn passes, on any bytes
module _ (f g : List ℕ) (s : ℕ) (c : Cut) (t : List ℕ) (at : Option Place) (m : Meeting) (r : Stepped f g s (cut_from c at) (key_from f g t at) (Ok (step.Pass m))) where
  key_is : key_at f g m.place ≡ (entry_at f g m.place).key
  key_is = key_read_at f g m.place r.lands.reads

  pub admitted : admits (cut_from c at) (key_from f g t at) (key_at f g m.place) ≡ true
  admitted = rw key_is r.lands.admitted

  has_key : (xs : List ℕ) → HasNode xs (entry_at f g m.place).key → HasKey (key_at f g m.place) (held xs)
  has_key xs h = (entry_of xs h.node, node_held xs h.node h.inside, h.key_is ∙ sym key_is)

  pub less_of : (xs : List ℕ) (b : Bool) → (b ≡ true → HasNode xs (entry_at f g m.place).key)
      → tick_of b + remaining (admits (past_of c) (key_at f g m.place)) (held xs) ≤ remaining (admits (cut_from c at) (key_from f g t at)) (held xs)
  less_of xs b h = one_less c (cut_from c at) (key_from f g t at) (key_at f g m.place) (past_from c at) admitted (held xs) b (λ z. has_key xs (h z))

-- ---- between turns

-- the key that is looked for is the first with a row behind the cut where the walk has come to; on any bytes, what is behind that cut is behind the one
-- where it began, the counts last (no more entries of a table lie there than may still be met), and it came there by passing keys
pub record Kept (f g : List ℕ) (s : ℕ) (c : Cut) (t : List ℕ) (at : Option Place) (left : Left) : Type 0 where
  pub same : Sound f → Sound g → best_of f g s c t ≡ best_of f g s (cut_from c at) (key_from f g t at)
  pub first : header_holds f ≡ true → remaining (admits (cut_from c at) (key_from f g t at)) (held f) ≤ left.first
  pub second : header_holds g ≡ true → remaining (admits (cut_from c at) (key_from f g t at)) (held g) ≤ left.second
  pub behind : (k : List ℕ) → admits (cut_from c at) (key_from f g t at) k ≡ true → admits c t k ≡ true
  pub came : (i : ℕ) × (j : ℕ) × Passes f g s c t at i j

module _ (f g : List ℕ) (s : ℕ) (c : Cut) (t : List ℕ) where
  counted : (xs : List ℕ) {i : ℕ} → i ≡ nodes_of xs → header_holds xs ≡ true → remaining (admits c t) (held xs) ≤ i
  counted xs {i} a h = let e : i ≡ count xs = rw h at a in omega (arith, e, remaining_length (admits c t) (held xs), held_length xs)

  pub kept_start : {i j : ℕ} → i ≡ nodes_of f → j ≡ nodes_of g → Kept f g s c t None (record { first = i; second = j })
  kept_start a b = record {
    same = λ x y. refl;
    first = λ h. counted f a h;
    second = λ h. counted g b h;
    behind = λ k h. h;
    came = (0, 0, start);
  }

  module _ {at : Option Place} {left : Left} (k : Kept f g s c t at left) where
    ends : (a b : Maybe (List ℕ)) → a ≡ b → (r : Result (Option Place) Damage) → Ends f g s b r → Ends f g s a r
    ends a b e r h = subst (λ (n : Maybe (List ℕ)). Ends f g s n r) (sym e) h

    pub kept_end : Stepped f g s (cut_from c at) (key_from f g t at) (Ok step.End) → Walked f g s c t (Ok None)
    kept_end r = record {
      rule = λ x y.
          let d = cut_from c at in
          let e = best_end (cmp_of d) (way d) s (all_entries f g) (admits d (key_from f g t at)) (r.rule x y) in
          ends (best_of f g s c t) none (k.same x y ∙ e) (Ok None) tt;
      lands = tt;
    }

    pub kept_done : {p : Place} → Stepped f g s (cut_from c at) (key_from f g t at) (Ok (step.Done p)) → Walked f g s c t (Ok (Some p))
    kept_done {p} r = record {
      rule = λ x y. go (cut_from c at) (key_from f g t at) (r.rule x y) (k.same x y);
      lands = let o = r.lands in record { reads = o.reads; admitted = k.behind (entry_at f g p).key o.admitted; value_is = o.value_is; number_most = o.number_most };
    }
      where
        go : (d : Cut) (u : List ℕ) → StepRule f g s d u (Ok (step.Done p)) → best_of f g s c t ≡ best_of f g s d u → Ends f g s (best_of f g s c t) (Ok (Some p))
        go d u (l, h, v) e = ends (best_of f g s c t) (some l) (e ∙ best_done (cmp_of d) (way d) s (all_entries f g) (admits d u) l h (rw (v.newest_is, v.value_is))) (Ok (Some p)) v

    module _ {m : Meeting} (r : Stepped f g s (cut_from c at) (key_from f g t at) (Ok (step.Pass m))) where
      -- what may still be met is not used up by a key that is met
      lasts : (xs : List ℕ) (b : Bool) (n : ℕ) → (b ≡ true → HasNode xs (entry_at f g m.place).key)
          → (header_holds xs ≡ true → remaining (admits (cut_from c at) (key_from f g t at)) (held xs) ≤ n) → n < tick_of b → ⊥
      lasts xs false n h few z = omega arith
      lasts xs true n h few z = let o = h refl in omega (arith, z, few (header_read xs o.node o.readable), less_of f g s c t at m r xs true h)

      -- so no count is ever used up
      never_over : spent_of left m ≡ None → ⊥
      never_over h = ⊎_elim (lasts f m.first left.first r.lands.in_first k.first) (lasts g m.second left.second r.lands.in_second k.second) (over_means left m h)

      pub kept_over : {d : Damage} → spent_of left m ≡ None → Walked f g s c t (Err d)
      kept_over h = absurd (never_over h)

      pub kept_on : {rest : Left} → spent_of left m ≡ Some rest → Kept f g s c t (Some m.place) rest
      kept_on {rest} h = let (p, q) = rest_means left m rest h in record {
        same = λ x y. k.same x y ∙ best_on c (cut_from c at) (key_from f g t at) (key_at f g m.place) (past_from c at) s (all_entries f g) (r.rule x y).0 (r.rule x y).1;
        first = λ z. omega (arith, p, k.first z, less_of f g s c t at m r f m.first r.lands.in_first);
        second = λ z. omega (arith, q, k.second z, less_of f g s c t at m r g m.second r.lands.in_second);
        behind = λ l z. k.behind l (behind_key c (cut_from c at) (key_from f g t at) (key_at f g m.place) (past_from c at) (admitted f g s c t at m r) l z);
        came = let (i, j, o) = k.came in (tick_of m.first + i, tick_of m.second + j, more m o r);
      }

-- ---- how many nodes of a table a walk meets

pub few_left : (f g : List ℕ) (s : ℕ) (c : Cut) (t : List ℕ) {at : Option Place} {i j : ℕ} → Passes f g s c t at i j
    → (i + remaining (admits (cut_from c at) (key_from f g t at)) (held f) ≤ count f) × (j + remaining (admits (cut_from c at) (key_from f g t at)) (held g) ≤ count g)
few_left f g s c t start = (omega (arith, remaining_length (admits c t) (held f), held_length f), omega (arith, remaining_length (admits c t) (held g), held_length g))
few_left f g s c t (more {at = at} m p r) =
    let (i, j) = few_left f g s c t p in
    let u = less_of f g s c t at m r f m.first r.lands.in_first in
    let v = less_of f g s c t at m r g m.second r.lands.in_second in
    (omega (arith, i, u), omega (arith, j, v))

-- on any bytes no walk meets more nodes of a table than it has
pub passes_few : (f g : List ℕ) (s : ℕ) (c : Cut) (t : List ℕ) {at : Option Place} {i j : ℕ} → Passes f g s c t at i j → (i ≤ count f) × (j ≤ count g)
passes_few f g s c t p = let (i, j) = few_left f g s c t p in (omega (arith, i), omega (arith, j))
