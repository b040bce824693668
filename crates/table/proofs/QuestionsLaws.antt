-- The ways out of the questions of the layer above.
use Prim.Native.Nat.{ℕ}
use mathlib.Core.Path.{◌≡◌, refl, sym, ◌∙◌}
use mathlib.Core.List.{List}
use mathlib.Core.Bool.{false, true≢false}
use Rattle.std.specs.Prelude.{Option, Some, None, Result, Ok, Err, IfSome, is_ok}
use Rattle.image.specs.Words.{Bytes}
use Rattle.image.specs.Readers.{Read, got, bad}
use Rattle.image.specs.Sound.{header_holds}
use Rattle.image.specs.Search.{to_stop, searched}
use Rattle.image.specs.Refusals as is
use Rattle.image.specs.Refusals.{Answer, refused, given, reading}
use Rattle.image.specs.Lookup.{said_at}
use Rattle.image.specs.EntryMoves.{Cursor, cursor_at, landing}
use Rattle.image.specs.Cuts.{Cut, near_at, nearest, NearLands}
use Rattle.image.specs.Newest.{NewestAt as NewestAtIs, with_node, newest_at, NewestLandsOn}
use Rattle.image.proofs.Nearest.{nearest_right}
use Rattle.image.proofs.Newest.{newest_right}
use Rattle.image.proofs.Answering.{near_lands, newest_lands}
use Rattle.table.specs.Refusals.{answer_as, damage_as}
use Rattle.table.specs.Neighbours.{node_or_0, stood, stands_at, Finds}
use Rattle.table.specs.Memtable.{said_of, looked_is, NamesNode}
use Rattle.table.specs.Questions.{IfGiven, nodes_of, Behind, hit_as, Nears, version_of, newest_is, newest_as, TellsNewest}
use Rattle.table.specs.declared.tested.Table.{Table}
use Rattle.table.specs.declared.refusals.Refusal.{Refusal}
use Rattle.table.specs.declared.refusals.Damage.{Damage}
use Rattle.table.specs.declared.neighbours.Neighbour.{Neighbour}
use Rattle.table.specs.declared.key_types.Kind.{Kind}
use Rattle.table.specs.declared.key_types.Kind.TheVariants.{Deletion, Value}
use Rattle.table.specs.declared.memtable.Newest.{Newest}
use Rattle.table.proofs.NeighboursLaws.{ended_on, failed}
use Rattle.table.proofs.MemtableLaws.{framed_in, holds_in}

-- ---- what an answer means follows from what it is

if_given {ℓ} : {A : Type ℓ} (P : A → Type 0) (a : Answer A) → ((b : A) → a ≡ given b → P b) → IfGiven P a
if_given P (given b) h = h b refl
if_given P (refused q) h = tt

pub nears : (xs : List ℕ) (c : Cut) (t : List ℕ) (r : Result (Option ℕ) Damage) → Bytes xs → hit_as r ≡ nearest xs c t → Nears xs c t r
nears xs c t r b e = record {
  exact = e;
  rule = λ s. let (d, f, n) = nearest_right xs s c t in rw (e, f) n;
  lands = if_given (NearLands xs c t) (hit_as r) (λ d f. near_lands xs b c t d (sym e ∙ f));
}

pub tells_newest : (xs k : List ℕ) (s : ℕ) (r : Result (Option Newest) Damage) → Bytes xs → newest_as r ≡ newest_at xs k s → TellsNewest xs k s r
tells_newest xs k s r b e = record {
  exact = e;
  rule = λ sound. let (v, f, n) = newest_right xs sound k s in rw (e, f) n;
  lands = if_given (NewestLandsOn xs k s) (newest_as r) (λ v f. newest_lands xs b k s v (sym e ∙ f));
}

-- ---- whatever is refused, it is damage

-- what is read is refused for damage alone
damage_alone : {A B : Type 0} (read : Read A) (go : A → B) {f : is.Refusal} → refused f ≡ reading read given → refused is.damaged ≡ reading read (λ a. given (go a))
damage_alone (got a) go e = absurd cc
damage_alone (bad o) go e = refl

-- an answer whose error becomes damage; what is given is shown as what was read says
pub as_damage : {A B C : Type 0} (view : A → B) (show : A → C) (go : B → C) (q : Result A Refusal) (r : Result A Damage) → ((a : A) → q ≡ Ok a → r ≡ Ok a) → is_ok r ≡ is_ok q
    → ((a : A) → q ≡ Ok a → show a ≡ go (view a)) → (read : Read B) → answer_as view q ≡ reading read given → damage_as show r ≡ reading read (λ b. given (go b))
as_damage view show go (Ok a) r same v s (got b) e = let z : view a ≡ b = cc in rw (same a refl, s a refl, z)
as_damage view show go (Ok a) r same v s (bad o) e = absurd cc
as_damage view show go (Err f) (Ok a) same v s read e = absurd (true≢false v)
as_damage view show go (Err f) (Err d) same v s read e = damage_alone read go e

-- ---- the count

pub nodes_read : (xs : List ℕ) (t : Table) → t.bytes.now ≡ xs → t.frame.count ≡ nodes_of xs
nodes_read xs t is = rw (holds_in t is) (framed_in t is).count_is

-- ---- each way out; the header is tested first

module _ (xs : List ℕ) where
  pub near_header : (c : Cut) (t : List ℕ) → header_holds xs ≡ false → refused is.damaged ≡ nearest xs c t
  unfolding nearest
  near_header c t h = rw h

  pub newest_header : (k : List ℕ) (s : ℕ) → header_holds xs ≡ false → refused is.damaged ≡ newest_at xs k s
  unfolding newest_at
  newest_header k s h = rw h

  module _ (t : Table) (same : t.bytes.now ≡ xs) where
    module _ (c : Cut) (k : List ℕ) where
      asked : {a : Answer Cursor} → a ≡ reading (near_at t.bytes.now c k) given → a ≡ nearest xs c k
      unfolding nearest
      asked e = (rw same at e) ∙ sym (rw (holds_in t same))

      pub near_damaged : {q : Refusal} → Behind t.bytes.now c k (Err q) → refused is.damaged ≡ nearest xs c k
      near_damaged b = asked (damage_alone (near_at t.bytes.now c k) (λ (d : Cursor). d) b.exact)

      pub near_landed : {b : Neighbour} → Behind t.bytes.now c k (Ok b) → {a : Answer Cursor} → a ≡ reading (landing t.bytes.now (cursor_at (node_or_0 b.node))) given → a ≡ nearest xs c k
      near_landed b e = asked (e ∙ b.exact)

    module _ (k : List ℕ) (s : ℕ) where
      pub newest_damaged : {q : Refusal} → Finds t.bytes.now (stands_at t.bytes.now to_stop k s) (Err q) → refused is.damaged ≡ newest_at xs k s
      unfolding newest_at
      newest_damaged f = let (_, (o, b)) = failed stood (searched xs to_stop k s) (rw same at f.exact) in rw (holds_in t same, ← b)

      -- at the node where the search stands
      pub newest_said : {b : Neighbour} → Finds t.bytes.now (stands_at t.bytes.now to_stop k s) (Ok b) → (a : Answer NewestAtIs)
          → a ≡ reading (said_at t.bytes.now k (node_or_0 b.node)) (λ l. given (with_node (node_or_0 b.node) l)) → a ≡ newest_at xs k s
      unfolding newest_at
      newest_said f a e =
          (rw same at e) ∙ ended_on (searched xs to_stop k s) (rw same at f.exact) (λ d. reading (said_at xs k d.node) (λ l. given (with_node d.node l)))
          ∙ sym (rw (holds_in t same))

-- what is said of a node, with the node
pub said_with : (at : Option ℕ) (q : Result (Option Newest) Refusal) → NamesNode at q → (a : Option Newest) → q ≡ Ok a → newest_is a ≡ with_node (node_or_0 at) (looked_is a)
said_with at q names a e = go a (rw e at names)
  where
    go : (a : Option Newest) → IfSome a (λ n. at ≡ Some n.node) → newest_is a ≡ with_node (node_or_0 at) (looked_is a)
    go None h = refl
    go (Some n) h = rw h (by_kind n.kind)
      where
        by_kind : (kind : Kind) → version_of n.node kind ≡ with_node n.node (said_of n.node kind)
        by_kind Value = refl
        by_kind Deletion = refl
