-- Lookup and presence on a sound image: never damaged, and what they say of the entries held.
use Prim.Native.Nat.{ℕ, zero, suc, ◌+◌, ◌≤◌}
use native.Mathlib.Omega.{arith}
use mathlib.Core.Path.{◌≡◌, refl, sym, ap, ◌∙◌}
use mathlib.Core.Logic.{◌⊎◌, inl, inr, ◌↔◌}
use mathlib.Core.List.Memᴰ
use mathlib.Core.List.{List, [], ◌∷◌, ◌++◌}
use mathlib.Core.Bool.{Bool, true, false, true≢false}
use lib.ListN.{length}
use lib.Dec.{leb, eqb}
use borrow.Author.Tests.{le-leb, eqb-true, eqb-false, eq-eqb}
use Rattle.rule.specs.Lists.{cond, none, some}
use Rattle.rule.specs.Order.{Ord, less, equal, greater, compare_keys, is_less, is_equal}
use Rattle.rule.specs.Entries.{Entry, Duplicates, value_kind}
use Rattle.rule.specs.Rows.{newest}
use Rattle.rule.proofs.Lists.{here}
use Rattle.image.specs.Limits.{max_key, max_number, levels}
use Rattle.image.specs.Readers.{got}
use Rattle.image.specs.Entries.{entry_in}
use Rattle.image.specs.Nodes.{count, free, slot, Node, node_at, height_of, entry_of}
use Rattle.image.specs.Sound.{Header, header_holds, lowest, Sound, held}
use Rattle.image.specs.Search.{to_stop, turn_by, Found, hit, ends, searched, looks_of, standing}
use Rattle.image.specs.Refusals.{bad_image, bad_kind, bad_number, long_key, given}
use Rattle.image.specs.Lookup.{Looked, found, deleted, absent, Lookup, says_of, said_at, get, Presence, held_at, presence}
use Rattle.image.specs.Meaning.{IsNode, Tells, IsHeld}
use Rattle.image.proofs.Nodes.{node_for, node_entry}
use Rattle.image.proofs.Chains.{first}
use Rattle.image.proofs.Refusals.{demand_given, reading_given, given_same}
use Rattle.image.proofs.Sound.{header_sound, header_complete, sound_node}
use Rattle.image.proofs.Search.{is_onward, Searched, search_sound, searched_looks}
use Rattle.image.proofs.Held.{entry_if, lookup_right, held_has, held_from_lem, held_single}
use Rattle.image.proofs.Add.{IsDuplicate, IsNew, search_decides}

-- a search that stops on equality passes what is less
pub stop_less : (o : Ord) → is_onward (turn_by to_stop o) ≡ is_less o
stop_less less = refl
stop_less equal = refl
stop_less greater = refl

-- ---- on any bytes

-- an answer that is given had a good header, and took at most n + 12 looks
pub get_given : (xs k : List ℕ) (s : ℕ) (a : Lookup) → get xs k s ≡ given a → Header xs × (a.looks ≤ count xs + levels)
unfolding get
get_given xs k s a e =
    let (h, p) = demand_given (header_holds xs) bad_image _ a e in
    let (_, q) = demand_given (leb s max_number) bad_number _ a p in
    let (_, r) = demand_given (leb (length k) max_key) long_key _ a q in
    let (f, i, t) = reading_given (searched xs to_stop k s) _ a r in
    let (b, _, u) = reading_given (said_at xs k (standing f)) _ a t in
    let z : looks_of f ≡ a.looks = ap (λ (l : Lookup). l.looks) (given_same u) in
    (header_sound xs h, rw (← z) (searched_looks xs to_stop k s f i))

pub presence_given : (xs k : List ℕ) (n kind : ℕ) (a : Presence) → presence xs k n kind ≡ given a → a.looks ≤ count xs + levels
unfolding presence
presence_given xs k n kind a e =
    let (_, p) = demand_given (header_holds xs) bad_image _ a e in
    let (_, q) = demand_given (leb kind 1) bad_kind _ a p in
    let (_, r) = demand_given (leb n max_number) bad_number _ a q in
    let (_, t) = demand_given (leb (length k) max_key) long_key _ a r in
    let (f, i, u) = reading_given (searched xs to_stop k n) _ a t in
    let (b, _, v) = reading_given (held_at xs kind f) _ a u in
    let z : looks_of f ≡ a.looks = ap (λ (l : Presence). l.looks) (given_same v) in
    rw (← z) (searched_looks xs to_stop k n f i)

-- ---- on a sound image

module _ (xs : List ℕ) (s : Sound xs) where
  -- a node of a sound image is read, with its entry
  pub node_is : (i : ℕ) → IsNode xs i → (m : Node) × (node_at xs i ≡ got m) × (entry_in xs m.parts ≡ entry_of xs i)
  node_is i n = (
    node_for (slot xs i) (height_of xs i) (entry_of xs i),
    sound_node xs s i n.some n.most,
    node_entry xs (free xs) (slot xs i) (height_of xs i) (entry_of xs i)
        (omega (arith, s.header.high)) (s.reads i n.some n.most),
  )

  pub kind_is : (i : ℕ) → IsNode xs i → (entry_of xs i).kind ≤ 1
  kind_is i n = (s.reads i n.some n.most).legal.kind_known

  -- a search stands at a node, or at none
  pub stands_on : (k : List ℕ) (t : ℕ) (q : Searched xs s to_stop k t) → (standing q.found ≡ 0) ⊎ IsNode xs (standing q.found)
  stands_on k t q = go q.behind q.split q.stands
    where
      go : (post : List ℕ) → lowest xs ≡ q.before ++ post → standing q.found ≡ first post → (standing q.found ≡ 0) ⊎ IsNode xs (standing q.found)
      go [] e f = inl f
      go (y ∷ post) e f = let w = s.within y (rw e (Memᴰ.append_right q.before here)) in inr (rw f (record { some = w.0; most = w.1 }))

  -- what the node says at which a search stands that passes what is less
  pub said : (k : List ℕ) (t i : ℕ) → newest k t (held xs) ≡ entry_if xs k i → (i ≡ 0) ⊎ IsNode xs i → (a : Looked) × (said_at xs k i ≡ got a) × Tells xs k t a
  said k t zero f n = (absent, refl, f)
  said k t (suc i) f (inl z) = absurd (omega arith)
  said k t (suc i) f (inr n) =
      let (m, g, e) = node_is (suc i) n in (
        says_of k (suc i) (entry_of xs (suc i)),
        rw g (ap (λ (d : Entry). got (says_of k (suc i) d)) e),
        go (is_equal (compare_keys (entry_of xs (suc i)).key k)) refl
            (eqb (entry_of xs (suc i)).kind value_kind) refl f,
      )
    where
      go : (b : Bool) → is_equal (compare_keys (entry_of xs (suc i)).key k) ≡ b → (c : Bool) → eqb (entry_of xs (suc i)).kind value_kind ≡ c
          → newest k t (held xs) ≡ cond b (some (entry_of xs (suc i))) none → Tells xs k t (cond b (cond c (found (suc i)) deleted) absent)
      go false p c q h = h
      go true p true q h = (n, h, eqb-true (entry_of xs (suc i)).kind value_kind q)
      go true p false q h = let z = eqb-false (entry_of xs (suc i)).kind value_kind q in (entry_of xs (suc i), h, omega (arith, kind_is (suc i) n))

  -- the lookup: never refused for damage, at most n + 12 looks, and from the highest number up to the snapshot
  pub get_tells : (k : List ℕ) (t : ℕ) → t ≤ max_number → length k ≤ max_key → (a : Lookup) × (get xs k t ≡ given a) × Tells xs k t a.says × (a.looks ≤ count xs + levels)
  unfolding get
  get_tells k t low short = go (search_sound xs s to_stop k t) (lookup_right xs s to_stop stop_less k t)
    where
      go : (q : Searched xs s to_stop k t) → newest k t (held xs) ≡ entry_if xs k (standing q.found) → (a : Lookup) × (get xs k t ≡ given a) × Tells xs k t a.says × (a.looks ≤ count xs + levels)
      go q f = let (a, g, m) = said k t (standing q.found) f (stands_on k t q) in (
        record { says = a; looks = looks_of q.found },
        rw (header_complete xs s.header, le-leb t max_number low, le-leb (length k) max_key short, q.search, g),
        m,
        searched_looks xs to_stop k t q.found q.search,
      )

  -- presence: never refused for damage, and yes exactly if that entry is held
  pub presence_tells : (k : List ℕ) (n kind : ℕ) → kind ≤ 1 → n ≤ max_number → length k ≤ max_key → (a : Presence) × (presence xs k n kind ≡ given a) × ((a.held ≡ true) ↔ IsHeld xs k n kind)
  unfolding presence
  presence_tells k n kind known low short = go (search_decides xs s (record { key = k; number = n; kind = kind; value = [] }) 1)
    where
      probe : Entry
      probe = record { key = k; number = n; kind = kind; value = [] }

      answers : (r : Found) → searched xs to_stop k n ≡ got r → (b : Bool) → held_at xs kind r ≡ got b → presence xs k n kind ≡ given (record { held = b; looks = looks_of r })
      answers r f b g = rw (header_complete xs s.header, le-leb kind 1 known, le-leb n max_number low, le-leb (length k) max_key short, f, g)

      alone : (i j : ℕ) → IsNode xs i → IsNode xs j → Duplicates (entry_of xs i) probe → Duplicates (entry_of xs j) probe → entry_of xs i ≡ entry_of xs j
      alone i j a b c d =
          held_single xs s (entry_of xs i) (entry_of xs j) (held_has xs (count xs) i a.some a.most) (held_has xs (count xs) j b.some b.most) (c.0 ∙ sym d.0) (c.1 ∙ sym d.1)

      go : IsDuplicate xs s probe 1 ⊎ IsNew xs s probe 1 → (a : Presence) × (presence xs k n kind ≡ given a) × ((a.held ≡ true) ↔ IsHeld xs k n kind)
      go (inr d) = (
        record { held = false; looks = d.looks },
        answers (ends d.before d.after d.looks d.recorded) d.found false refl,
        (
          λ z. absurd (true≢false (sym z)),
          λ (e, m, a, b, c). let (i, p, q, f) = held_from_lem xs (count xs) e m
              in absurd (d.nowhere i p q (ap (λ (g : Entry). g.key) f ∙ a, ap (λ (g : Entry). g.number) f ∙ b)),
        ),
      )
      go (inl d) = let node : IsNode xs d.node = record { some = d.some; most = d.most } in let (m, g, f) = node_is d.node node in (
        record { held = eqb (entry_of xs d.node).kind kind; looks = d.looks },
        answers (hit d.node d.looks) d.found (eqb (entry_of xs d.node).kind kind) (rw g (ap (λ (h : Entry). got (eqb h.kind kind)) f)),
        (
          λ z. (entry_of xs d.node, held_has xs (count xs) d.node d.some d.most, d.same.0, d.same.1, eqb-true (entry_of xs d.node).kind kind z),
          λ (e, h, a, b, c). let (i, p, q, w) = held_from_lem xs (count xs) e h in
              eq-eqb (entry_of xs d.node).kind kind
              (ap (λ (g : Entry). g.kind) (alone d.node i node (record { some = p; most = q }) d.same
              (ap (λ (g : Entry). g.key) w ∙ a, ap (λ (g : Entry). g.number) w ∙ b) ∙ w) ∙ c),
        ),
      )
