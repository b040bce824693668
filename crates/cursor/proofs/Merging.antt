-- The answers of two tables folded into one.
use Prim.Native.Nat.{ℕ}
use native.Mathlib.Omega.{arith}
use mathlib.Core.Path.{◌≡◌, refl, sym, subst, ◌∙◌}
use mathlib.Core.Logic.{inl, inr}
use mathlib.Core.List.{List}
use Rattle.std.specs.Prelude.{Option, Some, None, Ok}
use Rattle.std.specs.Option.{MatchOption, IsSomeAnd, option_map}
use mathlib.Core.Bool.{Bool, true, false, false≢true}
use lib.Dec.{ltb}
use borrow.Author.Tests.{ltb-true}
use Rattle.rule.specs.Lists.{cond, Maybe, none, some, All}
use Rattle.rule.specs.Order.{is_less}
use Rattle.rule.specs.Entries.{Entry}
use Rattle.rule.specs.Rows.{newest}
use Rattle.rule.specs.Nearest.{Least, sooner}
use Rattle.rule.proofs.Lists.{all_nil}
use Rattle.rule.proofs.Order.{neither_less}
use Rattle.rule.proofs.Rows.{Newest as NewestOf, newest_is, newest_append, latest, fits_true}
use Rattle.rule.proofs.Nearest.{least_append}
use Rattle.image.specs.Sound.{Sound, held}
use Rattle.image.specs.EntryMoves.{on}
use Rattle.image.specs.Nodes.{entry_of}
use Rattle.image.specs.Cuts.{Cut, cmp_of, admits, NearLands}
use Rattle.image.specs.Newest.{NewestOn, NewestIs, NewestLands, NewestLandsOn}
use Rattle.image.proofs.Nearest.{way}
use Rattle.image.proofs.Landing.{key_read}
use Rattle.image.proofs.Views.{key_shown}
use Rattle.table.specs.Questions.{version_of, Nears, TellsNewest}
use Rattle.table.specs.KeyTypes.{code_of}
use Rattle.table.specs.declared.key_types.Kind.{Kind}
use Rattle.table.specs.declared.key_types.Kind.TheVariants.{Deletion, Value}
use Rattle.table.specs.declared.memtable.Newest.{Newest}
use Rattle.table.proofs.Laws.{number_told}
use Rattle.cursor.specs.Places.{image_of, held_before, all_entries, place, entry_at, key_at, PlaceIn}
use Rattle.cursor.specs.Merging.{number_at, met_at, nearer_of, sooner_of, HasNode, MeetingIn, NearestOver, NearestOfAll, version_in, newer_of, NewestOver, NewestOfAll}
use Rattle.cursor.specs.declared.places.Side.{Side}
use Rattle.cursor.specs.declared.places.Side.TheVariants.{First, Second}
use Rattle.cursor.specs.declared.places.Place.{Place}
use Rattle.cursor.specs.declared.merging_iter.Meeting.{Meeting}
use Rattle.cursor.specs.declared.merging_iter.Version.{Version}

-- ---- what stands at a place

-- on sound tables it is the entry
module _ (f g : List ℕ) (x : Sound f) (y : Sound g) where
  pub sound_of : (side : Side) → Sound (image_of side f g)
  sound_of First = x
  sound_of Second = y

  pub key_told : (p : Place) → PlaceIn f g p → key_at f g p ≡ (entry_at f g p).key
  key_told p n = key_shown (image_of p.table f g) (sound_of p.table) p.node n

  pub number_at_told : (p : Place) → PlaceIn f g p → number_at f g p ≡ (entry_at f g p).number
  number_at_told p n = number_told (image_of p.table f g) (sound_of p.table) p.node n

-- ---- what one table answers, by what `map` says of it

pub mapped : {A B : Type 0} (h : A → B) (o : Option A) (r : Option B) {P : A → B → Type 0} → MatchOption o (r ≡ None) (λ x. IsSomeAnd r (P x))
    → ((x : A) (y : B) → P x y → y ≡ h x) → r ≡ option_map h o
mapped h None r m same = m
mapped h (Some x) (Some y) m same = rw (same x y m)
mapped h (Some x) None m same = absurd m

-- ---- the key that comes next

module _ (f g : List ℕ) (c : Cut) (t : List ℕ) where
  -- a key met in one table
  met_lands : (side : Side) (i : ℕ) → NearLands (image_of side f g) c t (on i) → MeetingIn f g c t (met_at side i)
  met_lands First i (n, r, a) = record {
    reads = record { inside = n; readable = r };
    admitted = a;
    somewhere = inl refl;
    in_first = λ _. record { node = i; inside = n; readable = r; key_is = refl };
    in_second = λ z. absurd (false≢true z);
  }
  met_lands Second i (n, r, a) = record {
    reads = record { inside = n; readable = r };
    admitted = a;
    somewhere = inr refl;
    in_first = λ z. absurd (false≢true z);
    in_second = λ _. record { node = i; inside = n; readable = r; key_is = refl };
  }

  met_place : (side : Side) (i : ℕ) → place side i ≡ (met_at side i).place
  met_place First i = refl
  met_place Second i = refl

  -- one table's answer
  met_over : (side : Side) (a : Option ℕ) → Nears (image_of side f g) c t (Ok a) → NearestOver (held (image_of side f g)) f g c t (Ok (option_map (met_at side) a))
  met_over side (Some i) n = record {
    rule = λ x y. subst (λ (p : Place). Least (cmp_of c) (admits c t) (held (image_of side f g)) (some (key_at f g p))) (met_place side i)
        (rw (key_told f g x y (place side i) n.lands.0) (n.rule (sound_of f g x y side)).1);
    lands = met_lands side i n.lands;
  }
  met_over side None n = record { rule = λ x y. n.rule (sound_of f g x y side); lands = tt }

  join : (a b : Maybe (List ℕ)) → Least (cmp_of c) (admits c t) (held f) a → Least (cmp_of c) (admits c t) (held g) b → Least (cmp_of c) (admits c t) (all_entries f g) (sooner (cmp_of c) a b)
  join a b = least_append (cmp_of c) (way c) (admits c t) (held f) (held g) a b

  nearer_over : (i j : ℕ) → NearestOver (held f) f g c t (Ok (Some (met_at First i))) → NearestOver (held g) f g c t (Ok (Some (met_at Second j)))
      → NearestOfAll f g c t (Ok (Some (nearer_of (key_at f g) c (met_at First i) (met_at Second j))))
  nearer_over i j a b = go (is_less (cmp_of c l k)) refl (is_less (cmp_of c k l)) refl (λ u v. join (some k) (some l) (a.rule u v) (b.rule u v))
    where
      k : List ℕ
      k = key_at f g (place First i)

      l : List ℕ
      l = key_at f g (place Second j)

      -- the key of both
      same : k ≡ l → (entry_of g j).key ≡ (entry_of f i).key
      same e = sym (key_read g j b.lands.reads.readable) ∙ sym e ∙ key_read f i a.lands.reads.readable

      go : (p : Bool) → is_less (cmp_of c l k) ≡ p → (q : Bool) → is_less (cmp_of c k l) ≡ q → (Sound f → Sound g → Least (cmp_of c) (admits c t) (all_entries f g) (some (cond p l k)))
          → NearestOfAll f g c t (Ok (Some (cond p (met_at Second j) (cond q (met_at First i) (record { place = place First i; first = true; second = true })))))
      go true e q d h = record { rule = h; lands = b.lands }
      go false e true d h = record { rule = h; lands = a.lands }
      go false e false d h = record {
        rule = h;
        lands = record {
          reads = a.lands.reads;
          admitted = a.lands.admitted;
          somewhere = inl refl;
          in_first = λ _. a.lands.in_first refl;
          in_second = λ _. subst (HasNode g) (same (neither_less (cmp_of c) (way c) k l d e)) (b.lands.in_second refl);
        };
      }

  -- the sooner of both
  sooner_over : (a b : Option ℕ) → NearestOver (held f) f g c t (Ok (option_map (met_at First) a)) → NearestOver (held g) f g c t (Ok (option_map (met_at Second) b))
      → NearestOfAll f g c t (Ok (sooner_of (key_at f g) c (option_map (met_at First) a) (option_map (met_at Second) b)))
  sooner_over None None x y = record { rule = λ u v. join none none (x.rule u v) (y.rule u v); lands = tt }
  sooner_over None (Some j) x y = record { rule = λ u v. join none (some (key_at f g (place Second j))) (x.rule u v) (y.rule u v); lands = y.lands }
  sooner_over (Some i) None x y = record { rule = λ u v. join (some (key_at f g (place First i))) none (x.rule u v) (y.rule u v); lands = x.lands }
  sooner_over (Some i) (Some j) x y = nearer_over i j x y

  pub nearest_both : {p q r : Option Meeting} (a b : Option ℕ) → Nears f c t (Ok a) → p ≡ option_map (met_at First) a → Nears g c t (Ok b) → q ≡ option_map (met_at Second) b
      → r ≡ sooner_of (key_at f g) c p q → NearestOfAll f g c t (Ok r)
  nearest_both a b x d y e h = rw (h, d, e) (sooner_over a b (met_over First a x) (met_over Second b y))

-- ---- the newest entry of a key

-- what is said of the newest of a list
pub known : (k : List ℕ) (s : ℕ) (es : List Entry) (n : Maybe Entry) → newest k s es ≡ n → NewestOf k s es n
known k s es n e = subst (NewestOf k s es) e (newest_is k s es)

-- the answer is about the one table
abbrev OnSide : Side → Option Version → Type 0
OnSide side (Some v) = v.place.table ≡ side
OnSide side None = Unit

on_side : (side : Side) (a : Option Newest) → OnSide side (option_map (version_in side) a)
on_side side (Some a) = refl
on_side side None = tt

-- what is said of a node by its type
module _ (xs k : List ℕ) (s i : ℕ) where
  stands_on : (d : Kind) → NewestIs xs k s (version_of i d) → NewestOn xs k s (code_of d) i
  stands_on Value n = n
  stands_on Deletion n = n

  lands_on : (d : Kind) → NewestLandsOn xs k s (version_of i d) → NewestLands xs k s (code_of d) i
  lands_on Value n = n
  lands_on Deletion n = n

-- what holds of the first table's entries holds of those before a place of the second
before_second : (f : List ℕ) (P : Entry → Type 0) (side : Side) → side ≡ Second → All P (held f) → All P (held_before side f)
before_second f P side e h = rw e h

module _ (f g : List ℕ) (k : List ℕ) (s : ℕ) where
  -- one table's answer
  version_over : (side : Side) (a : Option Newest) → TellsNewest (image_of side f g) k s (Ok a) → NewestOver (held (image_of side f g)) f g k s (Ok (option_map (version_in side) a))
  version_over side (Some a) n = record {
    rule = λ x y. let o = stands_on (image_of side f g) k s a.node a.kind (n.rule (sound_of f g x y side)) in (o.newest_is, o.kind_is);
    lands = let o = lands_on (image_of side f g) k s a.node a.kind n.lands in
        record { reads = record { inside = o.node; readable = o.readable }; key_is = o.key_is; number_most = o.number_most; kind_is = o.kind_is };
  }
  version_over side None n = record { rule = λ x y. n.rule (sound_of f g x y side); lands = tt }

  together : (a b : Maybe Entry) → newest k s (held f) ≡ a → newest k s (held g) ≡ b → newest k s (all_entries f g) ≡ latest a b
  together a b x y = newest_append k s (held f) (held g) ∙ rw (x, y)

  -- the newer of both; of equal numbers the first table's
  newer_at : (v w : Version) → NewestOver (held f) f g k s (Ok (Some v)) → NewestOver (held g) f g k s (Ok (Some w)) → v.place.table ≡ First → w.place.table ≡ Second
      → NewestOfAll f g k s (Ok (cond (ltb (number_at f g v.place) (number_at f g w.place)) (Some w) (Some v)))
  newer_at v w a b sa sb = go (ltb m n) refl
    where
      m : ℕ
      m = number_at f g v.place

      n : ℕ
      n = number_at f g w.place

      both : (x : Sound f) (y : Sound g) → newest k s (all_entries f g) ≡ some (cond (ltb m n) (entry_at f g w.place) (entry_at f g v.place))
      both x y =
          let i = number_at_told f g x y v.place a.lands.reads.inside in
          let j = number_at_told f g x y w.place b.lands.reads.inside in
          together (some (entry_at f g v.place)) (some (entry_at f g w.place)) (a.rule x y).0 (b.rule x y).0 ∙ rw (i, j)

      go : (t : Bool) → ltb m n ≡ t → NewestOfAll f g k s (Ok (cond t (Some w) (Some v)))
      go true e = record {
        over = record { rule = λ x y. (rw e at (both x y), (b.rule x y).1); lands = b.lands };
        first = λ x y. before_second f _ w.place.table sb (λ d i z. let h = (known k s (held f) (some (entry_at f g v.place)) (a.rule x y).0).2 d i (fits_true k s d z) in
            omega (arith, h, ltb-true m n e, number_at_told f g x y v.place a.lands.reads.inside, number_at_told f g x y w.place b.lands.reads.inside));
      }
      go false e = record {
        over = record { rule = λ x y. (rw e at (both x y), (a.rule x y).1); lands = a.lands };
        first = λ x y. rw sa (all_nil _);
      }

  newer_over : (a b : Option Version) → NewestOver (held f) f g k s (Ok a) → NewestOver (held g) f g k s (Ok b) → OnSide First a → OnSide Second b
      → NewestOfAll f g k s (Ok (newer_of (number_at f g) a b))
  newer_over None None x y p q = record { over = record { rule = λ u v. together none none (x.rule u v) (y.rule u v); lands = tt }; first = λ u v. tt }
  newer_over None (Some w) x y p q = record {
    over = record { rule = λ u v. (together none (some (entry_at f g w.place)) (x.rule u v) (y.rule u v).0, (y.rule u v).1); lands = y.lands };
    first = λ u v. before_second f _ w.place.table q (λ d i z. absurd (known k s (held f) none (x.rule u v) d i (fits_true k s d z)));
  }
  newer_over (Some w) None x y p q = record {
    over = record { rule = λ u v. (together (some (entry_at f g w.place)) none (x.rule u v).0 (y.rule u v), (x.rule u v).1); lands = x.lands };
    first = λ u v. rw p (all_nil _);
  }
  newer_over (Some v) (Some w) x y p q = newer_at v w x y p q

  pub newest_both : {p q r : Option Version} (a b : Option Newest) → TellsNewest f k s (Ok a) → p ≡ option_map (version_in First) a → TellsNewest g k s (Ok b)
      → q ≡ option_map (version_in Second) b → r ≡ newer_of (number_at f g) p q → NewestOfAll f g k s (Ok r)
  newest_both a b x d y e h = rw (h, d, e) (newer_over _ _ (version_over First a x) (version_over Second b y) (on_side First a) (on_side Second b))
