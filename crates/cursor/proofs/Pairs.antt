-- Lookup in a pair of tables.
use Prim.Native.Nat.{ℕ, ◌+◌, ◌≤◌}
use native.Mathlib.Omega.{arith}
use mathlib.Core.Path.{◌≡◌, refl, sym, ◌∙◌}
use mathlib.Core.Logic.{inl, inr}
use mathlib.Core.List.{List}
use mathlib.Core.Bool.{Bool, true, false, not}
use lib.ListN.{length}
use lib.Dec.{leb}
use borrow.Author.Tests.{not-true, not-false}
use Rattle.std.specs.Prelude.{Result, Ok, Err}
use Rattle.rule.specs.Lists.{cond}
use Rattle.image.specs.Limits.{max_key, max_number, max_nodes, levels}
use Rattle.image.specs.Nodes.{count}
use Rattle.image.specs.Sound.{Sound, header_holds}
use Rattle.image.specs.Search.{to_stop, searched, standing}
use Rattle.image.specs.Refusals.{bad_image, bad_number, long_key, Answer, refused, given}
use Rattle.image.specs.Lookup.{Looked, Lookup, said_at, get}
use Rattle.image.specs.Lookup as one
use Rattle.image.specs.Meaning.{Tells}
use Rattle.image.proofs.Refusals.{refused_given, demand_given, reading_given}
use Rattle.image.proofs.Search.{searched_looks}
use Rattle.image.proofs.Sound.{header_complete}
use Rattle.image.proofs.Lookup.{get_tells}
use Rattle.table.specs.Memtable.{lookup_is, Gets}
use Rattle.table.specs.declared.refusals.Refusal.{Refusal}
use Rattle.table.specs.declared.refusals.Refusal.TheVariants as refusal
use Rattle.table.specs.declared.memtable.Lookup.{Lookup as LookupHere}
use Rattle.table.specs.declared.memtable.Lookup.TheVariants as lookup
use Rattle.table.proofs.Laws.{get_looks}
use Rattle.cursor.specs.Pairs.{PairLooked, pair_is, pair_as, says_in, told_of, told_by, is_said, looks_taken, FewLooks, first_or_second, get_pair, TellsPair, most_looks, SearchLooks, PairLooks, GetsPair}
use Rattle.cursor.specs.declared.places.Side.TheVariants.{First, Second}
use Rattle.cursor.specs.declared.merging_iter.PairLookup.{PairLookup}

-- ---- how many looks

-- the looks of a lookup are those that its search made, link by link
pub get_searched : (xs k : List ℕ) (s : ℕ) (a : Lookup) → get xs k s ≡ given a → SearchLooks xs k s a.looks
unfolding get
get_searched xs k s a e =
    let (_, p) = demand_given (header_holds xs) bad_image _ a e in
    let (_, q) = demand_given (leb s max_number) bad_number _ a p in
    let (_, r) = demand_given (leb (length k) max_key) long_key _ a q in
    let (f, i, t) = reading_given (searched xs to_stop k s) _ a r in
    let (_, _, u) = reading_given (said_at xs k (standing f)) _ a t in
    (f, i, same u)
  where
    same : {c d : Lookup} → ◌≡◌ {A = Answer Lookup} (given c) (given d) → d.looks ≡ c.looks
    same e = let z : _ ≡ _ = e in cc

-- so they are at most n + 12
searched_few : (xs k : List ℕ) (s n : ℕ) → SearchLooks xs k s n → n ≤ count xs + levels
searched_few xs k s n (f, i, e) = omega (arith, e, searched_looks xs to_stop k s f i)

-- the looks of a lookup in a pair are those of the searches in the tables that it asked
pub pair_searched : (f g k : List ℕ) (s : ℕ) (a : PairLooked) → get_pair f g k s ≡ given a → PairLooks f g k s a.looks
unfolding get_pair
pair_searched f g k s a e =
    let (_, p) = demand_given (header_holds f) bad_image _ a e in
    let (_, q) = demand_given (header_holds g) bad_image _ a p in go (get f k s) refl (get g k s) refl q
  where
    looks_of_lem : {c : PairLooked} → ◌≡◌ {A = Answer PairLooked} (given c) (given a) → a.looks ≡ c.looks
    looks_of_lem e = let z : _ ≡ _ = e in cc

    by : (b : Lookup) → get f k s ≡ given b → (d : Answer Lookup) → get g k s ≡ d → (t : Bool) → is_said b.says ≡ t
        → cond t (told_by First 0 (given b)) (told_by Second b.looks d) ≡ given a → PairLooks f g k s a.looks
    by b i d j true h e = let z : a.looks ≡ b.looks = omega (arith, looks_of_lem e) in inl (rw i h, rw z (get_searched f k s b i))
    by b i (refused o) j false h e = absurd (refused_given e)
    by b i (given d) j false h e = inr (rw i h, b.looks, d.looks, get_searched f k s b i, get_searched g k s d j, looks_of_lem e)

    go : (u : Answer Lookup) → get f k s ≡ u → (v : Answer Lookup) → get g k s ≡ v → first_or_second u v ≡ given a → PairLooks f g k s a.looks
    go (refused o) i v j e = absurd (refused_given e)
    go (given b) i v j e = by b i v j (is_said b.says) refl e

pair_few : (f g k : List ℕ) (s n : ℕ) → PairLooks f g k s n → n ≤ most_looks f g k s
pair_few f g k s n (inl (t, h)) = rw t (searched_few f k s n h)
pair_few f g k s n (inr (t, a, b, h, i, e)) = rw t (omega (arith, e, searched_few f k s a h, searched_few g k s b i))

few_of : (xs k : List ℕ) (s : ℕ) (a : Answer Lookup) → a ≡ get xs k s → looks_taken a ≤ max_nodes + levels
few_of xs k s (refused q) e = omega arith
few_of xs k s (given a) e = get_looks xs k s a (sym e)

-- of the tables that a lookup in a pair asks they are few
pub few_first : (f k : List ℕ) (s : ℕ) (a : LookupHere) → Gets f k s (Ok a) → FewLooks 0 (lookup_is a)
few_first f k s a ga = record { few = omega (arith, few_of f k s (given (lookup_is a)) ga.exact) }

pub few_both : (f g k : List ℕ) (s n : ℕ) (b : LookupHere) → Gets f k s (Ok (lookup.Absent n)) → Gets g k s (Ok b) → FewLooks n (lookup_is b)
few_both f g k s n b ga gb = record { few = omega (arith, few_of f k s (given (lookup_is (lookup.Absent n))) ga.exact, few_of g k s (given (lookup_is b)) gb.exact) }

-- ---- what it tells

module _ (f g k : List ℕ) (s : ℕ) where
  -- on sound tables
  pair_tells : Sound f → Sound g → s ≤ max_number → length k ≤ max_key → (c : PairLooked) × (get_pair f g k s ≡ given c) × TellsPair f g k s c.says
  unfolding get_pair
  pair_tells x y low short =
      let (a, ea, ta, _) = get_tells f x k s low short in
      let (b, eb, tb, _) = get_tells g y k s low short in
      let (c, ec, tc) = go a.says b.says a.looks b.looks ta tb in
      (c, rw (header_complete f x.header, header_complete g y.header, ea, eb) ec, tc)
    where
      go : (u v : Looked) (m n : ℕ) → Tells f k s u → Tells g k s v
          → (c : PairLooked)
          × (cond (is_said u) (given (record { says = says_in First u; looks = 0 + m })) (given (record { says = says_in Second v; looks = m + n })) ≡ given c)
          × TellsPair f g k s c.says
      go (one.found i) v m n t w = (_, refl, t)
      go one.deleted v m n t w = (_, refl, inl t)
      go one.absent (one.found j) m n t w = (_, refl, (t, w))
      go one.absent one.deleted m n t w = (_, refl, inr (t, w))
      go one.absent one.absent m n t w = (_, refl, (t, w))

  gets_pair : (r : Result PairLookup Refusal) → pair_as r ≡ get_pair f g k s → GetsPair f g k s r
  gets_pair r e = record {
    exact = e;
    rule = λ x y low short. let (c, d, t) = pair_tells x y low short in (c, e ∙ d, t);
    looks = λ a d. pair_few f g k s a.looks (pair_searched f g k s a (sym e ∙ d));
  }

  module _ {h : Bool} (eh : h ≡ header_holds f) where
    pub pair_first_bad : not h ≡ true → GetsPair f g k s (Err refusal.BadImage)
    unfolding get_pair
    pair_first_bad z = gets_pair (Err refusal.BadImage) (rw (← eh, not-true h z))

    module _ (hz : not h ≡ false) {i : Bool} (ei : i ≡ header_holds g) where
      pub pair_second_bad : not i ≡ true → GetsPair f g k s (Err refusal.BadImage)
      unfolding get_pair
      pair_second_bad z = gets_pair (Err refusal.BadImage) (rw (← eh, not-false h hz, ← ei, not-true i z))

      module _ (iz : not i ≡ false) where
        both_asked : get_pair f g k s ≡ first_or_second (get f k s) (get g k s)
        unfolding get_pair
        both_asked = rw (← eh, not-false h hz, ← ei, not-false i iz)

        -- the first table is refused, or says more than absent
        pub first_refused : (q : Refusal) → Gets f k s (Err q) → GetsPair f g k s (Err q)
        first_refused q ga = gets_pair (Err q) (rw (both_asked, ← ga.exact))

        pub first_said : (a : LookupHere) → Gets f k s (Ok a) → ((looks : ℕ) → a ≡ lookup.Absent looks → ⊥)
            → (r : PairLookup) → pair_is r ≡ told_of First 0 (lookup_is a) → GetsPair f g k s (Ok r)
        first_said a ga n r e = gets_pair (Ok r) (rw e (go a ga n))
          where
            go : (a : LookupHere) → Gets f k s (Ok a) → ((looks : ℕ) → a ≡ lookup.Absent looks → ⊥) → given (told_of First 0 (lookup_is a)) ≡ get_pair f g k s
            go (lookup.Found i looks) ga n = rw (both_asked, ← ga.exact)
            go (lookup.Deleted looks) ga n = rw (both_asked, ← ga.exact)
            go (lookup.Absent looks) ga n = absurd (n looks refl)

        -- or absent
        module _ (n : ℕ) (ga : Gets f k s (Ok (lookup.Absent n))) where
          pub second_refused : (q : Refusal) → Gets g k s (Err q) → GetsPair f g k s (Err q)
          second_refused q gb = gets_pair (Err q) (rw (both_asked, ← ga.exact, ← gb.exact))

          pub second_said : (b : LookupHere) → Gets g k s (Ok b) → (r : PairLookup) → pair_is r ≡ told_of Second n (lookup_is b) → GetsPair f g k s (Ok r)
          second_said b gb r e = gets_pair (Ok r) (rw (e, both_asked, ← ga.exact, ← gb.exact))
