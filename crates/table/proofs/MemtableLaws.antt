-- The ways out of fresh, of an addition and of a lookup.
use Prim.Native.Nat.{ℕ, ◌+◌, ◌<◌, ◌≤◌}
use native.Mathlib.Omega.{arith}
use native.Mathlib.Numerals.{add-one}
use mathlib.Core.Path.{◌≡◌, refl, sym, ap, ◌∙◌}
use mathlib.Core.Logic.{inl, inr}
use mathlib.Core.List.{List}
use mathlib.Core.Bool.{true, false}
use lib.ListN.{length}
use lib.Dec.{leb}
use borrow.Author.Tests.{lt-leb, le-leb}
use Rattle.std.specs.Prelude.{Option, Some, None, Result, Ok, Err}
use Rattle.std.specs.Option.{ok_or}
use Rattle.std.specs.Result.{IsErrAnd}
use Rattle.std.proofs.lemmas.Result.{err_from_is_err_and}
use Rattle.rule.specs.Entries.{Entry}
use Rattle.image.specs.Limits.{max_key, max_number, header_size, max_image, max_value, levels}
use Rattle.image.specs.Readers.{Read, got, bad}
use Rattle.image.specs.Entries.{Legal}
use Rattle.image.specs.Nodes.{free, slot, Node, node_at, count}
use Rattle.image.specs.Sound.{Header, header_holds, Sound}
use Rattle.image.specs.Search.{to_stop, Found, searched, looks_of, standing}
use Rattle.image.specs.Refusals.{bad_image, long_value, bad_height, Answer, refused, given, reading}
use Rattle.image.specs.Lookup.{Looked, Lookup as LookupIs, said_at, get}
use Rattle.image.specs.Fresh.{fresh_image, fresh}
use Rattle.image.specs.Add.{Grown, add, afterwards}
use Rattle.image.specs.Added.{Confined}
use Rattle.image.proofs.Nodes.{node_inside}
use Rattle.image.proofs.Lookup.{get_given, get_tells}
use Rattle.image.proofs.Fresh.{fresh_sound, fresh_holds_nothing}
use Rattle.image.proofs.Add.{add_searches, add_decides, add_added, add_undamaged, add_confined, unchanged_confined}
use Rattle.table.specs.Refusals.{refusal_is, answer_as}
use Rattle.table.specs.Framed.{Framed}
use Rattle.table.specs.Nodes.{Opens}
use Rattle.table.specs.KeyTypes.{code_of, KindOf, LooksFor}
use Rattle.table.specs.Insert.{Inserts}
use Rattle.table.specs.Neighbours.{Beside, beside_is, stood, stands_at, node_or_0, Finds}
use Rattle.table.specs.Memtable.{Freshens, added_as, AddRule, Adds, looked_is, and_then, lookup_as, Gets}
use Rattle.table.proofs.NodesLaws.{framed_holds}
use Rattle.table.specs.declared.refusals.Refusal.{Refusal}
use Rattle.table.specs.declared.refusals.Refusal.TheVariants.{BadImage}
use Rattle.table.specs.declared.tested.Table.{Table}
use Rattle.table.specs.declared.key_types.Kind.{Kind}
use Rattle.table.specs.declared.key_types.Kind.TheVariants.{Deletion, Value}
use Rattle.table.specs.declared.key_types.LookupKey.{LookupKey}
use Rattle.table.specs.declared.neighbours.Neighbour.{Neighbour}
use Rattle.table.specs.declared.memtable.Newest.{Newest}
use Rattle.table.specs.declared.memtable.Lookup.{Lookup}

-- ---- what a call begins with

-- a table that was opened in these bytes, or none
module _ (xs : List ℕ) (o : Option Table) (opens : Opens xs o) where
  pub opened : {t : Table} → o ≡ Some t → t.bytes.now ≡ xs
  opened e = rw e at opens

  pub not_opened : (q : Refusal) → o ≡ None → Err q ≡ ok_or o BadImage → (header_holds xs ≡ false) × (q ≡ BadImage)
  not_opened q e w = let no : ◌≡◌ {A = Result Table Refusal} (Err q) (Err BadImage) = rw e at w in (rw e at opens, cc)

-- its header holds
module _ {xs : List ℕ} (t : Table) (is : t.bytes.now ≡ xs) where
  pub framed_in : Framed xs t.frame
  framed_in = rw (← is) t.framed

  pub holds_in : header_holds xs ≡ true
  holds_in = framed_holds xs framed_in

-- a type has the code 0 or 1
pub code_known : (kind : Kind) → code_of kind ≤ 1
code_known Deletion = omega arith
code_known Value = omega arith

-- key and value of a node that was read lie in the image
pub parts_inside : (xs : List ℕ) (i : ℕ) {n : Node} → Header xs → got n ≡ node_at xs i
    → (n.parts.keyed.key_at + n.parts.keyed.key_len ≤ length xs) × (n.parts.value_at + n.parts.value_len ≤ length xs)
parts_inside xs i {n} h e = let (a, b) = node_inside xs (free xs) (slot xs i) n (sym e) in let high = h.high in (omega arith, omega arith)

-- ---- the ways out of a lookup

-- to go on with what was read
pub read_on {ℓ κ} : {A : Type ℓ} {B : Type κ} (r : Read A) (f : A → Answer B) → and_then (reading r given) f ≡ reading r f
read_on (got a) f = refl
read_on (bad o) f = refl

-- to go on from where a search stands
pub stand_on : {B : Type 0} (r : Read Found) (f : Beside → Answer B) → and_then (reading r (λ q. given (stood q))) f ≡ reading r (λ q. f (stood q))
stand_on (got q) f = refl
stand_on (bad o) f = refl

module _ (xs k : List ℕ) (s : ℕ) where
  -- what the answer means follows from what it is
  pub gets : (r : Result Lookup Refusal) → lookup_as r ≡ get xs k s → Gets xs k s r
  gets r e = record {
    exact = e;
    looks = λ a f. (get_given xs k s a (sym e ∙ f)).1;
    rule = λ sound low short. let (a, f, t, _) = get_tells xs sound k s low short in (a, e ∙ f, t);
  }

  -- what leaves by `?`
  pub gets_refused : (r : Result Lookup Refusal) (q : Refusal) → IsErrAnd r (λ y. y ≡ q) → refused (refusal_is q) ≡ get xs k s → Gets xs k s r
  gets_refused r q d e = let p = err_from_is_err_and r d in rw (p.1, p.2) (gets (Err q) e)

  -- the tests in their order
  pub get_header : (q : Refusal) → (header_holds xs ≡ false) × (q ≡ BadImage) → refused (refusal_is q) ≡ get xs k s
  unfolding get
  get_header q (t, e) = rw (t, e)

  module _ (t : Table) {o : Option Table} (opens : Opens xs o) (it : o ≡ Some t) where
    is : t.bytes.now ≡ xs
    is = opened xs o opens it

    holds : header_holds xs ≡ true
    holds = holds_in t is

    pub get_probe : (q : Refusal) → LooksFor k s (Err q) → refused (refusal_is q) ≡ get xs k s
    unfolding get
    get_probe q (inl (high, e)) = rw (holds, lt-leb s max_number high, e)
    get_probe q (inr (low, long, e)) = rw (holds, le-leb s max_number low, lt-leb (length k) max_key long, e)

    module _ (p : LookupKey) (probe : LooksFor k s (Ok p)) where
      -- what is answered of what is said where a search stands
      abbrev answer : Beside → Looked → Answer LookupIs
      answer b a = given (record { says = a; looks = b.looks })

      abbrev from : Beside → Answer LookupIs
      from b = and_then (reading (said_at xs k b.node) given) (answer b)

      -- the lookup is the search and what is said where it stands
      searching : and_then (stands_at xs to_stop k s) from ≡ get xs k s
      unfolding get
      searching = stand_on (searched xs to_stop k s) from ∙ said_on (searched xs to_stop k s) ∙ rw (holds, le-leb s max_number probe.2, le-leb (length k) max_key probe.3)
        where
          said_on : (r : Read Found) → reading r (λ q. from (stood q)) ≡ reading r (λ q. reading (said_at xs k (standing q)) (λ a. given (record { says = a; looks = looks_of q })))
          said_on (got q) = read_on (said_at xs k (standing q)) (answer (stood q))
          said_on (bad o) = refl

      -- the lookup, by what the search answered
      pub get_stands : (r : Result Neighbour Refusal) → Finds t.bytes.now (stands_at t.bytes.now to_stop p.key.now p.number.is) r → and_then (answer_as beside_is r) from ≡ get xs k s
      get_stands r finds =
          let stood : answer_as beside_is r ≡ stands_at xs to_stop k s = finds.exact ∙ rw (is, probe.0, probe.1) in
          rw stood searching

      -- the lookup, by what was said there
      pub get_said : (b : Neighbour) → Finds t.bytes.now (stands_at t.bytes.now to_stop p.key.now p.number.is) (Ok b) → (a : Result (Option Newest) Refusal)
          → answer_as looked_is a ≡ reading (said_at t.bytes.now k (node_or_0 b.node)) given
          → and_then (answer_as looked_is a) (λ w. given (record { says = w; looks = b.looks })) ≡ get xs k s
      get_said b finds a said = let here = rw is at said in rw here (get_stands (Ok b) finds)

-- ---- the ways out of fresh

pub fresh_short : (xs : List ℕ) → length xs < header_size → Freshens xs (Err BadImage) xs
unfolding fresh
fresh_short xs h = record { exact = rw (lt-leb header_size (length xs) h); bytes = rw (lt-leb header_size (length xs) h); rule = λ a b. absurd (omega arith) }

pub fresh_long : (xs : List ℕ) → header_size ≤ length xs → max_image < length xs → Freshens xs (Err BadImage) xs
unfolding fresh
fresh_long xs g h =
    record {
      exact = rw (le-leb header_size (length xs) g, lt-leb (length xs) max_image h);
      bytes
          = rw (le-leb header_size (length xs) g, lt-leb (length xs) max_image h);
      rule = λ a b. absurd (omega arith);
    }

pub fresh_done : (xs : List ℕ) → header_size ≤ length xs → length xs ≤ max_image → (ys : List ℕ) → ys ≡ fresh_image xs → Freshens xs (Ok tt) ys
unfolding fresh
fresh_done xs g h ys e = record {
  exact = rw (le-leb header_size (length xs) g, le-leb (length xs) max_image h, e);
  bytes = rw (le-leb header_size (length xs) g, le-leb (length xs) max_image h) e;
  rule = λ a b. rw e (fresh_sound xs g h, fresh_holds_nothing xs g h);
}

-- ---- the ways out of an addition

module _ (xs : List ℕ) (e : Entry) (h : ℕ) where
  -- what an answer promises besides follows from what it is
  add_rule : (r : Result ℕ Refusal) (ys : List ℕ) → added_as r ys ≡ add xs e h → Sound xs → AddRule xs e h r ys
  add_rule (Ok i) ys f s = let (n, a) = add_added xs s e h (record { node = i; image = ys }) (sym f) in (a, n ∙ sym (add-one (count xs)))
  add_rule (Err q) ys f s = λ d. add_undamaged xs s e h (sym f ∙ ap {B = Answer Grown} refused d)

  confines : (a : Answer Grown) → add xs e h ≡ a → Confined xs e h (afterwards xs a)
  confines (refused q) f = unchanged_confined xs e h
  confines (given g) f = add_confined xs e h g f

  pub adds : (r : Result ℕ Refusal) (ys : List ℕ) → added_as r ys ≡ add xs e h → ys ≡ afterwards xs (add xs e h) → Adds xs e h r ys
  adds r ys f b = record {
    exact = f;
    bytes = b;
    rule = add_rule r ys f;
    outcome = λ s legal low high. rw f (add_decides xs s e h (record { legal = legal; low = low; high = high }));
    confined = rw b (confines (add xs e h) refl);
  }

  -- a refusal keeps every byte
  pub adds_refused : (q : Refusal) → refused (refusal_is q) ≡ add xs e h → Adds xs e h (Err q) xs
  adds_refused q f = adds (Err q) xs f (rw (← f))

  -- what leaves by `?`
  pub adds_error : (r : Result ℕ Refusal) (q : Refusal) → IsErrAnd r (λ y. y ≡ q) → refused (refusal_is q) ≡ add xs e h → Adds xs e h r xs
  adds_error r q d f = let p = err_from_is_err_and r d in rw (p.1, p.2) (adds_refused q f)

  -- the tests in their order
  pub at_header : header_holds xs ≡ false → refused bad_image ≡ add xs e h
  unfolding add
  at_header t = rw t

  module _ (holds : header_holds xs ≡ true) where
    pub at_kind : (q : Refusal) → KindOf e.kind (Err q) → refused (refusal_is q) ≡ add xs e h
    unfolding add
    at_kind q (high, f) = rw (holds, lt-leb e.kind 1 high, f)

    module _ (kind : Kind) (known : code_of kind ≡ e.kind) where
      kinded : leb e.kind 1 ≡ true
      kinded = le-leb e.kind 1 (rw (← known) (code_known kind))

      pub at_key : (q : Refusal) → LooksFor e.key e.number (Err q) → refused (refusal_is q) ≡ add xs e h
      unfolding add
      at_key q (inl (high, f)) = rw (holds, kinded, lt-leb e.number max_number high, f)
      at_key q (inr (low, long, f)) = rw (holds, kinded, le-leb e.number max_number low, lt-leb (length e.key) max_key long, f)

      module _ (p : LookupKey) (probe : LooksFor e.key e.number (Ok p)) where
        numbered : leb e.number max_number ≡ true
        numbered = le-leb e.number max_number probe.2

        short : leb (length e.key) max_key ≡ true
        short = le-leb (length e.key) max_key probe.3

        pub at_value : max_value < length e.value → refused long_value ≡ add xs e h
        unfolding add
        at_value t = rw (holds, kinded, numbered, short, lt-leb (length e.value) max_value t)

        module _ (small : length e.value ≤ max_value) where
          pub at_flat : h < 1 → refused bad_height ≡ add xs e h
          unfolding add
          at_flat t = rw (holds, kinded, numbered, short, le-leb (length e.value) max_value small, lt-leb 1 h t)

          pub at_tall : 1 ≤ h → levels < h → refused bad_height ≡ add xs e h
          unfolding add
          at_tall some t = rw (holds, kinded, numbered, short, le-leb (length e.value) max_value small, le-leb 1 h some, lt-leb h levels t)

          -- past the tests it is the insertion
          pub at_inserted : 1 ≤ h → h ≤ levels → (t : Table) → t.bytes.now ≡ xs → (d : Entry) → d ≡ e → (r : Result ℕ Refusal) (ys : List ℕ) → Inserts xs d h r ys → Adds xs e h r ys
          at_inserted low high t is d same r ys i =
              let legal : Legal e = record { key_short = probe.3; value_short = small; number_low = probe.2; kind_known = rw (← known) (code_known kind) } in
              let whole = add_searches xs e h (framed_in t is).header (record { legal = legal; low = low; high = high }) in
              let j : Inserts xs e h r ys = rw (← same) i in
              adds r ys (j.exact ∙ sym whole) (j.bytes ∙ ap (afterwards xs) (sym whole))
