-- The ways out of the question for presence, and of the question where the value of a key stands.
use Prim.Native.Nat.{ℕ, zero, suc, ◌%◌, ◌≤◌}
use native.Mathlib.Omega.{arith}
use mathlib.Core.Path.{◌≡◌, refl, sym, ap, ◌∙◌}
use mathlib.Core.Logic.{inl, inr}
use mathlib.Core.List.{List}
use mathlib.Core.Bool.{Bool, true, false}
use denote.Enum.Bare.{sameb}
use lib.ListN.{length}
use lib.Dec.{leb, eqb}
use borrow.Author.Tests.{lt-leb, le-leb, eq-eqb, eqb-true}
use Rattle.std.specs.Prelude.{Option, Some, None, Result, Ok, Err}
use Rattle.std.specs.Result.{IsErrAnd}
use Rattle.std.proofs.lemmas.Result.{err_from_is_err_and}
use Rattle.rule.specs.Lists.{cond, some}
use Rattle.rule.specs.Order.{compare_keys, is_equal}
use Rattle.rule.specs.Entries.{Entry, value_kind}
use Rattle.rule.specs.Rows.{row}
use Rattle.image.specs.Limits.{max_key, max_number, header_size}
use Rattle.image.specs.Readers.{Read, got, bad, bind}
use Rattle.image.specs.Entries.{entry_in}
use Rattle.image.specs.Nodes.{free, slot, Node, node_at}
use Rattle.image.specs.Sound.{header_holds, Sound, held}
use Rattle.image.specs.Search.{to_stop, Found, hit, ends, searched, looks_of, standing}
use Rattle.image.specs.Refusals.{bad_image, bad_number, long_key, damaged, no_node, Answer, refused, given, demand, reading}
use Rattle.image.specs.Lookup.{Looked, found, deleted, absent, Lookup as LookupIs, says_of, said_at, get, Presence as PresenceIs, held_at, presence}
use Rattle.image.specs.EntryMoves.{on, in_table, Span, empty_span, parts_on, view, viewed, kind_in, value_span, value_view}
use Rattle.image.specs.Meaning.{Tells}
use Rattle.image.proofs.Readers.{got_same, bind_got}
use Rattle.image.proofs.Refusals.{refused_given, demand_given, reading_given}
use Rattle.image.proofs.Nodes.{value_behind}
use Rattle.image.proofs.Spots.{search_stopped}
use Rattle.image.proofs.Lookup.{get_tells, presence_given, presence_tells, node_is as node_shown}
use Rattle.image.proofs.Views.{parts_sound, value_shown}
use Rattle.table.specs.Refusals.{refusal_is, answer_as}
use Rattle.table.specs.KeyTypes.{code_of, KindOf, LooksFor}
use Rattle.table.specs.Nodes.{node_is, Opens}
use Rattle.table.specs.Neighbours.{Beside, beside_is, stood, stands_at, Finds}
use Rattle.table.specs.Memtable.{and_then, Gets}
use Rattle.table.specs.EntryViews.{span_as, SpanLies, Spans}
use Rattle.table.specs.Presence.{presence_as, Contains, said_span, found_span, RowAt, ShowsRow}
use Rattle.table.proofs.MemtableLaws.{opened, holds_in, code_known, stand_on}
use Rattle.table.specs.contracts.key_types.Kind.{the_type}
use Rattle.table.specs.declared.refusals.Refusal.{Refusal}
use Rattle.table.specs.declared.refusals.Refusal.TheVariants.{BadImage}
use Rattle.table.specs.declared.refusals.Fault.{Fault}
use Rattle.table.specs.declared.tested.Table.{Table}
use Rattle.table.specs.declared.key_types.Kind.{Kind}
use Rattle.table.specs.declared.key_types.Kind.TheVariants.{Deletion, Value}
use Rattle.table.specs.declared.key_types.LookupKey.{LookupKey}
use Rattle.table.specs.declared.nodes.Node.{Node as NodeHere}
use Rattle.table.specs.declared.neighbours.Neighbour.{Neighbour}
use Rattle.table.specs.declared.memtable.Lookup.{Lookup}
use Rattle.table.specs.declared.memtable.Lookup.TheVariants as lookup
use Rattle.table.specs.declared.presence.Presence.{Presence}
use Rattle.table.specs.declared.entry_views.Span.{Span as SpanHere}

-- ---- presence

-- two types are the same if their codes are
same_kind : (a b : Kind) → sameb the_type a b ≡ eqb (code_of a) (code_of b)
same_kind Deletion Deletion = refl
same_kind Deletion Value = refl
same_kind Value Deletion = refl
same_kind Value Value = refl

-- what is given is the same
given_same : {A : Type 0} {a b : A} → given a ≡ given b → a ≡ b
given_same e = cc

-- a search that stopped stands at a node
stopped_at : (r : Read Found) (looks : ℕ) → given (record { node = 0; equal = true; looks = looks }) ≡ reading r (λ q. given (stood q)) → got (hit 0 looks) ≡ r
stopped_at (got (hit x l)) looks e =
    let b = given_same e in
    let i : 0 ≡ x = ap (λ (d : Beside). d.node) b in
    let j : looks ≡ l = ap (λ (d : Beside). d.looks) b in
    rw (i, j)
stopped_at (got (ends p x l prev)) looks e = let t : true ≡ false = ap (λ (d : Beside). d.equal) (given_same e) in cc
stopped_at (bad o) looks e = absurd (refused_given (sym e))

module _ (xs k : List ℕ) (n kind : ℕ) where
  -- what the answer means follows from what it is
  pub has : (r : Result Presence Refusal) → presence_as r ≡ presence xs k n kind → Contains xs k n kind r
  has r e = record {
    exact = e;
    looks = λ a f. presence_given xs k n kind a (sym e ∙ f);
    rule = λ sound known low short. let (a, f, t) = presence_tells xs sound k n kind known low short in (a, e ∙ f, t);
  }

  -- what leaves by `?`
  pub has_refused : (r : Result Presence Refusal) (q : Refusal) → IsErrAnd r (λ y. y ≡ q) → refused (refusal_is q) ≡ presence xs k n kind → Contains xs k n kind r
  has_refused r q d e = let p = err_from_is_err_and r d in rw (p.1, p.2) (has (Err q) e)

  -- the tests in their order
  pub has_header : (q : Refusal) → (header_holds xs ≡ false) × (q ≡ BadImage) → refused (refusal_is q) ≡ presence xs k n kind
  unfolding presence
  has_header q (t, e) = rw (t, e)

  module _ (t : Table) {o : Option Table} (opens : Opens xs o) (it : o ≡ Some t) where
    is : t.bytes.now ≡ xs
    is = opened xs o opens it

    holds : header_holds xs ≡ true
    holds = holds_in t is

    pub has_kind : (q : Refusal) → KindOf kind (Err q) → refused (refusal_is q) ≡ presence xs k n kind
    unfolding presence
    has_kind q (high, e) = rw (holds, lt-leb kind 1 high, e)

    module _ (known : Kind) (code : code_of known ≡ kind) where
      kinded : leb kind 1 ≡ true
      kinded = le-leb kind 1 (rw (← code) (code_known known))

      pub has_probe : (q : Refusal) → LooksFor k n (Err q) → refused (refusal_is q) ≡ presence xs k n kind
      unfolding presence
      has_probe q (inl (high, e)) = rw (holds, kinded, lt-leb n max_number high, e)
      has_probe q (inr (low, long, e)) = rw (holds, kinded, le-leb n max_number low, lt-leb (length k) max_key long, e)

      module _ (p : LookupKey) (probe : LooksFor k n (Ok p)) where
        -- whether the node where a search stands has this type too, if it is equal to the probe
        abbrev held_by : Beside → Read Bool
        held_by b = cond b.equal (bind (node_at xs b.node) (λ m. got (eqb (entry_in xs m.parts).kind kind))) (got false)

        abbrev from : Beside → Answer PresenceIs
        from b = reading (held_by b) (λ h. given (record { held = h; looks = b.looks }))

        -- the question is the search and what is held where it stands
        searching : and_then (stands_at xs to_stop k n) from ≡ presence xs k n kind
        unfolding presence
        searching = stand_on (searched xs to_stop k n) from ∙ held_on (searched xs to_stop k n) ∙ rw (holds, kinded, le-leb n max_number probe.2, le-leb (length k) max_key probe.3)
          where
            held_on : (r : Read Found) → reading r (λ q. from (stood q)) ≡ reading r (λ q. reading (held_at xs kind q) (λ h. given (record { held = h; looks = looks_of q })))
            held_on (got (hit x looks)) = refl
            held_on (got (ends p x looks prev)) = refl
            held_on (bad o) = refl

        -- where the search stands
        stood_at : (r : Result Neighbour Refusal) → Finds t.bytes.now (stands_at t.bytes.now to_stop p.key.now p.number.is) r → answer_as beside_is r ≡ stands_at xs to_stop k n
        stood_at r finds = finds.exact ∙ rw (is, probe.0, probe.1)

        -- the question, by what the search answered
        pub has_stands : (r : Result Neighbour Refusal) → Finds t.bytes.now (stands_at t.bytes.now to_stop p.key.now p.number.is) r → and_then (answer_as beside_is r) from ≡ presence xs k n kind
        has_stands r finds = rw (stood_at r finds) searching

        module _ (b : Neighbour) (finds : Finds t.bytes.now (stands_at t.bytes.now to_stop p.key.now p.number.is) (Ok b)) where
          pub has_other : b.equal ≡ false → given (record { held = false; looks = b.looks }) ≡ presence xs k n kind
          has_other t = let w = has_stands (Ok b) finds in rw t at w

          -- no node is equal where there is none
          pub has_none : b.node ≡ None → given (record { held = false; looks = b.looks }) ≡ presence xs k n kind
          has_none e = go b.equal refl
            where
              go : (t : Bool) → b.equal ≡ t → given (record { held = false; looks = b.looks }) ≡ presence xs k n kind
              go true t =
                  let w : given (record { node = 0; equal = true; looks = b.looks }) ≡ stands_at xs to_stop k n = (let v = stood_at (Ok b) finds in rw (e, t) at v) in
                  absurd (omega (arith, (search_stopped xs to_stop k n (stopped_at (searched xs to_stop k n) b.looks w)).some))
              go false t = has_other t

          module _ (i : ℕ) (at : b.node ≡ Some i) (same : b.equal ≡ true) where
            -- a node that is equal to the probe decides
            hit_is : from (record { node = i; equal = true; looks = b.looks }) ≡ presence xs k n kind
            hit_is = let w = has_stands (Ok b) finds in rw (at, same) at w

            pub has_damaged : (f : Fault) → bad f.at ≡ node_at t.bytes.now i → refused damaged ≡ presence xs k n kind
            has_damaged f e = let here = rw is at e in rw (← here) at hit_is

            pub has_hit : (m : NodeHere) → got (node_is m) ≡ node_at t.bytes.now i → code_of m.parts.kind ≡ m.parts.keyed.tag.word % 256 → (h : Bool) → h ≡ sameb the_type m.parts.kind known
                → given (record { held = h; looks = b.looks }) ≡ presence xs k n kind
            has_hit m e tag h s = let here = rw is at e in rw (s, same_kind m.parts.kind known, tag, code) (rw (← here) at hit_is)

-- ---- the value of a key

-- what is said is the same
same_says : {a b : LookupIs} → given a ≡ given b → a.says ≡ b.says
same_says e = ap (λ (l : LookupIs). l.says) (given_same e)

-- a node that a lookup found is read whole, and is a value
module _ (xs k : List ℕ) (s i looks : ℕ) where
  abbrev Reads : Type 0
  Reads = (m : Node) × (node_at xs i ≡ got m) × (kind_in m.parts ≡ value_kind)

  said_found : (x : ℕ) → said_at xs k x ≡ got (found i) → Reads
  said_found zero e = let z : ◌≡◌ {A = ℕ} 0 1 = cc in absurd (omega arith)
  said_found (suc x) e = let (m, g, f) = bind_got (node_at xs (suc x)) (λ m. got (says_of k (suc x) (entry_in xs m.parts))) (found i) e in
      go m g (is_equal (compare_keys (entry_in xs m.parts).key k)) (eqb (kind_in m.parts) value_kind) refl (got_same f)
    where
      go : (m : Node) → node_at xs (suc x) ≡ got m → (b v : Bool) → eqb (kind_in m.parts) value_kind ≡ v → cond b (cond v (found (suc x)) deleted) absent ≡ found i → Reads
      go m g true true v f = let z : suc x ≡ i = cc in (m, rw (← z) g, eqb-true (kind_in m.parts) value_kind v)
      go m g true false v f = let z : ◌≡◌ {A = ℕ} 0 1 = cc in absurd (omega arith)
      go m g false b v f = let z : ◌≡◌ {A = ℕ} 0 1 = cc in absurd (omega arith)

  -- what a lookup answers of what is said
  abbrev told_with : ℕ → Looked → Answer LookupIs
  told_with n a = given (record { says = a; looks = n })

  abbrev told_of : Found → Answer LookupIs
  told_of q = reading (said_at xs k (standing q)) (told_with (looks_of q))

  found_read : get xs k s ≡ given (record { says = found i; looks = looks }) → Reads
  unfolding get
  found_read e =
      let w : LookupIs = record { says = found i; looks = looks } in
      let (_, e1) = demand_given (header_holds xs) bad_image (demand (leb s max_number) bad_number (demand (leb (length k) max_key) long_key (reading (searched xs to_stop k s) told_of))) w e in
      let (_, e2) = demand_given (leb s max_number) bad_number (demand (leb (length k) max_key) long_key (reading (searched xs to_stop k s) told_of)) w e1 in
      let (_, e3) = demand_given (leb (length k) max_key) long_key (reading (searched xs to_stop k s) told_of) w e2 in
      let (q, g, e4) = reading_given (searched xs to_stop k s) told_of w e3 in
      let (a, p, e5) = reading_given (said_at xs k (standing q)) (told_with (looks_of q)) w e4 in
      let z : a ≡ found i = same_says e5 in
      said_found (standing q) (rw z at p)

-- its value stands behind the header
module _ (xs : List ℕ) (i : ℕ) (m : Node) (node : node_at xs i ≡ got m) (kind : kind_in m.parts ≡ value_kind) (o n : ℕ) where
  found_behind : given (record { at = o; len = n }) ≡ value_view xs (on i) → header_size ≤ o
  unfolding parts_on
  found_behind e = go (header_holds xs) (in_table xs (on i)) (rw node at e)
    where
      go : (h t : Bool) → given (record { at = o; len = n }) ≡ view value_span empty_span (demand h bad_image (demand t no_node (given (some m.parts)))) → header_size ≤ o
      go true true w =
          let z : o ≡ m.parts.value_at = ap (λ (q : Span). q.at) (given_same (rw (eq-eqb (kind_in m.parts) value_kind kind) at w)) in
          omega (arith, value_behind xs (free xs) (slot xs i) m node)
      go true false w = absurd (refused_given (sym w))
      go false t w = absurd (refused_given (sym w))

-- on a sound image what is said is the row
module _ (xs k : List ℕ) (s : ℕ) (sound : Sound xs) where
  row_at : (w : Looked) → Tells xs k s w → (v : Result SpanHere Refusal) → span_as v ≡ said_span xs w → RowAt xs (row k s (held xs)) v
  row_at (found i) (n, f, g) (Ok p) e =
      let (m, read, is) = node_shown xs sound i n in
      let kind : kind_in m.parts ≡ value_kind = ap (λ (d : Entry). d.kind) is ∙ g in
      rw (f, g) (found_behind xs i m read kind p.at p.len e, ap (viewed xs) e ∙ value_shown xs sound i n ∙ rw g)
  row_at (found i) (n, f, g) (Err q) e = let (p, read, is) = parts_sound xs sound i n in absurd (refused_given (e ∙ ap (view value_span empty_span) read))
  row_at deleted (d, f, g) (Ok p) e = let z = given_same e in rw (f, g) (ap (λ (q : Span). q.at) z, ap (λ (q : Span). q.len) z)
  row_at deleted (d, f, g) (Err q) e = absurd (refused_given e)
  row_at absent f (Ok p) e = let z = given_same e in rw f (ap (λ (q : Span). q.at) z, ap (λ (q : Span). q.len) z)
  row_at absent f (Err q) e = absurd (refused_given e)

module _ (xs k : List ℕ) (s : ℕ) where
  shows : (v : Result SpanHere Refusal) → span_as v ≡ found_span xs (get xs k s) → SpanLies xs v → ShowsRow xs k s v
  shows v e l = record {
    exact = e;
    lies = l;
    apart = λ i looks o n f q. let (m, node, kind) = found_read xs k s i looks f in found_behind xs i m node kind o n (sym q ∙ e ∙ ap (found_span xs) f);
    rule = λ sound low short. let (a, f, t, _) = get_tells xs sound k s low short in row_at xs k s sound a.says t v (e ∙ ap (found_span xs) f);
  }

  pub shows_found : (l : Lookup) {i looks : ℕ} → l ≡ lookup.Found i looks → Gets xs k s (Ok l) → (v : Result SpanHere Refusal) → Spans xs (value_view xs (on i)) v → ShowsRow xs k s v
  shows_found l e g v w = shows v (w.exact ∙ (let f = ap (found_span xs) g.exact in rw e at f)) w.lies
