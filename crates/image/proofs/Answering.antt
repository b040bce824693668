-- Where the questions of the layer above end, on any bytes: on a node that can be read whole, with a key and a number that were asked for.
use Prim.Native.Nat.{ℕ, zero, suc, ◌≤◌}
use native.Mathlib.Omega.{arith}
use mathlib.Core.Path.{◌≡◌, refl, sym, ap, ◌∙◌}
use mathlib.Core.Logic.{inl, inr}
use mathlib.Core.List.{List}
use mathlib.Core.Bool.{Bool, true, false, not}
use lib.Dec.{eqb}
use borrow.Author.Tests.{eqb-true, eqb-false, not-false}
use Rattle.rule.specs.Lists.{cond}
use Rattle.rule.specs.Order.{Ord, less, equal, greater, then, compare_numbers, compare_keys, compare_entries, is_less, is_equal}
use Rattle.rule.specs.Entries.{Entry, value_kind, deletion_kind}
use Rattle.rule.proofs.Order.{keys, flip, equal_true, entries_not_less_number}
use Rattle.image.specs.Limits.{max_number}
use Rattle.image.specs.Words.{Bytes}
use Rattle.image.specs.Readers.{got}
use Rattle.image.specs.Entries.{Legal, Keyed, key_in, number_in, entry_in}
use Rattle.image.specs.Nodes.{count, Node, node_at, entry_of}
use Rattle.image.specs.Sound.{Header, header_holds}
use Rattle.image.specs.Search.{below, OnEqual, to_stop, to_go_down, to_pass, turn_by, searched, standing}
use Rattle.image.specs.Refusals.{damaged, given, reading}
use Rattle.image.specs.EntryMoves.{Cursor, nowhere, on}
use Rattle.image.specs.Meaning.{IsNode}
use Rattle.image.specs.Cuts.{Cut, all, from, above, below, admits, near_at, nearest, NearLands}
use Rattle.image.specs.Lookup.{Looked, found, deleted, absent, says_of, said_at}
use Rattle.image.specs.Newest.{NewestAt, with_node, newest_at, NewestLands, NewestLandsOn}
use Rattle.image.proofs.Readers.{got_same, bind_got}
use Rattle.image.proofs.Refusals.{demand_given, reading_given}
use Rattle.image.proofs.Search.{is_onward}
use Rattle.image.proofs.Spots.{standing_most}
use Rattle.image.proofs.Sound.{header_sound, header_complete}
use Rattle.image.proofs.Lookup.{stop_less}
use Rattle.image.proofs.Nearest.{before_key, upto_key}
use Rattle.image.proofs.Check.{node_seen}
use Rattle.image.proofs.Landing.{first_whole, entry_read, Judged, lead_keyed, Whole, last_led, first_led, down_less, standing_judged, Led, readable}

-- ---- the key that comes next behind a cut

-- an entry that is not before another has no key before the other's
key_not_less : (a : List ℕ) (m : ℕ) (b : List ℕ) (n : ℕ) → is_less (compare_entries a m b n) ≡ false → is_less (compare_keys a b) ≡ false
unfolding compare_entries
key_not_less a m b n = go (compare_keys a b) (compare_numbers n m)
  where
    go : (o p : Ord) → is_less (then o p) ≡ false → is_less o ≡ false
    go less p h = h
    go equal p h = refl
    go greater p h = refl

module _ (xs : List ℕ) (bytes : Bytes xs) (good : Header xs) where
  header : header_holds xs ≡ true
  header = header_complete xs good

  legal : (i : ℕ) (m : Node) → node_at xs i ≡ got m → Legal (entry_of xs i)
  legal i m g = (node_seen xs i m bytes (omega (arith, good.high)) g).0.legal

  near_by : (c : Cut) (t : List ℕ) (b : Bool) (mode : OnEqual) (n : ℕ)
      → ((i : ℕ) (m : Node) → node_at xs i ≡ got m → is_onward (turn_by mode (compare_entries (entry_of xs i).key (entry_of xs i).number t n)) ≡ b → admits c t (entry_of xs i).key ≡ true)
      → (d : Cursor) → Led xs mode t n b d → NearLands xs c t d
  near_by c t b mode n a nowhere l = tt
  near_by c t b mode n a (on i) (h, (m, g), f) = (h, readable xs i m g header h, a i m g f)

  near_first : (t : List ℕ) (d : Cursor) → Whole xs d → NearLands xs all t d
  near_first t nowhere w = tt
  near_first t (on i) (h, (m, g)) = (h, readable xs i m g header h, refl)

  near_at_lands : (c : Cut) (t : List ℕ) (d : Cursor) → near_at xs c t ≡ got d → NearLands xs c t d
  unfolding compare_entries
  near_at_lands all t d e = near_first t d (first_whole xs d e)
  near_at_lands from t d e =
      near_by from t false to_stop max_number
      (λ i m g f. ap not (key_not_less (entry_of xs i).key (entry_of xs i).number t max_number
      (sym (stop_less (compare_entries (entry_of xs i).key (entry_of xs i).number t max_number)) ∙ f))) d (first_led xs to_stop t max_number d e)
  near_at_lands above t d e =
      near_by above t false to_pass 0 (λ i m g f. rw (keys.flips (entry_of xs i).key t)
      (not-false (is_less (flip (compare_keys (entry_of xs i).key t))) (sym (upto_key (compare_keys (entry_of xs i).key t) (entry_of xs i).number) ∙ f))) d
      (first_led xs to_pass t 0 d e)
  near_at_lands below t d e =
      near_by below t true to_go_down max_number
      (λ i m g f. sym (before_key (compare_keys (entry_of xs i).key t) (entry_of xs i).number (legal i m g).number_low) ∙
      sym (down_less (compare_entries (entry_of xs i).key (entry_of xs i).number t max_number)) ∙ f) d (last_led xs t max_number d e)

pub near_lands : (xs : List ℕ) → Bytes xs → (c : Cut) (t : List ℕ) (d : Cursor) → nearest xs c t ≡ given d → NearLands xs c t d
unfolding nearest
near_lands xs b c t d e =
    let (h, f) = demand_given (header_holds xs) damaged (reading (near_at xs c t) given) d e in
    let (x, g, q) = reading_given (near_at xs c t) given d f in
    let z : x ≡ d = cc in
    near_at_lands xs b (header_sound xs h) c t d (rw z at g)

-- ---- the newest entry of a key

-- a type that is not that of a value is that of a deletion
other_kind : (kind : ℕ) → kind ≤ 1 → eqb kind value_kind ≡ false → kind ≡ deletion_kind
other_kind kind h e = omega (arith, eqb-false kind value_kind e)

module _ (xs : List ℕ) (bytes : Bytes xs) (good : Header xs) (k : List ℕ) (s : ℕ) where
  lands : (kind i : ℕ) → i ≤ count xs → 1 ≤ i → (m : Node) → node_at xs i ≡ got m → is_equal (compare_keys (entry_of xs i).key k) ≡ true
      → (entry_of xs i).kind ≡ kind → Judged xs to_stop k s false i → NewestLands xs k s kind i
  lands kind i h p m g same is (inl z) = absurd (omega arith)
  lands kind i h p m g same is (inr (l, f, t)) =
      let n : IsNode xs i = record { some = p; most = h } in
      let key = keys.eq (entry_of xs i).key k (equal_true (compare_keys (entry_of xs i).key k) same) in
      record {
        node = n;
        readable = readable xs i m g (header_complete xs good) n;
        key_is = key;
        number_most =
            entries_not_less_number (entry_of xs i).key (entry_of xs i).number k s key
            (sym (stop_less (compare_entries (entry_of xs i).key (entry_of xs i).number k s)) ∙
            ap (λ (e : Entry). is_onward (turn_by to_stop (compare_entries e.key e.number k s))) (entry_read xs i m g)
            ∙ ap (λ (q : Keyed). is_onward (turn_by to_stop (compare_entries (key_in xs q) (number_in q) k s))) (lead_keyed xs i m g l f) ∙ t);
        kind_is = is;
      }

  said_lands : (i : ℕ) → i ≤ count xs → Judged xs to_stop k s false i → (a : Looked) → said_at xs k i ≡ got a → NewestLandsOn xs k s (with_node i a)
  said_lands zero h j a e = let z : absent ≡ a = got_same e in rw (← z) tt
  said_lands (suc i) h j a e = let (m, g, f) = bind_got (node_at xs (suc i)) (λ m. got (says_of k (suc i) (entry_in xs m.parts))) a e in
      let z : says_of k (suc i) (entry_of xs (suc i)) ≡ a = ap (says_of k (suc i)) (entry_read xs (suc i) m g) ∙ got_same f in
      rw (← z) (go m g (is_equal (compare_keys (entry_of xs (suc i)).key k)) refl (eqb (entry_of xs (suc i)).kind value_kind) refl)
    where
      go : (m : Node) → node_at xs (suc i) ≡ got m → (b : Bool) → is_equal (compare_keys (entry_of xs (suc i)).key k) ≡ b → (v : Bool)
          → eqb (entry_of xs (suc i)).kind value_kind ≡ v → NewestLandsOn xs k s (with_node (suc i) (cond b (cond v (found (suc i)) deleted) absent))
      go m g true p true q = lands value_kind (suc i) h (omega arith) m g p (eqb-true (entry_of xs (suc i)).kind value_kind q) j
      go m g true p false q = lands deletion_kind (suc i) h (omega arith) m g p (other_kind (entry_of xs (suc i)).kind (legal xs bytes good (suc i) m g).kind_known q) j
      go m g false p v q = tt

pub newest_lands : (xs : List ℕ) → Bytes xs → (k : List ℕ) (s : ℕ) (v : NewestAt) → newest_at xs k s ≡ given v → NewestLandsOn xs k s v
unfolding newest_at
newest_lands xs b k s v e =
    let (h, f) = demand_given (header_holds xs) damaged (reading (searched xs to_stop k s) (λ r. reading (said_at xs k (standing r)) (λ a. given (with_node (standing r) a)))) v e in
    let (r, g, f1) = reading_given (searched xs to_stop k s) (λ r. reading (said_at xs k (standing r)) (λ a. given (with_node (standing r) a))) v f in
    let (a, p, q) = reading_given (said_at xs k (standing r)) (λ a. given (with_node (standing r) a)) v f1 in
    let z : with_node (standing r) a ≡ v = cc in rw (← z) (said_lands xs b (header_sound xs h) k s (standing r) (standing_most xs to_stop k s r g) (standing_judged xs to_stop k s r g) a p)
