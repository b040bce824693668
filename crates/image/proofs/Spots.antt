-- Where a search ends, on any bytes: what its caller may rely on.
use Prim.Native.Nat.{ℕ, zero, suc, ◌+◌, ◌-◌, ◌<◌, ◌≤◌}
use native.Mathlib.Omega.{arith}
use mathlib.Core.Path.{◌≡◌, refl, sym}
use mathlib.Core.Logic.{inl, inr}
use mathlib.Core.List.{List}
use lib.ListN.{length, get_or, replicate}
use lib.Dec.{leb}
use borrow.Author.Tests.{leb-true}
use Rattle.image.specs.Limits.{levels}
use Rattle.image.specs.Readers.{got}
use Rattle.image.specs.Nodes.{count, link_place, link_of}
use Rattle.image.specs.Added.{HasLink}
use Rattle.image.specs.Search.{Turn, halt, below, OnEqual, Found, hit, ends, meet, look, searched, standing, passed}
use Rattle.image.proofs.Readers.{got_same, check_got}
use Rattle.image.proofs.Machine.{find_keeps}
use Rattle.image.proofs.Search.{good_lower, look_good, searched_looks, searched_records, searched_good}

-- a search that stopped: at a node, after few looks
pub record Stopped (xs : List ℕ) (x looks : ℕ) : Type 0 where
  pub some : 1 ≤ x
  pub most : x ≤ count xs
  pub few : looks ≤ count xs + levels

-- a search that ended between two nodes, 0 for none: what it recorded can be written to at each level
pub record Ended (xs : List ℕ) (p x looks : ℕ) (prev : List ℕ) : Type 0 where
  pub before_most : p ≤ count xs
  pub after_most : x ≤ count xs
  pub few : looks ≤ count xs + levels
  pub wide : length prev ≡ levels
  pub good : (l : ℕ) → l < levels → HasLink xs (get_or prev l 0) l

-- a node that is good at a level is the head or one of the nodes
good_most : (xs : List ℕ) (x l : ℕ) → HasLink xs x l → x ≤ count xs
good_most xs x l (inl e) = omega arith
good_most xs x l (inr (a, b, c)) = b

module _ (xs : List ℕ) (mode : OnEqual) (k : List ℕ) (s : ℕ) where
  look_most : (cur level : ℕ) (t : Turn) → look xs mode k s cur level ≡ got t → link_of xs cur level ≤ count xs
  unfolding look
  look_most cur level t e = leb-true (link_of xs cur level) (count xs) (check_got (leb (link_of xs cur level) (count xs)) (link_place xs cur level) _ t e).0

  -- a search stops at no empty link
  look_some : (cur level : ℕ) → look xs mode k s cur level ≡ got halt → 1 ≤ link_of xs cur level
  unfolding look
  look_some cur level e =
      go (link_of xs cur level) (check_got (leb (link_of xs cur level) (count xs)) (link_place xs cur level) (meet xs mode k s level (link_place xs cur level) (link_of xs cur level)) halt e).1
    where
      go : (x : ℕ) → meet xs mode k s level (link_place xs cur level) x ≡ got halt → 1 ≤ x
      go zero f = let z : below ≡ halt = got_same f in let n : ◌≡◌ {A = ℕ} 0 1 = cc in absurd (omega arith)
      go (suc x) f = omega arith

  abbrev Most : Found → Type 0
  Most (hit x looks) = (1 ≤ x) × (x ≤ count xs)
  Most (ends p x looks prev) = (p ≤ count xs) × (x ≤ count xs)

  searched_most : (r : Found) → searched xs mode k s ≡ got r → Most r
  searched_most r e = find_keeps (look xs mode k s) (link_of xs) (link_place xs) (λ n cur level looks prev. HasLink xs cur level) Most (record {
    passing = λ n cur level looks prev f g. look_good xs mode k s cur level f;
    stopping = λ n cur level looks prev f g. (look_some cur level f, look_most cur level halt f);
    lowering = λ n cur low looks prev f g. good_lower xs cur (suc low) low (omega arith) g;
    ending = λ n cur looks prev f g. (good_most xs cur 0 g, look_most cur 0 below f);
  }) (count xs + levels) 0 (levels - 1) 0 (replicate levels 0) r (inl refl) e

  pub search_stopped : {x looks : ℕ} → got (hit x looks) ≡ searched xs mode k s → Stopped xs x looks
  search_stopped {x} {looks} e = let m = searched_most (hit x looks) (sym e) in record { some = m.0; most = m.1; few = searched_looks xs mode k s (hit x looks) (sym e) }

  pub search_ended : {p x looks : ℕ} {prev : List ℕ} → got (ends p x looks prev) ≡ searched xs mode k s → Ended xs p x looks prev
  search_ended {p} {x} {looks} {prev} e = let m = searched_most (ends p x looks prev) (sym e) in record {
    before_most = m.0;
    after_most = m.1;
    few = searched_looks xs mode k s (ends p x looks prev) (sym e);
    wide = searched_records xs mode k s (ends p x looks prev) (sym e);
    good = searched_good xs mode k s (ends p x looks prev) (sym e);
  }

  -- where it stands, and what it passed last
  pub standing_most : (r : Found) → searched xs mode k s ≡ got r → standing r ≤ count xs
  standing_most (hit x looks) e = (search_stopped (sym e)).most
  standing_most (ends p x looks prev) e = (search_ended (sym e)).after_most

  pub passed_most : (r : Found) → searched xs mode k s ≡ got r → passed r ≤ count xs
  passed_most (hit x looks) e = omega arith
  passed_most (ends p x looks prev) e = (search_ended (sym e)).before_most
