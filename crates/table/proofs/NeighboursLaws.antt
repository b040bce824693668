-- The ways out of the questions for a neighbour, and what an answer says of the search behind it.
use Prim.Native.Nat.{ℕ, ◌<◌, ◌≤◌}
use native.Mathlib.Omega.{arith}
use mathlib.Core.Path.{◌≡◌, refl, sym, ap, ◌∙◌}
use mathlib.Core.List.{List}
use mathlib.Core.Bool.{true, false}
use borrow.Author.Tests.{le-leb, lt-leb}
use Rattle.std.specs.Prelude.{Option, Some, None, Result, Ok, Err}
use Rattle.image.specs.Readers.{Read, got, bad, bind}
use Rattle.image.specs.Words.{word}
use Rattle.image.specs.Nodes.{count, link_of}
use Rattle.image.specs.Search.{OnEqual, Found, searched}
use Rattle.image.specs.Refusals as is
use Rattle.image.specs.Refusals.{Answer, refused, given, demand, reading}
use Rattle.image.specs.EntryMoves.{Cursor, cursor_at, landing, first_not_passed}
use Rattle.image.proofs.Spots.{search_stopped, search_ended}
use Rattle.table.specs.Framed.{Framed}
use Rattle.table.specs.Refusals.{answer_as}
use Rattle.table.specs.Skipmap.{spot_is, Searches}
use Rattle.table.specs.Neighbours.{Beside, beside_is, stood, stands_at, passed_at, first_at, NodeIn, Finds, Links}
use Rattle.table.specs.Questions.{lands_on}
use Rattle.table.specs.declared.tested.Frame.{Frame}
use Rattle.table.specs.declared.refusals.Refusal.{Refusal}
use Rattle.table.specs.declared.refusals.Refusal.TheVariants.{Damaged}
use Rattle.table.specs.declared.skipmap.Searched.{Searched}
use Rattle.table.specs.declared.skipmap.Spot.{Spot}
use Rattle.table.specs.declared.skipmap.Spot.TheVariants.{Hit, Ends}
use Rattle.table.specs.declared.neighbours.Neighbour.{Neighbour}

-- ---- where a search ended, by the spot that the code was told

told : {xs : List ℕ} {mode : OnEqual} {k : List ℕ} {s : ℕ} {r : Searched} (q : Searches xs mode k s (Ok r)) {v : Spot}
    → r.spot ≡ v → got (spot_is v r.looks q.prev) ≡ searched xs mode k s
told {r = r} q e = ap (λ (t : Spot). got (spot_is t r.looks q.prev)) (sym e) ∙ q.exact

-- the node that a link names is one of so many, if the link is no greater
node_in : {n x : ℕ} (at : Option ℕ) → x ≤ n → Links x at → NodeIn n at
node_in None h l = tt
node_in (Some i) h (e, some) = (some, omega arith)

-- ---- each way out

module _ {xs : List ℕ} {mode : OnEqual} {k : List ℕ} {n : ℕ} {r : Searched} (q : Searches xs mode k n (Ok r)) where
  pub stands_hit : {x : ℕ} → r.spot ≡ Hit x → Finds xs (stands_at xs mode k n) (Ok (record { node = Some x; equal = true; looks = r.looks }))
  stands_hit e = let s = search_stopped xs mode k n (told q e) in record { exact = rw (← told q e); inside = (s.some, s.most) }

  pub stands_ends : {p x : ℕ} → r.spot ≡ Ends p x → {at : Option ℕ} → Links x at → Finds xs (stands_at xs mode k n) (Ok (record { node = at; equal = false; looks = r.looks }))
  stands_ends e {at} l = record { exact = rw (← told q e, l.0); inside = node_in at (search_ended xs mode k n (told q e)).after_most l }

  pub passed_ends : {p x : ℕ} → r.spot ≡ Ends p x → {at : Option ℕ} → Links p at → Finds xs (passed_at xs mode k n) (Ok (record { node = at; equal = false; looks = r.looks }))
  passed_ends e {at} l = record { exact = rw (← told q e, l.0); inside = node_in at (search_ended xs mode k n (told q e)).before_most l }

module _ {xs : List ℕ} {f : Frame} (framed : Framed xs f) {x : ℕ} (link : x ≡ word xs 16) where
  pub first_damaged : f.count < x → Finds xs (first_at xs) (Err Damaged)
  unfolding link_of
  first_damaged h = record { exact = rw (← link, lt-leb x (count xs) (omega (arith, framed.count_is))); inside = tt }

  pub first_found : x ≤ f.count → {at : Option ℕ} → Links x at → Finds xs (first_at xs) (Ok (record { node = at; equal = false; looks = 1 }))
  unfolding link_of
  first_found h {at} l = record { exact = rw (← link, le-leb x (count xs) (omega (arith, framed.count_is)), l.0); inside = node_in at (omega (arith, framed.count_is)) l }

-- ---- what an answer says of the search behind it

-- the search ended, and goes on from there
pub ended_on : {A : Type 0} (r : Read Found) {b : Beside} → given b ≡ reading r (λ q. given (stood q)) → (go : Beside → Answer A) → go b ≡ reading r (λ q. go (stood q))
ended_on (got q) e go = ap go cc
ended_on (bad o) e go = absurd cc

-- the search met a byte at fault: it is damage
pub failed : (show : Found → Beside) (r : Read Found) {f : is.Refusal} → refused f ≡ reading r (λ q. given (show q)) → (f ≡ is.damaged) × ((o : ℕ) × (bad o ≡ r))
failed show (got q) e = absurd cc
failed show (bad o) e = (cc, (o, refl))

-- ---- the end of a move on a neighbour

module _ (xs : List ℕ) where
  -- where the answer leads
  abbrev lands_there : Answer Beside → Answer Cursor
  lands_there (refused f) = refused f
  lands_there (given b) = reading (landing xs (cursor_at b.node)) given

  landed : (show : Found → Beside) (r : Read Found) → lands_there (reading r (λ q. given (show q))) ≡ reading (bind r (λ q. landing xs (cursor_at (show q).node))) given
  landed show (got q) = refl
  landed show (bad o) = refl

  lands_as : (r : Result Neighbour Refusal) → lands_on xs r ≡ lands_there (answer_as beside_is r)
  lands_as (Ok b) = refl
  lands_as (Err q) = refl

  module _ {r : Result Neighbour Refusal} where
    pub lands_standing : (mode : OnEqual) (k : List ℕ) (n : ℕ) → Finds xs (stands_at xs mode k n) r → lands_on xs r ≡ reading (first_not_passed xs mode k n) given
    lands_standing mode k n f = lands_as r ∙ ap lands_there f.exact ∙ landed stood (searched xs mode k n)
