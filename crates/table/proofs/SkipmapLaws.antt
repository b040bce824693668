-- The search as code makes it: what is read of a node, and what holds at each turn of the loop.
use Prim.Native.Nat.{ℕ, zero, suc, ◌+◌, ◌-◌, ◌*◌, ◌<◌, ◌≤◌}
use native.Mathlib.Omega.{arith}
use native.Mathlib.Numerals.{add-one}
use mathlib.Core.Path.{◌≡◌, refl, sym, ◌∙◌}
use mathlib.Core.Logic.{inl}
use mathlib.Core.List.{List}
use lib.ListN.{length, get_or, set, replicate, length-set}
use lib.Seq.{get_or-set_same, get_or-set_other}
use native.Mathlib.Decide.{ℕ_discrete}
use borrow.Author.Tests.{le-leb, lt-leb}
use Rattle.std.specs.Prelude.{Result, Ok, Err}
use Rattle.image.specs.Limits.{levels}
use Rattle.image.specs.Words.{word}
use Rattle.image.specs.Readers.{Read, got, bad}
use Rattle.image.specs.Nodes.{count, free, slot, Lead, lead_of, links_at, link_place, link_of}
use Rattle.image.proofs.Nodes.{lead_bounds}
use Rattle.image.specs.Sound.{Header}
use Rattle.image.specs.Search.{Turn, onward, halt, below, OnEqual, ends, find, meet, look, searched}
use Rattle.image.proofs.Machine.{find_bad, find_onward, find_halt, find_none, find_ends, find_down}
use Rattle.image.specs.Added.{HasLink}
use Rattle.image.proofs.Search.{good_lower, look_good}
use Rattle.table.specs.Framed.{Framed}
use Rattle.table.specs.Skipmap.{Searches}
use Rattle.table.specs.declared.refusals.Fault.{Fault}
use Rattle.table.specs.declared.tested.Frame.{Frame}
use Rattle.table.specs.declared.skipmap.Spot.TheVariants.{Hit, Ends}
use Rattle.table.specs.declared.skipmap.Searched.{Searched}
use Rattle.table.proofs.NodesLaws.{lead_inside, good_inside}

-- ---- what is read of a node

-- the key of a node that was read lies in the image
pub key_inside : (xs : List ℕ) (x : ℕ) {m : Lead} → Header xs → got m ≡ lead_of xs x → m.keyed.key_at + m.keyed.key_len ≤ length xs
key_inside xs x h e = let i = lead_inside _ _ _ (omega (arith, h.high)) e in omega arith

-- and its links begin there
pub links_fit : (xs : List ℕ) (x : ℕ) {m : Lead} → Header xs → got m ≡ lead_of xs x → m.start + 8 ≤ length xs
links_fit xs x {m} h e = let b = lead_bounds xs (free xs) (slot xs x) m (sym e) in omega (arith, b.start_is, b.links_inside, h.high)

-- ---- the loop

-- the whole search is what the machine finds from here, with the looks that are left, for the nodes `prev` that it records; the places of
-- their links above the level are in hand
pub record Looking (xs : List ℕ) (mode : OnEqual) (k : List ℕ) (s : ℕ) (places : List ℕ) (before links level looks : ℕ) : Type 0 where
  pub low : level < levels
  pub links_are : links ≡ links_at xs before
  pub inside : links + 4 * level + 4 ≤ length xs
  pub good : HasLink xs before level
  pub prev : List ℕ
  pub room : length prev ≡ levels
  pub places_room : length places ≡ levels
  pub placed : (l : ℕ) → level < l → l < levels → get_or places l 0 ≡ link_place xs (get_or prev l 0) l
  pub same : searched xs mode k s ≡ find (look xs mode k s) (link_of xs) (link_place xs) (count xs + levels - looks) before level looks prev

pub looking_start : (xs : List ℕ) (mode : OnEqual) (k : List ℕ) (s : ℕ) → Header xs → Looking xs mode k s (replicate levels 0) 0 16 (levels - 1) 0
looking_start xs mode k s h =
    let z : count xs + levels - 0 ≡ count xs + levels = omega arith in
    record {
      low = omega arith;
      links_are = refl;
      inside = omega (arith, h.long);
      good = inl refl;
      prev = replicate levels 0;
      room = refl;
      places_room = refl;
      placed = λ l a b. absurd (omega arith);
      same = rw z;
    }

-- the two ways down, at a level that is not written out
module _ (look : ℕ → ℕ → Read Turn) (link place : ℕ → ℕ → ℕ) (n cur looks : ℕ) (prev : List ℕ) where
  ends_at : (l : ℕ) → look cur l ≡ got below → l ≡ 0 → find look link place (suc n) cur l looks prev ≡ got (ends cur (link cur l) (suc looks) (set prev l cur))
  ends_at zero e z = find_ends look link place n cur looks prev e
  ends_at (suc l) e z = absurd (omega arith)

  down_at : (l : ℕ) → look cur l ≡ got below → (l ≡ 0 → ⊥) → find look link place (suc n) cur l looks prev ≡ find look link place n cur (l - 1) (suc looks) (set prev l cur)
  down_at zero e z = absurd (z refl)
  down_at (suc l) e z = let f : suc l - 1 ≡ l = omega arith in find_down look link place n cur l looks prev e ∙ rw f

-- the place that is in hand at a level, beside those of the levels above
placed_more : (xs prev places : List ℕ) (level before place : ℕ) → length prev ≡ levels → length places ≡ levels → level < levels → place ≡ link_place xs before level
    → ((l : ℕ) → level < l → l < levels → get_or places l 0 ≡ link_place xs (get_or prev l 0) l) → (l : ℕ) → level ≤ l → l < levels → get_or (set places level place) l 0 ≡
    link_place xs (get_or (set prev level before) l 0) l
placed_more xs prev places level before place r pr low p h l a b = go (ℕ_discrete l level)
  where
    go : Dec (l ≡ level) → get_or (set places level place) l 0 ≡ link_place xs (get_or (set prev level before) l 0) l
    go (yes z) = rw (z, get_or-set_same places level place 0 (omega arith), get_or-set_same prev level before 0 (omega arith)) p
    go (no z) = rw (get_or-set_other places level l place 0 z, get_or-set_other prev level l before 0 z) (h l (omega arith) b)

module _ {xs : List ℕ} {f : Frame} (framed : Framed xs f) {mode : OnEqual} {k : List ℕ} {s : ℕ} {places : List ℕ} {before links level looks : ℕ}
    (g : Looking xs mode k s places before links level looks) where
  abbrev Answer : Result Searched Fault → Type 0
  Answer r = Searches xs mode k s r

  -- a byte at fault
  abbrev at_fault : ℕ → Result Searched Fault
  at_fault o = Err (record { at = o })

  -- no look is left
  pub looking_out : looks ≡ f.count + levels → Answer (at_fault (links + 4 * level))
  looking_out h =
      let z : count xs + levels - looks ≡ 0 = omega (arith, framed.count_is) in
      record { prev = g.prev; exact = sym (g.same ∙ rw (z, find_none (look xs mode k s) (link_of xs) (link_place xs) before level looks g.prev, g.links_are)); placed = tt }

  module _ (some : looks < f.count + levels) {x : ℕ} (is : x ≡ word xs (links + 4 * level)) where
    link_is : link_of xs before level ≡ x
    unfolding link_of
    link_is = rw (← g.links_are) (sym is)

    -- the looks that are left after this one
    abbrev rest : ℕ
    rest = count xs + levels - (looks + 1)

    from : searched xs mode k s ≡ find (look xs mode k s) (link_of xs) (link_place xs) (suc rest) before level looks g.prev
    from = let z : count xs + levels - looks ≡ suc rest = omega (arith, framed.count_is) in g.same ∙ rw z

    -- a link above n
    pub looking_over : f.count < x → Answer (at_fault (links + 4 * level))
    unfolding look
    looking_over h =
        record {
          prev = g.prev;
          exact = sym (from ∙ find_bad (look xs mode k s) (link_of xs) (link_place xs) rest before level looks g.prev
              (links + 4 * level) (rw (link_is, lt-leb x (count xs) (omega (arith, framed.count_is)), g.links_are)));
          placed = tt;
        }

    module _ (low : x ≤ f.count) where
      look_is : (t : Read Turn) → t ≡ meet xs mode k s level (links + 4 * level) x → look xs mode k s before level ≡ t
      unfolding look
      look_is t e = rw (link_is, le-leb x (count xs) (omega (arith, framed.count_is)), ← g.links_are) (sym e)

      pub looking_bad : {p : ℕ} → bad p ≡ meet xs mode k s level (links + 4 * level) x → Answer (at_fault p)
      looking_bad {p} e =
          record { prev = g.prev; exact = sym (from ∙ find_bad (look xs mode k s) (link_of xs) (link_place xs) rest before level looks g.prev p (look_is (bad p) e)); placed = tt }

      pub looking_halt : got halt ≡ meet xs mode k s level (links + 4 * level) x → Answer (Ok (record { spot = Hit x; looks = looks + 1; places = places }))
      looking_halt e =
          record {
            prev = g.prev;
            exact = sym (from ∙ find_halt (look xs mode k s) (link_of xs) (link_place xs) rest before level looks g.prev
                (look_is (got halt) e) ∙ rw (link_is, add-one looks));
            placed = tt;
          }

      pub looking_onward : got onward ≡ meet xs mode k s level (links + 4 * level) x → {links' : ℕ} → links' ≡ links_at xs x → Looking xs mode k s places x links' level (looks + 1)
      looking_onward e z = record {
        low = g.low;
        links_are = z;
        inside = rw z (good_inside xs x level framed.header g.low good);
        good = good;
        prev = g.prev;
        room = g.room;
        places_room = g.places_room;
        placed = g.placed;
        same = from ∙ find_onward (look xs mode k s) (link_of xs) (link_place xs) rest before level looks g.prev (look_is (got onward) e) ∙ rw (link_is, add-one looks);
      }
        where
          good : HasLink xs x level
          good = rw link_is at (look_good xs mode k s before level (look_is (got onward) e))

      module _ (e : got below ≡ meet xs mode k s level (links + 4 * level) x) where
        -- the place at this level is in hand too
        more : (l : ℕ) → level ≤ l → l < levels → get_or (set places level (links + 4 * level)) l 0 ≡ link_place xs (get_or (set g.prev level before) l 0) l
        more = placed_more xs g.prev places level before (links + 4 * level) g.room g.places_room g.low (rw g.links_are) g.placed

        pub looking_ends : level ≡ 0 → Answer (Ok (record { spot = Ends before x; looks = looks + 1; places = set places level (links + 4 * level) }))
        looking_ends z = record {
          prev = set g.prev level before;
          exact = sym (from ∙ ends_at (look xs mode k s) (link_of xs) (link_place xs) rest before looks g.prev level (look_is (got below) e) z ∙ rw (link_is, add-one looks));
          placed = λ l b. more l (omega arith) b;
        }

        pub looking_down : (level ≡ 0 → ⊥) → Looking xs mode k s (set places level (links + 4 * level)) before links (level - 1) (looks + 1)
        looking_down z = record {
          low = omega (arith, g.low);
          links_are = g.links_are;
          inside = omega (arith, g.inside);
          good = good_lower xs before level (level - 1) (omega arith) g.good;
          prev = set g.prev level before;
          room = length-set g.prev level before ∙ g.room;
          places_room = length-set places level (links + 4 * level) ∙ g.places_room;
          placed = λ l a b. more l (omega arith) b;
          same = from ∙ down_at (look xs mode k s) (link_of xs) (link_place xs) rest before looks g.prev level (look_is (got below) e) z ∙ rw (add-one looks);
        }
