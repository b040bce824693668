-- What writing a node asks of lengths and values, and what an insertion answers.
use Rattle.std.specs.Prelude.{ℕ, ◌+◌, ◌-◌, ◌*◌, ◌<◌, ◌≤◌, ◌≡◌, List, Bool, length, get_or, ltb, leb, Result}
use Rattle.rule.specs.Lists.{both}
use Rattle.rule.specs.Entries.{Entry}
use Rattle.image.specs.Limits.{max_image, max_nodes, levels, header_size}
use Rattle.image.specs.Words.{word}
use Rattle.image.specs.Nodes.{size_of}
use Rattle.image.specs.Search.{to_stop, searched}
use Rattle.image.specs.Refusals.{Answer, reading}
use Rattle.image.specs.Add.{Grown, placed, afterwards}
use Rattle.image.specs.Entries.{encode}
use Rattle.table.specs.Framed.{Framed}
use Rattle.table.specs.Refusals.{answer_as}
use Rattle.table.specs.declared.tested.Frame.{Frame}
use Rattle.table.specs.declared.refusals.Refusal.{Refusal}

-- there is a place for each of some levels, the lowest ones, and the links at these places lie in the image
pub record PlacesInside (xs places : List ℕ) : Type 0 where
  pub height_most : length places ≤ levels
  pub inside : (l : ℕ) → l < length places → get_or places l 0 + 4 ≤ length xs

-- what they hold
pub record LinksRead (xs places links : List ℕ) : Type 0 where
  pub links_are : (l : ℕ) → l < length places → get_or links l 0 ≡ word xs (get_or places l 0)

-- a node that is as high as there are places fits with this entry behind the first free byte, and the links to it lie in the image
pub record EntryFits (xs : List ℕ) (f : Frame) (places : List ℕ) (e : Entry) : Type 0 where
  pub places_inside : PlacesInside xs places
  pub long : header_size ≤ length xs
  pub short : length xs ≤ max_image
  pub room : f.free + size_of (length places) e + 4 * (f.count + 1) ≤ length xs

-- a frame within this length, and a height within its limits
pub record Sized (len : ℕ) (f : Frame) (height : ℕ) : Type 0 where
  pub within : f.free + 4 * f.count ≤ len
  pub height_most : height ≤ levels

-- whether there is room for an entry: n is below its limit, and 12 + 4h + e is at most L - 4n - F
abbrev pub room_is : ℕ → Frame → Entry → ℕ → Bool
room_is len f e height = both (ltb f.count max_nodes) (leb (12 + 4 * height + length (encode e)) (len - 4 * f.count - f.free))

-- a good header, and a height that passes the test before the search
pub record Insertable (xs : List ℕ) (f : Frame) (height : ℕ) : Type 0 where
  pub framed : Framed xs f
  pub height_some : 1 ≤ height
  pub height_most : height ≤ levels

-- what an insertion answers, with the image afterwards
abbrev pub inserted_as : Result ℕ Refusal → List ℕ → Answer Grown
inserted_as r ys = answer_as (λ i. record { node = i; image = ys }) r

-- the answer and every byte afterwards are those of the definition, on any bytes
pub record Inserts (xs : List ℕ) (e : Entry) (height : ℕ) (r : Result ℕ Refusal) (ys : List ℕ) : Type 0 where
  pub exact : inserted_as r ys ≡ reading (searched xs to_stop e.key e.number) (placed xs e height)
  pub bytes : ys ≡ afterwards xs (reading (searched xs to_stop e.key e.number) (placed xs e height))
