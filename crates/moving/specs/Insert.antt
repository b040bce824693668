-- Writing to an image: what fits.
use Rattle.std.specs.Prelude.{ℕ, ◌+◌, ◌*◌, ◌≤◌, ◌<◌, Bool, true, false, List, length}
use Rattle.moving.specs.Within.{Within}
use Rattle.moving.specs.Entries.{entry_size}
use Rattle.moving.specs.Search.{PlacesInside}
use Rattle.moving.specs.declared.tested.Frame.{Frame}

-- one more node of this height, and its slot, fit between the nodes and the slots
pub record RoomFor (len : ℕ) (f : Frame) (key_len value_len height : ℕ) : Type 0 where
  pub fewer : f.count < 4096
  pub room : f.free + 12 + 4 * height + entry_size key_len value_len + 4 * f.count ≤ len

-- a yes says that they do
abbrev pub RoomIs : ℕ → Frame → ℕ → ℕ → ℕ → Bool → Type 0
RoomIs len f key_len value_len height true = RoomFor len f key_len value_len height
RoomIs len f key_len value_len height false = Unit

-- there is room in a frame that is within for a node as high as there are places, and the links to change, which stand there, lie inside
pub record Placeable (len : ℕ) (f : Frame) (places : List ℕ) (key_len value_len : ℕ) : Type 0 where
  pub within : Within len f
  pub tall : length places ≤ 12
  pub room : RoomFor len f key_len value_len (length places)
  pub inside : PlacesInside len places
