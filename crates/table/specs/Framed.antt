-- A frame of an image, and the number of a node of it.
use Rattle.std.specs.Prelude.{ℕ, ◌≡◌, List}
use Rattle.image.specs.Nodes.{count, free}
use Rattle.image.specs.Sound.{Header}
use Rattle.table.specs.declared.tested.Frame.{Frame}

-- a frame that was read from a header that holds
pub record Framed (xs : List ℕ) (f : Frame) : Type 0 where
  pub header : Header xs
  pub count_is : f.count ≡ count xs
  pub free_is : f.free ≡ free xs
