-- A frame that lies inside its image. Tables and what is written to one rest on it.
use Rattle.std.specs.Prelude.{ℕ, ◌+◌, ◌*◌, ◌≤◌}
use Rattle.moving.specs.declared.tested.Frame.{Frame}

-- a frame within a slice of this length: nodes behind the header, then a slot for each
pub record Within (len : ℕ) (f : Frame) : Type 0 where
  pub low : 64 ≤ f.free
  pub high : f.free + 4 * f.count ≤ len
  pub few : f.count ≤ 4096
  pub short : len ≤ 65536
