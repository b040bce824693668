-- The numbers of document 01, each in one place.
use Rattle.std.specs.Prelude.{ℕ, ◌-◌, ◌^◌}

-- bytes of a user key
abbrev pub max_key : ℕ
max_key = 1024

-- bytes of a value
abbrev pub max_value : ℕ
max_value = 4096

-- a number or a snapshot
abbrev pub max_number : ℕ
max_number = 2 ^ 56 - 1

-- bytes of an image
abbrev pub max_image : ℕ
max_image = 65536

-- nodes of an image
abbrev pub max_nodes : ℕ
max_nodes = 4096

-- levels of links, which is also the height of the tallest node
abbrev pub levels : ℕ
levels = 12

-- bytes of the header; the first node starts behind it, and no image is shorter
abbrev pub header_size : ℕ
header_size = 64
