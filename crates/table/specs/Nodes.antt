-- Header and nodes as the code reads them.
use Rattle.std.specs.Prelude.{ℕ, ◌%◌, ◌≡◌, List, false, Option, Some, None, Result, IfOk}
use Rattle.image.specs.Nodes.{Lead as LeadIs, Node as NodeIs}
use Rattle.image.specs.Sound.{header_holds}
use Rattle.table.specs.KeyTypes.{code_of}
use Rattle.table.specs.Entries.{keyed_of, parts_of}
use Rattle.table.specs.declared.refusals.Fault.{Fault}
use Rattle.table.specs.declared.nodes.Lead.{Lead}
use Rattle.table.specs.declared.nodes.Node.{Node}
use Rattle.table.specs.declared.tested.Table.{Table}

-- the lead of a node
abbrev pub lead_is : Lead → LeadIs
lead_is m = record { start = m.start; height = m.height; keyed = keyed_of m.keyed; end = m.end }

-- a whole node
abbrev pub node_is : Node → NodeIs
node_is n = record { start = n.start; height = n.height; parts = parts_of n.parts; end = n.end }

-- the type of its entry is that of its tag
abbrev pub KindFits : Result Node Fault → Type 0
KindFits r = IfOk r (λ n. code_of n.parts.kind ≡ n.parts.keyed.tag.word % 256)

-- a table is opened in the bytes, or their header does not hold
abbrev pub Opens : List ℕ → Option Table → Type 0
Opens xs (Some t) = t.bytes.now ≡ xs
Opens xs None = header_holds xs ≡ false
