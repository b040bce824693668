-- Header and nodes, read once: what lies inside.
use Rattle.std.specs.Prelude.{ℕ, ◌+◌, ◌*◌, ◌≤◌, ◌≡◌, length, Option, IfSome, Result, IfOk}
use Rattle.moving.specs.Entries.{KeyInside, PartsInside}
use Rattle.moving.specs.declared.refusals.Fault.{Fault}
use Rattle.moving.specs.declared.tested.Table.{Table}
use Rattle.moving.specs.declared.nodes.Lead.{Lead}
use Rattle.moving.specs.declared.nodes.Node.{Node}

-- a table that was opened is as long as the bytes; that its frame lies within them is its ghost field
abbrev pub Opens : ℕ → Option Table → Type 0
Opens len r = IfSome r (λ t. length t.bytes.now ≡ len)

-- links and key of a node lie before this place
pub record LeadInside (limit : ℕ) (m : Lead) : Type 0 where
  pub links : m.start + 8 + 4 * m.height ≤ limit
  pub low : 1 ≤ m.height
  pub tall : m.height ≤ 12
  pub key : KeyInside m.end m.keyed
  pub end : m.end ≤ limit

-- those of a lead that was read do
abbrev pub LeadFits : ℕ → Result Lead Fault → Type 0
LeadFits limit r = IfOk r (LeadInside limit)

-- links, key and value of a node lie before this place
pub record NodeInside (limit : ℕ) (m : Node) : Type 0 where
  pub links : m.start + 8 + 4 * m.height ≤ limit
  pub low : 1 ≤ m.height
  pub parts : PartsInside m.end m.parts
  pub end : m.end ≤ limit

-- those of a node that was read do
abbrev pub NodeFits : ℕ → Result Node Fault → Type 0
NodeFits limit r = IfOk r (NodeInside limit)
