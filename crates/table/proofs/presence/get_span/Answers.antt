-- `presence::get_span`: the value of the node that the lookup found, or what it shows without one.
use Rattle.table.proofs.PresenceLaws.{shows_found}
use Rattle.table.proofs.presence.get_span.Goals as goal

pub returns : goal.returns
returns c = shows_found _ _ _ c.in_ok-node.field-0 c.in-Found.is c.in_ok-node.ensures _ c.value_span.ensures
