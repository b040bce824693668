-- `nodes::header_holds`: it holds exactly if a table is opened.
use Rattle.std.proofs.Common.{◌∙◌}
use Rattle.table.proofs.NodesLaws.{opened_holds}
use Rattle.table.proofs.nodes.header_holds.Goals as goal

pub returns : goal.returns
returns c = c.is_some.ensures ∙ opened_holds c.args.s.now c.open.result c.open.ensures
