-- `tested::Table::node_at`: the lead, and behind it the rest of the entry.
use Rattle.std.proofs.Common.{arith}
use Rattle.table.proofs.NodesLaws.{lead_inside}
use Rattle.table.proofs.tested.Table.node_at.Goals as goal

pub rest_at-requires : goal.rest_at-requires
rest_at-requires c =
    let i = lead_inside c.args.self.bytes.now _ _ (omega (arith, c.args.self.framed.header.high)) c.in_ok-lead.ensures in
    (i.0, omega arith)
