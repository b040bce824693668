-- `Table::meet_at`: what the lead of the node shows of its key and its links.
use native.Mathlib.Omega.{arith}
use Rattle.table.proofs.NodesLaws.{lead_links}
use Rattle.table.proofs.SkipmapLaws.{key_inside, links_fit}
use Rattle.table.proofs.tested.Table.meet_at.Goals as goal

pub lookup_key-requires : goal.lookup_key-requires
lookup_key-requires c = key_inside _ _ c.args.self.framed.header c.in_ok-lead.ensures

pub overflow_add-lead : goal.overflow_add-lead
overflow_add-lead c =
    let h = links_fit _ _ c.args.self.framed.header c.in_ok-lead.ensures in
    omega (arith, h, c.args.self.framed.header.short)

pub returns-clause-links : goal.returns-clause-links
returns-clause-links c = rw (lead_links _ _ c.if-x-lt1.false c.in_ok-lead.ensures) at c.turn_by.ensures.from
