use Rattle.table.specs.Entries.{entry_is}
use Rattle.table.proofs.InsertLaws.{node_put_together}
use Rattle.table.proofs.insert.put_node.Goals as goal

pub returns : goal.returns
returns c =
    node_put_together c.args.free.now _ _ (entry_is c.args.entry) c.args.links.now _ _ _ _ c.size.ensures
    c.put_word.ensures c.put_word-2.ensures c.put_links.ensures c.put.ensures
