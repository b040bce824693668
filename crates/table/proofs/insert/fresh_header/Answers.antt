use mathlib.Core.Path.{refl}
use Rattle.table.proofs.InsertLaws.{header_written}
use Rattle.table.proofs.insert.fresh_header.Goals as goal

pub returns : goal.returns
returns c =
    header_written _ _ _ _ _ _ _ _ refl c.put_word.ensures c.put_word-2.ensures c.put_word-3.ensures c.put_word-4.ensures refl c.put_links.ensures
