-- `insert::put_in`: the writes one after the other are the image that the definition says.
use native.Mathlib.Omega.{arith}
use mathlib.Core.Path.{refl, ◌∙◌}
use Rattle.table.proofs.InsertLaws.{entry_put_in, tail_back, tail_lent}
use Rattle.table.specs.Entries.{entry_is}
use Rattle.table.proofs.insert.put_in.Goals as goal

pub returns : goal.returns
returns c = (
  refl,
  entry_put_in c.args.s.now c.args.frame.count c.args.frame.free _ (entry_is c.args.entry) _ c.read_links-links.result _ _ _ _ _ (omega (arith, c.requires.room)) c.size.ensures
      (omega (arith, c.requires.places_inside.height_most)) c.read_links-links.ensures c.put_word.ensures
      (tail_back _ c.args.frame.free c.put_node.new.free ∙ rw (c.put_node.ensures, tail_lent _ c.args.frame.free)) c.put_word-2.ensures c.lead_to.ensures c.put_word-3.ensures,
)
