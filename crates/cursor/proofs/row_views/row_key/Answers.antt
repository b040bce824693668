use Rattle.cursor.proofs.RowSpans.{key_part}
use Rattle.cursor.proofs.row_views.row_key.Goals as goal

pub returns : goal.returns
returns c = key_part c.args.first.now c.args.second.now c.args.at c.row_span.ensures c.part_of.ensures
