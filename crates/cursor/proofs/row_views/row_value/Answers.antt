use Rattle.cursor.proofs.RowSpans.{value_part}
use Rattle.cursor.proofs.row_views.row_value.Goals as goal

pub returns : goal.returns
returns c = value_part c.args.first.now c.args.second.now c.args.at c.row_span.ensures c.part_of.ensures
