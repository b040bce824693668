-- `questions::newest`: whatever is refused is damage.
use Rattle.std.proofs.Common.{Err}
use Rattle.std.proofs.lemmas.Result.{err_from_is_err_and}
use Rattle.image.specs.Newest.{with_node}
use Rattle.table.specs.Memtable.{looked_is}
use Rattle.table.specs.Neighbours.{node_or_0}
use Rattle.table.specs.Questions.{newest_is, newest_as}
use Rattle.table.proofs.MemtableLaws.{opened}
use Rattle.table.proofs.QuestionsLaws.{tells_newest, as_damage, newest_header, newest_damaged, newest_said, said_with}
use Rattle.table.proofs.questions.newest.Goals as goal

pub returns-in_err-table : goal.returns-in_err-table
returns-in_err-table c =
    let p = err_from_is_err_and c.from_residual.result c.from_residual.ensures.1 in
    let none = rw c.in_err-table.ensures.ok_part at c.open.ensures in
    rw p.1 (tells_newest _ _ _ (Err p.0) (λ i. (c.type_inv.s i).fits) (newest_header _ _ _ none))

pub returns-in_default : goal.returns-in_default
returns-in_default c =
    let same = opened _ _ c.open.ensures c.in_ok-table.ensures.ok_part in
    tells_newest _ _ _ _ (λ i. (c.type_inv.s i).fits) (newest_damaged _ c.in_ok-table.table same _ _ c.in_default.ensures)

pub returns : goal.returns
returns c =
    let same = opened _ _ c.open.ensures c.in_ok-table.ensures.ok_part in
    let at = c.in-Ok.stands.node in
    let named = said_with at c.said_at.result c.said_at.ensures.names in
    let told =
    as_damage looked_is newest_is (with_node (node_or_0 at)) c.said_at.result c.map_err.result (λ a e. rw e at c.map_err.ensures.cases) c.map_err.ensures.variant
    named _ c.said_at.ensures.exact in
    tells_newest _ _ _ _ (λ i. (c.type_inv.s i).fits) (newest_said _ c.in_ok-table.table same _ _ c.in-Ok.ensures (newest_as c.map_err.result) told)
