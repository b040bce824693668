-- `questions::near`: whatever is refused is damage.
use Rattle.std.proofs.Common.{refl, Err}
use Rattle.std.proofs.lemmas.Result.{err_from_is_err_and}
use Rattle.image.specs.EntryMoves.{Cursor}
use Rattle.table.specs.MemtableIter.{node_cursor}
use Rattle.table.specs.Questions.{cut_of}
use Rattle.table.proofs.MemtableLaws.{opened}
use Rattle.table.proofs.QuestionsLaws.{nears, as_damage, near_header, near_damaged, near_landed}
use Rattle.table.proofs.questions.near.Goals as goal

pub returns-in_err-table : goal.returns-in_err-table
returns-in_err-table c =
    let p = err_from_is_err_and c.from_residual.result c.from_residual.ensures.1 in
    let none = rw c.in_err-table.ensures.ok_part at c.open.ensures in
    rw p.1 (nears _ _ _ (Err p.0) (λ i. (c.type_inv.s i).fits) (near_header _ _ _ none))

pub returns-in_default : goal.returns-in_default
returns-in_default c =
    let same = opened _ _ c.open.ensures c.in_ok-table.ensures.ok_part in
    nears _ _ _ _ (λ i. (c.type_inv.s i).fits) (near_damaged _ c.in_ok-table.table same _ _ c.in_default.ensures)

pub returns : goal.returns
returns c =
    let same = opened _ _ c.open.ensures c.in_ok-table.ensures.ok_part in
    let told =
    as_damage node_cursor node_cursor (λ (d : Cursor). d) c.land.result c.map_err.result (λ at e. rw e at c.map_err.ensures.cases) c.map_err.ensures.variant
    (λ at e. refl) _ c.land.ensures in
    nears _ _ _ _ (λ i. (c.type_inv.s i).fits) (near_landed _ c.in_ok-table.table same (cut_of c.args.cut) c.args.key.now c.in-Ok.ensures told)
