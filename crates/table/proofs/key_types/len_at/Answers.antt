-- `key_types::len_at`: each way out is a case of the definition.
use Rattle.table.proofs.KeyTypesLaws.{len_none, len_one, len_cut, len_long, len_three, len_two}
use Rattle.table.proofs.key_types.len_at.Goals as goal

pub returns-then-o-end-clause-exact : goal.returns-then-o-end-clause-exact
returns-then-o-end-clause-exact c = len_none _ _ _ c.if-o-end.true

pub returns-then-low-lt128-clause-exact : goal.returns-then-low-lt128-clause-exact
returns-then-low-lt128-clause-exact c = len_one _ _ _ c.from-low.ensures c.if-o-end.false c.if-low-lt128.true

pub returns-then-next-end-clause-exact : goal.returns-then-next-end-clause-exact
returns-then-next-end-clause-exact c = len_cut _ _ _ c.from-low.ensures c.if-o-end.false c.if-low-lt128.false c.if-next-end.true

pub returns-then-high-lt1-clause-exact : goal.returns-then-high-lt1-clause-exact
returns-then-high-lt1-clause-exact c = len_long _ _ _ c.from-low.ensures c.if-o-end.false c.if-low-lt128.false c.if-next-end.false c.from-high.ensures c.if-high-lt1.true

pub returns-then-high-ge128-clause-exact : goal.returns-then-high-ge128-clause-exact
returns-then-high-ge128-clause-exact c =
    len_three _ _ _ c.from-low.ensures c.if-o-end.false c.if-low-lt128.false c.if-next-end.false c.from-high.ensures c.if-high-lt1.false c.if-high-ge128.true

pub returns-clause-exact : goal.returns-clause-exact
returns-clause-exact c =
    len_two _ _ _ c.from-low.ensures c.if-o-end.false c.if-low-lt128.false c.if-next-end.false c.from-high.ensures c.if-high-lt1.false c.if-high-ge128.false
