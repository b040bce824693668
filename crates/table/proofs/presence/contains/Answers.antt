use Rattle.table.specs.declared.refusals.Refusal.TheVariants.{Damaged}
use Rattle.table.proofs.MemtableLaws.{not_opened}
use Rattle.table.proofs.PresenceLaws.{has, has_refused, has_header, has_kind, has_probe, has_stands, has_other, has_none, has_damaged, has_hit}
use Rattle.table.proofs.presence.contains.Goals as goal

pub returns-in_err-table : goal.returns-in_err-table
returns-in_err-table c =
    has_refused _ _ _ _ c.from_residual.result _ c.from_residual.ensures.1
    (has_header _ _ _ _ _ (not_opened _ _ c.open.ensures _ c.in_err-table.ensures.ok_part c.in_err-table.ensures.value))

pub returns-in_err-kind : goal.returns-in_err-kind
returns-in_err-kind c =
    has_refused _ _ _ _ c.from_residual-in_err-kind.result _ c.from_residual-in_err-kind.ensures.1
    (has_kind _ _ _ _ c.in_ok-table.table c.open.ensures c.in_ok-table.ensures.ok_part _ c.in_err-kind.ensures)

pub returns-in_err-probe : goal.returns-in_err-probe
returns-in_err-probe c =
    has_refused _ _ _ _ c.from_residual-in_err-probe.result _ c.from_residual-in_err-probe.ensures.1
    (has_probe _ _ _ _ c.in_ok-table.table c.open.ensures c.in_ok-table.ensures.ok_part c.in_ok-kind.kind c.in_ok-kind.ensures _ c.in_err-probe.ensures)

pub returns-in_err-stands : goal.returns-in_err-stands
returns-in_err-stands c =
    has_refused _ _ _ _ c.from_residual-in_err-stands.result _ c.from_residual-in_err-stands.ensures.1
    (has_stands _ _ _ _ c.in_ok-table.table c.open.ensures c.in_ok-table.ensures.ok_part c.in_ok-kind.kind c.in_ok-kind.ensures c.in_ok-probe.probe c.in_ok-probe.ensures
    _ c.in_err-stands.ensures)

pub returns-in_err-node_of-in-Some : goal.returns-in_err-node_of-in-Some
returns-in_err-node_of-in-Some c =
    has_refused _ _ _ _ c.from_residual-in_err-node_of-in-Some.result Damaged c.from_residual-in_err-node_of-in-Some.ensures.1
    (has_damaged _ _ _ _ c.in_ok-table.table c.open.ensures c.in_ok-table.ensures.ok_part c.in_ok-kind.kind c.in_ok-kind.ensures c.in_ok-probe.probe c.in_ok-probe.ensures
    c.in_ok-stands.stands c.in_ok-stands.ensures c.in-Some.node c.in-Some.is c.if-stands.true c.in_err-node_of-in-Some.field-0.0
    c.in_err-node_of-in-Some.ensures.exact)

pub returns-in_ok-node_of-in-Some : goal.returns-in_ok-node_of-in-Some
returns-in_ok-node_of-in-Some c =
    has _ _ _ _ _ (has_hit _ _ _ _ c.in_ok-table.table c.open.ensures c.in_ok-table.ensures.ok_part c.in_ok-kind.kind c.in_ok-kind.ensures c.in_ok-probe.probe c.in_ok-probe.ensures
    c.in_ok-stands.stands c.in_ok-stands.ensures c.in-Some.node c.in-Some.is c.if-stands.true c.in_ok-node_of-in-Some.field-0
    c.in_ok-node_of-in-Some.ensures.exact c.in_ok-node_of-in-Some.ensures.kind _ c.eq-held.ensures)

pub returns-in_default : goal.returns-in_default
returns-in_default c =
    has _ _ _ _ _ (has_other _ _ _ _ c.in_ok-table.table c.open.ensures c.in_ok-table.ensures.ok_part c.in_ok-kind.kind c.in_ok-kind.ensures c.in_ok-probe.probe c.in_ok-probe.ensures
    c.in_ok-stands.stands c.in_ok-stands.ensures c.if-stands.false)

pub returns-in_default-2 : goal.returns-in_default-2
returns-in_default-2 c =
    has _ _ _ _ _ (has_none _ _ _ _ c.in_ok-table.table c.open.ensures c.in_ok-table.ensures.ok_part c.in_ok-kind.kind c.in_ok-kind.ensures c.in_ok-probe.probe c.in_ok-probe.ensures
    c.in_ok-stands.stands c.in_ok-stands.ensures c.in_default.is)
