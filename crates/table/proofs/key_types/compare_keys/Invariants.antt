-- `key_types::compare_keys`: bytes that are equal change nothing of what is left to compare.
use Rattle.std.proofs.Common.{◌≡◌}
use Rattle.rule.specs.Order.{compare_keys}
use Rattle.table.proofs.KeyTypesLaws.{left}
use Rattle.table.proofs.key_types.compare_keys.Given as goal

abbrev pub invariant-loop-i : goal.invariant-loop-i
invariant-loop-i l = compare_keys l.a l.b ≡ left l.a l.b l.i
