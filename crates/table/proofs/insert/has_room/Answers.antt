use native.Mathlib.Omega.{arith}
use Rattle.table.specs.Entries.{entry_is}
use Rattle.table.proofs.InsertLaws.{encode_most}
use Rattle.table.proofs.insert.has_room.Goals as goal

pub overflow_add-need-2 : goal.overflow_add-need-2
overflow_add-need-2 c =
    let legal = c.args.entry.legal in
    record { fits = omega (arith, c.requires.height_most, c.size.ensures, encode_most (entry_is c.args.entry), legal.key_short, legal.value_short) }
