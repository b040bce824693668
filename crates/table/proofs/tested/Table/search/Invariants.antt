-- `Table::search`: the whole search is what the machine finds from here, with the looks that are left.
use Rattle.table.specs.Skipmap.{mode_of}
use Rattle.table.proofs.SkipmapLaws.{Looking}
use Rattle.table.proofs.tested.Table.search.Given as goal

abbrev pub invariant-loop-looks : goal.invariant-loop-looks
invariant-loop-looks l = Looking l.self.bytes.now (mode_of l.mode) l.probe.key.now l.probe.number.is l.places l.before l.links l.level l.looks
