use native.Mathlib.Omega.{arith}
use Rattle.table.proofs.InsertLaws.{insert_done, insert_fits}
use Rattle.table.proofs.insert.insert.Goals as goal

pub put_in-requires : goal.put_in-requires
put_in-requires c =
    insert_fits _ _ _ c.lookup_key.ensures.key c.lookup_key.ensures.number c.in_ok-found.ensures c.in_default.is c.requires c.if-not-has_room.ensures (omega arith) c.args.entry.legal

pub returns : goal.returns
returns c =
    insert_done _ _ _ c.lookup_key.ensures.key c.lookup_key.ensures.number c.in_ok-found.ensures c.in_default.is c.requires c.if-not-has_room.ensures
    (omega arith) _ _ c.put_in.ensures.0 c.put_in.ensures.1
