-- `tested::Entry::put`: the five parts, each behind the one before.
use Rattle.std.proofs.Common.{arith}
use Rattle.table.specs.Entries.{entry_is}
use Rattle.table.proofs.EntriesLaws.{room, entry_written}
use Rattle.table.proofs.tested.Entry.put.Goals as goal

pub put_len-key_at-requires : goal.put_len-key_at-requires
put_len-key_at-requires c = (omega (arith, c.args.self.legal.key_short), omega (arith, room _ _ c.requires))

pub put_bytes-requires : goal.put_bytes-requires
put_bytes-requires c = omega (arith, room _ _ c.requires)

pub put_tag-requires : goal.put_tag-requires
put_tag-requires c = omega (arith, room _ _ c.requires)

pub put_len-value_at-requires : goal.put_len-value_at-requires
put_len-value_at-requires c = (omega (arith, c.args.self.legal.value_short), omega (arith, room _ _ c.requires, c.put_len-key_at.ensures.1))

pub put_bytes-requires-2 : goal.put_bytes-requires-2
put_bytes-requires-2 c = omega (arith, room _ _ c.requires, c.put_len-key_at.ensures.1, c.put_len-value_at.ensures.1)

pub returns : goal.returns
returns c =
    entry_written c.args.s.now c.args.at (entry_is c.args.self) c.put_len-key_at.ensures.0 c.put_len-key_at.ensures.1
    c.put_bytes.ensures c.pack.ensures c.put_tag.ensures c.put_len-value_at.ensures.0 c.put_len-value_at.ensures.1 c.put_bytes-2.ensures
