-- `key_types::LookupKey::compare`: the keys decide, or else the numbers do.
use Rattle.table.proofs.KeyTypesLaws.{entries_compared}
use Rattle.table.proofs.key_types.LookupKey.compare.Goals as goal

pub returns : goal.returns
returns c = entries_compared c.args.self.key.now c.args.other.key.now c.args.self.number.is c.args.other.number.is _ _ c.then.ensures c.compare_keys.ensures c.cmp.ensures
