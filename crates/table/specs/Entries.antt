-- Entries as the code writes and reads them.
use Rattle.std.specs.Prelude.{ℕ, ◌+◌, ◌%◌, ◌≤◌, ◌≡◌, List, Result, IfOk}
use Rattle.rule.specs.Entries.{Entry as EntryIs}
use Rattle.image.specs.Limits.{max_key, max_value}
use Rattle.image.specs.Entries.{Keyed as KeyedIs, Parts as PartsIs}
use Rattle.table.specs.KeyTypes.{code_of}
use Rattle.table.specs.declared.refusals.Fault.{Fault}
use Rattle.table.specs.declared.tested.Entry.{Entry}
use Rattle.table.specs.declared.entries.Keyed.{Keyed}
use Rattle.table.specs.declared.entries.Parts.{Parts}

-- the entry of these parts
abbrev pub entry : List ℕ → ℕ → ℕ → List ℕ → EntryIs
entry key number kind value = record { key = key; number = number; kind = kind; value = value }

-- an entry that may be put into a table
abbrev pub entry_is : Entry → EntryIs
entry_is e = entry e.key.now e.number.is (code_of e.kind) e.value.now

-- key and tag of an entry
abbrev pub keyed_of : Keyed → KeyedIs
keyed_of k = record { key_at = k.key_at; key_len = k.key_len; tag_is = k.tag.word; rest = k.rest }

-- they end before the place end
abbrev pub KeyedFits : ℕ → Result Keyed Fault → Type 0
KeyedFits end r = IfOk r (λ k. (k.key_len ≤ max_key) × (k.rest ≡ k.key_at + k.key_len + 8) × (k.rest ≤ end))

-- the parts of an entry
abbrev pub parts_of : Parts → PartsIs
parts_of p = record { keyed = keyed_of p.keyed; value_at = p.value_at; value_len = p.value_len }

-- they end at the place end, and the type is that of the tag
abbrev pub PartsFits : ℕ → Result Parts Fault → Type 0
PartsFits end r = IfOk r (λ p. (p.value_len ≤ max_value) × (p.value_at + p.value_len ≡ end) × (code_of p.kind ≡ p.keyed.tag.word % 256))
