-- Entry bytes: document 01, 'Entries and their order'.
use Rattle.std.specs.Prelude.{ℕ, ◌+◌, ◌-◌, ◌*◌, ◌/◌, ◌%◌, ◌≤◌, List, [], ◌∷◌, ◌++◌, length, get_or, ltb, leb, eqb}
use Rattle.rule.specs.Lists.{cond, both}
use Rattle.rule.specs.Order.{Ord, compare_entries}
use Rattle.rule.specs.Entries.{Entry}
use Rattle.image.specs.Limits.{max_key, max_value, max_number}
use Rattle.image.specs.Words.{part, fixed, bytes}
use Rattle.image.specs.Readers.{Read, got, bind, check}

-- an entry within the limits
pub record Legal (e : Entry) : Type 0 where
  pub key_short : length e.key ≤ max_key
  pub value_short : length e.value ≤ max_value
  pub number_low : e.number ≤ max_number
  pub kind_known : e.kind ≤ 1

-- ---- written

-- a length in base 128, low group first, in the shortest form; no length of an entry has more than two groups
abbrev pub varint : ℕ → List ℕ
varint n = cond (ltb n 128) (n ∷ []) ((128 + n % 128) ∷ n / 128 ∷ [])

-- the number shifted left by eight bits with the type in the low byte
abbrev pub tag : Entry → ℕ
tag e = e.number * 256 + e.kind

-- length of key plus 8, key, tag, length of value, value
unfoldable pub encode : Entry → List ℕ
encode e = varint (length e.key + 8) ++ (e.key ++ (bytes 8 (tag e) ++ (varint (length e.value) ++ e.value)))

-- ---- read: every reader stops at the place `end`

-- a length, and the place behind it
pub record Len : Type 0 where
  pub is : ℕ
  pub after : ℕ

-- the length that stands at o; one that is cut off, or longer than it need be, or of more than two groups, is bad at its first byte
unfoldable pub len_at : List ℕ → ℕ → ℕ → Read Len
len_at xs end o =
    check (ltb o end) o
    (cond (ltb (get_or xs o 0) 128) (got (record { is = get_or xs o 0; after = o + 1 }))
    (check (both (ltb (o + 1) end) (both (leb 1 (get_or xs (o + 1) 0)) (ltb (get_or xs (o + 1) 0) 128))) o
    (got (record { is = (get_or xs o 0 - 128) + 128 * get_or xs (o + 1) 0; after = o + 2 }))))

-- where the key of an entry stands, its tag, and where its value's length begins: what a search needs of it
pub record Keyed : Type 0 where
  pub key_at : ℕ
  pub key_len : ℕ
  pub tag_is : ℕ
  pub rest : ℕ

-- key and tag of the entry at o; a length out of its limits or past the end is bad at its first byte
unfoldable pub keyed_at : List ℕ → ℕ → ℕ → Read Keyed
keyed_at xs o end =
    bind (len_at xs end o) (λ k.
    check (both (leb 8 k.is) (both (leb k.is (max_key + 8)) (leb (k.after + k.is) end))) o
    (got (record { key_at = k.after; key_len = k.is - 8; tag_is = fixed 8 xs (k.after + (k.is - 8)); rest = k.after + k.is })))

-- where the parts of an entry stand
pub record Parts : Type 0 where
  pub keyed : Keyed
  pub value_at : ℕ
  pub value_len : ℕ

-- the rest of an entry: its type is 0 or 1, its value within the limit, and the value ends at `end`; a byte left over is at fault itself
unfoldable pub rest_at : List ℕ → ℕ → Keyed → Read Parts
rest_at xs end k =
    check (ltb (k.tag_is % 256) 2) (k.key_at + k.key_len)
    (bind (len_at xs end k.rest) (λ v.
    check (both (leb v.is max_value) (leb (v.after + v.is) end)) k.rest
    (check (eqb (v.after + v.is) end) (v.after + v.is)
    (got (record { keyed = k; value_at = v.after; value_len = v.is })))))

-- the entry that fills the bytes from o up to `end`
abbrev pub parts_at : List ℕ → ℕ → ℕ → Read Parts
parts_at xs o end = bind (keyed_at xs o end) (rest_at xs end)

-- its key
abbrev pub key_in : List ℕ → Keyed → List ℕ
key_in xs k = part xs k.key_at k.key_len

-- and its number
abbrev pub number_in : Keyed → ℕ
number_in k = k.tag_is / 256

-- two entries in their order, by their keys and numbers
abbrev pub compare_keyed : List ℕ → Keyed → Keyed → Ord
compare_keyed xs a b = compare_entries (key_in xs a) (number_in a) (key_in xs b) (number_in b)

-- the entry whose parts stand there
abbrev pub entry_in : List ℕ → Parts → Entry
entry_in xs p = record { key = key_in xs p.keyed; number = number_in p.keyed; kind = p.keyed.tag_is % 256; value = part xs p.value_at p.value_len }
