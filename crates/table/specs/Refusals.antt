-- The refusals of the code as those of document 01, and its answers as those of the definitions.
use Rattle.std.specs.Prelude.{ℕ, Option, Some, None, Result, Ok, Err}
use Rattle.image.specs.Readers.{Read, got, bad}
use Rattle.image.specs.Refusals as is
use Rattle.image.specs.Refusals.{Answer, refused, given, number_of}
use Rattle.table.specs.declared.refusals.Fault.{Fault}
use Rattle.table.specs.declared.refusals.Damage.{Damage}
use Rattle.table.specs.declared.refusals.Refusal.{Refusal}
use Rattle.table.specs.declared.refusals.Refusal.TheVariants.{BadImage, BadKind, BadNumber, LongKey, LongValue, BadHeight, NoRoom, Duplicate, Damaged, NoNode}

-- the refusal that a case names
abbrev pub refusal_is : Refusal → is.Refusal
refusal_is BadImage = is.bad_image
refusal_is BadKind = is.bad_kind
refusal_is BadNumber = is.bad_number
refusal_is LongKey = is.long_key
refusal_is LongValue = is.long_value
refusal_is BadHeight = is.bad_height
refusal_is NoRoom = is.no_room
refusal_is Duplicate = is.duplicate
refusal_is Damaged = is.damaged
refusal_is NoNode = is.no_node

-- its number, or 0 where nothing is refused
abbrev pub refusal_number : Option Refusal → ℕ
refusal_number None = 0
refusal_number (Some q) = number_of (refusal_is q)

-- what was read, or the place of the byte at fault
abbrev pub read_as : {A B : Type 0} → (A → B) → Result A Fault → Read B
read_as view (Ok a) = got (view a)
read_as view (Err f) = bad f.at

-- what is asked of the layer below a call, or damage
abbrev pub damage_as : {A B : Type 0} → (A → B) → Result A Damage → Answer B
damage_as view (Ok a) = given (view a)
damage_as view (Err d) = refused is.damaged

-- what a call answers, or its refusal
abbrev pub answer_as : {A B : Type 0} → (A → B) → Result A Refusal → Answer B
answer_as view (Ok a) = given (view a)
answer_as view (Err q) = refused (refusal_is q)
