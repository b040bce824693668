-- What the views at the visible cursor show: `exact` on any bytes, and `rule` on sound tables.
use Rattle.std.specs.Prelude.{ℕ, ◌≡◌, List, [], eqb}
use Rattle.rule.specs.Lists.{cond, both}
use Rattle.rule.specs.Entries.{Entry, value_kind}
use Rattle.image.specs.Sound.{Sound, header_holds}
use Rattle.image.specs.Refusals.{number_of, bad_image}
use Rattle.cursor.specs.Places.{entry_at, key_at, value_at, refusal_at, CursorIn}
use Rattle.cursor.specs.declared.places.Place.{Place}
use Rattle.cursor.specs.declared.places.Cursor.{Cursor}
use Rattle.cursor.specs.declared.places.Cursor.TheVariants.{Nowhere, On}

-- what a view shows of a place: nowhere, and with a bad header, nothing
abbrev pub shown_on : (List ℕ → List ℕ → Place → List ℕ) → List ℕ → List ℕ → Cursor → List ℕ
shown_on at f g Nowhere = []
shown_on at f g (On p) = cond (both (header_holds f) (header_holds g)) (at f g p) []

-- what is shown of a value: a deletion's is empty
abbrev pub value_in : Entry → List ℕ
value_in e = cond (eqb e.kind value_kind) e.value []

-- what is shown of the entry at a cursor
abbrev pub entry_shown : (Entry → List ℕ) → List ℕ → List ℕ → Cursor → List ℕ
entry_shown show f g Nowhere = []
entry_shown show f g (On p) = show (entry_at f g p)

-- what the view of the key promises
pub record ShowsKey (f g : List ℕ) (c : Cursor) (v : List ℕ) : Type 0 where
  pub exact : v ≡ shown_on key_at f g c
  pub rule : Sound f → Sound g → CursorIn f g c → v ≡ entry_shown (λ e. e.key) f g c

-- what the view of the value promises
pub record ShowsValue (f g : List ℕ) (c : Cursor) (v : List ℕ) : Type 0 where
  pub exact : v ≡ shown_on value_at f g c
  pub rule : Sound f → Sound g → CursorIn f g c → v ≡ entry_shown value_in f g c

-- the refusal at a cursor in good tables
abbrev pub refusal_on : List ℕ → List ℕ → Cursor → ℕ
refusal_on f g Nowhere = 0
refusal_on f g (On p) = refusal_at f g p

-- the companion: 1 of either table, then the refusal at the place, 10 or 9; else 0
pub record Refuses (f g : List ℕ) (c : Cursor) (n : ℕ) : Type 0 where
  pub exact : n ≡ cond (both (header_holds f) (header_holds g)) (refusal_on f g c) (number_of bad_image)
  pub rule : Sound f → Sound g → CursorIn f g c → n ≡ 0
