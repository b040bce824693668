-- A stored cursor stays on its node: additions to either table never change what it shows.
use Prim.Native.Nat.{ℕ}
use mathlib.Core.Path.{◌≡◌, refl, sym, ap, ◌∙◌}
use mathlib.Core.List.{List}
use Rattle.rule.specs.Entries.{Entry}
use Rattle.image.specs.Sound.{Sound}
use Rattle.table.specs.Growth.{Grows}
use Rattle.cursor.specs.Places.{image_of, entry_at, PlaceIn, CursorIn}
use Rattle.cursor.specs.Rows.{value_in, entry_shown, ShowsKey, ShowsValue, Refuses}
use Rattle.cursor.specs.declared.places.Side.{Side}
use Rattle.cursor.specs.declared.places.Side.TheVariants.{First, Second}
use Rattle.cursor.specs.declared.places.Place.{Place}
use Rattle.cursor.specs.declared.places.Cursor.{Cursor}
use Rattle.cursor.specs.declared.places.Cursor.TheVariants.{Nowhere, On}

module _ (f g f' g' : List ℕ) (a : Grows f f') (b : Grows g g') where
  grown : (side : Side) → Grows (image_of side f g) (image_of side f' g')
  grown First = a
  grown Second = b

  -- the cursor may still be used
  pub cursor_kept : (c : Cursor) → CursorIn f g c → CursorIn f' g' c
  cursor_kept Nowhere i = tt
  cursor_kept (On p) i = (grown p.table).node_kept p.node i

  -- and is on the same entry
  pub entry_stays : (p : Place) → PlaceIn f g p → entry_at f' g' p ≡ entry_at f g p
  entry_stays p i = (grown p.table).entry_kept p.node i

  pub entry_kept : (show : Entry → List ℕ) (c : Cursor) → CursorIn f g c → entry_shown show f' g' c ≡ entry_shown show f g c
  entry_kept show Nowhere i = refl
  entry_kept show (On p) i = ap show (entry_stays p i)

  module _ (x : Sound f) (y : Sound g) (c : Cursor) (i : CursorIn f g c) where
    pub key_kept : (v w : List ℕ) → ShowsKey f g c v → ShowsKey f' g' c w → v ≡ w
    key_kept v w p q = p.rule x y i ∙ sym (entry_kept (λ e. e.key) c i) ∙ sym (q.rule a.sound b.sound (cursor_kept c i))

    pub value_kept : (v w : List ℕ) → ShowsValue f g c v → ShowsValue f' g' c w → v ≡ w
    value_kept v w p q = p.rule x y i ∙ sym (entry_kept value_in c i) ∙ sym (q.rule a.sound b.sound (cursor_kept c i))

    pub refusal_kept : (m n : ℕ) → Refuses f g c m → Refuses f' g' c n → m ≡ n
    refusal_kept m n p q = p.rule x y i ∙ sym (q.rule a.sound b.sound (cursor_kept c i))
