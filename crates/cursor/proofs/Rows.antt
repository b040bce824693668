-- The views at the visible cursor.
use Prim.Native.Nat.{ℕ}
use mathlib.Core.Path.{◌≡◌, refl, ◌∙◌}
use mathlib.Core.List.{List}
use mathlib.Core.Bool.{Bool, true, false, not}
use borrow.Author.Tests.{not-true, not-false}
use Rattle.rule.specs.Lists.{cond, both}
use Rattle.image.specs.Sound.{Sound, header_holds}
use Rattle.image.specs.Refusals.{number_of, bad_image}
use Rattle.image.proofs.Sound.{header_complete}
use Rattle.image.proofs.Views.{value_shown, view_accepted}
use Rattle.cursor.proofs.Merging.{sound_of, key_told}
use Rattle.cursor.specs.Places.{image_of, entry_at, key_at, value_at, refusal_at, PlaceIn, CursorIn}
use Rattle.cursor.specs.Rows.{shown_on, value_in, entry_shown, ShowsKey, ShowsValue, refusal_on, Refuses}
use Rattle.cursor.specs.declared.places.Place.{Place}
use Rattle.cursor.specs.declared.places.Cursor.{Cursor}
use Rattle.cursor.specs.declared.places.Cursor.TheVariants.{Nowhere, On}

-- ---- on sound tables

module _ (f g : List ℕ) (x : Sound f) (y : Sound g) where
  headers : both (header_holds f) (header_holds g) ≡ true
  headers = rw (header_complete f x.header, header_complete g y.header)

  value_told : (p : Place) → PlaceIn f g p → value_at f g p ≡ value_in (entry_at f g p)
  value_told p i = value_shown (image_of p.table f g) (sound_of f g x y p.table) p.node i

  pub key_rule : (c : Cursor) → CursorIn f g c → shown_on key_at f g c ≡ entry_shown (λ e. e.key) f g c
  key_rule Nowhere i = refl
  key_rule (On p) i = rw headers (key_told f g x y p i)

  pub value_rule : (c : Cursor) → CursorIn f g c → shown_on value_at f g c ≡ entry_shown value_in f g c
  value_rule Nowhere i = refl
  value_rule (On p) i = rw headers (value_told p i)

  pub refusal_rule : (c : Cursor) → CursorIn f g c → cond (both (header_holds f) (header_holds g)) (refusal_on f g c) (number_of bad_image) ≡ 0
  refusal_rule Nowhere i = rw headers
  refusal_rule (On p) i = rw headers (view_accepted (image_of p.table f g) (sound_of f g x y p.table) p.node i)

-- ---- what was shown, and each way out of the companion

module _ (f g : List ℕ) (c : Cursor) where
  pub shows_key : (v : List ℕ) → v ≡ shown_on key_at f g c → ShowsKey f g c v
  shows_key v e = record { exact = e; rule = λ x y i. e ∙ key_rule f g x y c i }

  pub shows_value : (v : List ℕ) → v ≡ shown_on value_at f g c → ShowsValue f g c v
  shows_value v e = record { exact = e; rule = λ x y i. e ∙ value_rule f g x y c i }

  pub refuses : (n : ℕ) → n ≡ cond (both (header_holds f) (header_holds g)) (refusal_on f g c) (number_of bad_image) → Refuses f g c n
  refuses n e = record { exact = e; rule = λ x y i. e ∙ refusal_rule f g x y c i }

  module _ {b : Bool} (eb : b ≡ both (header_holds f) (header_holds g)) where
    pub refuses_headers : not b ≡ true → Refuses f g c (number_of bad_image)
    refuses_headers h = refuses (number_of bad_image) (rw (← eb, not-true b h))

    pub refuses_on : not b ≡ false → {p : Place} → c ≡ On p → {n : ℕ} → n ≡ refusal_at f g p → Refuses f g c n
    refuses_on h e {n} d = refuses n (rw (e, ← eb, not-false b h) d)
