-- The headers of both tables, tested together.
use mathlib.Core.Path.{◌≡◌, refl, sym, ◌∙◌}
use mathlib.Core.List.{List}
use Prim.Native.Nat.{ℕ}
use mathlib.Core.Bool.{Bool, true, false, not, true≢false}
use borrow.Author.Tests.{not-true, not-false}
use Rattle.rule.specs.Lists.{both}
use Rattle.rule.proofs.Lists.{both_true}
use Rattle.image.specs.Sound.{header_holds}
use Rattle.image.specs.Refusals.{Answer, refused, demand, bad_image}
use Rattle.cursor.specs.Going.{HeadersHold}

-- what it means for a call that asks 1 of the first table, then of the second
module _ (f g : List ℕ) {b : Bool} (e : b ≡ both (header_holds f) (header_holds g)) where
  pub headers_hold : not b ≡ false → HeadersHold f g
  headers_hold h = let (x, y) = both_true (header_holds f) (header_holds g) (sym e ∙ not-false b h) in record { first = x; second = y }

  pub headers_refused {ℓ} : {A : Type ℓ} → not b ≡ true → (x : Answer A) → refused bad_image ≡ demand (header_holds f) bad_image (demand (header_holds g) bad_image x)
  headers_refused h x = go (header_holds f) (header_holds g) (sym e ∙ not-true b h)
    where
      go : (p q : Bool) → both p q ≡ false → refused bad_image ≡ demand p bad_image (demand q bad_image x)
      go false q z = refl
      go true false z = refl
      go true true z = absurd (true≢false z)
