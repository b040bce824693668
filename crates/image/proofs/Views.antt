-- What the views show on a sound image: the node's own entry.
use Prim.Native.Nat.{ℕ}
use mathlib.Core.Path.{◌≡◌, refl, ap, ◌∙◌}
use mathlib.Core.List.{List, []}
use mathlib.Core.Bool.{Bool, true, false}
use lib.Dec.{eqb}
use borrow.Author.Tests.{le-leb}
use Rattle.rule.specs.Lists.{cond, some}
use Rattle.rule.specs.Entries.{Entry, value_kind}
use Rattle.image.specs.Entries.{Parts, entry_in}
use Rattle.image.specs.Nodes.{count, entry_of}
use Rattle.image.specs.Sound.{Sound}
use Rattle.image.specs.Refusals.{given}
use Rattle.image.specs.EntryMoves.{on, parts_on, viewed, kind_in, key_view, value_view, number_view, kind_view, view_refusal, value_span}
use Rattle.image.specs.Meaning.{IsNode}
use Rattle.image.proofs.Sound.{header_complete}
use Rattle.image.proofs.Lookup.{node_is}

module _ (xs : List ℕ) (s : Sound xs) (i : ℕ) (n : IsNode xs i) where
  -- the parts of the node are read, and are those of its entry
  pub parts_sound : (p : Parts) × (parts_on xs (on i) ≡ given (some p)) × (entry_in xs p ≡ entry_of xs i)
  unfolding parts_on
  parts_sound = let (m, g, e) = node_is xs s i n in (m.parts, rw (header_complete xs s.header, le-leb 1 i n.some, le-leb i (count xs) n.most, g), e)

  pub key_shown : viewed xs (key_view xs (on i)) ≡ (entry_of xs i).key
  key_shown = let (p, e, f) = parts_sound in rw e (ap (λ (d : Entry). d.key) f)

  pub number_shown : number_view xs (on i) ≡ given (entry_of xs i).number
  number_shown = let (p, e, f) = parts_sound in rw e (ap (λ (d : Entry). given d.number) f)

  pub kind_shown : kind_view xs (on i) ≡ given (entry_of xs i).kind
  kind_shown = let (p, e, f) = parts_sound in rw e (ap (λ (d : Entry). given d.kind) f)

  -- a deletion's value is empty
  pub value_shown : viewed xs (value_view xs (on i)) ≡ cond (eqb (entry_of xs i).kind value_kind) (entry_of xs i).value []
  value_shown = let (p, e, f) = parts_sound in rw e (go p (eqb (kind_in p) value_kind) refl ∙ ap (λ (d : Entry). cond (eqb d.kind value_kind) d.value []) f)
    where
      go : (p : Parts) (b : Bool) → eqb (kind_in p) value_kind ≡ b → viewed xs (given (value_span p)) ≡ cond (eqb (kind_in p) value_kind) (entry_in xs p).value []
      go p true h = rw h
      go p false h = rw h

  pub view_accepted : view_refusal xs (on i) ≡ 0
  view_accepted = let (p, e, f) = parts_sound in rw e
