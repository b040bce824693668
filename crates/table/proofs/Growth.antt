-- A table begun fresh and changed by accepted additions alone is sound, holds what was added, and keeps its nodes.
use Prim.Native.Nat.{ℕ, ◌≤◌}
use native.Mathlib.Omega.{arith}
use mathlib.Core.Path.{◌≡◌, refl, sym, ap, ◌∙◌}
use mathlib.Core.List.{List, [], ◌∷◌, ◌++◌, append_assoc, append-nil}
use lib.ListN.{length}
use Rattle.std.specs.Prelude.{Ok}
use lib.Dec.{leb}
use borrow.Author.Tests.{leb-true}
use Rattle.std.specs.Prelude.{Ok}
use Rattle.rule.specs.Lists.{both}
use Rattle.rule.specs.Entries.{Entry}
use Rattle.rule.proofs.Lists.{both_true}
use Rattle.image.specs.Limits.{header_size, max_image}
use Rattle.image.specs.Nodes.{entry_of}
use Rattle.image.specs.Sound.{Sound, held}
use Rattle.image.specs.Refusals.{bad_image, given}
use Rattle.image.specs.Fresh.{fresh_image, fresh}
use Rattle.image.specs.Meaning.{IsNode}
use Rattle.image.proofs.Refusals.{demand_given}
use Rattle.image.proofs.Add.{add_added}
use Rattle.table.specs.Memtable.{Freshens, Adds}
use Rattle.table.specs.Growth.{Begun, Additions, none, more, Filled, Grows}

-- ---- one addition, none, and one after the other

-- an accepted addition keeps every node, and the table sound
pub add_keeps : (xs : List ℕ) → Sound xs → (e : Entry) (h i : ℕ) (ys : List ℕ) → Adds xs e h (Ok i) ys → Grows xs ys
add_keeps xs s e h i ys a = let (_, g) = add_added xs s e h (record { node = i; image = ys }) (sym a.exact) in record {
  sound = g.sound;
  node_kept = λ j n. record { some = n.some; most = omega (arith, g.one_more, n.most) };
  entry_kept = λ j n. g.entries_kept j n.some n.most;
}

-- the new node has the entry
pub add_node : (xs : List ℕ) → Sound xs → (e : Entry) (h i : ℕ) (ys : List ℕ) → Adds xs e h (Ok i) ys → IsNode ys i × (entry_of ys i ≡ e)
add_node xs s e h i ys a = let (n, g) = add_added xs s e h (record { node = i; image = ys }) (sym a.exact) in
    (record { some = omega (arith, n); most = omega (arith, n, g.one_more) }, ap (entry_of ys) n ∙ g.entry_new)

-- nodes are kept by no addition, and by one after the other
pub grows_not : (xs : List ℕ) → Sound xs → Grows xs xs
grows_not xs s = record { sound = s; node_kept = λ j n. n; entry_kept = λ j n. refl }

pub grows_on : (xs ys zs : List ℕ) → Grows xs ys → Grows ys zs → Grows xs zs
grows_on xs ys zs a b = record { sound = b.sound; node_kept = λ j n. b.node_kept j (a.node_kept j n); entry_kept = λ j n. b.entry_kept j (a.node_kept j n) ∙ a.entry_kept j n }

-- ---- from the beginning

-- a table that was begun had a legal length
begun_legal : (xs ys : List ℕ) → Freshens xs (Ok tt) ys → (header_size ≤ length xs) × (length xs ≤ max_image)
unfolding fresh
begun_legal xs ys f =
    let (t, _) = demand_given (both (leb header_size (length xs)) (leb (length xs) max_image)) bad_image (given (fresh_image xs)) ys (sym f.exact) in
    let (a, b) = both_true (leb header_size (length xs)) (leb (length xs) max_image) t in (leb-true header_size (length xs) a, leb-true (length xs) max_image b)

-- so it is sound and holds nothing
pub begun_sound : (xs : List ℕ) → Begun xs → Sound xs × (held xs ≡ [])
begun_sound xs b = let (l, m) = begun_legal b.lent xs b.made in b.made.rule l m

-- additions keep every node, and the table sound
pub additions_grow : {xs ys : List ℕ} {es : List Entry} → Sound xs → Additions xs es ys → Grows xs ys
additions_grow {xs} s none = grows_not xs s
additions_grow {xs} s (more {ys = ys} {zs = zs} e h i a b) = let g = add_keeps xs s e h i ys a in grows_on xs ys zs g (additions_grow g.sound b)

-- and what was held is followed by what was added
pub additions_held : {xs ys : List ℕ} {es : List Entry} → Sound xs → Additions xs es ys → held ys ≡ held xs ++ es
additions_held {xs} s none = sym (append-nil (held xs))
additions_held {xs} s (more {ys = ys} {zs = zs} {es = es} e h i a b) = let (g, _) = a.rule s in
    additions_held g.sound b ∙ ap (λ (fs : List Entry). fs ++ es) g.held_more ∙ append_assoc (held xs) (e ∷ []) es

-- a table holds what it was filled with, in order of arrival
pub filled_sound : (es : List Entry) (xs : List ℕ) → Filled es xs → Sound xs
filled_sound es xs f = let (s, _) = begun_sound f.start f.begun in (additions_grow s f.additions).sound

pub filled_held : (es : List Entry) (xs : List ℕ) → Filled es xs → held xs ≡ es
filled_held es xs f = let (s, h) = begun_sound f.start f.begun in additions_held s f.additions ∙ ap (λ (fs : List Entry). fs ++ es) h
