-- A case of demand 3, so that its theorem is not empty: a=x and b=y in tables of other lengths, made of other bytes, with other heights, order of arrival and
-- split; in the one pair a deletion of a, numbered above the snapshot, is accepted between two moves. Here alone definitions of bytes are opened, to compute.
use Prim.Native.Nat.{ℕ, ◌≤◌, ◌<◌}
use native.Mathlib.Omega.{arith}
use mathlib.Core.Path.{◌≡◌, refl, sym, ap, ◌∙◌}
use mathlib.Core.Logic.{inl}
use mathlib.Core.List.{List, [], ◌∷◌, ◌++◌, Memᴰ}
use mathlib.Core.Bool.{true, false≢true}
use lib.ListN.{length, replicate}
use Rattle.std.specs.Prelude.{Ok}
use Rattle.rule.specs.Lists.{Maybe, none, some, All}
use Rattle.rule.specs.Order.{compare_keys, compare_entries}
use Rattle.rule.specs.Entries.{Entry, Agree, Single, value_kind}
use Rattle.rule.specs.Rows.{fits, newest}
use Rattle.rule.specs.Moves.{Move, first, next, previous, target}
use Rattle.rule.proofs.Lists.{here, all_nil, all_cons}
use Rattle.rule.proofs.Rows.{pairwise_single}
use Rattle.image.specs.Words.{word, put_word, put_words}
use Rattle.image.specs.Entries.{encode, len_at, keyed_at, rest_at}
use Rattle.image.specs.Nodes.{lead_at, height_of, entry_of, link_of}
use Rattle.image.specs.Sound.{Sound, header_holds, held}
use Rattle.image.specs.Search.{find, look}
use Rattle.image.specs.Fresh.{fresh_image}
use Rattle.image.specs.Add.{node_written, written, add, afterwards}
use Rattle.image.specs.BootBench.{put, gone, a, b, x, y}
use Rattle.image.specs.Refusals.{given}
use Rattle.image.proofs.Refusals.{refused_given}
use Rattle.table.specs.Memtable.{Adds}
use Rattle.table.specs.Growth.{Begun, Additions}
use Rattle.table.specs.Growth as growth
use Rattle.table.proofs.MemtableLaws.{fresh_done, adds}
use Rattle.table.proofs.Growth.{add_keeps, add_node, begun_sound, additions_grow, additions_held, filled_held}
use Rattle.cursor.specs.Places.{image_of, place, entry_at, held_before, PlaceIn}
use Rattle.cursor.specs.Moves.{key_given, start_key, Ahead}
use Rattle.cursor.specs.Rows.{value_in}
use Rattle.cursor.specs.Runs.{Tables, entries_of, Moment, seen_in, Run, begun, moved, Alike, Lockstep}
use Rattle.cursor.specs.declared.places.Side.{Side}
use Rattle.cursor.specs.declared.places.Side.TheVariants.{First, Second}
use Rattle.cursor.specs.declared.places.Place.{Place}
use Rattle.cursor.specs.declared.places.Cursor.{Cursor}
use Rattle.cursor.specs.declared.places.Cursor.TheVariants.{Nowhere, On}
use Rattle.image.proofs.Views.{view_accepted}
use Rattle.cursor.proofs.Merging.{sound_of, known}
use Rattle.cursor.proofs.Rows.{key_rule, value_rule, shows_key, shows_value}
use Rattle.cursor.proofs.Lockstep.{Whole, asked_of, asked_whole, whole_grown, run_whole}
use Rattle.cursor.proofs.Demand3.{same_rows}

-- ---- the tables

abbrev after : List ℕ → Entry → ℕ → List ℕ
after xs e h = afterwards xs (add xs e h)

-- the one pair: a=x, then a@7-, in the first; b=y in the second
abbrev pub f0 : List ℕ
f0 = fresh_image (replicate 125 0xa5)

abbrev pub f1 : List ℕ
f1 = after f0 (put a 1 x) 1

abbrev f2 : List ℕ
f2 = after f1 (gone a 7) 2

abbrev pub g0 : List ℕ
g0 = fresh_image (replicate 100 0)

abbrev pub g1 : List ℕ
g1 = after g0 (put b 2 y) 2

-- the other: nothing in the first; b=y, then a=x, in the second
abbrev p0 : List ℕ
p0 = fresh_image (replicate 64 0xff)

abbrev q0 : List ℕ
q0 = fresh_image (replicate 130 0x11)

abbrev q1 : List ℕ
q1 = after q0 (put b 2 y) 1

abbrev q2 : List ℕ
q2 = after q1 (put a 1 x) 3

abbrev began_left : Tables
began_left = record { first = f0; second = g0 }

abbrev pub left : Tables
left = record { first = f1; second = g1 }

abbrev left_later : Tables
left_later = record { first = f2; second = g1 }

abbrev began_right : Tables
began_right = record { first = p0; second = q0 }

abbrev right : Tables
right = record { first = p0; second = q2 }

-- each is begun fresh
freshly : (xs : List ℕ) → 64 ≤ length xs → length xs ≤ 65536 → Begun (fresh_image xs)
freshly xs m n = record { lent = xs; made = fresh_done xs m n (fresh_image xs) refl }

-- and the additions are accepted: this alone is computed from the bytes
pub adding_a : Adds f0 (put a 1 x) 1 (Ok 1) f1
unfolding compare_keys compare_entries header_holds add find look word put_word put_words link_of height_of entry_of node_written written len_at keyed_at rest_at encode lead_at
adding_a = adds f0 (put a 1 x) 1 (Ok 1) f1 refl refl

adding_later : Adds f1 (gone a 7) 2 (Ok 2) f2
unfolding compare_keys compare_entries header_holds add find look word put_word put_words link_of height_of entry_of node_written written len_at keyed_at rest_at encode lead_at
adding_later = adds f1 (gone a 7) 2 (Ok 2) f2 refl refl

adding_b : Adds g0 (put b 2 y) 2 (Ok 1) g1
unfolding compare_keys compare_entries header_holds add find look word put_word put_words link_of height_of entry_of node_written written len_at keyed_at rest_at encode lead_at
adding_b = adds g0 (put b 2 y) 2 (Ok 1) g1 refl refl

adding_b' : Adds q0 (put b 2 y) 1 (Ok 1) q1
unfolding compare_keys compare_entries header_holds add find look word put_word put_words link_of height_of entry_of node_written written len_at keyed_at rest_at encode lead_at
adding_b' = adds q0 (put b 2 y) 1 (Ok 1) q1 refl refl

adding_a' : Adds q1 (put a 1 x) 3 (Ok 2) q2
unfolding compare_keys compare_entries header_holds add find look word put_word put_words link_of height_of entry_of node_written written len_at keyed_at rest_at encode lead_at
adding_a' = adds q1 (put a 1 x) 3 (Ok 2) q2 refl refl

pub add_a : Additions f0 (put a 1 x ∷ []) f1
add_a = growth.more (put a 1 x) 1 1 adding_a growth.none

add_later : Additions f1 (gone a 7 ∷ []) f2
add_later = growth.more (gone a 7) 2 2 adding_later growth.none

add_b : Additions g0 (put b 2 y ∷ []) g1
add_b = growth.more (put b 2 y) 2 1 adding_b growth.none

add_both : Additions q0 (put b 2 y ∷ put a 1 x ∷ []) q2
add_both = growth.more (put b 2 y) 1 1 adding_b' (growth.more (put a 1 x) 3 2 adding_a' growth.none)

-- so each is sound, and holds what was added
sound_f0 : Sound f0
sound_f0 = (begun_sound f0 (freshly (replicate 125 0xa5) (omega arith) (omega arith))).0

sound_f1 : Sound f1
sound_f1 = (additions_grow sound_f0 add_a).sound

sound_g0 : Sound g0
sound_g0 = (begun_sound g0 (freshly (replicate 100 0) (omega arith) (omega arith))).0

sound_q0 : Sound q0
sound_q0 = (begun_sound q0 (freshly (replicate 130 0x11) (omega arith) (omega arith))).0

sound_q1 : Sound q1
sound_q1 = (adding_b'.rule sound_q0).0.sound

held_f1 : held f1 ≡ put a 1 x ∷ []
held_f1 = filled_held (put a 1 x ∷ []) f1 (record { start = f0; begun = freshly (replicate 125 0xa5) (omega arith) (omega arith); additions = add_a })

held_f2 : held f2 ≡ put a 1 x ∷ gone a 7 ∷ []
held_f2 = additions_held sound_f1 add_later ∙ ap (λ (es : List Entry). es ++ (gone a 7 ∷ [])) held_f1

held_g1 : held g1 ≡ put b 2 y ∷ []
held_g1 = filled_held (put b 2 y ∷ []) g1 (record { start = g0; begun = freshly (replicate 100 0) (omega arith) (omega arith); additions = add_b })

held_q2 : held q2 ≡ put b 2 y ∷ put a 1 x ∷ []
held_q2 = filled_held (put b 2 y ∷ put a 1 x ∷ []) q2 (record { start = q0; begun = freshly (replicate 130 0x11) (omega arith) (omega arith); additions = add_both })

held_none : held p0 ≡ []
held_none = (begun_sound p0 (freshly (replicate 64 0xff) (omega arith) (omega arith))).1

-- ---- the entries up to 2 are the same in both pairs

pub held_left : entries_of left ≡ put a 1 x ∷ put b 2 y ∷ []
held_left = rw (held_f1, held_g1)

-- before b is added
pub held_early : entries_of (record { first = f1; second = g0 }) ≡ put a 1 x ∷ []
held_early = rw (held_f1, (begun_sound g0 (freshly (replicate 100 0) (omega arith) (omega arith))).1)

held_later : entries_of left_later ≡ put a 1 x ∷ gone a 7 ∷ put b 2 y ∷ []
held_later = rw (held_f2, held_g1)

held_right : entries_of right ≡ put b 2 y ∷ put a 1 x ∷ []
held_right = rw (held_none, held_q2)

agree_by : (s : ℕ) (es fs : List Entry) → All (λ e. e.number ≤ s → Memᴰ e fs) es → All (λ e. e.number ≤ s → Memᴰ e es) fs → Agree s es fs
agree_by s es fs i j e h = (λ m. i e m h, λ m. j e m h)

agree_first : Agree 2 (entries_of left) (entries_of right)
agree_first =
    rw (held_left, held_right) (agree_by 2 _ _ (all_cons (λ _. Memᴰ.tail here) (all_cons (λ _. here) (all_nil _))) (all_cons (λ _. Memᴰ.tail here) (all_cons (λ _. here) (all_nil _))))

agree_after : Agree 2 (entries_of left_later) (entries_of right)
agree_after = rw (held_later, held_right) (agree_by 2 _ _
    (all_cons (λ _. Memᴰ.tail here) (all_cons (λ h. absurd (omega arith)) (all_cons (λ _. here) (all_nil _))))
    (all_cons (λ _. Memᴰ.tail (Memᴰ.tail here)) (all_cons (λ _. here) (all_nil _))))

-- no number is there twice
abbrev Apart : Entry → Entry → Type 0
Apart d e = d.number ≡ e.number → ⊥

single_first : Single 2 (entries_of left)
single_first = rw held_left (pairwise_single Apart 2 (λ d e h p q r. r q) (put a 1 x ∷ put b 2 y ∷ []) (all_cons (λ e. omega arith) (all_nil _), (all_nil _, tt)))

single_after : Single 2 (entries_of left_later)
single_after = rw held_later (pairwise_single Apart 2 (λ d e h p q r. r q) (put a 1 x ∷ gone a 7 ∷ put b 2 y ∷ [])
    (all_cons (λ e. omega arith) (all_cons (λ e. omega arith) (all_nil _)), (all_cons (λ e. omega arith) (all_nil _), (all_nil _, tt))))

-- ---- the entries at the nodes

-- a place with its entry
pub record Stands (t : Tables) (p : Place) (e : Entry) : Type 0 where
  pub inside : PlaceIn t.first t.second p
  pub entry : entry_at t.first t.second p ≡ e

-- a node that was just added
stands : (t : Tables) (side : Side) (xs : List ℕ) → Sound xs → (e : Entry) (h i : ℕ) → Adds xs e h (Ok i) (image_of side t.first t.second) → Stands t (place side i) e
stands t side xs s e h i d = let (n, q) = add_node xs s e h i (image_of side t.first t.second) d in record { inside = n; entry = q }

pub left_a : Stands left (place First 1) (put a 1 x)
left_a = stands left First f0 sound_f0 (put a 1 x) 1 1 adding_a

later_a : Stands left_later (place First 1) (put a 1 x)
later_a = let g = add_keeps f1 sound_f1 (gone a 7) 2 2 f2 adding_later in record { inside = g.node_kept 1 left_a.inside; entry = g.entry_kept 1 left_a.inside ∙ left_a.entry }

later_b : Stands left_later (place Second 1) (put b 2 y)
later_b = stands left_later Second g0 sound_g0 (put b 2 y) 2 1 adding_b

right_a : Stands right (place Second 2) (put a 1 x)
right_a = stands right Second q1 sound_q1 (put a 1 x) 3 2 adding_a'

right_b : Stands right (place Second 1) (put b 2 y)
right_b =
    let g = add_keeps q1 sound_q1 (put a 1 x) 3 2 q2 adding_a' in
    let (n, q) = add_node q0 sound_q0 (put b 2 y) 1 1 q1 adding_b' in
    record { inside = g.node_kept 1 n; entry = g.entry_kept 1 n ∙ q }

-- ---- the moves: first, next, previous

-- a move over these tables, and the row that is shown after it
abbrev pub moment : Tables → Move → List ℕ → List ℕ → Moment
moment t v k w = record { tables = t; move = v; seen = record { refusal = 0; row = some (record { key = k; value = w }) } }

-- after additions a move that ends on the place of a value
module _ {t : Tables} {c : Cursor} {ms : List Moment} (m : Run 2 t c ms) {u : Tables} {es fs : List Entry} (i : Additions t.first es u.first) (j : Additions t.second fs u.second) where
  whole : Whole u c
  whole = whole_grown t u c (run_whole m) i j

  pub goes : (v : Move) → asked_of 2 (key_given v) ≡ given tt → (ds : List Entry) → entries_of u ≡ ds → (k : Maybe (List ℕ)) → start_key u.first u.second c ≡ k
      → (p : Place) (e : Entry) → Stands u p e → target v 2 k ds ≡ some e.key → newest e.key 2 ds ≡ some e → e.kind ≡ value_kind → Ahead v k e.key
      → All (λ d. fits e.key 2 d ≡ true → d.number < e.number) (held_before p.table u.first)
      → Run 2 u (On p) (moment u v e.key e.value ∷ ms)
  goes v o ds d k q p e s z n w x l = moved u v (Ok (On p)) (some (record { key = e.key; value = e.value })) m i j (record {
    refused = λ r f. absurd (refused_given (sym f ∙ asked_whole u c whole 2 (key_given v) ∙ o));
    rule = λ _ _ _. rw (d, q, z) (p, refl, record { inside = s.inside; newest_is = rw (d, s.entry) n; value_is = rw s.entry w; first = rw s.entry l });
    lands = λ _. inl (
      refl,
      record {
        inside = s.inside;
        readable = view_accepted (image_of p.table u.first u.second) (sound_of u.first u.second whole.first whole.second p.table) p.node s.inside;
        value_is = rw s.entry w;
        number_most = rw s.entry (known e.key 2 ds (some e) n).1.number;
        ahead = rw (q, s.entry) x;
      },
    );
  }) (
    shows_key u.first u.second (On p) e.key (sym (key_rule u.first u.second whole.first whole.second (On p) s.inside ∙ ap (λ (d : Entry). d.key) s.entry)),
    shows_value u.first u.second (On p) e.value (sym (value_rule u.first u.second whole.first whole.second (On p) s.inside ∙ ap value_in s.entry ∙ rw w)),
  )

pub left_begun : Run 2 began_left Nowhere []
left_begun = begun (freshly (replicate 125 0xa5) (omega arith) (omega arith)) (freshly (replicate 100 0) (omega arith) (omega arith))

right_begun : Run 2 began_right Nowhere []
right_begun = begun (freshly (replicate 64 0xff) (omega arith) (omega arith)) (freshly (replicate 130 0x11) (omega arith) (omega arith))

-- the tables of the first move are undamaged, and its cursor is in them
pub whole_begun : Whole left Nowhere
whole_begun = whole_grown began_left left Nowhere (run_whole left_begun) add_a add_b

left_run : Run 2 left_later (On (place First 1)) (moment left_later previous a x ∷ moment left_later next b y ∷ moment left first a x ∷ [])
unfolding compare_keys
left_run =
    let m = goes left_begun add_a add_b first refl (put a 1 x ∷ put b 2 y ∷ []) held_left none refl (place First 1) (put a 1 x) left_a refl refl refl tt (all_nil _) in
    let n = goes m add_later growth.none next refl (put a 1 x ∷ gone a 7 ∷ put b 2 y ∷ []) held_later (some a) (ap (λ (e : Entry). some e.key) later_a.entry)
    (place Second 1) (put b 2 y) later_b refl refl refl refl
    (rw held_f2 (all_cons (λ h. absurd (false≢true h)) (all_cons (λ h. absurd (false≢true h)) (all_nil _)))) in
    goes n growth.none growth.none previous refl (put a 1 x ∷ gone a 7 ∷ put b 2 y ∷ []) held_later (some b) (ap (λ (e : Entry). some e.key) later_b.entry)
    (place First 1) (put a 1 x) later_a refl refl refl refl (all_nil _)

right_run : Run 2 right (On (place Second 2)) (moment right previous a x ∷ moment right next b y ∷ moment right first a x ∷ [])
unfolding compare_keys
right_run =
    let m = goes right_begun growth.none add_both first refl (put b 2 y ∷ put a 1 x ∷ []) held_right none refl (place Second 2) (put a 1 x) right_a refl refl refl tt (nothing_first _) in
    let n = goes m growth.none growth.none next refl (put b 2 y ∷ put a 1 x ∷ []) held_right (some a) (ap (λ (e : Entry). some e.key) right_a.entry)
    (place Second 1) (put b 2 y) right_b refl refl refl refl (nothing_first _) in
    goes n growth.none growth.none previous refl (put b 2 y ∷ put a 1 x ∷ []) held_right (some b) (ap (λ (e : Entry). some e.key) right_b.entry)
    (place Second 2) (put a 1 x) right_a refl refl refl refl (nothing_first _)
  where
    nothing_first : (P : Entry → Type 0) → All P (held p0)
    nothing_first P = rw held_none (all_nil P)

-- they are in lockstep, and the theorem says of them: first a=x, next b=y, previous a=x, the deleted a among them
pub case_lockstep : Lockstep 2 (moment left_later previous a x ∷ moment left_later next b y ∷ moment left first a x ∷ [])
    (moment right previous a x ∷ moment right next b y ∷ moment right first a x ∷ [])
case_lockstep = (refl, alike_after, (refl, alike_after, (refl, record { agree = agree_first; single = single_first }, tt)))
  where
    alike_after : Alike 2 (entries_of left_later) (entries_of right)
    alike_after = record { agree = agree_after; single = single_after }

pub case_rows : seen_in (moment left_later previous a x ∷ moment left_later next b y ∷ moment left first a x ∷ []) ≡ seen_in
    (moment right previous a x ∷ moment right next b y ∷ moment right first a x ∷ [])
case_rows = same_rows 2 left_run right_run case_lockstep
