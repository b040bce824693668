-- Document 01's cases hold of the definitions, by computation; and table T as an image.
use Prim.Native.Nat.{ℕ, zero, suc}
use native.Mathlib.Omega.{arith}
use mathlib.Core.Path.{◌≡◌, refl}
use mathlib.Core.List.{List, [], ◌∷◌}
use mathlib.Core.Bool.{Bool, true, false}
use lib.ListN.{length, set, replicate}
use lib.Dec.{ltb}
use borrow.Author.Tests.{ltb-true}
use Rattle.rule.specs.Lists.{both, All}
use Rattle.rule.specs.Order.{compare_keys, compare_entries}
use Rattle.rule.specs.Entries.{Entry}
use Rattle.rule.proofs.Lists.{both_true, all_nil, all_cons}
use Rattle.image.specs.Words.{Bytes, word, put_word, put_words}
use Rattle.image.specs.Entries.{encode, len_at, keyed_at, rest_at}
use Rattle.image.specs.Nodes.{lead_at, height_of, entry_of, link_of}
use Rattle.image.specs.Sound.{header_holds, lowest, Sound, held}
use Rattle.image.specs.Search.{find, look}
use Rattle.image.specs.Refusals.{no_room, duplicate, damaged, no_node, refused, given}
use Rattle.image.specs.Fresh.{fresh_image}
use Rattle.image.specs.Add.{node_written, written, add, afterwards}
use Rattle.image.specs.Lookup.{found, deleted, absent, get, presence}
use Rattle.image.specs.EntryMoves.{nowhere, on, first, seek, next, previous, entry_move, parts_on, viewed, key_view, value_view}
use Rattle.image.specs.Check.{is_sound}
use Rattle.image.specs.BootBench.{put, gone, a, b, c, w, x, y, v, p11, Right, cases}
use Rattle.image.proofs.Check.{check_sound}

-- ---- what holds of every list of a length holds of the list of as many variables

abbrev Every : ℕ → (List ℕ → Type 0) → Type 0
Every zero P = P []
Every (suc n) P = (z : ℕ) → Every n (λ zs. P (z ∷ zs))

every_list : (n : ℕ) (P : List ℕ → Type 0) → Every n P → (xs : List ℕ) → length xs ≡ n → P xs
every_list zero P p [] e = p
every_list zero P p (z ∷ zs) e = absurd (omega arith)
every_list (suc n) P p [] e = absurd (omega arith)
every_list (suc n) P p (z ∷ zs) e = every_list n (λ ys. P (z ∷ ys)) (p z) zs (omega arith)

-- P1 to P12
pub boot_bench : All Right cases
unfolding compare_keys compare_entries header_holds add get presence entry_move parts_on find look word put_word put_words link_of node_written written len_at keyed_at rest_at encode lead_at
boot_bench =
    all_cons refl (all_cons refl (all_cons refl (all_cons refl (all_cons refl
    (all_cons refl (all_cons refl (all_cons refl
    (all_cons (refl, (refl, (refl, tt))) (all_cons (refl, tt)
    (all_cons refl (all_cons refl
    (all_cons
    (every_list 92 (λ xs. add (fresh_image xs) (put a 1 x) 1 ≡ given (record { node = 1; image = p11 }))
    (λ _ _ _ _ _ _ _ _ _ _ _ _ _ _ _ _ _ _ _ _ _ _ _ _ _ _ _ _ _ _ _ _ _ _ _ _ _ _ _ _ _ _ _ _ _ _ _ _ _ _ _ _ _ _ _ _ _ _ _ _ _ _ _ _ _ _ _ _ _ _ _ _ _ _ _ _ _ _ _ _ _ _ _ _ _ _ _ _ _ _ _ _. refl))
    (all_cons
    (every_list 91 (λ xs. add (fresh_image xs) (put a 1 x) 1 ≡ refused no_room)
    (λ _ _ _ _ _ _ _ _ _ _ _ _ _ _ _ _ _ _ _ _ _ _ _ _ _ _ _ _ _ _ _ _ _ _ _ _ _ _ _ _ _ _ _ _ _ _ _ _ _ _ _ _ _ _ _ _ _ _ _ _ _ _ _ _ _ _ _ _ _ _ _ _ _ _ _ _ _ _ _ _ _ _ _ _ _ _ _ _ _ _ _. refl))
    (all_nil Right))))))))))))))

-- ---- table T, added in another order and with mixed heights

abbrev added : List ℕ → Entry → ℕ → List ℕ
added xs entry h = afterwards xs (add xs entry h)

abbrev image_t : List ℕ
image_t = added (added (added (added (added (fresh_image (replicate 300 0)) (put c 4 v) 1) (put a 1 x) 3) (put b 2 y) 12) (gone a 3) 1) (put c 0 w) 2

-- it is sound
all_bytes : List ℕ → Bool
all_bytes [] = true
all_bytes (z ∷ zs) = both (ltb z 256) (all_bytes zs)

bytes_by_test : (zs : List ℕ) → all_bytes zs ≡ true → Bytes zs
unfolding all_bytes
bytes_by_test [] t i = omega arith
bytes_by_test (z ∷ zs) t zero = ltb-true z 256 (both_true (ltb z 256) (all_bytes zs) t).0
bytes_by_test (z ∷ zs) t (suc i) = bytes_by_test zs (both_true (ltb z 256) (all_bytes zs) t).1 i

pub table_sound : Sound image_t
unfolding compare_keys compare_entries header_holds add get presence entry_move parts_on find look word put_word put_words link_of height_of entry_of node_written written
    len_at keyed_at rest_at encode lead_at all_bytes
table_sound = check_sound image_t (bytes_by_test image_t refl) refl

-- with node 1 linked to itself at level 0 it is not: node 1 starts behind the header, and its links 8 bytes further
pub self_link : is_sound (put_word image_t 72 1) ≡ false
unfolding compare_keys compare_entries header_holds add get presence entry_move parts_on find look word put_word put_words link_of height_of entry_of node_written written len_at keyed_at rest_at encode lead_at
self_link = refl

-- it holds T's entries in order of arrival
pub table_held : held image_t ≡ put c 4 v ∷ put a 1 x ∷ put b 2 y ∷ gone a 3 ∷ put c 0 w ∷ []
unfolding compare_keys compare_entries header_holds add get presence entry_move parts_on find look word put_word put_words link_of height_of entry_of node_written written len_at keyed_at rest_at encode lead_at
table_held = refl

-- and its lowest chain meets them in order: a@3-, a@1=x, b@2=y, c@4=v, c@0=w
pub table_lowest : lowest image_t ≡ 4 ∷ 2 ∷ 3 ∷ 1 ∷ 5 ∷ []
unfolding compare_keys compare_entries header_holds add lowest find look word put_word put_words link_of node_written written len_at keyed_at rest_at encode lead_at
table_lowest = refl

-- lookups of a at 2, at 3 and at 0; of an entry that is held; a duplicate whatever its type
pub table_lookups : (get image_t a 2 ≡ given (record { says = found 2; looks = 13 })) × (get image_t a 3 ≡ given (record { says = deleted; looks = 12 })) ×
    (get image_t a 0 ≡ given (record { says = absent; looks = 13 }))
    × (presence image_t a 3 0 ≡ given (record { held = true; looks = 12 })) × (presence image_t a 3 1 ≡ given (record { held = false; looks = 12 })) × (add image_t (put a 3 x) 1 ≡ refused duplicate)
unfolding compare_keys compare_entries header_holds add get presence entry_move parts_on find look word put_word put_words link_of height_of entry_of node_written written len_at keyed_at rest_at encode lead_at
table_lookups = (refl, refl, refl, refl, refl, refl)

-- the entry cursor: a@3-, a@1=x, b@2=y, c@4=v, c@0=w, and back
pub table_moves : (entry_move image_t first nowhere ≡ given (on 4)) × (entry_move image_t next (on 4) ≡ given (on 2)) ×
    (entry_move image_t next (on 2) ≡ given (on 3)) × (entry_move image_t next (on 3) ≡ given (on 1)) × (entry_move image_t next (on 1) ≡ given (on 5))
    × (entry_move image_t next (on 5) ≡ given nowhere) × (entry_move image_t previous (on 1) ≡ given (on 3)) × (entry_move image_t previous (on 4) ≡ given nowhere) ×
    (entry_move image_t (seek b 9) nowhere ≡ given (on 3)) × (entry_move image_t next (on 6) ≡ refused no_node)
unfolding compare_keys compare_entries header_holds add get presence entry_move parts_on find look word put_word put_words link_of height_of entry_of node_written written len_at keyed_at rest_at encode lead_at
table_moves = (refl, refl, refl, refl, refl, refl, refl, refl, refl, refl)

pub table_views : (viewed image_t (key_view image_t (on 3)) ≡ b) × (viewed image_t (value_view image_t (on 3)) ≡ y) × (viewed image_t (value_view image_t (on 4)) ≡ []) ×
    (viewed image_t (key_view image_t (on 0)) ≡ [])
unfolding compare_keys compare_entries header_holds add get presence entry_move parts_on find look word put_word put_words link_of height_of entry_of node_written written len_at keyed_at rest_at encode lead_at
table_views = (refl, refl, refl, refl)

-- ---- damage that a scan would go round on: a, b and c at number 1, each in a node of height 1, in an image of 200 bytes

abbrev abc : List ℕ
abc = added (added (added (fresh_image (replicate 200 0)) (put a 1 x) 1) (put b 1 x) 1) (put c 1 x) 1

-- whole, the entry cursor goes through; with c's type 2, or the length of its value 2, it is refused before c, by next and by seek; with the link of node 1 to
-- itself, or that of node 2 back to node 1, next is refused; and so is previous, back onto a type of 2
pub no_round : (entry_move abc next (on 2) ≡ given (on 3)) × (entry_move (set abc 126 2) next (on 2) ≡ refused damaged) ×
    (entry_move (set abc 134 2) next (on 2) ≡ refused damaged) × (entry_move (set abc 126 2) (seek c 9) nowhere ≡ refused damaged)
    × (entry_move (put_word abc 72 1) next (on 1) ≡ refused damaged) × (entry_move (put_word abc 96 1) next (on 2) ≡ refused damaged) × (entry_move (set abc 102 2) previous (on 3) ≡ refused damaged)
unfolding compare_keys compare_entries header_holds add get presence entry_move parts_on find look word put_word put_words link_of height_of entry_of node_written written len_at keyed_at rest_at encode lead_at
no_round = (refl, refl, refl, refl, refl, refl, refl)
