-- The bytes that an addition writes: what stands there afterwards, and what is kept.
use Prim.Native.Nat.{ℕ, suc, ◌+◌, ◌-◌, ◌*◌, ◌^◌, ◌<◌, ◌≤◌}
use native.Mathlib.Omega.{arith}
use native.Mathlib.Nat.{add-zero}
use mathlib.Core.Path.{◌≡◌, refl, sym, ap, ◌∙◌}
use mathlib.Core.Logic.{◌≢◌}
use mathlib.Core.List.{List, ◌++◌}
use lib.ListN.{length, get_or}
use lib.Seq.{sets, length-sets}
use Rattle.rule.specs.Entries.{Entry}
use Rattle.image.specs.Limits.{header_size}
use Rattle.image.specs.Words.{Bytes, Same, Holds, Apart, word, put_word, put_words}
use Rattle.image.specs.Entries.{encode}
use Rattle.image.specs.Nodes.{entry_place, size_of}
use Rattle.image.specs.Add.{node_written, written}
use Rattle.image.proofs.Words.{holds_same, sets_out, sets_holds, sets_bytes, word_written, word_kept, length_put_word, put_word_out, put_word_bytes}
use Rattle.image.proofs.Words.{length_put_words, put_words_out, put_words_bytes, put_words_written, put_words_kept, word_beside, word_same, put_word_behind}
use Rattle.image.proofs.Words.{put_words_behind, put_words_ext, sets_behind}

module _ (xs : List ℕ) (o h : ℕ) (e : Entry) (link : ℕ → ℕ) where
  pub length_node : length (node_written xs o h e link) ≡ length xs
  unfolding node_written
  length_node = length-sets (put_words (put_word (put_word xs o h) (o + 4) (length (encode e))) (λ l. o + 8 + 4 * l) link h) (entry_place o h) (encode e)
      ∙ length_put_words (put_word (put_word xs o h) (o + 4) (length (encode e))) (λ l. o + 8 + 4 * l) link h ∙ length_put_word (put_word xs o h) (o + 4) (length (encode e)) ∙ length_put_word xs o h

  pub node_out : (i : ℕ) → (o ≤ i → i < o + size_of h e → ⊥) → get_or (node_written xs o h e link) i 0 ≡ get_or xs i 0
  unfolding node_written
  node_out i n = sets_out (put_words (put_word (put_word xs o h) (o + 4) (length (encode e))) (λ l. o + 8 + 4 * l) link h) (entry_place o h) (encode e) i (λ p q. n (omega arith) (omega arith))
      ∙ put_words_out (put_word (put_word xs o h) (o + 4) (length (encode e))) (λ l. o + 8 + 4 * l) link h i (λ l k p q. n (omega arith) (omega arith))
      ∙ put_word_out (put_word xs o h) (o + 4) (length (encode e)) i (λ p q. n (omega arith) (omega arith))
      ∙ put_word_out xs o h i (λ p q. n (omega arith) (omega arith))

  pub node_bytes : Bytes (encode e) → Bytes xs → Bytes (node_written xs o h e link)
  unfolding node_written
  node_bytes c b = sets_bytes (put_words (put_word (put_word xs o h) (o + 4) (length (encode e))) (λ l. o + 8 + 4 * l) link h) (entry_place o h) (encode e) c
      (put_words_bytes (put_word (put_word xs o h) (o + 4) (length (encode e))) (λ l. o + 8 + 4 * l) link h (put_word_bytes (put_word xs o h) (o + 4) (length (encode e)) (put_word_bytes xs o h b)))

  pub record NodeWritten (ys : List ℕ) : Type 0 where
    pub height_written : word ys o ≡ h
    pub length_written : word ys (o + 4) ≡ length (encode e)
    pub links_written : (l : ℕ) → l < h → word ys (o + 8 + 4 * l) ≡ link l
    pub entry_written : Holds ys (entry_place o h) (encode e)

  pub node_is_written : o + size_of h e ≤ length xs → h < 256 ^ 4 → length (encode e) < 256 ^ 4 → ((l : ℕ) → l < h → link l < 256 ^ 4) → NodeWritten (node_written xs o h e link)
  unfolding node_written
  node_is_written b hl el ll = record {
    height_written = word_beside w3 (entry_place o h) (encode e) o (λ p q. omega arith) ∙ put_words_kept w2 (λ l. o + 8 + 4 * l) link h o (λ l k p q. omega arith)
        ∙ word_kept w1 (o + 4) (length (encode e)) o (λ p q. omega arith) ∙ word_written xs o h hl (omega arith);
    length_written = word_beside w3 (entry_place o h) (encode e) (o + 4) (λ p q. omega arith) ∙ put_words_kept w2 (λ l. o + 8 + 4 * l) link h (o + 4) (λ l k p q. omega arith)
        ∙ word_written w1 (o + 4) (length (encode e)) el (omega (arith, length_put_word xs o h));
    links_written = λ l k. word_beside w3 (entry_place o h) (encode e) (o + 8 + 4 * l) (λ p q. omega arith)
        ∙ put_words_written w2 (λ l. o + 8 + 4 * l) link h (λ x y p q n a c. omega arith) (λ x p. omega (arith, length_w2)) ll l k;
    entry_written = sets_holds w3 (entry_place o h) (encode e) (omega (arith, length_w2, length_put_words w2 (λ l. o + 8 + 4 * l) link h));
  }
    where
      w1 : List ℕ
      w1 = put_word xs o h

      w2 : List ℕ
      w2 = put_word w1 (o + 4) (length (encode e))

      w3 : List ℕ
      w3 = put_words w2 (λ l. o + 8 + 4 * l) link h

      length_w2 : length w2 ≡ length xs
      length_w2 = length_put_word w1 (o + 4) (length (encode e)) ∙ length_put_word xs o h

-- what the writes ask for
pub record Fits (xs : List ℕ) (n o h : ℕ) (e : Entry) (link place : ℕ → ℕ) : Type 0 where
  pub image_small : length xs < 256 ^ 4
  pub behind : header_size ≤ o
  pub number_small : suc n < 256 ^ 4
  pub space : o + size_of h e + 4 ≤ length xs - 4 * n
  pub links_small : (l : ℕ) → l < h → link l < 256 ^ 4
  pub places_low : (l : ℕ) → l < h → 16 ≤ place l
  pub places_high : (l : ℕ) → l < h → place l + 4 ≤ o
  pub places_apart : (l m : ℕ) → l < h → m < h → l ≢ m → Apart (place l) (place m)

-- what they come to
pub record Written (xs : List ℕ) (n o h : ℕ) (e : Entry) (link place : ℕ → ℕ) (ys : List ℕ) : Type 0 where
  pub length_kept : length ys ≡ length xs
  pub count_is : word ys 4 ≡ suc n
  pub free_is : word ys 8 ≡ o + size_of h e
  pub slot_is : word ys (length xs - 4 * suc n) ≡ o
  pub node_is : NodeWritten xs o h e link ys
  pub joined : (l : ℕ) → l < h → word ys (place l) ≡ suc n
  pub kept : (i : ℕ) → (4 ≤ i → i < 12 → ⊥) → (o ≤ i → i < o + size_of h e → ⊥) → (length xs - 4 * suc n ≤ i → i < length xs - 4 * n → ⊥)
      → ((l : ℕ) → l < h → place l ≤ i → i < place l + 4 → ⊥) → get_or ys i 0 ≡ get_or xs i 0

module _ (xs : List ℕ) (n o h : ℕ) (e : Entry) (link place : ℕ → ℕ) (f : Fits xs n o h e link place) where
  w3 : List ℕ
  w3 = put_word xs 8 (o + size_of h e)

  w4 : List ℕ
  w4 = node_written w3 o h e link

  w5 : List ℕ
  w5 = put_word w4 (length xs - 4 * suc n) o

  w6 : List ℕ
  w6 = put_words w5 place (λ l. suc n) h

  length_w3 : length w3 ≡ length xs
  unfolding w3
  length_w3 = length_put_word xs 8 (o + size_of h e)

  length_w4 : length w4 ≡ length xs
  unfolding w4
  length_w4 = length_node w3 o h e link ∙ length_w3

  length_w5 : length w5 ≡ length xs
  unfolding w5
  length_w5 = length_put_word w4 (length xs - 4 * suc n) o ∙ length_w4

  length_w6 : length w6 ≡ length xs
  unfolding w6
  length_w6 = length_put_words w5 place (λ l. suc n) h ∙ length_w5

  -- the later writes leave the node alone
  later : Same (put_word w6 4 (suc n)) w4 o (o + size_of h e)
  unfolding w6 w5
  later i p q = put_word_out w6 4 (suc n) i (λ a b. omega (arith, f.behind))
      ∙ put_words_out w5 place (λ l. suc n) h i (λ l k a b. omega (arith, f.places_high l k)) ∙ put_word_out w4 (length xs - 4 * suc n) o i (λ a b. omega (arith, f.space))

  node_stays : NodeWritten w3 o h e link w4 → NodeWritten xs o h e link (put_word w6 4 (suc n))
  node_stays w = record {
    height_written = word_same (put_word w6 4 (suc n)) w4 o (λ i p q. later i p (omega arith)) ∙ w.height_written;
    length_written = word_same (put_word w6 4 (suc n)) w4 (o + 4) (λ i p q. later i (omega arith) (omega arith)) ∙ w.length_written;
    links_written = λ l k. word_same (put_word w6 4 (suc n)) w4 (o + 8 + 4 * l) (λ i p q. later i (omega arith) (omega arith)) ∙ w.links_written l k;
    entry_written = holds_same w4 (put_word w6 4 (suc n)) (entry_place o h) (encode e) (λ i p q. sym (later i (omega arith) (omega arith))) w.entry_written;
  }

  -- the first free byte stays through what is written after it
  free_stays : word (put_word w6 4 (suc n)) 8 ≡ word w3 8
  unfolding w6 w5 w4
  free_stays = word_kept w6 4 (suc n) 8 (λ p q. omega arith) ∙ put_words_kept w5 place (λ l. suc n) h 8 (λ l k p q. omega (arith, f.places_low l k))
      ∙ word_kept w4 (length xs - 4 * suc n) o 8 (λ p q. omega (arith, f.space, f.behind)) ∙ word_same w4 w3 8 (λ i p q. node_out w3 o h e link i (λ a b. omega (arith, f.behind)))

  pub is_written : Written xs n o h e link place (written xs n o h e link place)
  unfolding written w6 w5 w4 w3
  is_written = record {
    length_kept = length_put_word w6 4 (suc n) ∙ length_w6;
    count_is = word_written w6 4 (suc n) f.number_small (omega (arith, f.space, f.behind, length_w6));
    free_is = free_stays ∙ word_written xs 8 (o + size_of h e) (omega (arith, f.space, f.image_small)) (omega (arith, f.space, f.behind));
    slot_is = word_kept w6 4 (suc n) (length xs - 4 * suc n) (λ p q. omega (arith, f.space, f.behind))
        ∙ put_words_kept w5 place (λ l. suc n) h (length xs - 4 * suc n) (λ l k p q. omega (arith, f.space, f.places_high l k))
        ∙ word_written w4 (length xs - 4 * suc n) o (omega (arith, f.space, f.image_small)) (omega (arith, f.space, length_w4));
    node_is = node_stays (node_is_written w3 o h e link (omega (arith, f.space, length_w3)) (omega (arith, f.space, f.image_small)) (omega (arith, f.space, f.image_small)) f.links_small);
    joined = λ l k. word_kept w6 4 (suc n) (place l) (λ p q. omega (arith, f.places_low l k))
        ∙ put_words_written w5 place (λ l. suc n) h f.places_apart (λ x p. omega (arith, f.places_high x p, f.space, length_w5)) (λ x p. f.number_small) l k;
    kept = λ i a b c d. put_word_out w6 4 (suc n) i (λ p q. a (omega arith) (omega arith))
        ∙ put_words_out w5 place (λ l. suc n) h i d ∙ put_word_out w4 (length xs - 4 * suc n) o i (λ p q. c p (omega (arith, f.space))) ∙ node_out w3 o h e link i b
        ∙ put_word_out xs 8 (o + size_of h e) i (λ p q. a (omega arith) (omega arith));
  }

pub written_bytes : (xs : List ℕ) (n o h : ℕ) (e : Entry) (link place : ℕ → ℕ) → Bytes (encode e) → Bytes xs → Bytes (written xs n o h e link place)
unfolding written
written_bytes xs n o h e link place c b =
    put_word_bytes _ 4 (suc n) (put_words_bytes _ place (λ l. suc n) h (put_word_bytes _ (length xs - 4 * suc n) o (node_bytes _ o h e link c (put_word_bytes xs 8 (o + size_of h e) b))))

-- on any list: the length is kept, and every byte outside the places of the writes
pub written_length : (xs : List ℕ) (n o h : ℕ) (e : Entry) (link place : ℕ → ℕ) → length (written xs n o h e link place) ≡ length xs
unfolding written
written_length xs n o h e link place =
    length_put_word _ 4 (suc n) ∙ length_put_words _ place (λ l. suc n) h ∙ length_put_word _ (length xs - 4 * suc n) o ∙ length_node _ o h e link ∙ length_put_word xs 8 (o + size_of h e)

pub written_kept : (xs : List ℕ) (n o h : ℕ) (e : Entry) (link place : ℕ → ℕ) (i : ℕ) → o + size_of h e + 4 ≤ length xs - 4 * n → (4 ≤ i → i < 12 → ⊥) → (o ≤ i → i < o + size_of h e → ⊥)
    → (length xs - 4 * suc n ≤ i → i < length xs - 4 * n → ⊥) → ((l : ℕ) → l < h → place l ≤ i → i < place l + 4 → ⊥) → get_or (written xs n o h e link place) i 0 ≡ get_or xs i 0
unfolding written
written_kept xs n o h e link place i space a b c d = put_word_out _ 4 (suc n) i (λ p q. a (omega arith) (omega arith))
    ∙ put_words_out _ place (λ l. suc n) h i d ∙ put_word_out _ (length xs - 4 * suc n) o i (λ p q. c p (omega arith)) ∙ node_out _ o h e link i b
    ∙ put_word_out xs 8 (o + size_of h e) i (λ p q. a (omega arith) (omega arith))

-- a node written to the part that starts at its place is the node written to the whole
pub node_behind : (ps ys : List ℕ) (h : ℕ) (e : Entry) (link : ℕ → ℕ) → node_written (ps ++ ys) (length ps) h e link ≡ ps ++ node_written ys 0 h e link
unfolding node_written
node_behind ps ys h e link =
    ap (λ (r : List ℕ). sets (put_words (put_word r (length ps + 4) (length (encode e))) (λ l. length ps + 8 + 4 * l) link h) (entry_place (length ps) h) (encode e)) first
    ∙ ap (λ (r : List ℕ). sets (put_words r (λ l. length ps + 8 + 4 * l) link h) (entry_place (length ps) h) (encode e)) (put_word_behind ps (put_word ys 0 h) 4 (length (encode e)))
    ∙ ap (λ (r : List ℕ). sets r (entry_place (length ps) h) (encode e))
    (put_words_ext (ps ++ w2) (λ l. length ps + 8 + 4 * l) (λ l. length ps + (8 + 4 * l)) link link h (λ l k. omega arith) (λ l k. refl) ∙ put_words_behind ps w2
    (λ l. 8 + 4 * l) link h)
    ∙ ap (λ (o : ℕ). sets (ps ++ put_words w2 (λ l. 8 + 4 * l) link h) o (encode e)) place
    ∙ sets_behind ps (put_words w2 (λ l. 8 + 4 * l) link h) (entry_place 0 h) (encode e)
  where
    w2 : List ℕ
    w2 = put_word (put_word ys 0 h) 4 (length (encode e))

    first : put_word (ps ++ ys) (length ps) h ≡ ps ++ put_word ys 0 h
    first = ap (λ (o : ℕ). put_word (ps ++ ys) o h) (sym (add-zero (length ps))) ∙ put_word_behind ps ys 0 h

    place : entry_place (length ps) h ≡ length ps + entry_place 0 h
    place = omega arith
