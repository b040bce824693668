-- Writing to an image: what the writes of a fresh header and of a node come to, and the ways out of an insertion.
use Prim.Native.Nat.{ℕ, ◌-◌, suc, ◌+◌, ◌*◌, ◌/◌, ◌%◌, ◌<◌, ◌≤◌}
use mathlib.Core.Path.{◌≡◌, refl, sym, ap, ◌∙◌}
use mathlib.Core.List.{List, [], ◌∷◌, ◌++◌, append-nil}
use native.Mathlib.Omega.{arith}
use lib.ListN.{length, take, drop, length-drop, drop_of_length-le, get_or, replicate, take-append-drop}
use Rattle.std.proofs.lemmas.List.{get_or-take}
use lib.Seq.{take_all, sets, length-take-le}
use native.Mathlib.Numerals.{add-one}
use Rattle.rule.specs.Entries.{Entry}
use Rattle.image.specs.Words.{bytes, word, put_word, put_words}
use Rattle.image.specs.Limits.{header_size, levels}
use Rattle.image.specs.Entries.{Legal, varint, encode}
use Rattle.image.specs.Nodes.{entry_place, size_of, count, free, link_place, link_of}
use Rattle.image.specs.Fresh.{fresh_image}
use Rattle.image.specs.Add.{node_written, written, with_entry, has_room}
use Rattle.image.proofs.Words.{sets_append, length_put_word, put_words_ext}
use Rattle.image.proofs.Write.{node_behind}
use Rattle.table.specs.Insert.{LinksRead, EntryFits, room_is, Insertable, Inserts}
use mathlib.Core.Bool.{Bool, true, false}
use lib.Dec.{ltb}
use Rattle.rule.specs.Lists.{cond}
use Rattle.image.proofs.Entries.{length_encode}
use Rattle.std.specs.Prelude.{Ok}
use Rattle.image.specs.Readers.{got}
use Rattle.image.specs.Search.{to_stop, ends, searched}
use Rattle.image.proofs.Spots.{search_ended}
use Rattle.image.proofs.Add.{good_place, room_for}
use Rattle.table.specs.Skipmap.{Searches}
use Rattle.table.specs.declared.tested.Frame.{Frame}
use Rattle.table.specs.declared.skipmap.Searched.{Searched}
use Rattle.table.specs.declared.skipmap.Spot.TheVariants.{Ends}

-- ---- a part of a slice that is lent and comes back

-- what is lent as `&mut s[a..]` is what is left of s from a on, and comes back behind the first a
module _ (xs : List ℕ) (a : ℕ) where
  pub tail_lent : take (length xs - a) (drop a xs) ≡ drop a xs
  tail_lent = take_all (length xs - a) (drop a xs) (simp length-drop (omega arith))

  pub tail_back : (ys : List ℕ) → take a xs ++ (ys ++ drop (length xs - a) (drop a xs)) ≡ take a xs ++ ys
  tail_back ys =
      let gone : drop (length xs - a) (drop a xs) ≡ [] = drop_of_length-le (drop a xs) {i = length xs - a} (simp length-drop (omega arith)) in
      rw (gone, append-nil)

-- ---- what the writes of a fresh header and of a node come to, put together

-- the head's links lead nowhere: twelve words 0 are 48 bytes 0
no_links : (xs : List ℕ) → put_words xs (λ l. 16 + 4 * l) (λ l. get_or (replicate levels 0) l 0) levels ≡ sets xs 16 (replicate 48 0)
unfolding put_words put_word
no_links xs = refl

-- four words and the links, each behind the one before
pub header_written : (xs : List ℕ) (size : ℕ) (x1 x2 x3 x4 x5 links : List ℕ) → size ≡ length xs → x1 ≡ put_word xs 0 size → x2 ≡ put_word x1 4 0
    → x3 ≡ put_word x2 8 header_size → x4 ≡ put_word x3 12 levels → links ≡ replicate levels 0
    → x5 ≡ put_words x4 (λ l. 16 + 4 * l) (λ l. get_or links l 0) levels → x5 ≡ fresh_image xs
unfolding put_word
header_written xs size x1 x2 x3 x4 x5 links l e1 e2 e3 e4 z e5 = e5 ∙ ap (λ (t : List ℕ). put_words x4 (λ l. 16 + 4 * l) (λ l. get_or t l 0) levels) z ∙ no_links x4 ∙ rw (e4, e3, e2, e1, l)
    (sets_append x3' 12 (bytes 4 levels) (replicate 48 0) ∙ sets_append x2' 8 (bytes 4 header_size) (bytes 4 levels ++ replicate 48 0)
    ∙ sets_append x1' 4 (bytes 4 0) (bytes 4 header_size ++ (bytes 4 levels ++ replicate 48 0)) ∙ sets_append xs 0 (bytes 4 (length xs))
    (bytes 4 0 ++ (bytes 4 header_size ++ (bytes 4 levels ++ replicate 48 0))))
  where
    x1' : List ℕ
    x1' = sets xs 0 (bytes 4 (length xs))

    x2' : List ℕ
    x2' = sets x1' 4 (bytes 4 0)

    x3' : List ℕ
    x3' = sets x2' 8 (bytes 4 header_size)

-- height, length, links and entry
pub node_put_together : (xs : List ℕ) (h size : ℕ) (e : Entry) (links x1 x2 x3 x4 : List ℕ) → size ≡ length (encode e) → x1 ≡ put_word xs 0 h
    → x2 ≡ put_word x1 4 size → x3 ≡ put_words x2 (λ l. 8 + 4 * l) (λ l. get_or links l 0) h
    → x4 ≡ sets x3 (8 + 4 * h) (encode e) → x4 ≡ node_written xs 0 h e (λ l. get_or links l 0)
unfolding node_written
node_put_together xs h size e links x1 x2 x3 x4 s e1 e2 e3 e4 =
    e4 ∙ ap (λ (r : List ℕ). sets r (8 + 4 * h) (encode e)) (e3 ∙ ap (λ (r : List ℕ). put_words r (λ l. 8 + 4 * l) (λ l. get_or links l 0) h) (e2 ∙ rw (e1, s)))

-- ---- an entry put in

-- links count only below the height
node_links : (xs : List ℕ) (o h : ℕ) (e : Entry) (f g : ℕ → ℕ) → ((l : ℕ) → l < h → f l ≡ g l) → node_written xs o h e f ≡ node_written xs o h e g
unfolding node_written
node_links xs o h e f g same =
    ap (λ (r : List ℕ). sets r (entry_place o h) (encode e)) (put_words_ext (put_word (put_word xs o h) (o + 4) (length (encode e))) (λ l. o + 8 + 4 * l) (λ l. o + 8 + 4 * l) f g h (λ l k. refl) same)

-- what is written counts only below the height
written_same : (xs : List ℕ) (n o h : ℕ) (e : Entry) (f g p q : ℕ → ℕ) → ((l : ℕ) → l < h → f l ≡ g l) → ((l : ℕ) → l < h → p l ≡ q l) → written xs n o h e f p ≡ written xs n o h e g q
unfolding written
written_same xs n o h e f g p q links places =
    ap (λ (r : List ℕ). put_word (put_words (put_word r (length xs - 4 * suc n) o) p (λ l. suc n) h) 4 (suc n)) (node_links (put_word xs 8 (o + size_of h e)) o h e f g links)
    ∙ ap (λ (r : List ℕ). put_word r 4 (suc n))
    (put_words_ext (put_word (node_written (put_word xs 8 (o + size_of h e)) o h e g) (length xs - 4 * suc n) o) p q (λ l. suc n) (λ l. suc n) h places (λ l k. refl))

-- F, the node in the free part, its slot, the links to it, and n; the node has the links that were read, as many as there are places
pub entry_put_in : (xs : List ℕ) (n used size : ℕ) (e : Entry) (places links : List ℕ) (x0 x1 x2 x3 x4 : List ℕ) → used ≤ length xs → size ≡ length (encode e)
    → length places ≤ length links → LinksRead xs places links
    → (let h = length places in let kept = take h links in x0 ≡ put_word xs 8 (used + 8 + 4 * h + size)
    → x1 ≡ take used x0 ++ node_written (drop used x0) 0 (length kept) e (λ l. get_or kept l 0) → x2 ≡ put_word x1 (length xs - 4 * (n + 1)) used
    → x3 ≡ put_words x2 (λ l. get_or places l 0) (λ l. n + 1) h → x4 ≡ put_word x3 4 (n + 1) → x4 ≡ written xs n used h e (λ l. word xs (get_or places l 0)) (λ l. get_or places l 0))
unfolding written
entry_put_in xs n used size e places links x0 x1 x2 x3 x4 fits s wide read e0 e1 e2 e3 e4 =
    e4 ∙ ap (λ (t : List ℕ). put_word t 4 (n + 1)) e3
    ∙ ap (λ (t : List ℕ). put_word (put_words t (λ l. get_or places l 0) (λ l. n + 1) h) 4 (n + 1)) (e2 ∙ ap (λ (t : List ℕ). put_word t (length xs - 4 * (n + 1)) used) (e1 ∙ placed))
    ∙ rw (add-one n)
  where
    h : ℕ
    h = length places

    kept : List ℕ
    kept = take h links

    many : length kept ≡ h
    many = length-take-le h links wide

    start : x0 ≡ put_word xs 8 (used + size_of h e)
    start = let end : used + 8 + 4 * h + size ≡ used + size_of h e = rw s (omega arith) in e0 ∙ rw end

    front : length (take used x0) ≡ used
    front = length-take-le used x0 (omega (arith, ap length e0, length_put_word xs 8 (used + 8 + 4 * h + size)))

    linked : (l : ℕ) → l < h → get_or kept l 0 ≡ word xs (get_or places l 0)
    linked l k = get_or-take h links l 0 k ∙ read.links_are l k

    placed : take used x0 ++ node_written (drop used x0) 0 (length kept) e (λ l. get_or kept l 0) ≡ node_written (put_word xs 8 (used + size_of h e)) used h e (λ l. word xs (get_or places l 0))
    placed = ap (λ (m : ℕ). take used x0 ++ node_written (drop used x0) 0 m e (λ l. get_or kept l 0)) many
        ∙ sym (node_behind (take used x0) (drop used x0) h e (λ l. get_or kept l 0)) ∙ rw (front, take-append-drop used x0, start)
        (node_links (put_word xs 8 (used + size_of h e)) used h e (λ l. get_or kept l 0) (λ l. word xs (get_or places l 0)) linked)

-- ---- an entry takes at most twelve bytes more than its key and its value

-- no length of an entry has more than two groups
short_varint : (n : ℕ) → length (varint n) ≤ 2
short_varint n = go (ltb n 128)
  where
    go : (b : Bool) → length (cond b (n ∷ []) ((128 + n % 128) ∷ n / 128 ∷ [])) ≤ 2
    go true = omega arith
    go false = omega arith

-- so it is two lengths, a key, a tag and a value
pub encode_most : (e : Entry) → length (encode e) ≤ length e.key + length e.value + 12
encode_most e = omega (arith, length_encode 0 e, short_varint (length e.key + 8), short_varint (length e.value))

-- ---- the way out of an insertion that puts the entry in

module _ (xs : List ℕ) (e : Entry) (h : ℕ) {k : List ℕ} {n : ℕ} (key : k ≡ e.key) (number : n ≡ e.number) {f : Searched} (q : Searches xs to_stop k n (Ok f))
    {p x : ℕ} (s : f.spot ≡ Ends p x) {frame : Frame} (ok : Insertable xs frame h) (said : true ≡ room_is (length xs) frame e h) (wide : length f.places ≡ levels) where
  -- the search was for the entry's key and number
  told : got (ends p x f.looks q.prev) ≡ searched xs to_stop e.key e.number
  told = let w = q.exact in (rw s at w) ∙ rw (key, number)

  room : has_room xs e h ≡ true
  room = sym (said ∙ rw (ok.framed.count_is, ok.framed.free_is))

  -- of the places in hand as many are handed on as the height says
  tall : length (take h f.places) ≡ h
  tall = length-take-le h f.places (omega (arith, wide, ok.height_most))

  -- they are those of the recorded nodes' links
  placed_at : (l : ℕ) → l < h → get_or (take h f.places) l 0 ≡ link_place xs (get_or q.prev l 0) l
  placed_at l k = get_or-take h f.places l 0 k ∙ (rw s at q.placed) l (omega (arith, ok.height_most))

  image_is : (ys : List ℕ)
      → ys ≡ written xs frame.count frame.free (length (take h f.places)) e (λ l. word xs (get_or (take h f.places) l 0)) (λ l. get_or (take h f.places) l 0)
      → ys ≡ with_entry xs e h q.prev
  unfolding link_of
  image_is ys g = g ∙ rw (tall, ok.framed.count_is, ok.framed.free_is)
      (written_same xs (count xs) (free xs) h e (λ l. word xs (get_or (take h f.places) l 0)) (λ l. word xs (link_place xs (get_or q.prev l 0) l))
      (λ l. get_or (take h f.places) l 0) (λ l. link_place xs (get_or q.prev l 0) l) (λ l k. ap (word xs) (placed_at l k)) placed_at)

  pub insert_done : (i : ℕ) (ys : List ℕ) → i ≡ frame.count + 1
      → ys ≡ written xs frame.count frame.free (length (take h f.places)) e (λ l. word xs (get_or (take h f.places) l 0)) (λ l. get_or (take h f.places) l 0)
      → Inserts xs e h (Ok i) ys
  insert_done i ys n g = let z = image_is ys g in let k : i ≡ suc (count xs) = n ∙ rw ok.framed.count_is (add-one (count xs)) in
      record { exact = rw (← told, room, k, z); bytes = rw (← told, room) z }

  -- the entry fits, and the links to it lie in the image
  pub insert_fits : Legal e → EntryFits xs frame (take h f.places) e
  insert_fits legal =
      let head = ok.framed.header in
      let good = (search_ended xs to_stop e.key e.number told).good in
      let fits = room_for xs e h (record { legal = legal; low = ok.height_some; high = ok.height_most }) room in
      record {
        places_inside = record {
          height_most = rw tall ok.height_most;
          inside =
              λ l k. let below : l < h = omega (arith, tall) in let low : l < levels = omega (arith, ok.height_most) in
              rw (placed_at l below) (omega (arith, good_place xs head.low (get_or q.prev l 0) l low (good l low), head.high));
        };
        long = head.long;
        short = head.short;
        room = rw tall (omega (arith, fits.space, head.high, ok.framed.count_is, ok.framed.free_is));
      }
