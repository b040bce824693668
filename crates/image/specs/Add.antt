-- The addition of an entry, on any bytes: document 01, 'The image' and 'Numbered refusals'.
use Rattle.std.specs.Prelude.{ℕ, suc, ◌+◌, ◌-◌, ◌*◌, List, Bool, length, get_or, ltb, leb}
use Rattle.std.proofs.lemmas.List.Edits.{sets}
use Rattle.rule.specs.Lists.{both}
use Rattle.rule.specs.Entries.{Entry}
use Rattle.image.specs.Limits.{max_key, max_value, max_number, max_nodes, levels}
use Rattle.image.specs.Words.{put_word, put_words}
use Rattle.image.specs.Entries.{encode}
use Rattle.image.specs.Nodes.{count, free, entry_place, size_of, link_place, link_of}
use Rattle.image.specs.Sound.{header_holds}
use Rattle.image.specs.Search.{to_stop, Found, hit, ends, searched}
use Rattle.image.specs.Refusals.{bad_image, bad_kind, bad_number, long_key, long_value, bad_height, no_room, duplicate, Answer, refused, given, demand, reading}

-- ---- the bytes that it writes

-- a node at o: its height h, the length of its entry, its links, its entry
unfoldable pub node_written : List ℕ → ℕ → ℕ → Entry → (ℕ → ℕ) → List ℕ
node_written xs o h e link = sets (put_words (put_word (put_word xs o h) (o + 4) (length (encode e))) (λ l. o + 8 + 4 * l) link h) (entry_place o h) (encode e)

-- F; node n + 1 at o with its slot; a link to it at each level below h, from the lowest up; and last n, which makes it a node of the table
unfoldable pub written : List ℕ → ℕ → ℕ → ℕ → Entry → (ℕ → ℕ) → (ℕ → ℕ) → List ℕ
written xs n o h e link place =
    put_word (put_words (put_word (node_written (put_word xs 8 (o + size_of h e)) o h e link) (length xs - 4 * suc n) o) place (λ l. suc n) h) 4 (suc n)

-- the entry e in a node of height h at F, behind the nodes that a search recorded: it takes over their links, and they lead to it
abbrev pub with_entry : List ℕ → Entry → ℕ → List ℕ → List ℕ
with_entry xs e h prev = written xs (count xs) (free xs) h e (λ l. link_of xs (get_or prev l 0) l) (λ l. link_place xs (get_or prev l 0) l)

-- ---- the call

-- the new node's number, and the image afterwards
pub record Grown : Type 0 where
  pub node : ℕ
  pub image : List ℕ

-- n is below 4,096, and 12 + 4h + e is at most L - 4n - F
abbrev pub has_room : List ℕ → Entry → ℕ → Bool
has_room xs e h = both (ltb (count xs) max_nodes) (leb (12 + 4 * h + length (encode e)) (length xs - 4 * count xs - free xs))

-- an equal entry is a duplicate, room or not
abbrev pub placed : List ℕ → Entry → ℕ → Found → Answer Grown
placed xs e h (hit x looks) = refused duplicate
placed xs e h (ends p x looks prev) = demand (has_room xs e h) no_room (given (record { node = suc (count xs); image = with_entry xs e h prev }))

-- refusals 1, 2, 3, 4, 5, 6, then 9 or 8, then 7
unfoldable pub add : List ℕ → Entry → ℕ → Answer Grown
add xs e h =
    demand (header_holds xs) bad_image
    (demand (leb e.kind 1) bad_kind
    (demand (leb e.number max_number) bad_number
    (demand (leb (length e.key) max_key) long_key
    (demand (leb (length e.value) max_value) long_value
    (demand (both (leb 1 h) (leb h levels)) bad_height
    (reading (searched xs to_stop e.key e.number) (placed xs e h)))))))

-- the image after the call: a refusal keeps every byte
abbrev pub afterwards : List ℕ → Answer Grown → List ℕ
afterwards xs (refused r) = xs
afterwards xs (given g) = g.image
