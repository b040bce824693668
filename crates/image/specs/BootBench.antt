-- Document 01's boot-bench cases P1 to P12, as one list.
use Rattle.std.specs.Prelude.{ℕ, ◌≡◌, List, [], ◌∷◌, ◌++◌, length, replicate, take}
use Rattle.rule.specs.Lists.{Maybe, none, some}
use Rattle.rule.specs.Order.{less, compare_keys}
use Rattle.rule.specs.Entries.{Entry, together, value_kind, deletion_kind}
use Rattle.rule.specs.Moves.{Move, first, next, previous, Row, rows_after}
use Rattle.image.specs.Entries.{encode}
use Rattle.image.specs.Refusals.{no_room, Answer, refused, given}
use Rattle.image.specs.Fresh.{fresh_image}
use Rattle.image.specs.Add.{Grown, add}

-- k@n=v and k@n-
abbrev pub put : List ℕ → ℕ → List ℕ → Entry
put k n v = record { key = k; number = n; kind = value_kind; value = v }

abbrev pub gone : List ℕ → ℕ → Entry
gone k n = record { key = k; number = n; kind = deletion_kind; value = [] }

-- the keys a, b, c, e
abbrev pub a : List ℕ
a = 0x61 ∷ []

abbrev pub b : List ℕ
b = 0x62 ∷ []

abbrev pub c : List ℕ
c = 0x63 ∷ []

abbrev pub e : List ℕ
e = 0x65 ∷ []

-- the values x, y, w, v, u
abbrev pub x : List ℕ
x = 0x78 ∷ []

abbrev pub y : List ℕ
y = 0x79 ∷ []

abbrev pub w : List ℕ
w = 0x77 ∷ []

abbrev pub v : List ℕ
v = 0x76 ∷ []

abbrev pub u : List ℕ
u = 0x75 ∷ []

-- table T: a@1=x, a@3-, b@2=y, c@0=w, c@4=v
abbrev pub table_t : List Entry
table_t = put a 1 x ∷ gone a 3 ∷ put b 2 y ∷ put c 0 w ∷ put c 4 v ∷ []

abbrev row : List ℕ → List ℕ → Maybe Row
row k value = some (record { key = k; value = value })

-- the bytes of P11
abbrev pub p11 : List ℕ
p11 = 0x5c ∷ 0x00 ∷ 0x00 ∷ 0x00 ∷ 0x01 ∷ 0x00 ∷ 0x00 ∷ 0x00 ∷ 0x58 ∷ 0x00 ∷ 0x00 ∷ 0x00 ∷ 0x0c ∷ 0x00 ∷ 0x00 ∷ 0x00 ∷ 0x01 ∷ 0x00 ∷ 0x00 ∷ 0x00 ∷ (replicate 44 0x00
    ++ (0x01 ∷ 0x00 ∷ 0x00 ∷ 0x00 ∷ 0x0c ∷ 0x00 ∷ 0x00 ∷ 0x00 ∷ 0x00 ∷ 0x00 ∷ 0x00 ∷ 0x00 ∷ 0x09 ∷ 0x61 ∷ 0x01 ∷ 0x01 ∷ 0x00 ∷ 0x00 ∷ 0x00 ∷ 0x00 ∷ 0x00 ∷ 0x00 ∷
    0x01 ∷ 0x78 ∷ 0x40 ∷ 0x00 ∷ 0x00 ∷ 0x00 ∷ []))

-- a case
pub data Case : Type 0 where
  -- at a snapshot, from a key or nowhere, a string of moves over tables in their order shows these rows
  shows : ℕ → Maybe (List ℕ) → List Move → List (List Entry) → List (Maybe Row) → Case
  -- each of these keys is less than the next
  rises : List (List ℕ) → Case
  -- the bytes of an entry begin so
  begins : Entry → List ℕ → Case
  -- fresh at this length, whatever it held, then an addition at this height
  adds : ℕ → Entry → ℕ → Answer Grown → Case

abbrev Rising : List (List ℕ) → Type 0
Rising [] = Unit
Rising (k ∷ []) = Unit
Rising (k ∷ l ∷ ks) = (compare_keys k l ≡ less) × Rising (l ∷ ks)

-- what a case says
abbrev pub Right : Case → Type 0
Right (shows s from moves tables rows) = rows_after moves s from (together tables) ≡ rows
Right (rises ks) = Rising ks
Right (begins entry bs) = take (length bs) (encode entry) ≡ bs
Right (adds size entry h answer) = (xs : List ℕ) → length xs ≡ size → add (fresh_image xs) entry h ≡ answer

-- the cases in their order
abbrev pub cases : List Case
cases =
    -- P1 to P5: the rows of T
    shows 0 none (first ∷ next ∷ []) (table_t ∷ []) (row c w ∷ none ∷ [])
    ∷ shows 1 none (first ∷ next ∷ next ∷ []) (table_t ∷ []) (row a x ∷ row c w ∷ none ∷ [])
    ∷ shows 2 none (first ∷ next ∷ next ∷ next ∷ []) (table_t ∷ []) (row a x ∷ row b y ∷ row c w ∷ none ∷ [])
    ∷ shows 3 none (first ∷ next ∷ next ∷ []) (table_t ∷ []) (row b y ∷ row c w ∷ none ∷ [])
    ∷ shows 4 none (first ∷ next ∷ next ∷ []) (table_t ∷ []) (row b y ∷ row c v ∷ none ∷ [])
    -- P6 to P8: backward
    ∷ shows 3 (some c) (previous ∷ previous ∷ []) (table_t ∷ []) (row b y ∷ none ∷ [])
    ∷ shows 1 (some e) (previous ∷ []) ((put c 0 w ∷ put e 1 u ∷ []) ∷ []) (row c w ∷ [])
    ∷ shows 2 none (first ∷ next ∷ previous ∷ []) ((put a 1 x ∷ []) ∷ (put b 2 y ∷ []) ∷ []) (row a x ∷ row b y ∷ row a x ∷ [])
    -- P9: the order of keys
    ∷ rises ([] ∷ a ∷ (0x61 ∷ 0x61 ∷ []) ∷ b ∷ [])
    ∷ rises ((0x7f ∷ []) ∷ (0x80 ∷ []) ∷ [])
    -- P10: the length of key plus 8
    ∷ begins (put (replicate 119 0x6b) 1 x) (0x7f ∷ [])
    ∷ begins (put (replicate 120 0x6b) 1 x) (0x80 ∷ 0x01 ∷ [])
    -- P11 and P12: one addition, to the byte
    ∷ adds 92 (put a 1 x) 1 (given (record { node = 1; image = p11 }))
    ∷ adds 91 (put a 1 x) 1 (refused no_room)
    ∷ []
