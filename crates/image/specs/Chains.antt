-- The chains of a skip list, over functions of the node number.
use Rattle.std.specs.Prelude.{ℕ, zero, suc, ◌<◌, ◌≡◌, List, [], ◌∷◌, ltb}
use Rattle.rule.specs.Lists.{cond}

-- the nodes that the links f lead through from x on, so many of them
abbrev pub met : (ℕ → ℕ) → ℕ → ℕ → List ℕ
met f zero x = []
met f (suc n) x = x ∷ met f n (f x)

-- the links f lead from x through all of a list, in its order, to 0, which is none
abbrev pub chain : (ℕ → ℕ) → ℕ → List ℕ → Type 0
chain f x [] = x ≡ 0
chain f x (y ∷ ys) = (x ≡ y) × chain f (f y) ys

-- the members tall enough for level l, in order
abbrev pub tall : (ℕ → ℕ) → ℕ → List ℕ → List ℕ
tall height l [] = []
tall height l (x ∷ xs) = cond (ltb l (height x)) (x ∷ tall height l xs) (tall height l xs)

-- at each level the chain from the head, node 0, meets exactly the members tall enough for it, in order
abbrev pub Chained : ℕ → (ℕ → ℕ) → (ℕ → ℕ → ℕ) → List ℕ → Type 0
Chained top height link xs = (l : ℕ) → l < top → chain (λ i. link i l) (link 0 l) (tall height l xs)
