-- Numbers, types, and what a call is to look for, as code makes them of its arguments: one for each.
use native.Mathlib.Omega.{arith}
use mathlib.Core.Path.{◌≡◌, refl, sym, ap, ◌∙◌}
use mathlib.Core.Logic.{inl, inr}
use mathlib.Core.List.{List}
use Prim.Native.Nat.{ℕ}
use Rattle.std.specs.Prelude.{Result, Ok, Err}
use Rattle.table.specs.Refusals.{answer_as}
use Rattle.table.specs.KeyTypes.{code_of, NumberOf, KindOf, LooksFor}
use Rattle.table.proofs.MemtableLaws.{code_known}
use Rattle.table.specs.declared.refusals.Refusal.{Refusal}
use Rattle.table.specs.declared.key_types.Number.{Number}
use Rattle.table.specs.declared.key_types.Kind.{Kind}
use Rattle.table.specs.declared.key_types.Kind.TheVariants as kind
use Rattle.table.specs.declared.key_types.LookupKey.{LookupKey}

pub number_one : (n : ℕ) (r q : Result Number Refusal) → NumberOf n r → NumberOf n q → r ≡ q
number_one n (Ok a) (Ok b) (d, _) (e, _) = ap (λ (i : ℕ). Ok (record { is = i })) (d ∙ sym e)
number_one n (Ok a) (Err q) (_, low) (high, _) = absurd (omega arith)
number_one n (Err p) (Ok b) (high, _) (_, low) = absurd (omega arith)
number_one n (Err p) (Err q) (_, d) (_, e) = ap (λ x. Err x) (d ∙ sym e)

pub kind_one : (code : ℕ) (r q : Result Kind Refusal) → KindOf code r → KindOf code q → r ≡ q
kind_one code (Ok a) (Ok b) d e = ap (λ x. Ok x) (go a b (d ∙ sym e))
  where
    go : (a b : Kind) → code_of a ≡ code_of b → a ≡ b
    go kind.Deletion kind.Deletion e = refl
    go kind.Deletion kind.Value e = absurd (omega arith)
    go kind.Value kind.Deletion e = absurd (omega arith)
    go kind.Value kind.Value e = refl
kind_one code (Ok a) (Err q) d (high, _) = absurd (omega (arith, code_known a))
kind_one code (Err p) (Ok b) (high, _) e = absurd (omega (arith, code_known b))
kind_one code (Err p) (Err q) (_, d) (_, e) = ap (λ x. Err x) (d ∙ sym e)

-- a key with a number is known by the key's bytes and the number
pub record ProbeSeen : Type 0 where
  pub key : List ℕ
  pub number : ℕ

abbrev pub probe_seen : LookupKey → ProbeSeen
probe_seen p = record { key = p.key.now; number = p.number.is }

-- `LookupKey::of`
pub probe_one : (k : List ℕ) (n : ℕ) (r q : Result LookupKey Refusal) → LooksFor k n r → LooksFor k n q → answer_as probe_seen r ≡ answer_as probe_seen q
probe_one k n (Ok p) (Ok q) (a, b, _, _) (c, d, _, _) = rw (a, b, c, d)
probe_one k n (Ok p) (Err q) (_, _, low, short) (inl (high, _)) = absurd (omega arith)
probe_one k n (Ok p) (Err q) (_, _, low, short) (inr (_, long, _)) = absurd (omega arith)
probe_one k n (Err p) (Ok q) (inl (high, _)) (_, _, low, short) = absurd (omega arith)
probe_one k n (Err p) (Ok q) (inr (_, long, _)) (_, _, low, short) = absurd (omega arith)
probe_one k n (Err p) (Err q) (inl (_, d)) (inl (_, e)) = rw (d, e)
probe_one k n (Err p) (Err q) (inl (high, _)) (inr (low, _, _)) = absurd (omega arith)
probe_one k n (Err p) (Err q) (inr (low, _, _)) (inl (high, _)) = absurd (omega arith)
probe_one k n (Err p) (Err q) (inr (_, _, d)) (inr (_, _, e)) = rw (d, e)
