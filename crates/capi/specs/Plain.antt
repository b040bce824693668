-- What every export promises.
use Rattle.std.specs.Prelude.{◌≡◌}

-- it is the plain form of an answer that the call below it promises
pub record Plainly {A R : Type 0} (plain : A → R) (promise : A → Type 0) (r : R) : Type 0 where
  pub answer : A
  pub kept : promise answer
  pub is : r ≡ plain answer
