-- What a sink has taken, and what a put does.
use Rattle.std.specs.Prelude.{◌≡◌, ℕ, ◌≤◌, List, ◌++◌, length, take}

-- nothing was taken
abbrev pub TakesNothing : List ℕ → List ℕ → Type 0
TakesNothing before after = after ≡ before

-- these bytes were taken, behind those before
abbrev pub Takes : List ℕ → List ℕ → List ℕ → Type 0
Takes bytes before after = after ≡ before ++ bytes

-- a prefix of the bytes was taken, and no more: so many of them
pub record TakesPrefix (bytes before after : List ℕ) : Type 0 where
  pub count : ℕ
  pub within : count ≤ length bytes
  pub taken : after ≡ before ++ take count bytes
