-- Sums over sparse lists: pairs of an index and a number.
use Rattle.std.specs.Prelude.{ℕ, zero, suc, ℤ, pos, ◌+ℤ◌, ◌*ℤ◌, List, [], ◌∷◌, ◌==◌, if◌then◌else◌, ◌<◌}

-- the sum of each number times what f gives at its index: a row at a point
abbrev pub dot : List (ℕ × ℤ) → (ℕ → ℤ) → ℤ
dot [] f = pos 0
dot (e ∷ es) f = (e.1 *ℤ f e.0) +ℤ dot es f

-- the coefficient at an index: the sum of the numbers that stand there, 0 where there is none
abbrev pub coef : List (ℕ × ℤ) → ℕ → ℤ
coef [] j = pos 0
coef (e ∷ es) j = (if e.0 == j then e.1 else pos 0) +ℤ coef es j

-- the sum of f at the n indexes below n
abbrev pub upto : ℕ → (ℕ → ℤ) → ℤ
upto zero f = pos 0
upto (suc n) f = upto n f +ℤ f n

-- each index is below n
abbrev pub AllBelow : ℕ → List (ℕ × ℤ) → Type 0
AllBelow n [] = Unit {0}
AllBelow n (e ∷ es) = (e.0 < n) × AllBelow n es
