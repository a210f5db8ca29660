-- What the answer of a posed program's columns says of its variables.
use Rattle.std.specs.Prelude.{ℕ, zero, suc, ◌+◌, ◌*◌, ◌≡◌, ◌<◌, ℤ, pos, ◌+ℤ◌, ◌-ℤ◌, ◌*ℤ◌, ◌≤ℤ◌, ◌<ℤ◌, List, [], ◌∷◌, length}
use Rattle.std.specs.List.{AllByRecursion}
use Rattle.std.proofs.Math.IntN.{neg_ℤ}
use Rattle.bz_algebra.specs.Sums.{coef, dot, upto}
use Rattle.bz_std.specs.Posed.{Line, Posed}

-- the number of each variable: the difference of its two columns
abbrev pub differences : (ℕ → ℤ) → ℕ → ℤ
differences z j = z (2 * j) -ℤ z (2 * j + 1)

-- the terms of a row, none past the last
abbrev pub terms_at : List Line → ℕ → List (ℕ × ℤ)
terms_at [] i = []
terms_at (row ∷ rows) zero = row.terms
terms_at (row ∷ rows) (suc i) = terms_at rows i

-- the right side of a row, 0 past the last
abbrev pub right_at : List Line → ℕ → ℤ
right_at [] i = pos 0
right_at (row ∷ rows) zero = row.rhs
right_at (row ∷ rows) (suc i) = right_at rows i

-- the rows times y, at a variable
abbrev pub sum_on : Posed → (ℕ → ℤ) → ℕ → ℤ
sum_on q y j = upto (length q.rows) (λ i. y i *ℤ coef (terms_at q.rows i) j)

-- the right sides times y
abbrev pub sum_right : Posed → (ℕ → ℤ) → ℤ
sum_right q y = upto (length q.rows) (λ i. y i *ℤ right_at q.rows i)

-- no number of y is negative
abbrev pub AreNonnegative : Posed → (ℕ → ℤ) → Type 0
AreNonnegative q y = (i : ℕ) → i < length q.rows → (pos 0) ≤ℤ (y i)

-- v / den meets each row, or passes its right side by at most s / den
abbrev pub MeetsWithin : Posed → (ℕ → ℤ) → ℤ → ℤ → Type 0
MeetsWithin q v den s = AllByRecursion (λ row. (dot row.terms v) ≤ℤ ((row.rhs *ℤ den) +ℤ s)) q.rows

-- some point meets each row
pub record IsPossible (q : Posed) : Type 0 where
  pub v : ℕ → ℤ
  pub den : ℤ
  pub positive : (pos 0) <ℤ den
  pub meets : MeetsWithin q v den (pos 0)

-- v / den is a point of least cost, as the multipliers y / by show
pub record IsLeastAt (q : Posed) (v : ℕ → ℤ) (den : ℤ) (y : ℕ → ℤ) (by : ℤ) : Type 0 where
  pub den_positive : (pos 0) <ℤ den
  pub by_positive : (pos 0) <ℤ by
  pub meets : MeetsWithin q v den (pos 0)
  pub multipliers : AreNonnegative q y
  pub balanced : (j : ℕ) → j < q.variables → sum_on q y j ≡ neg_ℤ (by *ℤ coef q.cost j)
  pub value : dot q.cost v *ℤ by ≡ neg_ℤ (sum_right q y) *ℤ den

-- v / den passes no right side by more than s / den, and every point passes some right side by at least that, as the
-- multipliers y / by show, which together are at most 1
pub record IsLeastRise (q : Posed) (v : ℕ → ℤ) (s den : ℤ) (y : ℕ → ℤ) (by : ℤ) : Type 0 where
  pub den_positive : (pos 0) <ℤ den
  pub by_positive : (pos 0) <ℤ by
  pub nonnegative : (pos 0) ≤ℤ s
  pub meets : MeetsWithin q v den s
  pub multipliers : AreNonnegative q y
  pub balanced : (j : ℕ) → j < q.variables → sum_on q y j ≡ pos 0
  pub within : (upto (length q.rows) y) ≤ℤ by
  pub value : s *ℤ by ≡ neg_ℤ (sum_right q y) *ℤ den

-- the rows times y have no variable and a right side below 0, so that no point meets them
pub record IsEmptyBy (q : Posed) (y : ℕ → ℤ) : Type 0 where
  pub multipliers : AreNonnegative q y
  pub balanced : (j : ℕ) → j < q.variables → sum_on q y j ≡ pos 0
  pub right : (sum_right q y) <ℤ (pos 0)

-- along d no row rises and the cost falls
pub record IsFallAlong (q : Posed) (d : ℕ → ℤ) : Type 0 where
  pub rows : AllByRecursion (λ row. (dot row.terms d) ≤ℤ (pos 0)) q.rows
  pub cost : (dot q.cost d) <ℤ (pos 0)
