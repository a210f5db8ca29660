-- Rows and a cost that are lists of pairs of a column and a number: directions along which the cost falls and no row
-- rises, and multipliers with which the rows balance the cost.
use Rattle.std.specs.Prelude.{ℕ, zero, suc, ℤ, pos, ◌≡◌, ◌<◌, ◌+ℤ◌, ◌*ℤ◌, ◌≤ℤ◌, ◌<ℤ◌, List, [], ◌∷◌, length}
use Rattle.std.specs.List.{AllByRecursion}
use Rattle.bz_algebra.specs.Sums.{dot, coef}
use Rattle.bz_algebra.specs.Systems.{ArePositive}

-- row i of a list; an empty one past its end
abbrev pub row_at : List (List (ℕ × ℤ)) → ℕ → List (ℕ × ℤ)
row_at [] i = []
row_at (row ∷ rows) zero = row
row_at (row ∷ rows) (suc i) = row_at rows i

-- along d none of the rows rises, and the cost falls
pub record IsFallOf (rows : List (List (ℕ × ℤ))) (cost : List (ℕ × ℤ)) (d : ℕ → ℤ) : Type 0 where
  pub rows_hold : AllByRecursion (λ row. (dot row d) ≤ℤ (pos 0)) rows
  pub cost_falls : (dot cost d) <ℤ (pos 0)

-- the rows that mu names, times its multipliers, all of them positive, and the cost times p, which is positive, add up
-- to 0 in each column
pub record IsBalanceOf (columns : ℕ) (rows : List (List (ℕ × ℤ))) (cost mu : List (ℕ × ℤ)) (p : ℤ) : Type 0 where
  pub multipliers : ArePositive (length rows) mu
  pub positive : (pos 0) <ℤ p
  pub balanced : (j : ℕ) → j < columns → dot mu (λ i. coef (row_at rows i) j) +ℤ (p *ℤ coef cost j) ≡ pos 0

-- there is such a direction
abbrev pub HasFallOf : List (List (ℕ × ℤ)) → List (ℕ × ℤ) → Type 0
HasFallOf rows cost = (d : ℕ → ℤ) × IsFallOf rows cost d

-- there are such multipliers
abbrev pub HasBalanceOf : ℕ → List (List (ℕ × ℤ)) → List (ℕ × ℤ) → Type 0
HasBalanceOf columns rows cost = (mu : List (ℕ × ℤ)) × (p : ℤ) × IsBalanceOf columns rows cost mu p
