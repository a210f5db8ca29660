-- What is proved of rows and a cost.
use Rattle.std.specs.Prelude.{ℕ, ℤ, ◌⊎◌, List}
use Rattle.std.specs.List.{AllByRecursion}
use Rattle.bz_algebra.specs.Sums.{AllBelow}
use Rattle.bz_farkas.specs.Falls.{HasFall, HasBalance, IsFall, IsPrimitive}
use Rattle.bz_farkas.specs.SparseFalls.{HasFallOf, HasBalanceOf, IsFallOf}

-- Any rows and any cost have a direction along which the cost falls and no row rises, or multipliers that balance them;
-- and never both. Where there is such a direction there is a primitive one.
pub record ExactlyOneEnd : Type 0 where
  pub either : (columns rows : ℕ) (term : ℕ → ℕ → ℤ) (cost : ℕ → ℤ) →
      HasFall columns rows term cost ⊎ HasBalance columns rows term cost
  pub not_both : (columns rows : ℕ) (term : ℕ → ℕ → ℤ) (cost : ℕ → ℤ) →
      HasFall columns rows term cost → ¬ HasBalance columns rows term cost
  pub primitive : (columns rows : ℕ) (term : ℕ → ℕ → ℤ) (cost : ℕ → ℤ) →
      HasFall columns rows term cost → (d : ℕ → ℤ) × IsFall columns rows term cost d × IsPrimitive columns d

-- The same of rows and a cost that are lists with indexes of columns.
pub record SparseExactlyOneEnd : Type 0 where
  pub either : (columns : ℕ) (rows : List (List (ℕ × ℤ))) (cost : List (ℕ × ℤ)) →
      AllByRecursion (AllBelow columns) rows → AllBelow columns cost →
      HasFallOf rows cost ⊎ HasBalanceOf columns rows cost
  pub not_both : (columns : ℕ) (rows : List (List (ℕ × ℤ))) (cost : List (ℕ × ℤ)) →
      AllByRecursion (AllBelow columns) rows → AllBelow columns cost →
      HasFallOf rows cost → ¬ HasBalanceOf columns rows cost
  pub primitive : (columns : ℕ) (rows : List (List (ℕ × ℤ))) (cost : List (ℕ × ℤ)) →
      AllByRecursion (AllBelow columns) rows → AllBelow columns cost →
      HasFallOf rows cost → (d : ℕ → ℤ) × IsFallOf rows cost d × IsPrimitive columns d
