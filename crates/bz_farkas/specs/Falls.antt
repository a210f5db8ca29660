-- Directions along which a cost falls and no row rises, and multipliers with which the rows balance the cost.
use Rattle.std.specs.Prelude.{ℕ, ℤ, pos, ◌≡◌, ◌<◌, ◌+ℤ◌, ◌*ℤ◌, ◌≤ℤ◌, ◌<ℤ◌, unsigned_abs}
use Rattle.std.specs.Int.{◌∣◌}
use Rattle.bz_algebra.specs.Sums.{upto}

-- along d none of the rows rises, and the cost falls; a row is given by its coefficient in each column
pub record IsFall (columns rows : ℕ) (term : ℕ → ℕ → ℤ) (cost d : ℕ → ℤ) : Type 0 where
  pub rows_hold : (i : ℕ) → i < rows → (upto columns (λ j. term i j *ℤ d j)) ≤ℤ (pos 0)
  pub cost_falls : (upto columns (λ j. cost j *ℤ d j)) <ℤ (pos 0)

-- the rows times y, none of them negative, and the cost times p, which is positive, add up to 0 in each column
pub record IsBalance (columns rows : ℕ) (term : ℕ → ℕ → ℤ) (cost y : ℕ → ℤ) (p : ℤ) : Type 0 where
  pub multipliers : (i : ℕ) → i < rows → (pos 0) ≤ℤ (y i)
  pub positive : (pos 0) <ℤ p
  pub balanced : (j : ℕ) → j < columns → upto rows (λ i. y i *ℤ term i j) +ℤ (p *ℤ cost j) ≡ pos 0

-- no natural but 1 divides each number of d
abbrev pub IsPrimitive : ℕ → (ℕ → ℤ) → Type 0
IsPrimitive columns d = (g : ℕ) → ((j : ℕ) → j < columns → g ∣ unsigned_abs (d j)) → g ≡ 1

-- there is such a direction
abbrev pub HasFall : ℕ → ℕ → (ℕ → ℕ → ℤ) → (ℕ → ℤ) → Type 0
HasFall columns rows term cost = (d : ℕ → ℤ) × IsFall columns rows term cost d

-- there are such multipliers
abbrev pub HasBalance : ℕ → ℕ → (ℕ → ℕ → ℤ) → (ℕ → ℤ) → Type 0
HasBalance columns rows term cost = (y : ℕ → ℤ) × (p : ℤ) × IsBalance columns rows term cost y p
