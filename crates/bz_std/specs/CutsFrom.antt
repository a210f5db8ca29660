-- Cuts that multipliers of a block's inequalities make, as an answer of one of its programs names them.
use Rattle.std.specs.Prelude.{ℕ, ℤ, pos, ◌≡◌, ◌*ℤ◌, ◌<◌, ◌≤ℤ◌, ◌<ℤ◌, List, length}
use Rattle.std.proofs.Math.IntN.{neg_ℤ}
use Rattle.std.specs.Int.{◌∣◌}
use Rattle.std.specs.Int.RustNames.{unsigned_abs}
use Rattle.bz_algebra.specs.Sums.{coef, dot, upto, AllBelow}
use Rattle.bz_num.specs.Primitive.{DividesAll}
use Rattle.bz_num.specs.Row.{IsSparse}
use Rattle.bz_model.specs.declared.Model.{Model}
use Rattle.bz_model.specs.Parting.{inequalities_of, inner_cost, terms_in, width_of}
use Rattle.bz_cut.specs.declared.Cut.{Cut}
use Rattle.bz_cut.specs.declared.Mode.{Mode}
use Rattle.bz_cut.specs.declared.Mode.TheVariants as mode
use Rattle.bz_cut.specs.Rows.{master_at, own_at, rhs_at}

-- the list has the n numbers of y, without those that are 0
pub record AreEntries (n : ℕ) (y : ℕ → ℤ) (list : List (ℕ × ℤ)) : Type 0 where
  pub sparse : IsSparse list
  pub below : AllBelow n list
  pub numbers : (i : ℕ) → i < n → coef list i ≡ y i

-- no natural but 1 divides each number of alpha, p0 and beta
abbrev pub IsLowestCut : Cut → Type 0
IsLowestCut cut =
    (d : ℕ) → DividesAll d cut.alpha → d ∣ unsigned_abs cut.p0 → d ∣ unsigned_abs cut.beta → d ≡ 1

-- The cut of block b that the multipliers y of its inequalities make, with `raw` for the number of its eta: the y-sum
-- of what the inequalities say of the master and of their right sides, divided by the greatest common divisor.
pub record IsCutFrom (m : Model) (part : List ℕ) (b : ℕ) (y : ℕ → ℤ) (raw : ℤ) (cut : Cut) : Type 0 where
  pub block : cut.block ≡ b
  pub mu : AreEntries (length (inequalities_of m part b)) y cut.mu
  pub gcd : (pos 0) <ℤ cut.gcd
  pub sparse : IsSparse cut.alpha
  pub alpha : AllBelow (width_of part 0) cut.alpha
  pub master : (i : ℕ) → i < width_of part 0 →
      dot cut.mu (λ n. coef (master_at (inequalities_of m part b) n) i) ≡ cut.gcd *ℤ coef cut.alpha i
  pub eta : raw ≡ cut.gcd *ℤ cut.p0
  pub rhs : dot cut.mu (rhs_at (inequalities_of m part b)) ≡ cut.gcd *ℤ cut.beta
  pub lowest : IsLowestCut cut

-- What a separation's multipliers give the eta of its block: in mode Cost that of the row of the cost, which comes
-- after the inequalities, and nothing in mode Point.
abbrev pub cost_multiplier : Mode → ℕ → (ℕ → ℤ) → ℤ
cost_multiplier mode.Cost n y = y n
cost_multiplier mode.Point n y = pos 0

-- the cut that a separation's multipliers y make
abbrev pub IsSeparationCut : Model → List ℕ → ℕ → Mode → (ℕ → ℤ) → Cut → Type 0
IsSeparationCut m part b way y cut =
    IsCutFrom m part b y (cost_multiplier way (length (inequalities_of m part b)) y) cut

-- The multipliers y of the block's inequalities, none of them negative, leave -raw times the block's cost on its
-- positions.
pub record BalancesCost (m : Model) (part : List ℕ) (b : ℕ) (y : ℕ → ℤ) (raw : ℤ) : Type 0 where
  pub multipliers : (n : ℕ) → n < length (inequalities_of m part b) → (pos 0) ≤ℤ (y n)
  pub nonnegative : (pos 0) ≤ℤ raw
  pub own : (i : ℕ) → i < width_of part b →
      upto (length (inequalities_of m part b)) (λ n. y n *ℤ coef (own_at (inequalities_of m part b) n) i)
      ≡ neg_ℤ (raw *ℤ coef (terms_in part b (inner_cost m)) i)

-- all numbers of the cut are 0 before their division: those of the master's positions, that of the eta, the right side
pub record IsNoCut (m : Model) (part : List ℕ) (b : ℕ) (y : ℕ → ℤ) (raw : ℤ) : Type 0 where
  pub master : (i : ℕ) → i < width_of part 0 →
      upto (length (inequalities_of m part b)) (λ n. y n *ℤ coef (master_at (inequalities_of m part b) n) i) ≡ pos 0
  pub eta : raw ≡ pos 0
  pub rhs : upto (length (inequalities_of m part b)) (λ n. y n *ℤ rhs_at (inequalities_of m part b) n) ≡ pos 0
