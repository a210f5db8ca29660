-- Cuts: `alpha x - p0 eta <= beta`, with eta the cost of the cut's block, each with the multipliers that it comes from.
use Rattle.std.specs.Prelude.{ℕ, pos, ◌≡◌, ◌*ℤ◌, ◌<◌, ◌≤◌, ◌<ℤ◌, ◌≤ℤ◌, List, length}
use Rattle.std.proofs.Math.IntN.{neg_ℤ}
use Rattle.bz_algebra.specs.Sums.{dot, coef, AllBelow}
use Rattle.bz_model.specs.declared.Model.{Model}
use Rattle.bz_model.specs.Parting.{blocks_of, width_of, terms_in, inequalities_of, inner_cost}
use Rattle.bz_cut.specs.declared.records.Cut.{Cut}
use Rattle.bz_cut.specs.Rows.{own_at, master_at, rhs_at, AreMultipliers}

-- The cut is `gcd` times smaller than the mu-sum of its block's inequalities, in which the block's own terms come to
-- -p0 times its inner cost.
pub record IsValid (m : Model) (part : List ℕ) (cut : Cut) : Type 0 where
  pub block : (0 < cut.block) × (cut.block ≤ blocks_of part)
  pub alpha : AllBelow (width_of part 0) cut.alpha
  pub mu : AreMultipliers (length (inequalities_of m part cut.block)) cut.mu
  pub p0 : pos 0 ≤ℤ cut.p0
  pub gcd : pos 0 <ℤ cut.gcd
  pub own : (i : ℕ) → i < width_of part cut.block →
      dot cut.mu (λ n. coef (own_at (inequalities_of m part cut.block) n) i)
      ≡ neg_ℤ ((cut.gcd *ℤ cut.p0) *ℤ coef (terms_in part cut.block (inner_cost m)) i)
  pub master : (i : ℕ) → i < width_of part 0 →
      dot cut.mu (λ n. coef (master_at (inequalities_of m part cut.block) n) i) ≡ cut.gcd *ℤ coef cut.alpha i
  pub rhs : dot cut.mu (rhs_at (inequalities_of m part cut.block)) ≡ cut.gcd *ℤ cut.beta
