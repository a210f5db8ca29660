-- Where the sums of a cut are not wide.
use Rattle.std.specs.Prelude.{ℕ, ℤ, ◌<◌, ◌*ℤ◌, List}
use Rattle.bz_algebra.specs.Numbers.{IsNarrow}
use Rattle.bz_algebra.specs.Sums.{coef}
use Rattle.bz_num.specs.Fold.{IsNarrowSum, pairs_at}
use Rattle.bz_model.specs.declared.Model.{Model}
use Rattle.bz_model.specs.Parting.{width_of, terms_in, inequalities_of, inner_cost}
use Rattle.bz_cut.specs.declared.records.Cut.{Cut}
use Rattle.bz_cut.specs.Cuts.{IsValid}
use Rattle.bz_cut.specs.Rows.{own_at, master_at, rhs_at}

-- one equation of a cut or a leaf: the sum of the multipliers times f, and the product that it is compared with
pub record FitsEquation (multipliers : List (ℕ × ℤ)) (f : ℕ → ℤ) (product : ℤ) : Type 0 where
  pub sum : IsNarrowSum (pairs_at multipliers f)
  pub other : IsNarrow product

-- a cut: its factor, and its equations on the block's positions, on the master's positions, and of the right sides
pub record FitsCut (m : Model) (part : List ℕ) (cut : Cut) : Type 0 where
  pub factor : IsNarrow (cut.gcd *ℤ cut.p0)
  pub own : (i : ℕ) → i < width_of part cut.block →
      FitsEquation cut.mu (λ n. coef (own_at (inequalities_of m part cut.block) n) i)
      ((cut.gcd *ℤ cut.p0) *ℤ coef (terms_in part cut.block (inner_cost m)) i)
  pub master : (i : ℕ) → i < width_of part 0 →
      FitsEquation cut.mu (λ n. coef (master_at (inequalities_of m part cut.block) n) i) (cut.gcd *ℤ coef cut.alpha i)
  pub rhs : FitsEquation cut.mu (rhs_at (inequalities_of m part cut.block)) (cut.gcd *ℤ cut.beta)

-- the cut is valid, and no sum or product is wide that tells so
abbrev pub IsValidAndFits : Model → List ℕ → Cut → Type 0
IsValidAndFits m part cut = IsValid m part cut × FitsCut m part cut
