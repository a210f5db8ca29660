-- The tests of a cut, in their order: its lists and signs, its factor, and then its equations, one by one.
use Rattle.std.specs.Prelude.{ℕ, pos, ◌*ℤ◌, ◌<◌, ◌≤◌, ◌<ℤ◌, ◌≤ℤ◌, List, [], ◌∷◌, ◌++◌, length}
use Rattle.std.proofs.Math.IntN.{neg_ℤ}
use Rattle.bz_algebra.specs.Numbers.{IsNarrow}
use Rattle.bz_algebra.specs.Sums.{coef, AllBelow}
use Rattle.bz_model.specs.declared.Model.{Model}
use Rattle.bz_model.specs.Parting.{blocks_of, width_of, terms_in, inequalities_of, inner_cost}
use Rattle.bz_cut.specs.declared.faults.CutFault.{CutFault}
use Rattle.bz_cut.specs.declared.faults.CutFault.TheVariants.{Invalid, Wide}
use Rattle.bz_cut.specs.declared.records.Cut.{Cut}
use Rattle.bz_cut.specs.Rows.{own_at, master_at, rhs_at, AreMultipliers}
use Rattle.bz_first.specs.Tests.{Test, test, each_below}
use Rattle.bz_cut.specs.SumTests.{equation}

-- the block is one of the model's, the lists fit it, and the numbers have their signs
abbrev pub form_tests : Model → List ℕ → Cut → List (Test CutFault)
form_tests m part cut =
    test Invalid ((0 < cut.block) × (cut.block ≤ blocks_of part))
    ∷ test Invalid (AllBelow (width_of part 0) cut.alpha)
    ∷ test Invalid (AreMultipliers (length (inequalities_of m part cut.block)) cut.mu)
    ∷ test Invalid (pos 0 <ℤ cut.gcd)
    ∷ test Invalid (pos 0 ≤ℤ cut.p0)
    ∷ []

-- its block is one of the model's, and its multipliers stand at inequalities of the block
pub record HasPlaces (m : Model) (part : List ℕ) (cut : Cut) : Type 0 where
  pub block : cut.block ≤ blocks_of part
  pub mu : AreMultipliers (length (inequalities_of m part cut.block)) cut.mu

-- on position i of the block the sum is minus `gcd p0` times the inner cost
abbrev pub own_tests : Model → List ℕ → Cut → ℕ → List (Test CutFault)
own_tests m part cut i =
    equation Invalid Wide cut.mu (λ n. coef (own_at (inequalities_of m part cut.block) n) i)
    ((cut.gcd *ℤ cut.p0) *ℤ coef (terms_in part cut.block (inner_cost m)) i)
    (neg_ℤ ((cut.gcd *ℤ cut.p0) *ℤ coef (terms_in part cut.block (inner_cost m)) i))

-- on position i of the master the sum is `gcd` times alpha
abbrev pub master_tests : Model → List ℕ → Cut → ℕ → List (Test CutFault)
master_tests m part cut i =
    equation Invalid Wide cut.mu (λ n. coef (master_at (inequalities_of m part cut.block) n) i)
    (cut.gcd *ℤ coef cut.alpha i) (cut.gcd *ℤ coef cut.alpha i)

-- the sum of the right sides is `gcd` times beta
abbrev pub rhs_tests : Model → List ℕ → Cut → List (Test CutFault)
rhs_tests m part cut =
    equation Invalid Wide cut.mu (rhs_at (inequalities_of m part cut.block))
    (cut.gcd *ℤ cut.beta) (cut.gcd *ℤ cut.beta)

-- the equations on all positions of the block, and of the master
abbrev pub own_equations : Model → List ℕ → Cut → List (Test CutFault)
own_equations m part cut = each_below (width_of part cut.block) (own_tests m part cut)

abbrev pub master_equations : Model → List ℕ → Cut → List (Test CutFault)
master_equations m part cut = each_below (width_of part 0) (master_tests m part cut)

-- the factor, and then the equations
abbrev pub sum_tests : Model → List ℕ → Cut → List (Test CutFault)
sum_tests m part cut =
    test Wide (IsNarrow (cut.gcd *ℤ cut.p0))
    ∷ own_equations m part cut
    ++ master_equations m part cut
    ++ rhs_tests m part cut

-- all tests of a cut
abbrev pub cut_tests : Model → List ℕ → Cut → List (Test CutFault)
cut_tests m part cut = form_tests m part cut ++ sum_tests m part cut
