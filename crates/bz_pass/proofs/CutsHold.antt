-- A valid cut holds at every feasible point, with the block's inner cost there as its eta.
use Rattle.std.specs.Prelude.{ℕ, suc, ◌≡◌, ℤ, ◌+ℤ◌, ◌*ℤ◌, ◌≤ℤ◌, neg_ℤ, List}
use Rattle.std.specs.List.{AllByRecursion}
use Rattle.std.proofs.Common.{◌∙◌}
use Rattle.bz_algebra.specs.Sums.{dot, coef, upto}
use Rattle.bz_model.specs.declared.Model.{Model}
use Rattle.bz_model.specs.Meeting.{MeetsAllParts}
use Rattle.bz_model.specs.Parting.{blocks_of, width_of, terms_in, inequalities_of, inner_cost}
use Rattle.bz_model.specs.Points.{coordinate, IsFeasible}
use Rattle.bz_model.specs.Splits.{FitsPart}
use Rattle.bz_model.proofs.Inequalities.{inequalities_fit}
use Rattle.bz_model.proofs.MeetingParts.{all_then, feasible_meets, meeting_is_feasible}
use Rattle.bz_model.proofs.PartSums.{at_part, dot_by_parts}
use Rattle.bz_cut.specs.declared.Cut.{Cut}
use Rattle.bz_cut.specs.Cuts.{IsValid}
use Rattle.bz_model.specs.Decomposed.{IsDecomposed}
use Rattle.bz_model.proofs.InnerCosts.{cost_terms_within, cost_within}
use Rattle.bz_pass.proofs.Fractional.{divided}
use Rattle.bz_model.proofs.Numbered.{upto_first}
use Rattle.bz_pass.proofs.Sides.{FitsIn, sum_holds, upto_multiple, upto_multiple_neg}

pub meets : (m : Model) (part : List ℕ) (p : List ℤ) (q : ℤ) → IsDecomposed m part → IsFeasible m p q → MeetsAllParts m part p q
meets m part p q d f = feasible_meets m part p q d.columns d.partition d.strict.rows f

pub feasible : (m : Model) (part : List ℕ) (p : List ℤ) (q : ℤ) → IsDecomposed m part → MeetsAllParts m part p q → IsFeasible m p q
feasible m part p q d f = meeting_is_feasible m part p q d.columns d.partition d.strict.rows f

-- ---- the inner cost
-- the inner cost of a part at the numerators p
abbrev pub cost_of_part : Model → List ℕ → List ℤ → ℕ → ℤ
cost_of_part m part p b = dot (terms_in part b (inner_cost m)) (at_part part b (coordinate p))

-- the inner cost is the master's and the blocks'
pub cost_by_parts : (m : Model) (part : List ℕ) (p : List ℤ) → IsDecomposed m part → dot (inner_cost m) (coordinate p) ≡ cost_of_part m part p 0 +ℤ upto (blocks_of part) (λ k. cost_of_part m part p (suc k))
cost_by_parts m part p d = dot_by_parts part (inner_cost m) (coordinate p) (cost_within m part d) ∙ upto_first (blocks_of part) (cost_of_part m part p)

-- ---- the inequalities of a part
pub part_fits : (m : Model) (part : List ℕ) (b : ℕ) → IsDecomposed m part → AllByRecursion (FitsIn (width_of part b) (width_of part 0)) (inequalities_of m part b)
part_fits m part b d = all_then (FitsPart part b) (FitsIn (width_of part b) (width_of part 0)) (inequalities_of m part b)
    (inequalities_fit m part b d.columns d.partition.numbers)
    (λ i f. record { own = f.own; master = f.master })

-- ---- a cut
pub cut_holds : (m : Model) (part : List ℕ) (cut : Cut) (p : List ℤ) (q : ℤ) → IsDecomposed m part → IsValid m part cut → MeetsAllParts m part p q → ((neg_ℤ cut.p0 *ℤ cost_of_part m part p cut.block) +ℤ dot cut.alpha (at_part part 0 (coordinate p))) ≤ℤ (cut.beta *ℤ q)
cut_holds m part cut p q d v f =
    divided cut.gcd cut.p0 (cost_of_part m part p cut.block) (dot cut.alpha y) cut.beta q v.gcd
    (rw (← own_sum, ← master_sum)
    (sum_holds (width_of part cut.block) (width_of part 0) (inequalities_of m part cut.block) cut.mu x y
    (λ i. neg_ℤ ((cut.gcd *ℤ cut.p0) *ℤ coef (terms_in part cut.block (inner_cost m)) i))
    (λ j. cut.gcd *ℤ coef cut.alpha j)
    q (cut.gcd *ℤ cut.beta)
    (part_fits m part cut.block d)
    (f.inequalities cut.block v.block.1)
    v.mu v.own v.master v.rhs))
  where
    x : ℕ → ℤ
    x = at_part part cut.block (coordinate p)

    y : ℕ → ℤ
    y = at_part part 0 (coordinate p)

    own_sum : upto (width_of part cut.block) (λ i. neg_ℤ ((cut.gcd *ℤ cut.p0) *ℤ coef (terms_in part cut.block (inner_cost m)) i) *ℤ x i) ≡ neg_ℤ ((cut.gcd *ℤ cut.p0) *ℤ cost_of_part m part p cut.block)
    own_sum = upto_multiple_neg (width_of part cut.block) (cut.gcd *ℤ cut.p0) (terms_in part cut.block (inner_cost m)) x (cost_terms_within m part cut.block d)

    master_sum : upto (width_of part 0) (λ j. (cut.gcd *ℤ coef cut.alpha j) *ℤ y j) ≡ cut.gcd *ℤ dot cut.alpha y
    master_sum = upto_multiple (width_of part 0) cut.gcd cut.alpha y v.alpha

-- the cut as it is read: alpha x - p0 eta <= beta at each feasible point x / q, eta / q
pub valid_cut_holds : (m : Model) (part : List ℕ) (cut : Cut) (p : List ℤ) (q : ℤ) → IsDecomposed m part → IsValid m part cut → IsFeasible m p q → ((neg_ℤ cut.p0 *ℤ cost_of_part m part p cut.block) +ℤ dot cut.alpha (at_part part 0 (coordinate p))) ≤ℤ (cut.beta *ℤ q)
valid_cut_holds m part cut p q d v f = cut_holds m part cut p q d v (meets m part p q d f)
