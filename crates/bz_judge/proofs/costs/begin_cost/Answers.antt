use Rattle.std.proofs.Common.{rules, arith, ◌≡◌, ℕ, ℤ, ◌+ℤ◌, ◌*ℤ◌, ◌+◌, List, length, true, false, FitsSigned, to_z-of_z, sym, ◌∙◌}
use Rattle.std.proofs.lemmas.Int.{ints}
use Rattle.std.specs.Int.{w128}
use Rattle.bz_algebra.specs.Sums.{coef}
use Rattle.bz_num.specs.Fold.{goes_wide}
use Rattle.bz_num.specs.Row.{IsSparse}
use Rattle.bz_model.specs.Parting.{inner_cost, terms_in}
use Rattle.bz_model.specs.Points.{coordinate}
use Rattle.bz_judge.proofs.CostSums.{cost_sparse, part_cost_within, stands_end, stands_none, stands_some, stands_start, stands_wide}
use Rattle.bz_judge.proofs.costs.begin_cost.Goals as goal
use Rattle.bz_judge.proofs.costs.begin_cost.Goals.{then-cost-ne0+in_ok-push, else-cost-ne0}

pub loop-position-init : goal.loop-position-init
loop-position-init c =
    let sparse : IsSparse c.args.split.now.model.cost = rw c.model.ensures.value at c.as_slice.ensures.sparse in
    record {
      few = omega (arith, c.new-folding.ensures.count);
      rest = rw (c.new-folding.ensures.count, c.new-folding.ensures.sum) (stands_start (terms_in c.args.split.now.part c.args.part (inner_cost c.args.split.now.model)) c.args.point.now (cost_sparse c.args.split.now c.args.part c.model.ensures.split sparse));
    }

pub returns-in_err-push-clause-begins : goal.returns-in_err-push-clause-begins
returns-in_err-push-clause-begins c =
    let sparse : IsSparse c.args.split.now.model.cost = rw c.model.ensures.value at c.as_slice.ensures.sparse in
    let cost : ℤ = c.inner_cost-cost.result in
    let number : ℤ = coordinate c.args.point.now c.loop-position.position in
    let fits : FitsSigned w128 cost = search rules in
    let fits_too : FitsSigned w128 number = search rules in
    let wide : goes_wide c.loop-position.folding.sum (cost, number) ≡ true = sym (rw (to_z-of_z fits, to_z-of_z fits_too) at c.in_err-push.ensures.fails) in
    stands_wide (terms_in c.args.split.now.part c.args.part (inner_cost c.args.split.now.model)) c.args.point.now c.loop-position.position cost c.loop-position.folding c.in_err-push.field-0.0 c.from_residual.result c.from_residual.ensures.1 (cost_sparse c.args.split.now c.args.part c.model.ensures.split sparse) (sym c.inner_cost-cost.ensures.value) (λ z. grind (arith, ints)) wide c.in_err-push.ensures.place c.loop-position.invariant.rest

pub loop-position-preserved : goal.loop-position-preserved
loop-position-preserved c =
    let sparse : IsSparse c.args.split.now.model.cost = rw c.model.ensures.value at c.as_slice.ensures.sparse in
    let terms : List (ℕ × ℤ) = terms_in c.args.split.now.part c.args.part (inner_cost c.args.split.now.model) in
    let sparse_terms : IsSparse terms = cost_sparse c.args.split.now c.args.part c.model.ensures.split sparse in
    let cost : ℤ = c.inner_cost-cost.result in
    let number : ℤ = coordinate c.args.point.now c.loop-position.position in
    let fits : FitsSigned w128 cost = search rules in
    let known : coef terms c.loop-position.position ≡ cost = sym c.inner_cost-cost.ensures.value in
    elim c.if-cost-ne0.branch [
      | then-cost-ne0+in_ok-push w ↦
          let fits_too : FitsSigned w128 number = search rules in
          let narrow : goes_wide c.loop-position.folding.sum (cost, number) ≡ false = sym (rw (to_z-of_z fits, to_z-of_z fits_too) at w.in_ok-push.ensures.fails) in
          let sum : c.if-cost-ne0.folding.sum ≡ c.loop-position.folding.sum +ℤ (cost *ℤ number) = rw w.folding-is (rw (to_z-of_z fits, to_z-of_z fits_too) at w.in_ok-push.ensures.sum) in
          let count : c.if-cost-ne0.folding.count ≡ c.loop-position.folding.count + 1 = rw w.folding-is w.in_ok-push.ensures.count in
          record {
            few = omega (arith, c.loop-position.invariant.few);
            rest = stands_some terms c.args.point.now c.loop-position.position cost c.loop-position.folding c.if-cost-ne0.folding sparse_terms known (λ z. grind (arith, ints)) narrow sum count c.loop-position.invariant.rest;
          }
      | else-cost-ne0 w ↦ rw w.folding-is (record {
        few = omega (arith, c.loop-position.invariant.few);
        rest = stands_none terms c.args.point.now c.loop-position.position c.loop-position.folding sparse_terms (known ∙ grind (arith, ints)) c.loop-position.invariant.rest;
      })
    ]

pub returns-clause-begins : goal.returns-clause-begins
returns-clause-begins c =
    stands_end (terms_in c.args.split.now.part c.args.part (inner_cost c.args.split.now.model)) c.args.point.now (length c.args.point.now) c.loop-position.position c.loop-position.folding (rw c.requires.point (part_cost_within c.args.split.now c.args.part c.model.ensures.split)) c.loop-position-test.false c.loop-position.invariant.rest
