use Rattle.std.proofs.Common.{rules, ◌≡◌, ◌<◌, ◌≤◌, ◌+◌, ◌++◌, ℕ, ℤ, List, ap, sym, ◌∙◌, arith, FitsSigned, to_z-of_z}
use Rattle.std.specs.Int.{w128}
use Rattle.bz_algebra.specs.Sums.{coef}
use Rattle.bz_num.specs.Row.{IsSparse, entry_at}
use Rattle.bz_model.specs.Limits.{list_limit}
use Rattle.bz_model.specs.Parting.{inner_cost, terms_in, width_of}
use Rattle.bz_std.specs.Posed.{over_columns}
use Rattle.bz_std.proofs.Listed.{listed, listed_next}
use Rattle.bz_std.proofs.Widths.{listed_cost, width_few}
use Rattle.bz_std.proofs.OverColumns.{over_append}
use Rattle.bz_std.proofs.costs.cost_over_columns.Goals as goal

pub push_variable-requires-clause-few : goal.push_variable-requires-clause-few
push_variable-requires-clause-few c =
    let few : width_of c.args.split.now.part c.args.part < list_limit = width_few c.args.split.now c.args.part c.model.ensures.split in
    omega (arith, c.width-position-end.ensures, c.loop-position-test.true)

pub loop-position-preserved : goal.loop-position-preserved
loop-position-preserved c =
    let f : ℕ → ℤ = coef (terms_in c.args.split.now.part c.args.part (inner_cost c.args.split.now.model)) in
    let fits : FitsSigned w128 c.inner_cost.result = search rules in
    let pushed : c.push_variable.new.row ≡ c.loop-position.row ++ over_columns (entry_at c.loop-position.position (f c.loop-position.position)) = rw (to_z-of_z fits, c.inner_cost.ensures.value) at c.in_ok-push_variable.ensures.value in
    record {
      value = rw (listed_next f c.loop-position.position) (pushed ∙ ap (λ (r : List (ℕ × ℤ)). r ++ over_columns (entry_at c.loop-position.position (f c.loop-position.position))) c.loop-position.invariant.value ∙ sym (over_append (listed f c.loop-position.position) (entry_at c.loop-position.position (f c.loop-position.position))));
      below = c.in_ok-push_variable.ensures.below;
    }

pub returns-clause-value : goal.returns-clause-value
returns-clause-value c =
    let split = c.args.split.now in
    let sparse : IsSparse split.model.cost = rw c.model.ensures.value at c.as_slice.ensures.sparse in
    let end : c.loop-position.position ≡ width_of split.part c.args.part = omega (arith, c.loop-position-test.false, c.loop-position.auto.position-end, c.width-position-end.ensures) in
    c.loop-position.invariant.value ∙ rw end (ap over_columns (listed_cost split c.args.part c.model.ensures.split sparse))
