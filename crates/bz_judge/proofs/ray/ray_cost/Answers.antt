use Rattle.std.proofs.Common.{rules, arith, ◌≡◌, ◌<◌, ℤ, ℕ, pos, ◌+ℤ◌, ◌*ℤ◌, true, false, cond, neg_ℤ, length, get_or, FitsSigned, to_z-of_z, sym}
use Rattle.std.specs.Int.{w128}
use Rattle.bz_num.specs.Fold.{goes_wide}
use Rattle.bz_num.proofs.Reduces.{narrow-at}
use Rattle.bz_model.specs.Points.{coordinate}
use Rattle.bz_model.proofs.Sparse.{below_at}
use Rattle.bz_judge.proofs.RayCosts.{ray_step, ray_stop}
use Rattle.bz_judge.proofs.ray.ray_cost.Goals as goal

pub inner_number-number-requires : goal.inner_number-number-requires
inner_number-number-requires c =
    let entry : ℕ × ℤ = get_or c.as_slice-entry-items.result.now c.loop-entry.entry-index (0, pos 0) in
    let fits : FitsSigned w128 entry.1 = search rules in
    rw (to_z-of_z fits) (rw c.as_slice-entry-items.ensures.value (narrow-at 0 c.args.model.now.cost c.loop-entry.entry-index (0, pos 0) c.as_slice-entry-items.ensures.sparse (rw c.as_slice-entry-items.ensures.value at c.loop-entry-test.true)))

pub bounds-ray-entry : goal.bounds-ray-entry
bounds-ray-entry c =
    below_at _ c.as_slice-entry-items.result.now c.loop-entry.entry-index (0, pos 0) (rw c.as_slice-entry-items.ensures.value c.requires) c.loop-entry-test.true

pub returns-in_err-push : goal.returns-in_err-push
returns-in_err-push c =
    let i : ℕ = c.loop-entry.entry-index in
    let entry : ℕ × ℤ = get_or c.as_slice-entry-items.result.now i (0, pos 0) in
    let within : i < length c.args.model.now.cost = rw c.as_slice-entry-items.ensures.value at c.loop-entry-test.true in
    let fits : FitsSigned w128 entry.1 = search rules in
    let fits_number : FitsSigned w128 c.inner_number-number.result = search rules in
    let fits_step : FitsSigned w128 (coordinate c.args.ray.now entry.0) = search rules in
    let number : c.inner_number-number.result ≡ cond c.args.model.now.maximise (neg_ℤ entry.1) entry.1 = rw (to_z-of_z fits) at c.inner_number-number.ensures.value in
    let wide : goes_wide c.loop-entry.folding.sum (c.inner_number-number.result, coordinate c.args.ray.now entry.0) ≡ true = sym (rw (to_z-of_z fits_number, to_z-of_z fits_step) at c.in_err-push.ensures.fails) in
    ray_stop c.args.model.now.maximise c.args.model.now.cost c.args.ray.now i (0, pos 0) c.inner_number-number.result c.loop-entry.folding.count c.loop-entry.folding.sum c.in_err-push.field-0.0 c.from_residual.result _ c.from_residual.ensures.1 within (rw c.as_slice-entry-items.ensures.value at number) (rw c.as_slice-entry-items.ensures.value at wide) c.in_err-push.ensures.place c.loop-entry.invariant.rest

pub loop-entry-preserved : goal.loop-entry-preserved
loop-entry-preserved c =
    let i : ℕ = c.loop-entry.entry-index in
    let entry : ℕ × ℤ = get_or c.as_slice-entry-items.result.now i (0, pos 0) in
    let within : i < length c.args.model.now.cost = rw c.as_slice-entry-items.ensures.value at c.loop-entry-test.true in
    let fits : FitsSigned w128 entry.1 = search rules in
    let fits_number : FitsSigned w128 c.inner_number-number.result = search rules in
    let fits_step : FitsSigned w128 (coordinate c.args.ray.now entry.0) = search rules in
    let number : c.inner_number-number.result ≡ cond c.args.model.now.maximise (neg_ℤ entry.1) entry.1 = rw (to_z-of_z fits) at c.inner_number-number.ensures.value in
    let narrow : goes_wide c.loop-entry.folding.sum (c.inner_number-number.result, coordinate c.args.ray.now entry.0) ≡ false = sym (rw (to_z-of_z fits_number, to_z-of_z fits_step) at c.in_ok-push.ensures.fails) in
    let sum : c.push.new.self.sum ≡ c.loop-entry.folding.sum +ℤ (c.inner_number-number.result *ℤ coordinate c.args.ray.now entry.0) = rw (to_z-of_z fits_number, to_z-of_z fits_step) at c.in_ok-push.ensures.sum in
    record {
      counted = omega (arith, c.loop-entry.invariant.counted, c.in_ok-push.ensures.count);
      rest = ray_step c.args.model.now.maximise c.args.model.now.cost c.args.ray.now i (0, pos 0) c.inner_number-number.result c.loop-entry.folding.count c.push.new.self.count c.loop-entry.folding.sum c.push.new.self.sum _ within (rw c.as_slice-entry-items.ensures.value at number) (rw c.as_slice-entry-items.ensures.value at narrow) (rw c.as_slice-entry-items.ensures.value at sum) c.in_ok-push.ensures.count c.loop-entry.invariant.rest;
    }
