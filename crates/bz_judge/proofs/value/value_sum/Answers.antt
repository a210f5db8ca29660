use Rattle.std.proofs.Common.{rules, ◌≡◌, ℕ, ◌+ℤ◌, ◌*ℤ◌, ℤ, pos, true, false, length, ◌<◌, sym, arith, get_or, FitsSigned, to_z-of_z}
use Rattle.std.specs.Int.{w128}
use Rattle.bz_num.specs.Fold.{goes_wide}
use Rattle.bz_judge.proofs.EtaSums.{eta_step, eta_stop}
use Rattle.bz_judge.proofs.value.value_sum.Goals as goal

pub returns-in_err-push : goal.returns-in_err-push
returns-in_err-push c =
    let i : ℕ = c.loop-eta.eta-index in
    let eta : ℤ = get_or c.as_slice-eta-items.result.now i (pos 0) in
    let within : i < length c.args.master.now.eta = rw c.as_slice-eta-items.ensures at c.loop-eta-test.true in
    let fits : FitsSigned w128 eta = search rules in
    let wide : goes_wide c.loop-eta.folding.sum (pos 1, eta) ≡ true = sym (rw (to_z-of_z fits) at c.in_err-push.ensures.fails) in
    eta_stop c.args.master.now.eta i (pos 0) c.loop-eta.folding.count c.loop-eta.folding.sum c.in_err-push.field-0.0
    c.from_residual-in_err-push.result _ c.from_residual-in_err-push.ensures.1 within (rw c.as_slice-eta-items.ensures at wide)
    c.in_err-push.ensures.place c.loop-eta.invariant.rest

pub loop-eta-preserved : goal.loop-eta-preserved
loop-eta-preserved c =
    let i : ℕ = c.loop-eta.eta-index in
    let eta : ℤ = get_or c.as_slice-eta-items.result.now i (pos 0) in
    let within : i < length c.args.master.now.eta = rw c.as_slice-eta-items.ensures at c.loop-eta-test.true in
    let fits : FitsSigned w128 eta = search rules in
    let narrow : goes_wide c.loop-eta.folding.sum (pos 1, eta) ≡ false = sym (rw (to_z-of_z fits) at c.in_ok-push.ensures.fails) in
    let sum : c.push.new.self.sum ≡ c.loop-eta.folding.sum +ℤ (pos 1 *ℤ eta) = rw (to_z-of_z fits) at c.in_ok-push.ensures.sum in
    record {
      few = omega (arith, c.loop-eta.invariant.few, c.in_ok-push.ensures.count);
      rest = eta_step c.args.master.now.eta i (pos 0) c.loop-eta.folding.count c.push.new.self.count c.loop-eta.folding.sum c.push.new.self.sum _
          within (rw c.as_slice-eta-items.ensures at narrow) (rw c.as_slice-eta-items.ensures at sum) c.in_ok-push.ensures.count c.loop-eta.invariant.rest;
    }
