use Rattle.std.proofs.Common.{rules, ◌≡◌, ◌*◌, subst, ℕ, length, arith, pos, ◌<ℤ◌, ◌≤ℤ◌, true, FitsSigned, to_z-of_z}
use Rattle.std.proofs.lemmas.Int.{ints}
use Rattle.std.specs.Int.{w128}
use Rattle.bz_num.specs.Dense.{entry}
use Rattle.bz_model.specs.Decomposed.{IsDecomposed}
use Rattle.bz_model.specs.Parting.{inequalities_of, width_of}
use Rattle.bz_model.proofs.InnerCosts.{decomposed}
use Rattle.bz_tableau.specs.Answers.{IsLeast}
use Rattle.bz_tableau.specs.Programs.{program_of}
use Rattle.bz_std.specs.CutsFrom.{cost_multiplier}
use Rattle.bz_std.proofs.Combined.{rise_meets}
use Rattle.bz_sep.proofs.CutAnswers.{balances, cut_answers, makes_some, multipliers_count, rise}
use Rattle.bz_sep.proofs.FillAnswers.{fill_answers}
use Rattle.bz_sep.proofs.separating.find_answer.Goals as goal

pub eta_multiplier-raw-requires : goal.eta_multiplier-raw-requires
eta_multiplier-raw-requires c =
    let m = c.args.split.now.model in
    let part = c.args.split.now.part in
    let task = c.args.task.now in
    let lp = c.args.lp.now in
    let d : IsDecomposed m part = decomposed c.args.split.now c.inequalities-inequalities.ensures.split in
    let z = c.in-Least.z in
    let y = c.in-Least.y in
    let l : IsLeast true (program_of lp) c.in-Least.basis z y = rw c.in-Least.is at c.in_ok-basis.ensures.answers in
    rw (c.inequalities-inequalities.ensures.value, c.as_slice.ensures) (multipliers_count m part d task.block task.point task.mode lp c.requires.program c.in-Least.basis z y l)

pub fitting_cut-made-requires-clause-inside : goal.fitting_cut-made-requires-clause-inside
fitting_cut-made-requires-clause-inside c =
    let m = c.args.split.now.model in
    let part = c.args.split.now.part in
    let task = c.args.task.now in
    let lp = c.args.lp.now in
    let d : IsDecomposed m part = decomposed c.args.split.now c.inequalities-inequalities.ensures.split in
    let z = c.in-Least.z in
    let y = c.in-Least.y in
    let l : IsLeast true (program_of lp) c.in-Least.basis z y = rw c.in-Least.is at c.in_ok-basis.ensures.answers in
    let count = multipliers_count m part d task.block task.point task.mode lp c.requires.program c.in-Least.basis z y l in
    rw c.as_slice-then-rises.ensures (omega (arith, count))

pub fitting_cut-made-requires-clause-balanced : goal.fitting_cut-made-requires-clause-balanced
fitting_cut-made-requires-clause-balanced c =
    let m = c.args.split.now.model in
    let part = c.args.split.now.part in
    let task = c.args.task.now in
    let lp = c.args.lp.now in
    let d : IsDecomposed m part = decomposed c.args.split.now c.inequalities-inequalities.ensures.split in
    let z = c.in-Least.z in
    let y = c.in-Least.y in
    let l : IsLeast true (program_of lp) c.in-Least.basis z y = rw c.in-Least.is at c.in_ok-basis.ensures.answers in
    let fits_raw : FitsSigned w128 c.eta_multiplier-raw.result = search rules in
    let raw_is : c.eta_multiplier-raw.result ≡ cost_multiplier task.mode (length (inequalities_of m part task.block)) (entry y.num) = rw (c.inequalities-inequalities.ensures.value, c.as_slice.ensures) at c.eta_multiplier-raw.ensures in
    rw (to_z-of_z fits_raw, raw_is, c.as_slice-then-rises.ensures) (balances m part d task.block task.point task.mode lp c.requires.program c.in-Least.basis z y l)

pub fitting_cut-made-requires-clause-some : goal.fitting_cut-made-requires-clause-some
fitting_cut-made-requires-clause-some c =
    let m = c.args.split.now.model in
    let part = c.args.split.now.part in
    let task = c.args.task.now in
    let lp = c.args.lp.now in
    let d : IsDecomposed m part = decomposed c.args.split.now c.inequalities-inequalities.ensures.split in
    let z = c.in-Least.z in
    let y = c.in-Least.y in
    let l : IsLeast true (program_of lp) c.in-Least.basis z y = rw c.in-Least.is at c.in_ok-basis.ensures.answers in
    let fits_raw : FitsSigned w128 c.eta_multiplier-raw.result = search rules in
    let raw_is : c.eta_multiplier-raw.result ≡ cost_multiplier task.mode (length (inequalities_of m part task.block)) (entry y.num) = rw (c.inequalities-inequalities.ensures.value, c.as_slice.ensures) at c.eta_multiplier-raw.ensures in
    let above : (pos 0) <ℤ (entry z.num (2 * width_of part task.block)) = subst (λ (n : ℕ). (pos 0) <ℤ (entry z.num n)) c.requires.program.program.columns c.if-rises.ensures in
    rw (to_z-of_z fits_raw, raw_is, c.as_slice-then-rises.ensures) (makes_some m part d task.block task.point task.mode lp c.requires.program c.in-Least.basis z y l above)

pub returns-then-rises : goal.returns-then-rises
returns-then-rises c =
    let m = c.args.split.now.model in
    let part = c.args.split.now.part in
    let task = c.args.task.now in
    let lp = c.args.lp.now in
    let d : IsDecomposed m part = decomposed c.args.split.now c.inequalities-inequalities.ensures.split in
    let z = c.in-Least.z in
    let y = c.in-Least.y in
    let l : IsLeast true (program_of lp) c.in-Least.basis z y = rw c.in-Least.is at c.in_ok-basis.ensures.answers in
    let fits_raw : FitsSigned w128 c.eta_multiplier-raw.result = search rules in
    let raw_is : c.eta_multiplier-raw.result ≡ cost_multiplier task.mode (length (inequalities_of m part task.block)) (entry y.num) = rw (c.inequalities-inequalities.ensures.value, c.as_slice.ensures) at c.eta_multiplier-raw.ensures in
    let above : (pos 0) <ℤ (entry z.num (2 * width_of part task.block)) = subst (λ (n : ℕ). (pos 0) <ℤ (entry z.num n)) c.requires.program.program.columns c.if-rises.ensures in
    rw c.cut_answer.ensures (cut_answers m part d task.block task.point task.mode lp c.requires.program c.in-Least.basis z y l above c.fitting_cut-made.result
    (rw (to_z-of_z fits_raw, raw_is, c.as_slice-then-rises.ensures) at c.fitting_cut-made.ensures.cut)
    (rw (to_z-of_z fits_raw, raw_is, c.as_slice-then-rises.ensures) at c.fitting_cut-made.ensures.stop))

pub judged_fill-requires-clause-meets : goal.judged_fill-requires-clause-meets
judged_fill-requires-clause-meets c =
    let m = c.args.split.now.model in
    let part = c.args.split.now.part in
    let task = c.args.task.now in
    let lp = c.args.lp.now in
    let d : IsDecomposed m part = decomposed c.args.split.now c.inequalities-inequalities.ensures.split in
    let z = c.in-Least.z in
    let y = c.in-Least.y in
    let l : IsLeast true (program_of lp) c.in-Least.basis z y = rw c.in-Least.is at c.in_ok-basis.ensures.answers in
    let below : (entry z.num (2 * width_of part task.block)) ≤ℤ (pos 0) = subst (λ (n : ℕ). (entry z.num n) ≤ℤ (pos 0)) c.requires.program.program.columns c.if-rises.ensures in
    let r = rise m part d task.block task.point task.mode lp c.requires.program c.in-Least.basis z y l in
    rise_meets _ _ _ _ _ _ r (omega (arith, ints, r.nonnegative, below))

pub returns : goal.returns
returns c =
    let m = c.args.split.now.model in
    let part = c.args.split.now.part in
    let task = c.args.task.now in
    let lp = c.args.lp.now in
    let l : IsLeast true (program_of lp) c.in-Least.basis c.in-Least.z c.in-Least.y = rw c.in-Least.is at c.in_ok-basis.ensures.answers in
    rw c.fill_answer.ensures (fill_answers m part task.block task.point task.mode lp c.requires.program c.in-Least.basis c.in-Least.z c.in-Least.y l c.judged_fill.result c.judged_fill.ensures)
