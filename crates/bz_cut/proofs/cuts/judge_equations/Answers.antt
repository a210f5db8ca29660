use Rattle.std.proofs.Common.{◌≡◌, ◌*ℤ◌, rules, inr, Err, List, ◌∷◌, ◌++◌, FitsSigned, to_z-of_z}
use Rattle.std.specs.Int.{w128}
use Rattle.bz_algebra.specs.Numbers.{IsNarrow}
use Rattle.bz_cut.specs.declared.faults.CutFault.{CutFault}
use Rattle.bz_cut.specs.declared.faults.CutFault.TheVariants.{Wide}
use Rattle.bz_cut.specs.CutTests.{master_equations, own_equations, rhs_tests}
use Rattle.bz_first.specs.Tests.{Test, test}
use Rattle.bz_first.proofs.TestLemmas.{all_joined, fault_behind, fault_in_front, judges_handed, judges_then}
use Rattle.bz_cut.proofs.cuts.judge_equations.Goals as goal

pub returns-in_err-judge_own : goal.returns-in_err-judge_own
returns-in_err-judge_own c =
    let fault : CutFault = c.in_err-judge_own.field-0.0 in
    let e : c.from_residual-in_err-judge_own.result ≡ Err fault = search rules in
    let fits_gcd : FitsSigned w128 c.args.cut.now.gcd = search rules in
    let fits_p0 : FitsSigned w128 c.args.cut.now.p0 = search rules in
    let narrow : IsNarrow (c.args.cut.now.gcd *ℤ c.args.cut.now.p0) = (rw (to_z-of_z fits_gcd, to_z-of_z fits_p0) at c.in_ok-factor.ensures.judges).0 in
    let own : List (Test CutFault) = own_equations c.args.split.now.model c.args.split.now.part c.args.cut.now in
    let master : List (Test CutFault) = master_equations c.args.split.now.model c.args.split.now.part c.args.cut.now in
    let rhs : List (Test CutFault) = rhs_tests c.args.split.now.model c.args.split.now.part c.args.cut.now in
    judges_handed (test Wide (IsNarrow (c.args.cut.now.gcd *ℤ c.args.cut.now.p0)) ∷ (own ++ master) ++ rhs) c.from_residual-in_err-judge_own.result fault e
    (inr (narrow, fault_in_front (own ++ master) rhs fault (fault_in_front own master fault c.in_err-judge_own.ensures)))

pub returns-in_err-judge_master : goal.returns-in_err-judge_master
returns-in_err-judge_master c =
    let fault : CutFault = c.in_err-judge_master.field-0.0 in
    let e : c.from_residual-in_err-judge_master.result ≡ Err fault = search rules in
    let fits_gcd : FitsSigned w128 c.args.cut.now.gcd = search rules in
    let fits_p0 : FitsSigned w128 c.args.cut.now.p0 = search rules in
    let narrow : IsNarrow (c.args.cut.now.gcd *ℤ c.args.cut.now.p0) = (rw (to_z-of_z fits_gcd, to_z-of_z fits_p0) at c.in_ok-factor.ensures.judges).0 in
    let own : List (Test CutFault) = own_equations c.args.split.now.model c.args.split.now.part c.args.cut.now in
    let master : List (Test CutFault) = master_equations c.args.split.now.model c.args.split.now.part c.args.cut.now in
    let rhs : List (Test CutFault) = rhs_tests c.args.split.now.model c.args.split.now.part c.args.cut.now in
    judges_handed (test Wide (IsNarrow (c.args.cut.now.gcd *ℤ c.args.cut.now.p0)) ∷ (own ++ master) ++ rhs) c.from_residual-in_err-judge_master.result fault e
    (inr (narrow, fault_in_front (own ++ master) rhs fault (fault_behind own master fault c.in_ok-judge_own.ensures c.in_err-judge_master.ensures)))

pub returns : goal.returns
returns c =
    let fits_gcd : FitsSigned w128 c.args.cut.now.gcd = search rules in
    let fits_p0 : FitsSigned w128 c.args.cut.now.p0 = search rules in
    let narrow : IsNarrow (c.args.cut.now.gcd *ℤ c.args.cut.now.p0) = (rw (to_z-of_z fits_gcd, to_z-of_z fits_p0) at c.in_ok-factor.ensures.judges).0 in
    let own : List (Test CutFault) = own_equations c.args.split.now.model c.args.split.now.part c.args.cut.now in
    let master : List (Test CutFault) = master_equations c.args.split.now.model c.args.split.now.part c.args.cut.now in
    let rhs : List (Test CutFault) = rhs_tests c.args.split.now.model c.args.split.now.part c.args.cut.now in
    judges_then (test Wide (IsNarrow (c.args.cut.now.gcd *ℤ c.args.cut.now.p0)) ∷ own ++ master) rhs c.judge_rhs.result
    (narrow, all_joined own master c.in_ok-judge_own.ensures c.in_ok-judge_master.ensures) c.judge_rhs.ensures
