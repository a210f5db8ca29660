use Rattle.std.proofs.Common.{rules, refl, ◌≡◌, ◌∙◌, ap, subst, ℤ, List, length, FitsSigned, to_z-of_z}
use Rattle.std.specs.Int.{w128}
use Rattle.std.specs.List.{AllByRecursion}
use Rattle.bz_num.specs.Dense.{entry}
use Rattle.bz_model.specs.Points.{IsWhole}
use Rattle.bz_lex.proofs.Results.{if_err_then}
use Rattle.bz_std.specs.Meanings.{differences}
use Rattle.bz_std.specs.NumberLists.{HasNumbers}
use Rattle.bz_event.specs.Nodes.{IsFirstFractional, IsRoundedDown}
use Rattle.bz_node.specs.NodePrograms.{mode_of, variables_of}
use Rattle.bz_node.proofs.Fractions.{first_inside, same_fractional, same_whole}
use Rattle.bz_node.proofs.LeastSteps.{cost_leaf_is, least_at, least_numbers, leaf_stops, point_stops, positions_inside, possible}
use Rattle.bz_node.proofs.least.least_answer.Goals as goal

pub cost_leaf-requires-clause-numbers : goal.cost_leaf-requires-clause-numbers
cost_leaf-requires-clause-numbers c = least_numbers c.args.program.now c.requires.program c.args.basis c.args.z.now c.args.y.now c.requires.least

pub returns-in-Err-clause-stop : goal.returns-in-Err-clause-stop
returns-in-Err-clause-stop c = rw c.leaf_stop.ensures (leaf_stops c.args.program.now c.requires.program c.args.basis c.args.z.now c.args.y.now c.requires.least c.in-Err.stop c.in-Err.ensures.stop)

pub first_fractional-requires-clause-inside : goal.first_fractional-requires-clause-inside
first_fractional-requires-clause-inside c =
    positions_inside c.args.program.now c.requires.program (length c.as_slice-2.result.now) (ap length c.as_slice-2.ensures ∙ c.in_ok-numbers.ensures.width ∙ c.variables.ensures)

pub bounds-as_slice-position : goal.bounds-as_slice-position
bounds-as_slice-position c =
    first_inside c.args.program.now.positions.now (length c.as_slice-in-Some.result.now) (entry c.as_slice-2.result.now) _ c.in-Some.position
    (positions_inside c.args.program.now c.requires.program (length c.as_slice-in-Some.result.now) (ap length c.as_slice-in-Some.ensures ∙ c.in_ok-numbers.ensures.width ∙ c.variables.ensures))
    c.in-Some.ensures

pub point_answer-requires-clause-point : goal.point_answer-requires-clause-point
point_answer-requires-clause-point c =
    let n = c.args.program.now in
    let v = differences (entry c.args.z.now.num) in
    let least = least_at n c.requires.program c.args.basis c.args.z.now c.args.y.now c.requires.least in
    let fits : FitsSigned w128 c.args.z.now.den = search rules in
    let made : HasNumbers (variables_of n) v c.in_ok-numbers.numbers = rw (c.as_slice.ensures, c.variables.ensures) at c.in_ok-numbers.ensures in
    let whole : AllByRecursion (λ p. IsWhole (entry c.as_slice-2.result.now p) c.args.z.now.den) n.positions.now = rw (to_z-of_z fits) at c.in-None.ensures in
    record {
      meets = least.meets;
      whole = rw (← c.requires.program.positions_are) (same_whole n.positions.now (variables_of n) (entry c.as_slice-2.result.now) v c.args.z.now.den
          (positions_inside n c.requires.program (variables_of n) refl)
          (λ j l. ap (λ (xs : List ℤ). entry xs j) c.as_slice-2.ensures ∙ made.numbers j l)
          whole);
      leaf_is = cost_leaf_is n (mode_of n) v c.args.z.now.den c.args.y.now c.in-Ok.leaf least c.in-Ok.ensures.leaf;
    }

pub returns-in-Some-clause-answer : goal.returns-in-Some-clause-answer
returns-in-Some-clause-answer c =
    let n = c.args.program.now in
    let v = differences (entry c.args.z.now.num) in
    let least = least_at n c.requires.program c.args.basis c.args.z.now c.args.y.now c.requires.least in
    let fits : FitsSigned w128 c.args.z.now.den = search rules in
    let made : HasNumbers (variables_of n) v c.in_ok-numbers.numbers = rw (c.as_slice.ensures, c.variables.ensures) at c.in_ok-numbers.ensures in
    let inside = positions_inside n c.requires.program (variables_of n) refl in
    let found : IsFirstFractional n.positions.now (entry c.as_slice-2.result.now) c.args.z.now.den c.in-Some.position = rw (to_z-of_z fits) at c.in-Some.ensures in
    let number : ℤ = entry c.as_slice-in-Some.result.now c.in-Some.position in
    let number_is : number ≡ v c.in-Some.position = ap (λ (xs : List ℤ). entry xs c.in-Some.position) c.as_slice-in-Some.ensures ∙ made.numbers c.in-Some.position (first_inside n.positions.now (variables_of n) (entry c.as_slice-2.result.now) c.args.z.now.den c.in-Some.position inside found) in
    let number_fits : FitsSigned w128 number = search rules in
    let value_fits : FitsSigned w128 c.rounded_down.result = search rules in
    let rounded : IsRoundedDown number c.args.z.now.den c.rounded_down.result = rw (to_z-of_z number_fits, to_z-of_z fits) at c.rounded_down.ensures in
    record {
      z = c.args.z.now;
      y = c.args.y.now;
      least = c.requires.least;
      first = rw (← c.requires.program.positions_are) (same_fractional n.positions.now (variables_of n) (entry c.as_slice-2.result.now) v c.args.z.now.den inside
          (λ j l. ap (λ (xs : List ℤ). entry xs j) c.as_slice-2.ensures ∙ made.numbers j l)
          c.in-Some.position found);
      rounded = rw (to_z-of_z value_fits) (subst (λ (x : ℤ). IsRoundedDown x c.args.z.now.den c.rounded_down.result) number_is rounded);
      leaf_is = cost_leaf_is n (mode_of n) v c.args.z.now.den c.args.y.now c.in-Ok.leaf least c.in-Ok.ensures.leaf;
      possible = possible n c.requires.program c.args.basis c.args.z.now c.args.y.now c.requires.least;
    }

pub returns-in-None-clause-stop : goal.returns-in-None-clause-stop
returns-in-None-clause-stop c =
    if_err_then c.point_answer.result (point_stops c.args.program.now c.requires.program c.args.basis c.args.z.now c.args.y.now c.requires.least) c.point_answer.ensures.stop
