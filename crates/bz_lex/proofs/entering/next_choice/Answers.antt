-- The choice of one column more.
use Rattle.std.proofs.Common.{pos, ◌≤ℤ◌, ◌<ℤ◌, rules, FitsSigned, to_z-of_z}
use Rattle.std.specs.Int.{w128}
use Rattle.bz_lex.proofs.PhaseSteps.{choice_same, choice_kept, choice_new, second_is}
use Rattle.bz_lex.proofs.entering.next_choice.Goals as goal

pub returns-then-objective-ge0 : goal.returns-then-objective-ge0
returns-then-objective-ge0 c =
    let fits : FitsSigned w128 c.objective.result = search rules in
    let test = rw (to_z-of_z fits) at c.if-objective-ge0.true in
    let sign : (pos 0) ≤ℤ c.objective.result = search rules in
    choice_same c.args.tableau.now c.args.column c.args.choice c.requires.choice (rw c.objective.ensures.value at sign)

pub returns-in-Some : goal.returns-in-Some
returns-in-Some c =
    let before = rw c.in-Some.is at c.requires.choice in
    rw c.in-Some.is (choice_kept c.args.tableau.now c.args.column c.in-Some.field-0-0 c.in-Some.least c.greatest_size-size.result before c.greatest_size-size.ensures c.if-least-size.true)

pub returns-in_default : goal.returns-in_default
returns-in_default c =
    let fits : FitsSigned w128 c.objective.result = search rules in
    let test = rw (to_z-of_z fits) at c.if-objective-ge0.false in
    let sign : c.objective.result <ℤ (pos 0) = search rules in
    choice_new c.args.tableau.now c.args.column c.greatest_size-size.result c.args.choice c.requires.column c.requires.choice (rw c.objective.ensures.value at sign) c.greatest_size-size.ensures
    (λ b e. second_is c.args.choice c.in-Some.field-0-0 c.in-Some.least c.greatest_size-size.result c.in-Some.is c.if-least-size.false b e)
