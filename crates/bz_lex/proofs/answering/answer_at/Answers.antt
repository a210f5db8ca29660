-- Each return is what the tableau's signs say.
use Rattle.std.proofs.Common.{sym, ◌∙◌, true≢false}
use Rattle.bz_lex.proofs.Outcomes.{outcome_answer, outcome_narrow, outcome_refused, outcome_first, least_outcome, ray_right, small_least, small_ray, none_without_point, none_without_cost, no_signs_without_point, no_signs_without_cost}
use Rattle.bz_lex.proofs.answering.answer_at.Goals as goal

pub returns-then-not-has_point-clause-answer : goal.returns-then-not-has_point-clause-answer
returns-then-not-has_point-clause-answer c = none_without_point c.args.relaxed c.args.lp.now c.args.tableau.now c.requires.tableau c.if-not-has_point.ensures

pub answered-requires : goal.answered-requires
answered-requires c = small_least c.args.relaxed c.args.lp.now c.args.tableau.now c.requires.tableau c.requires.lp c.in_ok-outcome.outcome c.in_ok-outcome.ensures

pub returns-then-has_least_cost-clause-answer : goal.returns-then-has_least_cost-clause-answer
returns-then-has_least_cost-clause-answer c =
    let shown = rw c.basis.ensures at c.answered.ensures in
    outcome_answer c.args.relaxed c.args.lp.now c.args.tableau.now.basis c.in_ok-outcome.outcome c.answered.result shown
    (least_outcome c.args.relaxed c.args.lp.now c.args.tableau.now c.requires.tableau c.if-not-has_point.ensures c.if-has_least_cost.ensures c.in_ok-outcome.outcome c.in_ok-outcome.ensures)

pub returns-then-has_least_cost-clause-narrow : goal.returns-then-has_least_cost-clause-narrow
returns-then-has_least_cost-clause-narrow c =
    let shown = rw c.basis.ensures at c.answered.ensures in
    outcome_narrow c.args.relaxed c.args.lp.now c.args.tableau.now.basis c.in_ok-outcome.outcome c.answered.result shown
    (least_outcome c.args.relaxed c.args.lp.now c.args.tableau.now c.requires.tableau c.if-not-has_point.ensures c.if-has_least_cost.ensures c.in_ok-outcome.outcome c.in_ok-outcome.ensures)

pub returns-then-has_least_cost-clause-refused : goal.returns-then-has_least_cost-clause-refused
returns-then-has_least_cost-clause-refused c =
    let shown = rw c.basis.ensures at c.answered.ensures in
    outcome_refused c.args.relaxed c.args.lp.now c.args.tableau.now.basis c.in_ok-outcome.outcome c.answered.result shown
    (least_outcome c.args.relaxed c.args.lp.now c.args.tableau.now c.requires.tableau c.if-not-has_point.ensures c.if-has_least_cost.ensures c.in_ok-outcome.outcome c.in_ok-outcome.ensures)

pub returns-then-has_least_cost-clause-first : goal.returns-then-has_least_cost-clause-first
returns-then-has_least_cost-clause-first c =
    let shown = rw c.basis.ensures at c.answered.ensures in
    outcome_first c.args.relaxed c.args.lp.now c.args.tableau.now.basis c.in_ok-outcome.outcome c.answered.result shown
    (least_outcome c.args.relaxed c.args.lp.now c.args.tableau.now c.requires.tableau c.if-not-has_point.ensures c.if-has_least_cost.ensures c.in_ok-outcome.outcome c.in_ok-outcome.ensures)

pub returns-then-relaxed-clause-answer : goal.returns-then-relaxed-clause-answer
returns-then-relaxed-clause-answer c = none_without_cost c.args.relaxed c.args.lp.now c.args.tableau.now c.requires.tableau c.if-has_least_cost.ensures (λ e. absurd (true≢false (sym c.if-relaxed.true ∙ e)))

pub answered-requires-in-Some : goal.answered-requires-in-Some
answered-requires-in-Some c = small_ray c.args.relaxed c.args.lp.now c.args.tableau.now c.in-Some.column c.requires.tableau c.requires.lp c.in_ok-outcome-in-Some.outcome c.in_ok-outcome-in-Some.ensures

pub returns-in_ok-outcome-in-Some-clause-answer : goal.returns-in_ok-outcome-in-Some-clause-answer
returns-in_ok-outcome-in-Some-clause-answer c =
    let shown = rw c.basis-in-Some.ensures at c.answered-in-Some.ensures in
    outcome_answer c.args.relaxed c.args.lp.now c.args.tableau.now.basis c.in_ok-outcome-in-Some.outcome c.answered-in-Some.result shown
    (ray_right c.args.relaxed c.args.lp.now c.args.tableau.now c.requires.tableau c.if-relaxed.false c.if-not-has_point.ensures c.in-Some.column c.in-Some.ensures c.in_ok-outcome-in-Some.outcome c.in_ok-outcome-in-Some.ensures)

pub returns-in_ok-outcome-in-Some-clause-narrow : goal.returns-in_ok-outcome-in-Some-clause-narrow
returns-in_ok-outcome-in-Some-clause-narrow c =
    let shown = rw c.basis-in-Some.ensures at c.answered-in-Some.ensures in
    outcome_narrow c.args.relaxed c.args.lp.now c.args.tableau.now.basis c.in_ok-outcome-in-Some.outcome c.answered-in-Some.result shown
    (ray_right c.args.relaxed c.args.lp.now c.args.tableau.now c.requires.tableau c.if-relaxed.false c.if-not-has_point.ensures c.in-Some.column c.in-Some.ensures c.in_ok-outcome-in-Some.outcome c.in_ok-outcome-in-Some.ensures)

pub returns-in_ok-outcome-in-Some-clause-refused : goal.returns-in_ok-outcome-in-Some-clause-refused
returns-in_ok-outcome-in-Some-clause-refused c =
    let shown = rw c.basis-in-Some.ensures at c.answered-in-Some.ensures in
    outcome_refused c.args.relaxed c.args.lp.now c.args.tableau.now.basis c.in_ok-outcome-in-Some.outcome c.answered-in-Some.result shown
    (ray_right c.args.relaxed c.args.lp.now c.args.tableau.now c.requires.tableau c.if-relaxed.false c.if-not-has_point.ensures c.in-Some.column c.in-Some.ensures c.in_ok-outcome-in-Some.outcome c.in_ok-outcome-in-Some.ensures)

pub returns-in_ok-outcome-in-Some-clause-first : goal.returns-in_ok-outcome-in-Some-clause-first
returns-in_ok-outcome-in-Some-clause-first c =
    let shown = rw c.basis-in-Some.ensures at c.answered-in-Some.ensures in
    outcome_first c.args.relaxed c.args.lp.now c.args.tableau.now.basis c.in_ok-outcome-in-Some.outcome c.answered-in-Some.result shown
    (ray_right c.args.relaxed c.args.lp.now c.args.tableau.now c.requires.tableau c.if-relaxed.false c.if-not-has_point.ensures c.in-Some.column c.in-Some.ensures c.in_ok-outcome-in-Some.outcome c.in_ok-outcome-in-Some.ensures)

pub returns-in-None-clause-answer : goal.returns-in-None-clause-answer
returns-in-None-clause-answer c = none_without_cost c.args.relaxed c.args.lp.now c.args.tableau.now c.requires.tableau c.if-has_least_cost.ensures (λ e. c.in-None.ensures)

pub returns-then-not-has_point-clause-signs : goal.returns-then-not-has_point-clause-signs
returns-then-not-has_point-clause-signs c = no_signs_without_point c.args.relaxed c.args.lp.now c.args.tableau.now c.requires.tableau c.if-not-has_point.ensures

pub returns-then-relaxed-clause-signs : goal.returns-then-relaxed-clause-signs
returns-then-relaxed-clause-signs c = no_signs_without_cost c.args.relaxed c.args.lp.now c.args.tableau.now c.requires.tableau c.if-has_least_cost.ensures (λ e. absurd (true≢false (sym c.if-relaxed.true ∙ e)))

pub returns-in-None-clause-signs : goal.returns-in-None-clause-signs
returns-in-None-clause-signs c = no_signs_without_cost c.args.relaxed c.args.lp.now c.args.tableau.now c.requires.tableau c.if-has_least_cost.ensures (λ e. c.in-None.ensures)
