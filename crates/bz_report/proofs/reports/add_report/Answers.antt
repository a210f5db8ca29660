-- The best parts are those of the state, and in each arm the text added is the one of the outcome.
use Rattle.std.proofs.Common.{◌≡◌, ◌∙◌, ap, sym, subst, ℕ, List, ◌++◌}
use Rattle.std.specs.Prelude.{IfSome}
use Rattle.std.specs.Option.{option_copied}
use Rattle.bz_model.specs.Splits.{Decomposition}
use Rattle.bz_event.specs.declared.events.Entry.{Entry}
use Rattle.bz_history.specs.declared.state.Outcome.TheVariants as outcome
use Rattle.bz_history.specs.Outcomes.{outcome_of}
use Rattle.bz_certify.specs.Finished.{HasPlaces}
use Rattle.bz_core.specs.Searches.{Seen, now}
use Rattle.bz_report.specs.Reports.{best_text, budget_line, last_entry, last_line, optimal_text, report_text, unbounded_text}
use Rattle.bz_report.specs.Values.{HasObjective, HasValues}
use Rattle.bz_report.proofs.Bests.{best_is, best_values, optimal_objective, ray_places, spent_objective, wide_objective}
use Rattle.bz_report.proofs.ReportTexts.{adds_as, adds_then, infeasible_is, optimal_is, spent_is, unbounded_is, wide_is}
use Rattle.bz_report.proofs.reports.add_report.Goals as goal

pub add_optimal-requires-clause-values : goal.add_optimal-requires-clause-values
add_optimal-requires-clause-values c =
    let s : Seen = c.args.search.now in
    let kept = c.history-history.ensures.kept in
    subst (λ (d : Decomposition). IfSome c.args.best.now (HasValues d)) (sym c.split-split.ensures) (best_values s.split s.budget s.root s.history (now s) c.args.best.now kept.decomposed kept.replayed c.requires.best)

pub add_unbounded-requires-clause-values : goal.add_unbounded-requires-clause-values
add_unbounded-requires-clause-values c =
    let s : Seen = c.args.search.now in
    let kept = c.history-history.ensures.kept in
    subst (λ (d : Decomposition). IfSome c.args.best.now (HasValues d)) (sym c.split-split.ensures) (best_values s.split s.budget s.root s.history (now s) c.args.best.now kept.decomposed kept.replayed c.requires.best)

pub add_best-requires-clause-values : goal.add_best-requires-clause-values
add_best-requires-clause-values c =
    let s : Seen = c.args.search.now in
    let kept = c.history-history.ensures.kept in
    subst (λ (d : Decomposition). IfSome c.args.best.now (HasValues d)) (sym c.split-split.ensures) (best_values s.split s.budget s.root s.history (now s) c.args.best.now kept.decomposed kept.replayed c.requires.best)

pub add_best-requires-in-Wide-clause-values : goal.add_best-requires-in-Wide-clause-values
add_best-requires-in-Wide-clause-values c =
    let s : Seen = c.args.search.now in
    let kept = c.history-history.ensures.kept in
    subst (λ (d : Decomposition). IfSome c.args.best.now (HasValues d)) (sym c.split-split.ensures) (best_values s.split s.budget s.root s.history (now s) c.args.best.now kept.decomposed kept.replayed c.requires.best)

pub add_optimal-requires-clause-objective : goal.add_optimal-requires-clause-objective
add_optimal-requires-clause-objective c =
    let s : Seen = c.args.search.now in
    let kept = c.history-history.ensures.kept in
    let is : outcome_of (now s) ≡ outcome.Optimal = sym c.outcome.ensures ∙ c.in-Optimal.is in
    subst (λ (d : Decomposition). IfSome c.args.best.now (HasObjective d)) (sym c.split-split.ensures) (optimal_objective s.split s.budget s.root s.history (now s) c.args.best.now kept.replayed c.requires.best is)

pub add_best-requires-clause-objective : goal.add_best-requires-clause-objective
add_best-requires-clause-objective c =
    let s : Seen = c.args.search.now in
    let kept = c.history-history.ensures.kept in
    let is : outcome_of (now s) ≡ outcome.Budget = sym c.outcome.ensures ∙ c.in-Budget.is in
    subst (λ (d : Decomposition). IfSome c.args.best.now (HasObjective d)) (sym c.split-split.ensures) (spent_objective s.split s.budget s.root s.history (now s) c.args.best.now kept.replayed c.requires.best is)

pub add_best-requires-in-Wide-clause-objective : goal.add_best-requires-in-Wide-clause-objective
add_best-requires-in-Wide-clause-objective c =
    let s : Seen = c.args.search.now in
    let kept = c.history-history.ensures.kept in
    let is : outcome_of (now s) ≡ outcome.Wide = sym c.outcome.ensures ∙ c.in-Wide.is in
    subst (λ (d : Decomposition). IfSome c.args.best.now (HasObjective d)) (sym c.split-split.ensures) (wide_objective s.split s.budget s.root s.history (now s) c.args.best.now kept.replayed c.requires.best is)

pub add_unbounded-requires-clause-places : goal.add_unbounded-requires-clause-places
add_unbounded-requires-clause-places c =
    let s : Seen = c.args.search.now in
    let kept = c.history-history.ensures.kept in
    subst (λ (d : Decomposition). IfSome (option_copied c.ray.result) (HasPlaces d)) (sym c.split-split.ensures) (ray_places s.split s.budget s.root s.history (now s) (option_copied c.ray.result) kept.replayed c.ray.ensures)

pub returns-in-Optimal : goal.returns-in-Optimal
returns-in-Optimal c =
    let s : Seen = c.args.search.now in
    let is : outcome_of (now s) ≡ outcome.Optimal = sym c.outcome.ensures ∙ c.in-Optimal.is in
    let text : optimal_text c.split-split.result.now c.args.best.now ≡ report_text s.split s.budget (now s) s.history = ap (λ (d : Decomposition). optimal_text d c.args.best.now) c.split-split.ensures ∙ optimal_is s.split s.budget (now s) s.history c.args.best.now (best_is (now s) c.args.best.now c.requires.best) is in
    adds_as c.add_optimal.result c.args.page.now.text.items c.add_optimal.new.page.text.items _ _ text c.add_optimal.ensures

pub returns-in-Infeasible : goal.returns-in-Infeasible
returns-in-Infeasible c =
    let s : Seen = c.args.search.now in
    let is : outcome_of (now s) ≡ outcome.Infeasible = sym c.outcome.ensures ∙ c.in-Infeasible.is in
    adds_as c.add_line.result c.args.page.now.text.items c.add_line.new.self.text.items _ _ (infeasible_is s.split s.budget (now s) s.history is) c.add_line.ensures

pub returns-in-Unbounded : goal.returns-in-Unbounded
returns-in-Unbounded c =
    let s : Seen = c.args.search.now in
    let is : outcome_of (now s) ≡ outcome.Unbounded = sym c.outcome.ensures ∙ c.in-Unbounded.is in
    let text : unbounded_text c.split-split.result.now c.args.best.now (option_copied c.ray.result) ≡ report_text s.split s.budget (now s) s.history = ap (λ (d : Decomposition). unbounded_text d c.args.best.now (option_copied c.ray.result)) c.split-split.ensures ∙ unbounded_is s.split s.budget (now s) s.history c.args.best.now (option_copied c.ray.result) (best_is (now s) c.args.best.now c.requires.best) c.ray.ensures is in
    adds_as c.add_unbounded.result c.args.page.now.text.items c.add_unbounded.new.page.text.items _ _ text c.add_unbounded.ensures

pub returns-in_ok-add_spent-in-Budget : goal.returns-in_ok-add_spent-in-Budget
returns-in_ok-add_spent-in-Budget c =
    let s : Seen = c.args.search.now in
    let is : outcome_of (now s) ≡ outcome.Budget = sym c.outcome.ensures ∙ c.in-Budget.is in
    let d : Decomposition = c.split-split.result.now in
    let units : budget_line c.units.result c.budget.result ≡ budget_line (now s).units s.budget = ap (λ (n : ℕ). budget_line n c.budget.result) c.units.ensures ∙ ap (budget_line (now s).units) c.budget.ensures in
    let text : budget_line c.units.result c.budget.result ++ best_text d c.args.best.now ≡ report_text s.split s.budget (now s) s.history = ap (λ (xs : List ℕ). xs ++ best_text d c.args.best.now) units ∙ ap (λ (e : Decomposition). budget_line (now s).units s.budget ++ best_text e c.args.best.now) c.split-split.ensures ∙ spent_is s.split s.budget (now s) s.history c.args.best.now (best_is (now s) c.args.best.now c.requires.best) is in
    adds_then c.add_best.result c.args.page.now.text.items c.add_spent.new.page.text.items c.add_best.new.page.text.items (budget_line c.units.result c.budget.result) (best_text d c.args.best.now) _ c.in_ok-add_spent-in-Budget.ensures text c.add_best.ensures

pub returns-in_ok-add_last-in-Wide : goal.returns-in_ok-add_last-in-Wide
returns-in_ok-add_last-in-Wide c =
    let s : Seen = c.args.search.now in
    let is : outcome_of (now s) ≡ outcome.Wide = sym c.outcome.ensures ∙ c.in-Wide.is in
    let d : Decomposition = c.split-split.result.now in
    let es : List Entry = c.history-history.result.now in
    let text : last_line (last_entry es) ++ best_text d c.args.best.now ≡ report_text s.split s.budget (now s) s.history = ap (λ (xs : List Entry). last_line (last_entry xs) ++ best_text d c.args.best.now) c.history-history.ensures.entries ∙ ap (λ (e : Decomposition). last_line (last_entry s.history) ++ best_text e c.args.best.now) c.split-split.ensures ∙ wide_is s.split s.budget (now s) s.history c.args.best.now (best_is (now s) c.args.best.now c.requires.best) is in
    adds_then c.add_best-in-Wide.result c.args.page.now.text.items c.add_last.new.page.text.items c.add_best-in-Wide.new.page.text.items (last_line (last_entry es)) (best_text d c.args.best.now) _ c.in_ok-add_last-in-Wide.ensures text c.add_best-in-Wide.ensures
