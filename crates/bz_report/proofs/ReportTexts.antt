-- Texts that are added piece by piece are the texts of the report.
use Rattle.std.proofs.Common.{ℕ, ◌≡◌, sym, ap, subst, ◌∙◌, List, [], ◌∷◌, ◌++◌, Option, append_assoc}
use Rattle.std.specs.Prelude.{Result, OnOk, codes}
use Rattle.std.proofs.lemmas.Result.{on_ok_weaker}
use Rattle.bz_model.specs.declared.Parts.{Parts}
use Rattle.bz_model.specs.Splits.{Decomposition}
use Rattle.bz_event.specs.declared.events.Entry.{Entry}
use Rattle.bz_history.specs.declared.state.FallingRay.{FallingRay}
use Rattle.bz_history.specs.declared.state.Outcome.{Outcome}
use Rattle.bz_history.specs.declared.state.Outcome.TheVariants as outcome
use Rattle.bz_history.specs.Outcomes.{outcome_of}
use Rattle.bz_history.specs.States.{State}
use Rattle.bz_text.specs.Texts.{line}
use Rattle.bz_report.specs.Reports.{best_parts, best_text, budget_line, infeasible_text, last_entry, last_line, optimal_text, report_text, text_by, unbounded_text}

-- what was added reads as another text
pub adds_as : {T E : Type 0} (r : Result T E) (before after text other : List ℕ) → text ≡ other → OnOk r (after ≡ before ++ text) → OnOk r (after ≡ before ++ other)
adds_as r before after text other same = subst (λ (t : List ℕ). OnOk r (after ≡ before ++ text) → OnOk r (after ≡ before ++ t)) same (λ h. h)

-- a text added behind one that was
pub adds_then : {T E : Type 0} (r : Result T E) (before middle after first second whole : List ℕ) → middle ≡ before ++ first → first ++ second ≡ whole → OnOk r (after ≡ middle ++ second) → OnOk r (after ≡ before ++ whole)
adds_then r before middle after first second whole p same = on_ok_weaker r
    (λ q. q ∙ ap (λ (xs : List ℕ). xs ++ second) p ∙ append_assoc before first second ∙ ap (λ (xs : List ℕ). before ++ xs) same)

-- two texts added one behind the other
added_twice : (before middle after first second : List ℕ) → middle ≡ before ++ first → after ≡ middle ++ second → after ≡ before ++ (first ++ second)
added_twice before middle after first second p q = q ∙ ap (λ (xs : List ℕ). xs ++ second) p ∙ append_assoc before first second

-- three texts added one behind the other
pub adds_three : {T E : Type 0} (r : Result T E) (b0 b1 b2 b3 x y z : List ℕ) → b1 ≡ b0 ++ x → b2 ≡ b1 ++ y → OnOk r (b3 ≡ b2 ++ z) → OnOk r (b3 ≡ b0 ++ (x ++ (y ++ z)))
adds_three r b0 b1 b2 b3 x y z p q = adds_then r b0 b2 b3 (x ++ y) z (x ++ (y ++ z)) (added_twice b0 b1 b2 x y p q) (append_assoc x y z)

-- the line of a stop for want of units
pub spent_text : (units budget : List ℕ) → codes "unresolved budget " ++ (units ++ (codes " of " ++ (budget ++ 10 ∷ []))) ≡ line (codes "unresolved budget" ++ (32 ∷ units) ++ codes " of" ++ (32 ∷ budget))
spent_text units budget = simp append_assoc

-- the line of a stop at a wide number
wide_text : (task place : List ℕ) → (((codes "unresolved wide " ++ task) ++ 32 ∷ []) ++ place) ++ 10 ∷ [] ≡ line (codes "unresolved wide " ++ task ++ 32 ∷ place)
wide_text task place = simp append_assoc

pub stop_written : {T E : Type 0} (r : Result T E) (b0 b1 b2 b3 b4 b5 task place : List ℕ) → b1 ≡ b0 ++ codes "unresolved wide " → b2 ≡ b1 ++ task → b3 ≡ b2 ++ 32 ∷ [] → b4 ≡ b3 ++ place → OnOk r (b5 ≡ b4 ++ 10 ∷ []) → OnOk r (b5 ≡ b0 ++ line (codes "unresolved wide " ++ task ++ 32 ∷ place))
stop_written r b0 b1 b2 b3 b4 b5 task place p1 p2 p3 p4 = adds_then r b0 b4 b5 (((codes "unresolved wide " ++ task) ++ 32 ∷ []) ++ place) (10 ∷ []) (line (codes "unresolved wide " ++ task ++ 32 ∷ place)) before (wide_text task place)
  where
    before : b4 ≡ b0 ++ (((codes "unresolved wide " ++ task) ++ 32 ∷ []) ++ place)
    before = added_twice b0 b3 b4 ((codes "unresolved wide " ++ task) ++ 32 ∷ []) place (added_twice b0 b2 b3 (codes "unresolved wide " ++ task) (32 ∷ []) (added_twice b0 b1 b2 (codes "unresolved wide ") task p1 p2) p3) p4

-- ---- by the outcome
text_is : (d : Decomposition) (budget : ℕ) (t : State) (es : List Entry) (out : Outcome) → outcome_of t ≡ out → text_by d budget t es out ≡ report_text d budget t es
unfolding report_text
text_is d budget t es out is = sym (ap (text_by d budget t es) is)

pub optimal_is : (d : Decomposition) (budget : ℕ) (t : State) (es : List Entry) (best : Option Parts) → best ≡ best_parts t → outcome_of t ≡ outcome.Optimal → optimal_text d best ≡ report_text d budget t es
optimal_is d budget t es best same is = ap (optimal_text d) same ∙ text_is d budget t es outcome.Optimal is

pub infeasible_is : (d : Decomposition) (budget : ℕ) (t : State) (es : List Entry) → outcome_of t ≡ outcome.Infeasible → infeasible_text ≡ report_text d budget t es
infeasible_is d budget t es is = text_is d budget t es outcome.Infeasible is

pub unbounded_is : (d : Decomposition) (budget : ℕ) (t : State) (es : List Entry) (best : Option Parts) (ray : Option FallingRay) → best ≡ best_parts t → ray ≡ t.ray → outcome_of t ≡ outcome.Unbounded → unbounded_text d best ray ≡ report_text d budget t es
unbounded_is d budget t es best ray same other is =
    ap (λ (o : Option Parts). unbounded_text d o ray) same ∙ ap (unbounded_text d (best_parts t)) other ∙ text_is d budget t es outcome.Unbounded is

pub spent_is : (d : Decomposition) (budget : ℕ) (t : State) (es : List Entry) (best : Option Parts) → best ≡ best_parts t → outcome_of t ≡ outcome.Budget → budget_line t.units budget ++ best_text d best ≡ report_text d budget t es
spent_is d budget t es best same is =
    ap (λ (o : Option Parts). budget_line t.units budget ++ best_text d o) same ∙ text_is d budget t es outcome.Budget is

pub wide_is : (d : Decomposition) (budget : ℕ) (t : State) (es : List Entry) (best : Option Parts) → best ≡ best_parts t → outcome_of t ≡ outcome.Wide → last_line (last_entry es) ++ best_text d best ≡ report_text d budget t es
wide_is d budget t es best same is =
    ap (λ (o : Option Parts). last_line (last_entry es) ++ best_text d o) same ∙ text_is d budget t es outcome.Wide is
