-- What a search has come to is true.
use Rattle.std.proofs.Common.{◌≡◌, refl, sym, ◌∙◌, ap, subst, ℕ, zero, suc, ◌<◌, List, [], ◌∷◌, ◌++◌, inl, inr}
use Rattle.std.specs.Prelude.{◌↔◌, ◌⊎◌, ◌||◌, IsSome, ◌&&◌, not, Option, Some, None, Bool, true, false, is_some}
use Rattle.std.specs.List.{list_any}
use Rattle.bz_model.specs.Points.{IsInfeasible, IsUnbounded}
use Rattle.bz_model.specs.Splits.{Decomposition}
use Rattle.bz_cut.specs.declared.Mode.{Mode}
use Rattle.bz_cut.specs.declared.Mode.TheVariants as mode
use Rattle.bz_event.specs.declared.events.Entry.{Entry}
use Rattle.bz_event.specs.declared.events.Event.{Event}
use Rattle.bz_event.specs.declared.events.Event.TheVariants as event
use Rattle.bz_event.specs.declared.events.Why.TheVariants as why
use Rattle.bz_history.specs.declared.state.FallingRay.{FallingRay}
use Rattle.bz_history.specs.declared.state.Node.{Node}
use Rattle.bz_history.specs.declared.state.Outcome.TheVariants as outcome
use Rattle.bz_history.specs.declared.state.Post.{Post}
use Rattle.bz_history.specs.declared.state.Region.{Region}
use Rattle.bz_history.specs.declared.state.Stopped.{Stopped}
use Rattle.bz_history.specs.declared.state.Stopped.TheVariants as stopped
use Rattle.bz_history.specs.BestPosts.{IsFeasiblePost}
use Rattle.bz_history.specs.Budgets.{enough}
use Rattle.bz_history.specs.Finished.{FinishedIsTrue}
use Rattle.bz_history.specs.Histories.{IsReplay}
use Rattle.bz_history.specs.Outcomes.{EndsWide, HasOptimum, HasVerdict, IsSpent, OutcomesAreTrue, found, outcome_of, unless_stopped}
use Rattle.bz_history.specs.States.{State, effect, is_open, mode_for, mode_of}
use Rattle.bz_history.specs.Steps.{IsAt, IsFilled, MayFollow}
use Rattle.bz_history.proofs.BestSteps.{best_is_filled}
use Rattle.bz_history.proofs.BestValues.{best_posts_are_right}
use Rattle.bz_history.proofs.BudgetSteps.{enough_is_enough}
use Rattle.bz_history.proofs.FinishedSearches.{finished_searches_are_true}
use Rattle.bz_history.proofs.Growing.{histories_grow}
use Rattle.bz_history.proofs.RaySteps.{rays_are_true}

-- ---- what an outcome says of the state
running_is : (stop : Option Stopped) (ray : Option FallingRay) (best : Option ℕ) (some_open : Bool) → (unless_stopped stop (found (mode_for ray) best some_open) ≡ outcome.Running) ↔ ((is_some stop || not some_open || (is_some ray && is_some best)) ≡ false)
running_is (Some stopped.Budget) ray best some_open = (λ h. absurd (cc), λ h. absurd (cc))
running_is (Some stopped.Wide) ray best some_open = (λ h. absurd (cc), λ h. absurd (cc))
running_is None None best true = (λ h. refl, λ h. refl)
running_is None None (Some i) false = (λ h. absurd (cc), λ h. absurd (cc))
running_is None None None false = (λ h. absurd (cc), λ h. absurd (cc))
running_is None (Some ray) (Some i) true = (λ h. absurd (cc), λ h. absurd (cc))
running_is None (Some ray) (Some i) false = (λ h. absurd (cc), λ h. absurd (cc))
running_is None (Some ray) None true = (λ h. refl, λ h. refl)
running_is None (Some ray) None false = (λ h. absurd (cc), λ h. absurd (cc))

optimal_is : (stop : Option Stopped) (way : Mode) (best : Option ℕ) (some_open : Bool) → unless_stopped stop (found way best some_open) ≡ outcome.Optimal → (i : ℕ) × (best ≡ Some i) × (way ≡ mode.Cost) × (some_open ≡ false)
optimal_is (Some stopped.Budget) way best some_open h = absurd (cc)
optimal_is (Some stopped.Wide) way best some_open h = absurd (cc)
optimal_is None mode.Cost best true h = absurd (cc)
optimal_is None mode.Cost (Some i) false h = (i, refl, refl, refl)
optimal_is None mode.Cost None false h = absurd (cc)
optimal_is None mode.Point (Some i) some_open h = absurd (cc)
optimal_is None mode.Point None true h = absurd (cc)
optimal_is None mode.Point None false h = absurd (cc)

infeasible_is : (stop : Option Stopped) (way : Mode) (best : Option ℕ) (some_open : Bool) → unless_stopped stop (found way best some_open) ≡ outcome.Infeasible → (best ≡ None) × (some_open ≡ false)
infeasible_is (Some stopped.Budget) way best some_open h = absurd (cc)
infeasible_is (Some stopped.Wide) way best some_open h = absurd (cc)
infeasible_is None mode.Cost best true h = absurd (cc)
infeasible_is None mode.Cost (Some i) false h = absurd (cc)
infeasible_is None mode.Cost None false h = (refl, refl)
infeasible_is None mode.Point (Some i) some_open h = absurd (cc)
infeasible_is None mode.Point None true h = absurd (cc)
infeasible_is None mode.Point None false h = (refl, refl)

unbounded_is : (stop : Option Stopped) (way : Mode) (best : Option ℕ) (some_open : Bool) → unless_stopped stop (found way best some_open) ≡ outcome.Unbounded → (i : ℕ) × (best ≡ Some i) × (way ≡ mode.Point)
unbounded_is (Some stopped.Budget) way best some_open h = absurd (cc)
unbounded_is (Some stopped.Wide) way best some_open h = absurd (cc)
unbounded_is None mode.Cost best true h = absurd (cc)
unbounded_is None mode.Cost (Some i) false h = absurd (cc)
unbounded_is None mode.Cost None false h = absurd (cc)
unbounded_is None mode.Point (Some i) some_open h = (i, refl, refl)
unbounded_is None mode.Point None true h = absurd (cc)
unbounded_is None mode.Point None false h = absurd (cc)

found_budget : (way : Mode) (best : Option ℕ) (some_open : Bool) → found way best some_open ≡ outcome.Budget → ⊥
found_budget mode.Cost best true h = absurd (cc)
found_budget mode.Cost (Some i) false h = absurd (cc)
found_budget mode.Cost None false h = absurd (cc)
found_budget mode.Point (Some i) some_open h = absurd (cc)
found_budget mode.Point None true h = absurd (cc)
found_budget mode.Point None false h = absurd (cc)

found_wide : (way : Mode) (best : Option ℕ) (some_open : Bool) → found way best some_open ≡ outcome.Wide → ⊥
found_wide mode.Cost best true h = absurd (cc)
found_wide mode.Cost (Some i) false h = absurd (cc)
found_wide mode.Cost None false h = absurd (cc)
found_wide mode.Point (Some i) some_open h = absurd (cc)
found_wide mode.Point None true h = absurd (cc)
found_wide mode.Point None false h = absurd (cc)

budget_is : (stop : Option Stopped) (way : Mode) (best : Option ℕ) (some_open : Bool) → unless_stopped stop (found way best some_open) ≡ outcome.Budget → stop ≡ Some stopped.Budget
budget_is (Some stopped.Budget) way best some_open h = refl
budget_is (Some stopped.Wide) way best some_open h = absurd (cc)
budget_is None way best some_open h = absurd (found_budget way best some_open h)

wide_is : (stop : Option Stopped) (way : Mode) (best : Option ℕ) (some_open : Bool) → unless_stopped stop (found way best some_open) ≡ outcome.Wide → stop ≡ Some stopped.Wide
wide_is (Some stopped.Budget) way best some_open h = absurd (cc)
wide_is (Some stopped.Wide) way best some_open h = refl
wide_is None way best some_open h = absurd (found_wide way best some_open h)

-- a verdict comes where no node is open, or with a best post in mode Point
pub verdict_is_final : (stop : Option Stopped) (ray : Option FallingRay) (best : Option ℕ) (some_open : Bool) → HasVerdict (unless_stopped stop (found (mode_for ray) best some_open)) → (some_open ≡ false) ⊎ (IsSome best × IsSome ray)
verdict_is_final (Some stopped.Budget) ray best some_open h = absurd h
verdict_is_final (Some stopped.Wide) ray best some_open h = absurd h
verdict_is_final None ray best false h = inl refl
verdict_is_final None None best true h = absurd h
verdict_is_final None (Some ray) None true h = absurd h
verdict_is_final None (Some ray) (Some i) true h = inr (refl, refl)

-- ---- stops
-- where a search isn't done, nothing has stopped it
unstopped : (stop : Option Stopped) (b c : Bool) → (is_some stop || b || c) ≡ false → stop ≡ None
unstopped None b c h = refl
unstopped (Some s) b c h = absurd (cc)

or_true : (a b : Bool) → b ≡ true → (a || b) ≡ true
or_true true b h = refl
or_true false b h = h

-- an open node shows that a node is open
pub some_is_open : (nodes : List Node) (n : ℕ) (x : Node) → IsAt nodes n x → is_open x ≡ true → list_any is_open nodes ≡ true
some_is_open [] n x at stands = absurd (cc)
some_is_open (y ∷ nodes) zero x at stands =
    let same : y ≡ x = cc in
    ap (λ (b : Bool). b || list_any is_open nodes) (ap is_open same ∙ stands)
some_is_open (y ∷ nodes) (suc n) x at stands = or_true (is_open y) (list_any is_open nodes) (some_is_open nodes n x at stands)

-- what stopped a search was true
record StopIsTrue (d : Decomposition) (budget : ℕ) (root : Region) (es : List Entry) (t : State) : Type 0 where
  spent : t.stop ≡ Some stopped.Budget → (t.units ≡ budget) × (list_any is_open t.nodes ≡ true)
  wide : t.stop ≡ Some stopped.Wide → EndsWide d budget root es

-- what nothing has stopped
none_stopped : (d : Decomposition) (budget : ℕ) (root : Region) (es : List Entry) (t : State) → t.stop ≡ None → StopIsTrue d budget root es t
none_stopped d budget root es t none = record {
  spent = λ h. absurd (differ (sym none ∙ h));
  wide = λ h. absurd (differ (sym none ∙ h));
}
  where
    differ : {s : Stopped} → None ≡ Some s → ⊥
    differ h = absurd (cc)

stop_step : (d : Decomposition) (budget : ℕ) (root : Region) (es : List Entry) (t : State) (x : Entry) (e : Event) → x.event ≡ e → IsReplay d budget root es t → MayFollow d budget t e → t.stop ≡ None → StopIsTrue d budget root (es ++ x ∷ []) (effect d t e)
stop_step d budget root es t x (event.Floor block basis cut) is r may none = none_stopped d budget root (es ++ x ∷ []) (effect d t (event.Floor block basis cut)) none
stop_step d budget root es t x (event.Ray block direction) is r may none = none_stopped d budget root (es ++ x ∷ []) (effect d t (event.Ray block direction)) none
stop_step d budget root es t x (event.Post node front point leaf) is r may none = none_stopped d budget root (es ++ x ∷ []) (effect d t (event.Post node front point leaf)) none
stop_step d budget root es t x (event.Append post basis cut) is r may none = none_stopped d budget root (es ++ x ∷ []) (effect d t (event.Append post basis cut)) none
stop_step d budget root es t x (event.Again post basis place) is r may none = none_stopped d budget root (es ++ x ∷ []) (effect d t (event.Again post basis place)) none
stop_step d budget root es t x (event.Fill post block y) is r may none = none_stopped d budget root (es ++ x ∷ []) (effect d t (event.Fill post block y)) none
stop_step d budget root es t x (event.Incumbent post) is r may none = none_stopped d budget root (es ++ x ∷ []) (effect d t (event.Incumbent post)) none
stop_step d budget root es t x (event.Close number how) is r may none = none_stopped d budget root (es ++ x ∷ []) (effect d t (event.Close number how)) none
stop_step d budget root es t x (event.Stop why.Budget) is r (units, waits) none = record {
  spent = λ h. (units, some_is_open t.nodes waits.0 waits.1 waits.2 waits.3);
  wide = λ h. absurd (cc);
}
stop_step d budget root es t x (event.Stop (why.Wide s)) is r may none = record {
  spent = λ h. absurd (cc);
  wide = λ h. record { before = es; last = x; entries = refl; state = t; replayed = r; solved = s; stops = is; is_wide = may };
}

stop_is_true : (d : Decomposition) (budget : ℕ) (root : Region) (es : List Entry) (t : State) → IsReplay d budget root es t → StopIsTrue d budget root es t
stop_is_true d budget root es t r = histories_grow d budget root (StopIsTrue d budget root) (record { spent = λ h. absurd (cc); wide = λ h. absurd (cc) })
    (λ before u x replayed step old. stop_step d budget root before u x x.event refl replayed step.may (unstopped u.stop _ _ step.running)) es t r

-- ---- all histories
pub outcomes_are_true : OutcomesAreTrue
outcomes_are_true d budget root es t dec r = record {
  running = running_is t.stop t.ray t.best (list_any is_open t.nodes);
  optimal = optimal;
  infeasible = infeasible;
  unbounded = unbounded;
  spent = spent;
  wide = λ h. (stop_is_true d budget root es t r).wide (wide_is t.stop (mode_of t) t.best (list_any is_open t.nodes) h);
}
  where
    optimal : outcome_of t ≡ outcome.Optimal → HasOptimum d t
    optimal h =
        let is : (i : ℕ) × (t.best ≡ Some i) × (mode_of t ≡ mode.Cost) × (list_any is_open t.nodes ≡ false) = optimal_is t.stop (mode_of t) t.best (list_any is_open t.nodes) h in
        let b : (post : Post) × IsAt t.posts is.0 post × IsFeasiblePost d (mode_of t) post = best_posts_are_right d budget root es t dec r is.0 is.1 in
        let true_end : FinishedIsTrue d t = finished_searches_are_true d budget root es t dec r is.3 in
        record {
          post = b.0;
          is_best = (is.0, is.1, b.1);
          feasible = subst (λ (w : Mode). IsFeasiblePost d w b.0) is.2 b.2;
          optimal = λ p q point. (true_end.optimal is.2 b.0 (is.0, is.1, b.1) p q point).0;
        }

    infeasible : outcome_of t ≡ outcome.Infeasible → IsInfeasible d.model
    infeasible h =
        let is : (t.best ≡ None) × (list_any is_open t.nodes ≡ false) = infeasible_is t.stop (mode_of t) t.best (list_any is_open t.nodes) h in
        (finished_searches_are_true d budget root es t dec r is.1).infeasible is.0

    unbounded : outcome_of t ≡ outcome.Unbounded → IsUnbounded d.model
    unbounded h =
        let is : (i : ℕ) × (t.best ≡ Some i) × (mode_of t ≡ mode.Point) = unbounded_is t.stop (mode_of t) t.best (list_any is_open t.nodes) h in
        let b : (post : Post) × IsAt t.posts is.0 post × IsFilled post = best_is_filled d budget root es t r is.0 is.1 in
        rays_are_true d budget root es t dec r is.2 b.0 (is.0, is.1, b.1)

    spent : outcome_of t ≡ outcome.Budget → IsSpent d budget root t
    spent h =
        let is : (t.units ≡ budget) × (list_any is_open t.nodes ≡ true) = (stop_is_true d budget root es t r).spent (budget_is t.stop (mode_of t) t.best (list_any is_open t.nodes) h) in
        record {
          units = is.0;
          some_open = is.1;
          few = subst (λ (n : ℕ). n < enough d root) is.0 (enough_is_enough d budget root es t r is.1);
        }
