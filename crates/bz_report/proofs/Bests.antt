-- What is known of the best point and the direction of a search by what it has come to.
use Rattle.std.proofs.Common.{◌≡◌, refl, sym, ap, subst, ◌∙◌, ℕ, Bool, true, false, List}
use Rattle.std.specs.Prelude.{not, ◌&&◌, ◌||◌, Option, Some, None, is_some, IfSome}
use Rattle.std.specs.List.{list_any}
use Rattle.bz_model.specs.declared.Parts.{Parts}
use Rattle.bz_model.specs.Decomposed.{IsDecomposed}
use Rattle.bz_model.specs.Splits.{Decomposition}
use Rattle.bz_cut.specs.declared.Mode.{Mode}
use Rattle.bz_cut.specs.declared.Mode.TheVariants as mode
use Rattle.bz_event.specs.declared.events.Entry.{Entry}
use Rattle.bz_event.specs.declared.events.Event.{Event}
use Rattle.bz_event.specs.declared.events.Event.TheVariants as event
use Rattle.bz_event.specs.Nodes.{FitsValue}
use Rattle.bz_history.specs.declared.state.FallingRay.{FallingRay}
use Rattle.bz_history.specs.declared.state.Outcome.TheVariants as outcome
use Rattle.bz_history.specs.declared.state.Post.{Post}
use Rattle.bz_history.specs.declared.state.Region.{Region}
use Rattle.bz_history.specs.declared.state.Stopped.{Stopped}
use Rattle.bz_history.specs.declared.state.Stopped.TheVariants as stopped
use Rattle.bz_history.specs.Finished.{parts_of}
use Rattle.bz_history.specs.Histories.{IsReplay}
use Rattle.bz_history.specs.Outcomes.{found, outcome_of, unless_stopped}
use Rattle.bz_history.specs.Posts.{IsPostOf}
use Rattle.bz_history.specs.States.{State, effect, is_done, is_open, mode_for, mode_of}
use Rattle.bz_history.specs.Steps.{IsBest}
use Rattle.bz_history.proofs.Growing.{histories_grow}
use Rattle.bz_history.proofs.PostSteps.{posts_are_right}
use Rattle.bz_history.proofs.RaySteps.{ray_is_right}
use Rattle.bz_certify.specs.Finished.{HasPlaces}
use Rattle.bz_core.specs.Bests.{IsBestParts}
use Rattle.bz_report.specs.Reports.{best_parts, parts_at, parts_where}
use Rattle.bz_report.specs.Values.{HasObjective, HasValues}
use Rattle.bz_report.proofs.BestValues.{best_has_values}

-- ---- the best parts
pub best_is : (t : State) (o : Option Parts) → IsBestParts t o → o ≡ best_parts t
best_is t None h = sym (ap (parts_at t.posts) h)
best_is t (Some parts) h =
    ap (λ (x : Parts). Some x) h.2 ∙ sym (ap parts_where h.1.2) ∙ sym (ap (parts_at t.posts) h.1.1)

pub best_values : (d : Decomposition) (budget : ℕ) (root : Region) (es : List Entry) (t : State) (o : Option Parts) → IsDecomposed d.model d.part → IsReplay d budget root es t → IsBestParts t o → IfSome o (HasValues d)
best_values d budget root es t None dec r h = tt
best_values d budget root es t (Some parts) dec r h = subst (HasValues d) (sym h.2) (best_has_values d budget root es t dec r h.0 h.1)

-- in mode Cost the best point states an objective
post_has_objective : (d : Decomposition) (budget : ℕ) (root : Region) (es : List Entry) (t : State) (post : Post) → IsReplay d budget root es t → IsBest t post → mode_of t ≡ mode.Cost → HasObjective d (parts_of post)
post_has_objective d budget root es t post r best way =
    let own : IsPostOf d (mode_of t) t.nodes t.cuts post = posts_are_right d budget root es t r best.0 post best.2 in
    record {
      shape = own.posted.shape;
      fits = subst (λ (w : Mode). FitsValue d.model d.part w post.point) way own.posted.fits_value;
    }

best_objective : (d : Decomposition) (budget : ℕ) (root : Region) (es : List Entry) (t : State) (o : Option Parts) → IsReplay d budget root es t → IsBestParts t o → ((i : ℕ) → t.best ≡ Some i → mode_of t ≡ mode.Cost) → IfSome o (HasObjective d)
best_objective d budget root es t None r h way = tt
best_objective d budget root es t (Some parts) r h way =
    subst (HasObjective d) (sym h.2) (post_has_objective d budget root es t h.0 r h.1 (way h.1.0 h.1.1))

-- ---- the mode
-- an optimum comes in mode Cost
cost_where_optimal : (stop : Option Stopped) (way : Mode) (best : Option ℕ) (some_open : Bool) → unless_stopped stop (found way best some_open) ≡ outcome.Optimal → way ≡ mode.Cost
cost_where_optimal (Some stopped.Budget) way best some_open h = absurd (cc)
cost_where_optimal (Some stopped.Wide) way best some_open h = absurd (cc)
cost_where_optimal None mode.Cost best some_open h = refl
cost_where_optimal None mode.Point (Some i) some_open h = absurd (cc)
cost_where_optimal None mode.Point None true h = absurd (cc)
cost_where_optimal None mode.Point None false h = absurd (cc)

-- a search whose outcome is that of a stop was stopped
never_spent : (way : Mode) (best : Option ℕ) (some_open : Bool) → found way best some_open ≡ outcome.Budget → ⊥
never_spent mode.Cost best true h = absurd (cc)
never_spent mode.Cost (Some i) false h = absurd (cc)
never_spent mode.Cost None false h = absurd (cc)
never_spent mode.Point (Some i) some_open h = absurd (cc)
never_spent mode.Point None true h = absurd (cc)
never_spent mode.Point None false h = absurd (cc)

never_wide : (way : Mode) (best : Option ℕ) (some_open : Bool) → found way best some_open ≡ outcome.Wide → ⊥
never_wide mode.Cost best true h = absurd (cc)
never_wide mode.Cost (Some i) false h = absurd (cc)
never_wide mode.Cost None false h = absurd (cc)
never_wide mode.Point (Some i) some_open h = absurd (cc)
never_wide mode.Point None true h = absurd (cc)
never_wide mode.Point None false h = absurd (cc)

stopped_where_spent : (stop : Option Stopped) (way : Mode) (best : Option ℕ) (some_open : Bool) → unless_stopped stop (found way best some_open) ≡ outcome.Budget → (s : Stopped) × (stop ≡ Some s)
stopped_where_spent (Some s) way best some_open h = (s, refl)
stopped_where_spent None way best some_open h = absurd (never_spent way best some_open h)

stopped_where_wide : (stop : Option Stopped) (way : Mode) (best : Option ℕ) (some_open : Bool) → unless_stopped stop (found way best some_open) ≡ outcome.Wide → (s : Stopped) × (stop ≡ Some s)
stopped_where_wide (Some s) way best some_open h = (s, refl)
stopped_where_wide None way best some_open h = absurd (never_wide way best some_open h)

-- ---- stops in mode Point
-- a search with a best point in mode Point is done, so that nothing stops it
abbrev StopsInCost : State → Type 0
StopsInCost t = (s : Stopped) → t.stop ≡ Some s → (i : ℕ) → t.best ≡ Some i → mode_of t ≡ mode.Cost

last_false : (a b c : Bool) → (a || b || c) ≡ false → c ≡ false
last_false true b c h = absurd (cc)
last_false false true c h = absurd (cc)
last_false false false c h = h

unstopped : (stop : Option Stopped) (b c : Bool) → (is_some stop || b || c) ≡ false → stop ≡ None
unstopped None b c h = refl
unstopped (Some s) b c h = absurd (cc)

cost_where_running : (ray : Option FallingRay) (best : Option ℕ) → (is_some ray && is_some best) ≡ false → (i : ℕ) → best ≡ Some i → mode_for ray ≡ mode.Cost
cost_where_running None best h i is = refl
cost_where_running (Some ray) None h i is = absurd (cc)
cost_where_running (Some ray) (Some k) h i is = absurd (cc)

none_stopped : (t : State) → t.stop ≡ None → StopsInCost t
none_stopped t none s is i best =
    let differ : None ≡ Some s = sym none ∙ is in
    absurd (cc)

stops_step : (d : Decomposition) (t : State) (e : Event) → is_done t ≡ false → StopsInCost (effect d t e)
stops_step d t (event.Floor block basis cut) h = none_stopped (effect d t (event.Floor block basis cut)) (unstopped t.stop _ _ h)
stops_step d t (event.Ray block direction) h = none_stopped (effect d t (event.Ray block direction)) (unstopped t.stop _ _ h)
stops_step d t (event.Post node front point leaf) h = none_stopped (effect d t (event.Post node front point leaf)) (unstopped t.stop _ _ h)
stops_step d t (event.Append post basis cut) h = none_stopped (effect d t (event.Append post basis cut)) (unstopped t.stop _ _ h)
stops_step d t (event.Again post basis place) h = none_stopped (effect d t (event.Again post basis place)) (unstopped t.stop _ _ h)
stops_step d t (event.Fill post block y) h = none_stopped (effect d t (event.Fill post block y)) (unstopped t.stop _ _ h)
stops_step d t (event.Incumbent post) h = none_stopped (effect d t (event.Incumbent post)) (unstopped t.stop _ _ h)
stops_step d t (event.Close number how) h = none_stopped (effect d t (event.Close number how)) (unstopped t.stop _ _ h)
stops_step d t (event.Stop reason) h =
    λ s is i best. cost_where_running t.ray t.best (last_false (is_some t.stop) (not (list_any is_open t.nodes)) (is_some t.ray && is_some t.best) h) i best

stops_in_cost : (d : Decomposition) (budget : ℕ) (root : Region) (es : List Entry) (t : State) → IsReplay d budget root es t → StopsInCost t
stops_in_cost d budget root es t r = histories_grow d budget root (λ es u. StopsInCost u) (λ s is i best. absurd (cc))
    (λ before u x replayed step old. stops_step d u x.event step.running) es t r

-- ---- by the outcome
pub optimal_objective : (d : Decomposition) (budget : ℕ) (root : Region) (es : List Entry) (t : State) (o : Option Parts) → IsReplay d budget root es t → IsBestParts t o → outcome_of t ≡ outcome.Optimal → IfSome o (HasObjective d)
optimal_objective d budget root es t o r h is =
    best_objective d budget root es t o r h (λ i best. cost_where_optimal t.stop (mode_of t) t.best (list_any is_open t.nodes) is)

pub spent_objective : (d : Decomposition) (budget : ℕ) (root : Region) (es : List Entry) (t : State) (o : Option Parts) → IsReplay d budget root es t → IsBestParts t o → outcome_of t ≡ outcome.Budget → IfSome o (HasObjective d)
spent_objective d budget root es t o r h is =
    let stop = stopped_where_spent t.stop (mode_of t) t.best (list_any is_open t.nodes) is in
    best_objective d budget root es t o r h (stops_in_cost d budget root es t r stop.0 stop.1)

pub wide_objective : (d : Decomposition) (budget : ℕ) (root : Region) (es : List Entry) (t : State) (o : Option Parts) → IsReplay d budget root es t → IsBestParts t o → outcome_of t ≡ outcome.Wide → IfSome o (HasObjective d)
wide_objective d budget root es t o r h is =
    let stop = stopped_where_wide t.stop (mode_of t) t.best (list_any is_open t.nodes) is in
    best_objective d budget root es t o r h (stops_in_cost d budget root es t r stop.0 stop.1)

-- ---- the direction
pub ray_places : (d : Decomposition) (budget : ℕ) (root : Region) (es : List Entry) (t : State) (o : Option FallingRay) → IsReplay d budget root es t → o ≡ t.ray → IfSome o (HasPlaces d)
ray_places d budget root es t None r is = tt
ray_places d budget root es t (Some ray) r is =
    let own = ray_is_right d budget root es t r ray (sym is) in
    record { last = own.last; numbers = own.is_ray.numbers }
