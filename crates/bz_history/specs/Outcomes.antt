-- What a search has come to, and that this is true.
use Rattle.std.specs.Prelude.{ℕ, ◌≡◌, ◌<◌, ◌↔◌, Bool, true, false, ℤ, List, [], ◌∷◌, ◌++◌, Option, Some, None}
use Rattle.std.specs.List.{list_any}
use Rattle.bz_model.specs.Decomposed.{IsDecomposed}
use Rattle.bz_model.specs.PartPoints.{IsPointOf}
use Rattle.bz_model.specs.Points.{IsInfeasible, IsOptimal, IsUnbounded}
use Rattle.bz_model.specs.Splits.{Decomposition}
use Rattle.bz_cut.specs.declared.Mode.{Mode}
use Rattle.bz_cut.specs.declared.Mode.TheVariants as mode
use Rattle.bz_tableau.specs.declared.answers.WideAt.{WideAt}
use Rattle.bz_event.specs.declared.answers.Solved.{Solved}
use Rattle.bz_event.specs.declared.events.Entry.{Entry}
use Rattle.bz_event.specs.declared.events.Event.TheVariants as event
use Rattle.bz_event.specs.declared.events.Why.TheVariants as why
use Rattle.bz_history.specs.declared.state.Outcome.{Outcome}
use Rattle.bz_history.specs.declared.state.Outcome.TheVariants as outcome
use Rattle.bz_history.specs.declared.state.Post.{Post}
use Rattle.bz_history.specs.declared.state.Region.{Region}
use Rattle.bz_history.specs.declared.state.Stopped.{Stopped}
use Rattle.bz_history.specs.declared.state.Stopped.TheVariants as stopped
use Rattle.bz_history.specs.BestPosts.{IsFeasiblePost}
use Rattle.bz_history.specs.Budgets.{enough}
use Rattle.bz_history.specs.Finished.{parts_of}
use Rattle.bz_history.specs.Histories.{IsReplay}
use Rattle.bz_history.specs.States.{State, is_done, is_open, mode_of}
use Rattle.bz_history.specs.Steps.{IsBest, IsStopStep}

-- what nothing stopped has come to, by its mode, its best post and whether a node is open
abbrev pub found : Mode → Option ℕ → Bool → Outcome
found mode.Point (Some best) some_open = outcome.Unbounded
found mode.Point None true = outcome.Running
found mode.Point None false = outcome.Infeasible
found mode.Cost best true = outcome.Running
found mode.Cost (Some best) false = outcome.Optimal
found mode.Cost None false = outcome.Infeasible

-- a stop comes before all else
abbrev pub unless_stopped : Option Stopped → Outcome → Outcome
unless_stopped None out = out
unless_stopped (Some stopped.Budget) out = outcome.Budget
unless_stopped (Some stopped.Wide) out = outcome.Wide

abbrev pub outcome_of : State → Outcome
outcome_of t = unless_stopped t.stop (found (mode_of t) t.best (list_any is_open t.nodes))

-- the outcomes that a certificate shows
abbrev pub HasVerdict : Outcome → Type 0
HasVerdict outcome.Running = ⊥
HasVerdict outcome.Optimal = Unit {0}
HasVerdict outcome.Infeasible = Unit {0}
HasVerdict outcome.Unbounded = Unit {0}
HasVerdict outcome.Budget = ⊥
HasVerdict outcome.Wide = ⊥

-- The best post is completed and has its shape, each point of its parts is optimal, and their value is its objective.
pub record HasOptimum (d : Decomposition) (t : State) : Type 0 where
  pub post : Post
  pub is_best : IsBest t post
  pub feasible : IsFeasiblePost d mode.Cost post
  pub optimal : (p : List ℤ) (q : ℤ) → IsPointOf d.model d.part (parts_of post) p q → IsOptimal d.model p q

-- The units are the budget, which is less than what is enough, and a node is open.
pub record IsSpent (d : Decomposition) (budget : ℕ) (root : Region) (t : State) : Type 0 where
  pub units : t.units ≡ budget
  pub some_open : list_any is_open t.nodes ≡ true
  pub few : budget < enough d root

-- The last entry is a stop at a wide number, in the state before it.
pub record EndsWide (d : Decomposition) (budget : ℕ) (root : Region) (es : List Entry) : Type 0 where
  pub before : List Entry
  pub last : Entry
  pub entries : es ≡ before ++ last ∷ []
  pub state : State
  pub replayed : IsReplay d budget root before state
  pub solved : Solved WideAt
  pub stops : last.event ≡ event.Stop (why.Wide solved)
  pub is_wide : IsStopStep d budget state (why.Wide solved)

-- each outcome is true
pub record OutcomeIsTrue (d : Decomposition) (budget : ℕ) (root : Region) (es : List Entry) (t : State) : Type 0 where
  pub running : (outcome_of t ≡ outcome.Running) ↔ (is_done t ≡ false)
  pub optimal : outcome_of t ≡ outcome.Optimal → HasOptimum d t
  pub infeasible : outcome_of t ≡ outcome.Infeasible → IsInfeasible d.model
  pub unbounded : outcome_of t ≡ outcome.Unbounded → IsUnbounded d.model
  pub spent : outcome_of t ≡ outcome.Budget → IsSpent d budget root t
  pub wide : outcome_of t ≡ outcome.Wide → EndsWide d budget root es

abbrev pub OutcomesAreTrue : Type 0
OutcomesAreTrue =
    (d : Decomposition) (budget : ℕ) (root : Region) (es : List Entry) (t : State) → IsDecomposed d.model d.part →
    IsReplay d budget root es t → OutcomeIsTrue d budget root es t
