-- What a search that has come to its end without a stop has found.
use Rattle.std.specs.Prelude.{ℕ, ◌≡◌, ℤ, false, List, [], ◌∷◌, Option, Some, None}
use Rattle.std.specs.List.{list_any}
use Rattle.bz_algebra.specs.Fractions.{IsSameNumber}
use Rattle.bz_model.specs.declared.BlockPart.{BlockPart}
use Rattle.bz_model.specs.declared.Parts.{Parts}
use Rattle.bz_model.specs.Decomposed.{IsDecomposed}
use Rattle.bz_model.specs.PartPoints.{HasPointShape, IsPointOf}
use Rattle.bz_model.specs.Points.{IsInfeasible, IsOptimal, IsUnbounded, objective}
use Rattle.bz_model.specs.Splits.{Decomposition}
use Rattle.bz_model.specs.Stated.{objective_of}
use Rattle.bz_cut.specs.declared.Mode.TheVariants as mode
use Rattle.bz_event.specs.declared.events.Entry.{Entry}
use Rattle.bz_event.specs.Nodes.{value_of}
use Rattle.bz_history.specs.declared.state.Filled.{Filled}
use Rattle.bz_history.specs.declared.state.Post.{Post}
use Rattle.bz_history.specs.declared.state.Region.{Region}
use Rattle.bz_history.specs.Histories.{IsReplay}
use Rattle.bz_history.specs.States.{State, is_open, mode_of}
use Rattle.bz_history.specs.Steps.{IsAt, IsBest, IsFilled}

-- the completions of the blocks, in their order
abbrev pub completions : List (Option Filled) → List BlockPart
completions [] = []
completions (None ∷ fills) = completions fills
completions (Some fill ∷ fills) = fill.y ∷ completions fills

-- the point of a post with its completions
abbrev pub parts_of : Post → Parts
parts_of post = record { master = post.point; blocks = completions post.fills }

-- Each block of the best post is completed.
abbrev pub BestIsFilled : State → Type 0
BestIsFilled t = (i : ℕ) → t.best ≡ Some i → (post : Post) × IsAt t.posts i post × IsFilled post

-- Where no node is open: without a best post the model has no feasible point; in mode Cost each point of the best post's
-- parts is optimal, and their value is its objective.
pub record FinishedIsTrue (d : Decomposition) (t : State) : Type 0 where
  pub infeasible : t.best ≡ None → IsInfeasible d.model
  pub shape : (post : Post) → IsBest t post → HasPointShape d.model d.part (parts_of post)
  pub optimal : mode_of t ≡ mode.Cost → (post : Post) → IsBest t post → (p : List ℤ) (q : ℤ) →
      IsPointOf d.model d.part (parts_of post) p q →
      IsOptimal d.model p q
      × IsSameNumber (objective d.model p q) (objective_of d.model (value_of d.model d.part post.point) post.point.den)

abbrev pub FinishedSearchesAreTrue : Type 0
FinishedSearchesAreTrue =
    (d : Decomposition) (budget : ℕ) (root : Region) (es : List Entry) (t : State) → IsDecomposed d.model d.part →
    IsReplay d budget root es t → list_any is_open t.nodes ≡ false → FinishedIsTrue d t

-- In mode Point a best post shows that the model is unbounded.
abbrev pub RaysAreTrue : Type 0
RaysAreTrue =
    (d : Decomposition) (budget : ℕ) (root : Region) (es : List Entry) (t : State) → IsDecomposed d.model d.part →
    IsReplay d budget root es t → mode_of t ≡ mode.Point → (post : Post) → IsBest t post → IsUnbounded d.model
