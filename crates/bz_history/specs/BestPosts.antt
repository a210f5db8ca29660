-- The best post of every legal history.
use Rattle.std.specs.Prelude.{ℕ, ◌≡◌, ℤ, List, Some}
use Rattle.bz_algebra.specs.Fractions.{IsSameNumber}
use Rattle.bz_model.specs.Decomposed.{IsDecomposed}
use Rattle.bz_model.specs.PartPoints.{HasPointShape, IsPointOf}
use Rattle.bz_model.specs.Points.{IsFeasible, objective}
use Rattle.bz_model.specs.Splits.{Decomposition}
use Rattle.bz_model.specs.Stated.{objective_of}
use Rattle.bz_cut.specs.declared.Mode.{Mode}
use Rattle.bz_cut.specs.declared.Mode.TheVariants as mode
use Rattle.bz_event.specs.declared.events.Entry.{Entry}
use Rattle.bz_event.specs.Nodes.{value_of}
use Rattle.bz_history.specs.declared.state.Post.{Post}
use Rattle.bz_history.specs.declared.state.Region.{Region}
use Rattle.bz_history.specs.Finished.{parts_of}
use Rattle.bz_history.specs.Histories.{IsReplay}
use Rattle.bz_history.specs.States.{State, mode_of}
use Rattle.bz_history.specs.Steps.{IsAt, IsFilled}

-- The post is completed in each block and has its shape. Each point of its parts is feasible, and in mode Cost their value is
-- its objective.
pub record IsFeasiblePost (d : Decomposition) (way : Mode) (post : Post) : Type 0 where
  pub filled : IsFilled post
  pub shape : HasPointShape d.model d.part (parts_of post)
  pub feasible : (p : List ℤ) (q : ℤ) → IsPointOf d.model d.part (parts_of post) p q → IsFeasible d.model p q
  pub value : way ≡ mode.Cost → (p : List ℤ) (q : ℤ) → IsPointOf d.model d.part (parts_of post) p q →
      IsSameNumber (objective d.model p q) (objective_of d.model (value_of d.model d.part post.point) post.point.den)

-- The best post is there, and is such, whether a node is open or not.
abbrev pub BestPostsAreRight : Type 0
BestPostsAreRight =
    (d : Decomposition) (budget : ℕ) (root : Region) (es : List Entry) (t : State) → IsDecomposed d.model d.part →
    IsReplay d budget root es t → (i : ℕ) → t.best ≡ Some i →
    (post : Post) × IsAt t.posts i post × IsFeasiblePost d (mode_of t) post
