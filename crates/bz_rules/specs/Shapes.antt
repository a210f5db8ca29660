-- What every state of a legal history fits, so that the programs of its tasks can be compared.
use Rattle.std.specs.Prelude.{ℕ, ◌≡◌, List, length, Some}
use Rattle.std.specs.List.{AllByRecursion}
use Rattle.bz_algebra.specs.Numbers.{IsNarrow}
use Rattle.bz_model.specs.declared.Master.{Master}
use Rattle.bz_model.specs.Parting.{blocks_of, inequalities_of}
use Rattle.bz_model.specs.Splits.{Decomposition}
use Rattle.bz_std.specs.Tasks.{IsBoxOf, IsCutOfSplit, IsMasterOf}
use Rattle.bz_tableau.specs.declared.answers.WideAt.{WideAt}
use Rattle.bz_tableau.specs.declared.answers.WideAt.TheVariants.{Build}
use Rattle.bz_event.specs.declared.answers.Solved.{Solved}
use Rattle.bz_event.specs.declared.events.Entry.{Entry}
use Rattle.bz_event.specs.Nodes.{FitsValue}
use Rattle.bz_event.specs.Stops.{IsWideRow}
use Rattle.bz_history.specs.declared.state.Node.{Node}
use Rattle.bz_history.specs.declared.state.Post.{Post}
use Rattle.bz_history.specs.declared.state.Region.{Region}
use Rattle.bz_history.specs.Histories.{IsReplay}
use Rattle.bz_history.specs.States.{State, box_of, mode_of}
use Rattle.bz_history.specs.Steps.{IsAt}

-- the region has an end of each kind for each integer column, none of them wide
pub record IsRegionOf (d : Decomposition) (region : Region) : Type 0 where
  pub ends : IsBoxOf d.model (box_of region)
  pub lower : AllByRecursion IsNarrow region.lower
  pub upper : AllByRecursion IsNarrow region.upper

-- the point is one of the master's, with a place for each block's completion; in mode Cost no sum of its value is wide
pub record IsShapedPost (d : Decomposition) (t : State) (post : Post) : Type 0 where
  pub point : IsMasterOf d.part post.point
  pub places : length post.fills ≡ blocks_of d.part
  pub value : FitsValue d.model d.part (mode_of t) post.point

-- the cuts, the regions of the nodes and the posted points fit the split
pub record FitsSplit (d : Decomposition) (t : State) : Type 0 where
  pub cuts : AllByRecursion (IsCutOfSplit d.part) t.cuts
  pub regions : (n : ℕ) (node : Node) → IsAt t.nodes n node → IsRegionOf d node.region
  pub posts : (i : ℕ) (post : Post) → IsAt t.posts i post → IsShapedPost d t post

abbrev pub StatesFit : Type 0
StatesFit =
    (d : Decomposition) (budget : ℕ) (root : Region) (es : List Entry) (t : State) → IsReplay d budget root es t → FitsSplit d t

-- where the stop names a right side, and carries the point, the sum is wide there
abbrev pub IsWideWhere : Decomposition → (block : ℕ) → Master → Solved WideAt → Type 0
IsWideWhere d block point s =
    (row : ℕ) → s.answer ≡ Build row → s.point ≡ Some point → IsWideRow point (inequalities_of d.model d.part block) row
