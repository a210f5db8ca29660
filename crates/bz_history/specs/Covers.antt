-- Nothing better is lost: what a search may still find.
use Rattle.std.specs.Prelude.{ℕ, ◌≡◌, ℤ, true, List}
use Rattle.bz_algebra.specs.Sums.{dot}
use Rattle.bz_model.specs.Decomposed.{IsDecomposed}
use Rattle.bz_model.specs.Parting.{inner_cost}
use Rattle.bz_model.specs.Points.{IsFeasible, coordinate}
use Rattle.bz_model.specs.Splits.{Decomposition}
use Rattle.bz_cut.specs.declared.Mode.TheVariants as mode
use Rattle.bz_tree.specs.Boxes.{LiesIn}
use Rattle.bz_event.specs.declared.events.Entry.{Entry}
use Rattle.bz_event.specs.Nodes.{value_of}
use Rattle.bz_history.specs.declared.state.Node.{Node}
use Rattle.bz_history.specs.declared.state.Post.{Post}
use Rattle.bz_history.specs.declared.state.Region.{Region}
use Rattle.bz_history.specs.Histories.{IsReplay}
use Rattle.bz_history.specs.States.{State, box_of, is_open, mode_of}
use Rattle.bz_history.specs.Steps.{IsAt, IsBelow, IsBest}

-- the point lies in the box of an open node
pub record IsCovered (d : Decomposition) (nodes : List Node) (p : List ℤ) (q : ℤ) : Type 0 where
  pub number : ℕ
  pub node : Node
  pub is_node : IsAt nodes number node
  pub stands_open : is_open node ≡ true
  pub lies : LiesIn d.model (box_of node.region) p q

-- in mode Cost the point's inner cost is below the value of the best post so far, where there is one
abbrev pub IsUnbeaten : Decomposition → State → List ℤ → ℤ → Type 0
IsUnbeaten d t p q =
    mode_of t ≡ mode.Cost → (best : Post) → IsBest t best →
    IsBelow (dot (inner_cost d.model) (coordinate p)) q (value_of d.model d.part best.point) best.point.den

-- Each feasible point that is better than the best post so far lies in the box of an open node; where there is no best post,
-- or in mode Point, each feasible point.
abbrev pub KeepsBetterPoints : Decomposition → State → Type 0
KeepsBetterPoints d t = (p : List ℤ) (q : ℤ) → IsFeasible d.model p q → IsUnbeaten d t p q → IsCovered d t.nodes p q

abbrev pub NothingBetterIsLost : Type 0
NothingBetterIsLost =
    (d : Decomposition) (budget : ℕ) (root : Region) (es : List Entry) (t : State) → IsDecomposed d.model d.part →
    IsReplay d budget root es t → KeepsBetterPoints d t
