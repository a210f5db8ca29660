-- What the maker of a node's answer promises of it.
use Rattle.std.specs.Prelude.{ℕ, ◌+◌, ◌≡◌, ◌<◌, ℤ, pos, ◌+ℤ◌, ◌*ℤ◌, ◌≤ℤ◌, ◌<ℤ◌, List, ◌++◌, length, Option, Some, None, unsigned_abs, slice_index_or, false}
use Rattle.std.specs.Int.{◌∣◌}
use Rattle.std.specs.List.{AllByRecursion}
use Rattle.bz_algebra.specs.Sums.{dot}
use Rattle.bz_num.specs.Dense.{DividesRow, entry}
use Rattle.bz_num.specs.Fold.{IsNarrowSum}
use Rattle.bz_model.specs.declared.Master.{Master}
use Rattle.bz_model.specs.declared.Model.{Model}
use Rattle.bz_model.specs.Parting.{blocks_of, inequalities_of, inner_cost, terms_in}
use Rattle.bz_model.specs.PartPoints.{total}
use Rattle.bz_model.specs.PointFits.{FitsInMaster, FitsStated}
use Rattle.bz_model.specs.Points.{IsWhole, coordinate}
use Rattle.bz_model.specs.PointSums.{value_pairs}
use Rattle.bz_cut.specs.declared.Cut.{Cut}
use Rattle.bz_cut.specs.declared.Mode.{Mode}
use Rattle.bz_cut.specs.declared.Mode.TheVariants as mode
use Rattle.bz_tree.specs.declared.Leaf.{Leaf}
use Rattle.bz_tree.specs.Boxes.{Box}
use Rattle.bz_tree.specs.Integers.{positions_of}
use Rattle.bz_tree.specs.Leaves.{LeafHolds}
use Rattle.bz_tree.specs.TreeFits.{FitsLeaf}
use Rattle.bz_tableau.specs.Answers.{IsLeast}
use Rattle.bz_tableau.specs.Programs.{program_of}
use Rattle.bz_tableau.specs.declared.answers.Vals.{Vals}
use Rattle.bz_tableau.specs.declared.programs.Lp.{Lp}
use Rattle.bz_std.specs.Floored.{AreFloored}
use Rattle.bz_std.specs.LowestForms.{MeetsNode}
use Rattle.bz_std.specs.Meanings.{IsPossible, differences}
use Rattle.bz_std.specs.Posed.{IsProgramOf}
use Rattle.bz_std.specs.Tasks.{IsBoxOf, IsCutOfSplit, IsMasterOf, node, node_cost}
use Rattle.bz_event.specs.declared.answers.NodeAnswer.{NodeAnswer}
use Rattle.bz_event.specs.declared.answers.NodeAnswer.TheVariants as answer
use Rattle.bz_event.specs.declared.answers.Solved.{Solved}
use Rattle.bz_event.specs.declared.tasks.TaskName.TheVariants as name

-- ---- leaves
-- the leaf holds over the box and the cuts, with no sum or product wide that tells so, and its bound over its delta is
-- value / den
pub record IsLeafOfValue (m : Model) (part : List ℕ) (box : Box) (cuts : List Cut) (value den : ℤ) (leaf : Leaf)
    : Type 0 where
  pub holds : LeafHolds m part box cuts leaf
  pub fits : FitsLeaf m part box cuts leaf
  pub delta : (pos 0) <ℤ leaf.delta
  pub bound : leaf.bound *ℤ den ≡ value *ℤ leaf.delta

-- in mode Cost there is such a leaf, and in mode Point there is none
abbrev pub HasLeafOfValue : Model → List ℕ → Box → List Cut → Mode → ℤ → ℤ → Option Leaf → Type 0
HasLeafOfValue m part box cuts mode.Cost value den (Some leaf) = IsLeafOfValue m part box cuts value den leaf
HasLeafOfValue m part box cuts mode.Cost value den None = ⊥
HasLeafOfValue m part box cuts mode.Point value den leaf = leaf ≡ None

-- ---- no point
-- no point meets the node, and the leaf with delta 0 shows it, with no sum or product wide that tells so
pub record IsEmptyNode (m : Model) (part : List ℕ) (box : Box) (cuts : List Cut) (way : Mode) (leaf : Leaf) : Type 0 where
  pub holds : LeafHolds m part box cuts leaf
  pub delta : leaf.delta ≡ pos 0
  pub fits : FitsLeaf m part box cuts leaf
  pub impossible : ¬ IsPossible (node m part box cuts way)

-- ---- a fractional point
-- value is v / den rounded down
pub record IsRoundedDown (v den value : ℤ) : Type 0 where
  pub at_most : (value *ℤ den) ≤ℤ v
  pub above : v <ℤ ((value +ℤ pos 1) *ℤ den)

-- the integer column at the position is the first in file order whose number v / den isn't whole
pub record IsFirstFractional (positions : List ℕ) (v : ℕ → ℤ) (den : ℤ) (position : ℕ) : Type 0 where
  pub place : ℕ
  pub inside : place < length positions
  pub position_is : slice_index_or positions place 0 ≡ position
  pub fractional : ¬ IsWhole (v position) den
  pub before : (k : ℕ) → k < place → IsWhole (v (slice_index_or positions k 0)) den

-- The basis answers the program with a point of least cost. The first integer column that isn't whole there stands at
-- the position; value is its number rounded down. In mode Cost the leaf's bound is the point's cost.
pub record IsSplitNode (m : Model) (part : List ℕ) (box : Box) (cuts : List Cut) (way : Mode)
    (lp : Lp) (basis : List ℕ) (position : ℕ) (value : ℤ) (leaf : Option Leaf) : Type 0 where
  pub z : Vals
  pub y : Vals
  pub least : IsLeast false (program_of lp) basis z y
  pub first : IsFirstFractional (positions_of m part) (differences (entry z.num)) z.den position
  pub rounded : IsRoundedDown (differences (entry z.num) position) z.den value
  pub leaf_is : HasLeafOfValue m part box cuts way
      (dot (node_cost m part mode.Cost) (differences (entry z.num))) z.den leaf
  pub possible : IsPossible (node m part box cuts way)

-- ---- a whole point
-- what the point costs with its etas, times its denominator
abbrev pub value_of : Model → List ℕ → Master → ℤ
value_of m part point = dot (terms_in part 0 (inner_cost m)) (coordinate point.x) +ℤ total point.eta

-- no natural but 1 divides the denominator and all numbers of the point
abbrev pub IsLowestMaster : Master → Type 0
IsLowestMaster point =
    (d : ℕ) → d ∣ unsigned_abs point.den → DividesRow d point.x → DividesRow d point.eta → d ≡ 1

-- in mode Cost no sum is wide that makes the point's value, nor one of the objective that it states
abbrev pub FitsValue : Model → List ℕ → Mode → Master → Type 0
FitsValue m part mode.Cost point =
    IsNarrowSum (value_pairs (terms_in part 0 (inner_cost m)) point) × FitsStated m (value_of m part point) point.den
FitsValue m part mode.Point point = Unit {0}

-- The point meets the node and is whole on the integer columns, with no sum or product wide that tells so; in mode Cost
-- the leaf's bound is the point's cost, so that no point of the node costs less.
pub record IsPointOfNode (m : Model) (part : List ℕ) (box : Box) (cuts : List Cut) (way : Mode)
    (point : Master) (leaf : Option Leaf) : Type 0 where
  pub shape : IsMasterOf part point
  pub lowest : IsLowestMaster point
  pub meets : MeetsNode m part box cuts point
  pub whole : AllByRecursion (λ position. IsWhole (coordinate point.x position) point.den) (positions_of m part)
  pub fits : AllByRecursion (FitsInMaster point) (inequalities_of m part 0)
  pub fits_value : FitsValue m part way point
  pub leaf_is : HasLeafOfValue m part box cuts way (value_of m part point) point.den leaf
  pub possible : IsPossible (node m part box cuts way)

-- ---- answers
-- the answer of the node of this box and these cuts, whose program is lp
abbrev pub IsNodeAnswer : Model → List ℕ → Box → List Cut → Mode → Lp → NodeAnswer → Type 0
IsNodeAnswer m part box cuts way lp (answer.Split basis position value leaf) =
    IsSplitNode m part box cuts way lp basis position value leaf
IsNodeAnswer m part box cuts way lp (answer.Empty leaf) = IsEmptyNode m part box cuts way leaf
IsNodeAnswer m part box cuts way lp (answer.Point point leaf) = IsPointOfNode m part box cuts way point leaf

-- in mode Point there is a block
abbrev pub HasBlockInPoint : List ℕ → Mode → Type 0
HasBlockInPoint part way = way ≡ mode.Point → 0 < blocks_of part

-- The cuts hold each eta of a node's program from below in mode Cost; in mode Point, where no answer has a leaf, there is
-- a block.
abbrev pub IsReady : List ℕ → List Cut → Mode → Type 0
IsReady part cuts mode.Cost = AreFloored (blocks_of part) cuts
IsReady part cuts mode.Point = 0 < blocks_of part

-- the node of this box and these cuts, as a task with these numbers, is solved by what is carried
pub record SolvesNode (m : Model) (part : List ℕ) (number front : ℕ) (box : Box) (cuts : List Cut) (way : Mode)
    (s : Solved NodeAnswer) : Type 0 where
  pub task : s.task ≡ name.Node number front
  pub region : IsBoxOf m box
  pub of_split : AllByRecursion (IsCutOfSplit part) cuts
  pub block : HasBlockInPoint part way
  pub point_is : s.point ≡ None
  pub program : IsProgramOf (node m part box cuts way) s.lp
  pub answer : IsNodeAnswer m part box cuts way s.lp s.answer

-- some node is
pub record SolvesSomeNode (m : Model) (part : List ℕ) (s : Solved NodeAnswer) : Type 0 where
  pub number : ℕ
  pub front : ℕ
  pub box : Box
  pub cuts : List Cut
  pub way : Mode
  pub solves : SolvesNode m part number front box cuts way s
