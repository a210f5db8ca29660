-- A node with its program, and what each step of its solution comes to.
use Rattle.std.specs.Prelude.{ℕ, ◌+◌, ◌≡◌, ℤ, pos, ◌≤ℤ◌, List, length, Option, Some, None}
use Rattle.std.specs.List.{AllByRecursion}
use Rattle.bz_num.specs.Dense.{entry}
use Rattle.bz_model.specs.Decomposed.{IsDecomposed}
use Rattle.bz_model.specs.declared.Model.{Model}
use Rattle.bz_model.specs.Parting.{blocks_of, width_of}
use Rattle.bz_cut.specs.declared.Cut.{Cut}
use Rattle.bz_cut.specs.declared.Mode.{Mode}
use Rattle.bz_cut.specs.declared.Mode.TheVariants as mode
use Rattle.bz_tree.specs.declared.Leaf.{Leaf}
use Rattle.bz_tree.specs.Boxes.{Box}
use Rattle.bz_tree.specs.Ends.{box_of}
use Rattle.bz_tree.specs.Integers.{positions_of}
use Rattle.bz_tree.specs.Leaves.{LeafHolds}
use Rattle.bz_tree.specs.TreeFits.{FitsLeaf}
use Rattle.bz_tableau.specs.Programs.{IsLp}
use Rattle.bz_tableau.specs.declared.answers.LpStop.{LpStop}
use Rattle.bz_tableau.specs.declared.answers.LpStop.TheVariants as lp_stop
use Rattle.bz_tableau.specs.declared.answers.Vals.{Vals}
use Rattle.bz_std.specs.Fitting.{IsWideLeaf}
use Rattle.bz_std.specs.LeavesFrom.{IsLeafFrom}
use Rattle.bz_std.specs.Making.{AreNonnegativeTo}
use Rattle.bz_std.specs.Posed.{IsProgramOf, Posed}
use Rattle.bz_std.specs.Tasks.{IsBoxOf, IsCutOfSplit, node}
use Rattle.bz_std.specs.declared.making.MakeStop.{MakeStop}
use Rattle.bz_std.specs.declared.making.MakeStop.TheVariants as make_stop
use Rattle.bz_event.specs.Nodes.{IsNodeAnswer}
use Rattle.bz_event.specs.Stops.{IsWideInNode}
use Rattle.bz_event.specs.declared.answers.NodeAnswer.{NodeAnswer}
use Rattle.bz_node.specs.declared.programs.NodeProgram.{NodeProgram}

-- ---- the node
abbrev pub model_of : NodeProgram → Model
model_of n = n.split.now.model

abbrev pub part_of : NodeProgram → List ℕ
part_of n = n.split.now.part

abbrev pub region_of : NodeProgram → Box
region_of n = box_of n.task.now.region

abbrev pub cuts_of : NodeProgram → List Cut
cuts_of n = n.task.now.cuts

abbrev pub mode_of : NodeProgram → Mode
mode_of n = n.task.now.mode

-- the program over the master's positions and the etas, in a mode and in the node's own
abbrev pub posed_in : NodeProgram → Mode → Posed
posed_in n way = node (model_of n) (part_of n) (region_of n) (cuts_of n) way

abbrev pub posed_of : NodeProgram → Posed
posed_of n = posed_in n (mode_of n)

-- how many variables it has
abbrev pub variables_of : NodeProgram → ℕ
variables_of n = width_of (part_of n) 0 + blocks_of (part_of n)

-- The task's lists fit the split, the positions are those of the integer columns, and the program is the node's.
pub record IsNodeProgram (n : NodeProgram) : Type 0 where
  pub decomposed : IsDecomposed (model_of n) (part_of n)
  pub region : IsBoxOf (model_of n) (region_of n)
  pub of_split : AllByRecursion (IsCutOfSplit (part_of n)) (cuts_of n)
  pub positions_are : n.positions.now ≡ positions_of (model_of n) (part_of n)
  pub program : IsProgramOf (posed_of n) n.lp.now
  pub is_lp : IsLp n.lp.now

-- ---- what it comes to
abbrev pub AnswersNode : NodeProgram → NodeAnswer → Type 0
AnswersNode n a = IsNodeAnswer (model_of n) (part_of n) (region_of n) (cuts_of n) (mode_of n) n.lp.now a

-- there was no memory, or a number is wide where the stop says
abbrev pub StopsProgram : NodeProgram → LpStop → Type 0
StopsProgram n (lp_stop.Wide at) =
    IsWideInNode (model_of n) (part_of n) (region_of n) (cuts_of n) (mode_of n) n.lp.now at
StopsProgram n lp_stop.OutOfMemory = Unit {0}

-- ---- leaves
abbrev pub HoldsIn : NodeProgram → Leaf → Type 0
HoldsIn n leaf = LeafHolds (model_of n) (part_of n) (region_of n) (cuts_of n) leaf

abbrev pub FitsIn : NodeProgram → Leaf → Type 0
FitsIn n leaf = FitsLeaf (model_of n) (part_of n) (region_of n) (cuts_of n) leaf

-- The numbers of y are one for each row of the program, none of them negative, nor is `by`; and their leaf holds over
-- the node's box and cuts.
pub record AreLeafNumbers (n : NodeProgram) (y : List ℤ) (by : ℤ) : Type 0 where
  pub count : length y ≡ length n.lp.now.rows
  pub multipliers : AreNonnegativeTo (length n.lp.now.rows) (entry y)
  pub nonnegative : (pos 0) ≤ℤ by
  pub holds : (leaf : Leaf) → IsLeafFrom (posed_of n) (entry y) by leaf → HoldsIn n leaf

-- the leaf of y and `by` holds over the node's box and cuts, with no sum or product wide that tells so
pub record IsFittingLeaf (n : NodeProgram) (way : Mode) (y : ℕ → ℤ) (by : ℤ) (leaf : Leaf) : Type 0 where
  pub made : IsLeafFrom (posed_in n way) y by leaf
  pub holds : HoldsIn n leaf
  pub fits : FitsIn n leaf

-- there is no such leaf for want of memory, or because of a wide number
abbrev pub StopsFitting : NodeProgram → (ℕ → ℤ) → ℤ → MakeStop → Type 0
StopsFitting n y by make_stop.Wide = IsWideLeaf (model_of n) (part_of n) (region_of n) (cuts_of n) y by
StopsFitting n y by make_stop.OutOfMemory = Unit {0}

-- in mode Cost the leaf of y fits, and in mode Point there is none
abbrev pub HasCostLeaf : NodeProgram → Mode → Vals → Option Leaf → Type 0
HasCostLeaf n mode.Cost y (Some leaf) = IsFittingLeaf n mode.Cost (entry y.num) y.den leaf
HasCostLeaf n mode.Cost y None = ⊥
HasCostLeaf n mode.Point y leaf = leaf ≡ None

-- in mode Cost the leaf of y doesn't fit, or there was no memory
abbrev pub StopsCostLeaf : NodeProgram → Mode → Vals → MakeStop → Type 0
StopsCostLeaf n mode.Cost y stop = StopsFitting n (entry y.num) y.den stop
StopsCostLeaf n mode.Point y stop = ⊥
