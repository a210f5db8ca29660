-- What the maker of a stop promises of it: the number that is named is wide, and the task comes there.
use Rattle.std.specs.Prelude.{ℕ, zero, suc, ◌+◌, ◌*◌, ◌<◌, ◌≤◌, ◌≡◌, ◌⊎◌, ℤ, pos, ◌*ℤ◌, ◌<ℤ◌, Bool, true, false, List, [], ◌∷◌, ◌++◌, length, Option, Some, None}
use Rattle.std.specs.List.{AllByRecursion, enumerate_from}
use Rattle.bz_first.specs.Tests.{each_of}
use Rattle.bz_num.specs.Dense.{DividesRow, entry}
use Rattle.bz_num.specs.Fold.{IsNarrowSum}
use Rattle.bz_model.specs.declared.BlockPart.{BlockPart}
use Rattle.bz_model.specs.declared.Ineq.{Ineq}
use Rattle.bz_model.specs.declared.Master.{Master}
use Rattle.bz_model.specs.declared.Model.{Model}
use Rattle.bz_model.specs.Parting.{blocks_of, inequalities_of, width_of}
use Rattle.bz_model.specs.Points.{IsWhole}
use Rattle.bz_cut.specs.declared.Cut.{Cut}
use Rattle.bz_cut.specs.declared.Mode.{Mode}
use Rattle.bz_cut.specs.declared.Mode.TheVariants as mode
use Rattle.bz_tree.specs.Boxes.{Box}
use Rattle.bz_tree.specs.Integers.{positions_of}
use Rattle.bz_judge.specs.declared.faults.CheckFault.TheVariants as fault
use Rattle.bz_judge.specs.PointTests.{Tests, block_tests, in_master_tests}
use Rattle.bz_judge.specs.RayTests.{ray_cost_tests, ray_row_tests}
use Rattle.bz_judge.specs.ValueTests.{cost_tests, value_tests}
use Rattle.bz_judge.specs.WideLists.{cut_sums, leaf_sums}
use Rattle.bz_tableau.specs.Answers.{IsEmpty, IsLeast, IsRay}
use Rattle.bz_tableau.specs.Programs.{program_of}
use Rattle.bz_tableau.specs.Stops.{IsOfRelaxed, IsTrueWide}
use Rattle.bz_tableau.specs.declared.answers.Vals.{Vals}
use Rattle.bz_tableau.specs.declared.answers.WideAt.{WideAt}
use Rattle.bz_tableau.specs.declared.answers.WideAt.TheVariants.{Build, Pivot, Den, Fold}
use Rattle.bz_tableau.specs.declared.programs.Lp.{Lp}
use Rattle.bz_std.specs.CutsFrom.{cost_multiplier}
use Rattle.bz_std.specs.Fitting.{IsWideCut, IsWideLeaf}
use Rattle.bz_std.specs.LowestForms.{IsLowestOf}
use Rattle.bz_std.specs.Meanings.{differences}
use Rattle.bz_std.specs.Posed.{IsProgramOf}
use Rattle.bz_std.specs.Stops.{IsFirstWideRow, right_pairs_at}
use Rattle.bz_std.specs.Tasks.{IsBoxOf, IsCutOfSplit, IsMasterOf, IsSeparationLp, floor, node, right_pairs}
use Rattle.bz_event.specs.declared.answers.Solved.{Solved}
use Rattle.bz_event.specs.declared.answers.TaskStop.{TaskStop}
use Rattle.bz_event.specs.declared.answers.TaskStop.TheVariants as stop
use Rattle.bz_event.specs.declared.tasks.TaskName.TheVariants as name
use Rattle.bz_event.specs.Failing.{Fails}
use Rattle.bz_event.specs.Floors.{placed}
use Rattle.bz_event.specs.Nodes.{HasBlockInPoint, value_of}

-- ---- sums of a separation's answer
-- the tests of a fill: its block's inequalities, and in mode Cost its cost
abbrev pub fill_tests : Model → List ℕ → ℕ → Master → Mode → BlockPart → Tests
fill_tests m part b point mode.Cost block = block_tests m part point (b, block) ++ cost_tests m part point (b, block)
fill_tests m part b point mode.Point block = block_tests m part point (b, block)

-- the least rise is above 0, and a sum of the basis's cut is wide
pub record IsWideCutSum (m : Model) (part : List ℕ) (b : ℕ) (way : Mode) (z y : Vals) (list at : ℕ) : Type 0 where
  pub rises : (pos 0) <ℤ (entry z.num (2 * width_of part b))
  pub list_is : list ≡ cut_sums
  pub at_is : at ≡ 0
  pub wide : IsWideCut m part b (entry y.num) (cost_multiplier way (length (inequalities_of m part b)) (entry y.num))

-- the least rise is 0, and the sum that is named of the fill that the point makes is wide
pub record IsWideFillSum (m : Model) (part : List ℕ) (b : ℕ) (point : Master) (way : Mode) (z : Vals) (list at : ℕ)
    : Type 0 where
  pub stays : entry z.num (2 * width_of part b) ≡ pos 0
  pub fill : BlockPart
  pub lowest : IsLowestOf (width_of part b) z.den (differences (entry z.num)) fill.times fill.y
  pub wide : Fails (fill_tests m part b point way fill) (fault.Wide list at)

-- the basis answers the relaxed program, and the sum that is named of what this answer makes is wide
pub record IsWideSeparation (m : Model) (part : List ℕ) (b : ℕ) (point : Master) (way : Mode)
    (lp : Lp) (basis : List ℕ) (list at : ℕ) : Type 0 where
  pub z : Vals
  pub y : Vals
  pub least : IsLeast true (program_of lp) basis z y
  pub sum : IsWideCutSum m part b way z y list at ⊎ IsWideFillSum m part b point way z list at

-- ---- sums of a floor's answer
-- the tests of a direction that need sums: the model's rows, and its inner cost
abbrev pub direction_tests : Model → List ℤ → Tests
direction_tests m ray = each_of (ray_row_tests ray) (enumerate_from 0 m.rows) ++ ray_cost_tests m ray

-- the basis answers the program with a least cost, and a sum of its cut is wide
pub record IsWideFloorCut (m : Model) (part : List ℕ) (b : ℕ) (lp : Lp) (basis : List ℕ) (list at : ℕ) : Type 0 where
  pub z : Vals
  pub y : Vals
  pub least : IsLeast false (program_of lp) basis z y
  pub list_is : list ≡ cut_sums
  pub at_is : at ≡ 0
  pub wide : IsWideCut m part b (entry y.num) y.den

-- d is the direction f over n positions, divided by the greatest common divisor of its numbers
pub record IsPrimitiveOf (n : ℕ) (f : ℕ → ℤ) (d : List ℤ) : Type 0 where
  pub count : length d ≡ n
  pub times : ℤ
  pub positive : (pos 0) <ℤ times
  pub numbers : (j : ℕ) → j < n → times *ℤ entry d j ≡ f j
  pub primitive : (g : ℕ) → DividesRow g d → g ≡ 1

-- the basis answers the program with a ray along the column, and the sum that is named of its direction is wide
pub record IsWideFloorRay (m : Model) (part : List ℕ) (b : ℕ) (lp : Lp) (basis : List ℕ) (column list at : ℕ)
    : Type 0 where
  pub z : Vals
  pub ray : List ℤ
  pub falls : IsRay (program_of lp) basis column z ray
  pub d : List ℤ
  pub direction : IsPrimitiveOf (width_of part b) (differences (entry ray)) d
  pub wide : Fails (direction_tests m (placed part b d)) (fault.Wide list at)

abbrev pub IsWideFloor : Model → List ℕ → ℕ → Lp → List ℕ → Option ℕ → ℕ → ℕ → Type 0
IsWideFloor m part b lp basis None list at = IsWideFloorCut m part b lp basis list at
IsWideFloor m part b lp basis (Some column) list at = IsWideFloorRay m part b lp basis column list at

-- ---- sums of a node's answer
-- the tests of a point of the master that need sums: its inequalities, and in mode Cost its value
abbrev pub master_tests : Model → List ℕ → Mode → Master → Tests
master_tests m part mode.Cost point =
    each_of (in_master_tests point) (enumerate_from 0 (inequalities_of m part 0))
    ++ value_tests m part point (value_of m part point)
master_tests m part mode.Point point = each_of (in_master_tests point) (enumerate_from 0 (inequalities_of m part 0))

-- the basis shows that there is no point, and a sum of its leaf is wide
pub record IsWideEmptyNode (m : Model) (part : List ℕ) (box : Box) (cuts : List Cut)
    (lp : Lp) (basis : List ℕ) (list at : ℕ) : Type 0 where
  pub y : List ℤ
  pub empty : IsEmpty (program_of lp) basis y
  pub list_is : list ≡ leaf_sums
  pub at_is : at ≡ 0
  pub wide : IsWideLeaf m part box cuts (entry y) (pos 0)

-- in mode Cost a sum of the leaf of least cost is wide
pub record IsWideLeafSum (m : Model) (part : List ℕ) (box : Box) (cuts : List Cut) (way : Mode) (y : Vals)
    (list at : ℕ) : Type 0 where
  pub mode_is : way ≡ mode.Cost
  pub list_is : list ≡ leaf_sums
  pub at_is : at ≡ 0
  pub wide : IsWideLeaf m part box cuts (entry y.num) y.den

-- the point is whole on the integer columns, and the sum that is named of it is wide
pub record IsWidePointSum (m : Model) (part : List ℕ) (way : Mode) (z : Vals) (list at : ℕ) : Type 0 where
  pub whole : AllByRecursion (λ position. IsWhole (differences (entry z.num) position) z.den) (positions_of m part)
  pub point : Master
  pub shape : IsMasterOf part point
  pub lowest : IsLowestOf (width_of part 0 + blocks_of part) z.den (differences (entry z.num))
      point.den (point.x ++ point.eta)
  pub wide : Fails (master_tests m part way point) (fault.Wide list at)

-- the basis answers the program with a least cost, and the sum that is named of what this answer makes is wide
pub record IsWideLeastNode (m : Model) (part : List ℕ) (box : Box) (cuts : List Cut) (way : Mode)
    (lp : Lp) (basis : List ℕ) (list at : ℕ) : Type 0 where
  pub z : Vals
  pub y : Vals
  pub least : IsLeast false (program_of lp) basis z y
  pub sum : IsWideLeafSum m part box cuts way y list at ⊎ IsWidePointSum m part way z list at

-- an answer of the relaxed program shows that there is no point
abbrev pub IsWideNode : Model → List ℕ → Box → List Cut → Mode → Lp → (relaxed : Bool) → List ℕ → ℕ → ℕ → Type 0
IsWideNode m part box cuts way lp true basis list at = IsWideEmptyNode m part box cuts lp basis list at
IsWideNode m part box cuts way lp false basis list at = IsWideLeastNode m part box cuts way lp basis list at

-- ---- stops
-- a program that says nothing, which is carried where none was built
pub record IsNoProgram (lp : Lp) : Type 0 where
  pub columns : lp.columns ≡ 0
  pub rows : lp.rows ≡ []
  pub cost : lp.cost ≡ []

-- a program without rows and columns
pub record HasNoRows (lp : Lp) : Type 0 where
  pub columns : lp.columns ≡ 0
  pub rows : lp.rows ≡ []

-- the sum of the right side of this row of the list is wide at the point
pub record IsWideRow (point : Master) (is : List Ineq) (row : ℕ) : Type 0 where
  pub inside : row < length is
  pub wide : ¬ IsNarrowSum (right_pairs_at point is row)

-- a separation stops at a right side whose sum is wide, at a wide place of its relaxed program's solution, or at a wide
-- sum of what the answer makes
abbrev pub IsWideInSeparation : Model → List ℕ → ℕ → Master → Mode → Lp → WideAt → Type 0
IsWideInSeparation m part b point way lp (Build row) =
    HasNoRows lp × IsWideRow point (inequalities_of m part b) row
IsWideInSeparation m part b point way lp (Pivot relaxed basis goal row pivot_row column) =
    IsSeparationLp m part point b way lp
    × IsTrueWide lp (Pivot relaxed basis goal row pivot_row column) × (relaxed ≡ true)
IsWideInSeparation m part b point way lp (Den relaxed basis at) =
    IsSeparationLp m part point b way lp × IsTrueWide lp (Den relaxed basis at) × (relaxed ≡ true)
IsWideInSeparation m part b point way lp (Fold relaxed basis column list at) =
    IsSeparationLp m part point b way lp × (relaxed ≡ true) × (column ≡ None)
    × IsWideSeparation m part b point way lp basis list at

-- where a separation names a right side, it is the first whose sum is wide, and the program that is carried has no cost
-- either
abbrev pub NamesFirstRow : Model → List ℕ → ℕ → Master → Lp → WideAt → Type 0
NamesFirstRow m part b point lp (Build row) = IsNoProgram lp × IsFirstWideRow point (inequalities_of m part b) row
NamesFirstRow m part b point lp (Pivot relaxed basis goal row pivot_row column) = Unit {0}
NamesFirstRow m part b point lp (Den relaxed basis at) = Unit {0}
NamesFirstRow m part b point lp (Fold relaxed basis column list at) = Unit {0}

-- a floor stops at a wide place of its program's solution, or at a wide sum of what the answer makes
abbrev pub IsWideInFloor : Model → List ℕ → ℕ → Lp → WideAt → Type 0
IsWideInFloor m part b lp (Build row) = ⊥
IsWideInFloor m part b lp (Pivot relaxed basis goal row pivot_row column) =
    IsTrueWide lp (Pivot relaxed basis goal row pivot_row column)
IsWideInFloor m part b lp (Den relaxed basis at) = IsTrueWide lp (Den relaxed basis at)
IsWideInFloor m part b lp (Fold relaxed basis column list at) =
    (relaxed ≡ false) × IsWideFloor m part b lp basis column list at

-- so does a node
abbrev pub IsWideInNode : Model → List ℕ → Box → List Cut → Mode → Lp → WideAt → Type 0
IsWideInNode m part box cuts way lp (Build row) = ⊥
IsWideInNode m part box cuts way lp (Pivot relaxed basis goal row pivot_row column) =
    IsTrueWide lp (Pivot relaxed basis goal row pivot_row column)
IsWideInNode m part box cuts way lp (Den relaxed basis at) = IsTrueWide lp (Den relaxed basis at)
IsWideInNode m part box cuts way lp (Fold relaxed basis column list at) =
    (column ≡ None) × IsWideNode m part box cuts way lp relaxed basis list at

-- the separation of block b at the posted point stops where the carried place says
pub record StopsSeparation (m : Model) (part : List ℕ) (post b : ℕ) (point : Master) (way : Mode) (s : Solved WideAt)
    : Type 0 where
  pub task : s.task ≡ name.Sep post b
  pub first : 0 < b
  pub last : b ≤ blocks_of part
  pub point_is : s.point ≡ Some point
  pub fits : IsMasterOf part point
  pub wide : IsWideInSeparation m part b point way s.lp s.answer

-- the floor of block b does
pub record StopsFloor (m : Model) (part : List ℕ) (b : ℕ) (s : Solved WideAt) : Type 0 where
  pub task : s.task ≡ name.Floor b
  pub first : 0 < b
  pub last : b ≤ blocks_of part
  pub point_is : s.point ≡ None
  pub program : IsProgramOf (floor m part b) s.lp
  pub wide : IsWideInFloor m part b s.lp s.answer

-- the node of this box and these cuts, as a task with these numbers, does
pub record StopsNode (m : Model) (part : List ℕ) (number front : ℕ) (box : Box) (cuts : List Cut) (way : Mode)
    (s : Solved WideAt) : Type 0 where
  pub task : s.task ≡ name.Node number front
  pub region : IsBoxOf m box
  pub of_split : AllByRecursion (IsCutOfSplit part) cuts
  pub block : HasBlockInPoint part way
  pub point_is : s.point ≡ None
  pub program : IsProgramOf (node m part box cuts way) s.lp
  pub wide : IsWideInNode m part box cuts way s.lp s.answer

-- some separation does
pub record StopsSomeSeparation (m : Model) (part : List ℕ) (s : Solved WideAt) : Type 0 where
  pub post : ℕ
  pub block : ℕ
  pub point : Master
  pub way : Mode
  pub stops : StopsSeparation m part post block point way s

-- some floor does
pub record StopsSomeFloor (m : Model) (part : List ℕ) (s : Solved WideAt) : Type 0 where
  pub block : ℕ
  pub stops : StopsFloor m part block s

-- some node does
pub record StopsSomeNode (m : Model) (part : List ℕ) (s : Solved WideAt) : Type 0 where
  pub number : ℕ
  pub front : ℕ
  pub box : Box
  pub cuts : List Cut
  pub way : Mode
  pub stops : StopsNode m part number front box cuts way s

-- some task does
abbrev pub StopsSomeTask : Model → List ℕ → Solved WideAt → Type 0
StopsSomeTask m part s = StopsSomeSeparation m part s ⊎ (StopsSomeFloor m part s ⊎ StopsSomeNode m part s)

-- ---- why a task has no answer
-- there was no memory, or the separation stops at a wide number, of the right sides at the first
abbrev pub EndsSeparation : Model → List ℕ → ℕ → ℕ → Master → Mode → TaskStop → Type 0
EndsSeparation m part post b point way (stop.Wide s) =
    StopsSeparation m part post b point way s × NamesFirstRow m part b point s.lp s.answer
EndsSeparation m part post b point way stop.OutOfMemory = Unit {0}

-- the same of a floor
abbrev pub EndsFloor : Model → List ℕ → ℕ → TaskStop → Type 0
EndsFloor m part b (stop.Wide s) = StopsFloor m part b s
EndsFloor m part b stop.OutOfMemory = Unit {0}

-- the same of a node
abbrev pub EndsNode : Model → List ℕ → ℕ → ℕ → Box → List Cut → Mode → TaskStop → Type 0
EndsNode m part number front box cuts way (stop.Wide s) = StopsNode m part number front box cuts way s
EndsNode m part number front box cuts way stop.OutOfMemory = Unit {0}
