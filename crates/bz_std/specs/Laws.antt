-- What is proved of programs over variables of either sign and of the programs over columns that stand for them.
use Rattle.std.specs.Prelude.{ℕ, ◌+◌, ◌*◌, ◌<◌, ◌≤◌, ◌≡◌, ◌↔◌, ℤ, pos, ◌*ℤ◌, ◌≤ℤ◌, ◌<ℤ◌, ◌⊎◌, true, false, List, ◌++◌, length}
use Rattle.std.specs.List.{AllByRecursion}
use Rattle.bz_algebra.specs.Sums.{dot}
use Rattle.bz_algebra.specs.Tableaus.{AreAlike}
use Rattle.bz_model.specs.declared.BlockPart.{BlockPart}
use Rattle.bz_model.specs.declared.Master.{Master}
use Rattle.bz_model.specs.declared.Model.{Model}
use Rattle.bz_model.specs.Decomposed.{IsDecomposed}
use Rattle.bz_model.specs.PartPoints.{BlockHolds, HoldsInBlock}
use Rattle.bz_model.specs.Parting.{blocks_of, inequalities_of, width_of}
use Rattle.bz_model.specs.Points.{IsWhole, coordinate}
use Rattle.bz_cut.specs.declared.Cut.{Cut}
use Rattle.bz_cut.specs.declared.Mode.{Mode}
use Rattle.bz_cut.specs.declared.Mode.TheVariants as mode
use Rattle.bz_cut.specs.Cuts.{IsValid}
use Rattle.bz_cut.specs.Points.{AreSame, CutsOff}
use Rattle.bz_tree.specs.declared.Leaf.{Leaf}
use Rattle.bz_tree.specs.Boxes.{Box}
use Rattle.bz_tree.specs.Leaves.{LeafHolds}
use Rattle.bz_tableau.specs.Answers.{IsEmpty, IsLeast, IsRay}
use Rattle.bz_tableau.specs.Dense.{entry}
use Rattle.bz_tableau.specs.Laws.{place}
use Rattle.bz_tableau.specs.Programs.{program_of}
use Rattle.bz_tableau.specs.declared.answers.Vals.{Vals}
use Rattle.bz_tableau.specs.declared.programs.Lp.{Lp}
use Rattle.bz_std.specs.CutsFrom.{BalancesCost, IsCutFrom, IsNoCut, IsSeparationCut, cost_multiplier}
use Rattle.bz_std.specs.CutsOfBases.{CutOf}
use Rattle.bz_std.specs.Floored.{AreFloored, CostFalls, CostIsBalanced}
use Rattle.bz_std.specs.LeavesFrom.{IsLeafFrom}
use Rattle.bz_std.specs.LowestForms.{IsLowestOf, MeetsNode}
use Rattle.bz_std.specs.Meanings.{differences, IsEmptyBy, IsFallAlong, IsLeastAt, IsLeastRise, IsPossible, MeetsWithin}
use Rattle.bz_std.specs.Posed.{IsPosed, IsProgramOf, Posed}
use Rattle.bz_std.specs.Tasks.{IsCutOfSplit, IsSeparationLp, floor, node, node_cost, separation}

-- Each answer over the columns is one over the variables that they stand for. The least s of the relaxed program is the
-- number of its last column.
pub record AnswersCross : Type 0 where
  pub least : (q : Posed) (lp : Lp) (basis : List ℕ) (z y : Vals) → IsProgramOf q lp → IsPosed q →
      IsLeast false (program_of lp) basis z y →
      IsLeastAt q (differences (entry z.num)) z.den (entry y.num) y.den
  pub rise : (q : Posed) (lp : Lp) (basis : List ℕ) (z y : Vals) → IsProgramOf q lp → IsPosed q →
      IsLeast true (program_of lp) basis z y →
      IsLeastRise q (differences (entry z.num)) (entry z.num (2 * q.variables)) z.den (entry y.num) y.den
  pub empty : (q : Posed) (lp : Lp) (basis : List ℕ) (y : List ℤ) → IsProgramOf q lp → IsPosed q →
      IsEmpty (program_of lp) basis y → IsEmptyBy q (entry y)
  pub ray : (q : Posed) (lp : Lp) (basis : List ℕ) (column : ℕ) (z : Vals) (d : List ℤ) → IsProgramOf q lp → IsPosed q →
      IsRay (program_of lp) basis column z d → IsFallAlong q (differences (entry d))

-- Which programs have a point. Multipliers that show that there is none are right, and so is a least rise above 0; one
-- of 0 is a point's. A least rise is least: no point passes each right side by less. A least cost is least.
pub record PointsAreDecided : Type 0 where
  pub empty : (q : Posed) (y : ℕ → ℤ) → IsPosed q → IsEmptyBy q y → ¬ IsPossible q
  pub rises : (q : Posed) (v : ℕ → ℤ) (s den : ℤ) (y : ℕ → ℤ) (by : ℤ) → IsPosed q → IsLeastRise q v s den y by →
      (pos 0) <ℤ s → ¬ IsPossible q
  pub stands : (q : Posed) (v : ℕ → ℤ) (s den : ℤ) (y : ℕ → ℤ) (by : ℤ) → IsLeastRise q v s den y by →
      s ≡ pos 0 → MeetsWithin q v den (pos 0)
  pub rise_is_least : (q : Posed) (v : ℕ → ℤ) (s den : ℤ) (y : ℕ → ℤ) (by : ℤ) (w : ℕ → ℤ) (d t : ℤ) → IsPosed q →
      IsLeastRise q v s den y by → (pos 0) <ℤ d → (pos 0) ≤ℤ t → MeetsWithin q w d t → (s *ℤ d) ≤ℤ (t *ℤ den)
  pub least : (q : Posed) (v : ℕ → ℤ) (den : ℤ) (y : ℕ → ℤ) (by : ℤ) (other : IsPossible q) → IsPosed q →
      IsLeastAt q v den y by → (dot q.cost v *ℤ other.den) ≤ℤ (dot q.cost other.v *ℤ den)

-- Cuts of a block are valid where their multipliers balance the block's cost, as those of a separation do in both modes
-- and those of a floor, whose cut has a number above 0 at its eta.
pub record CutsAreValid : Type 0 where
  pub balanced : (m : Model) (part : List ℕ) (b : ℕ) (y : ℕ → ℤ) (raw : ℤ) (cut : Cut) → 0 < b → b ≤ blocks_of part →
      BalancesCost m part b y raw → IsCutFrom m part b y raw cut → IsValid m part cut
  pub of_separation : (m : Model) (part : List ℕ) (point : Master) (b : ℕ) (way : Mode)
      (v : ℕ → ℤ) (s den : ℤ) (y : ℕ → ℤ) (by : ℤ) (cut : Cut) → 0 < b → b ≤ blocks_of part →
      IsLeastRise (separation m part point b way) v s den y by → IsSeparationCut m part b way y cut → IsValid m part cut
  pub of_floor : (m : Model) (part : List ℕ) (b : ℕ) (v : ℕ → ℤ) (den : ℤ) (y : ℕ → ℤ) (by : ℤ) (cut : Cut) →
      0 < b → b ≤ blocks_of part →
      IsLeastAt (floor m part b) v den y by → IsCutFrom m part b y by cut → IsValid m part cut
  pub has_eta : (m : Model) (part : List ℕ) (b : ℕ) (v : ℕ → ℤ) (den : ℤ) (y : ℕ → ℤ) (by : ℤ) (cut : Cut) →
      IsLeastAt (floor m part b) v den y by → IsCutFrom m part b y by cut → (pos 0) <ℤ cut.p0

-- Where the least rise of a separation is above 0, not all numbers of its cut are 0 before their division, and the cut
-- cuts off the point.
pub record SeparationsCutOff : Type 0 where
  pub makes : (m : Model) (part : List ℕ) (point : Master) (b : ℕ) (way : Mode)
      (v : ℕ → ℤ) (s den : ℤ) (y : ℕ → ℤ) (by : ℤ) → IsDecomposed m part →
      IsLeastRise (separation m part point b way) v s den y by → (pos 0) <ℤ s →
      ¬ IsNoCut m part b y (cost_multiplier way (length (inequalities_of m part b)) y)
  pub cuts_off : (m : Model) (part : List ℕ) (point : Master) (b : ℕ) (way : Mode)
      (v : ℕ → ℤ) (s den : ℤ) (y : ℕ → ℤ) (by : ℤ) (cut : Cut) → IsDecomposed m part →
      IsLeastRise (separation m part point b way) v s den y by → (pos 0) <ℤ s →
      IsSeparationCut m part b way y cut → CutsOff cut point

-- The leaf that an answer of a node makes holds over the node's box and cuts: that of a least cost, which is its bound
-- over its delta, and that of a node without a point, with delta 0.
pub record LeavesAreRight : Type 0 where
  pub least : (m : Model) (part : List ℕ) (box : Box) (cuts : List Cut)
      (v : ℕ → ℤ) (den : ℤ) (y : ℕ → ℤ) (by : ℤ) (leaf : Leaf) →
      IsDecomposed m part → AllByRecursion (IsCutOfSplit part) cuts →
      IsLeastAt (node m part box cuts mode.Cost) v den y by →
      IsLeafFrom (node m part box cuts mode.Cost) y by leaf → LeafHolds m part box cuts leaf
  pub delta : (m : Model) (part : List ℕ) (box : Box) (cuts : List Cut)
      (v : ℕ → ℤ) (den : ℤ) (y : ℕ → ℤ) (by : ℤ) (leaf : Leaf) →
      IsLeastAt (node m part box cuts mode.Cost) v den y by →
      IsLeafFrom (node m part box cuts mode.Cost) y by leaf → (pos 0) <ℤ leaf.delta
  pub bound : (m : Model) (part : List ℕ) (box : Box) (cuts : List Cut)
      (v : ℕ → ℤ) (den : ℤ) (y : ℕ → ℤ) (by : ℤ) (leaf : Leaf) →
      IsLeastAt (node m part box cuts mode.Cost) v den y by →
      IsLeafFrom (node m part box cuts mode.Cost) y by leaf →
      leaf.bound *ℤ den ≡ dot (node_cost m part mode.Cost) v *ℤ leaf.delta
  pub empty : (m : Model) (part : List ℕ) (box : Box) (cuts : List Cut) (way : Mode) (y : ℕ → ℤ) (leaf : Leaf) →
      IsDecomposed m part → AllByRecursion (IsCutOfSplit part) cuts →
      IsEmptyBy (node m part box cuts way) y →
      IsLeafFrom (node m part box cuts way) y (pos 0) leaf → LeafHolds m part box cuts leaf

-- Of each of the three programs the terms are of its variables.
pub record TasksArePosed : Type 0 where
  pub of_separation : (m : Model) (part : List ℕ) (point : Master) (b : ℕ) (way : Mode) → IsDecomposed m part →
      IsPosed (separation m part point b way)
  pub of_floor : (m : Model) (part : List ℕ) (b : ℕ) → IsDecomposed m part → IsPosed (floor m part b)
  pub of_node : (m : Model) (part : List ℕ) (box : Box) (cuts : List Cut) (way : Mode) → IsDecomposed m part →
      AllByRecursion (IsCutOfSplit part) cuts → IsPosed (node m part box cuts way)

-- Of each block exactly one of the two exists: a direction along which its cost falls and none of its inequalities
-- rises, or multipliers that balance the cost. And a floor's program always has a point, so that none is shown empty.
pub record FloorsHaveOneEnd : Type 0 where
  pub either : (m : Model) (part : List ℕ) (b : ℕ) → IsDecomposed m part →
      CostFalls m part b ⊎ CostIsBalanced m part b
  pub not_both : (m : Model) (part : List ℕ) (b : ℕ) → IsDecomposed m part →
      CostFalls m part b → ¬ CostIsBalanced m part b
  pub possible : (m : Model) (part : List ℕ) (b : ℕ) → IsPossible (floor m part b)
  pub never_empty : (m : Model) (part : List ℕ) (b : ℕ) (y : ℕ → ℤ) → ¬ IsEmptyBy (floor m part b) y

-- A node's cost falls along no direction: its columns are bounded, as the partition is strict, and each eta has a floor
-- among the cuts. In mode Point there is no cost.
pub record NodesNeverFall : Type 0 where
  pub cost : (m : Model) (part : List ℕ) (box : Box) (cuts : List Cut) (d : ℕ → ℤ) →
      IsDecomposed m part → AllByRecursion (IsCutOfSplit part) cuts → AreFloored (blocks_of part) cuts →
      ¬ IsFallAlong (node m part box cuts mode.Cost) d
  pub point : (m : Model) (part : List ℕ) (box : Box) (cuts : List Cut) (d : ℕ → ℤ) →
      ¬ IsFallAlong (node m part box cuts mode.Point) d

-- The cut that an answer of a separation names is that of its basis, and a basis has one cut at most, as have the bases
-- with the same columns, in whatever order: not only do such cuts say the same, they come from the same multipliers. A
-- basis, like a program, is of one mode.
pub record CutsAreOfBases : Type 0 where
  pub of_answer : (m : Model) (part : List ℕ) (point : Master) (b : ℕ) (way : Mode)
      (lp : Lp) (basis : List ℕ) (z y : Vals) (cut : Cut) → IsSeparationLp m part point b way lp →
      IsLeast true (program_of lp) basis z y → IsSeparationCut m part b way (entry y.num) cut →
      CutOf m part way b basis cut
  pub one : (m : Model) (part : List ℕ) (b : ℕ) (way : Mode) (basis : List ℕ) (cut copy : Cut) →
      CutOf m part way b basis cut → CutOf m part way b basis copy →
      AreSame cut copy × (cut.mu ≡ copy.mu) × (cut.gcd ≡ copy.gcd)
  pub of_columns : (m : Model) (part : List ℕ) (b : ℕ) (way : Mode) (basis others : List ℕ) (cut copy : Cut) →
      AreAlike (length basis) (place basis) (place others) →
      CutOf m part way b basis cut → CutOf m part way b others copy →
      AreSame cut copy × (cut.mu ≡ copy.mu) × (cut.gcd ≡ copy.gcd)
  pub one_mode : (m : Model) (part : List ℕ) (b : ℕ) (way kind : Mode) (basis : List ℕ) (cut copy : Cut) →
      CutOf m part way b basis cut → CutOf m part kind b basis copy → way ≡ kind
  pub one_program_mode : (m : Model) (part : List ℕ) (b : ℕ) (point other : Master) (way kind : Mode) (lp : Lp) →
      IsSeparationLp m part point b way lp → IsSeparationLp m part other b kind lp → way ≡ kind

-- A point that meets a separation or a node meets it in its lowest form, each inequality by itself, and it is whole
-- where it was.
pub record LowestFormsMeet : Type 0 where
  pub den : (n : ℕ) (den : ℤ) (f : ℕ → ℤ) (low : ℤ) (values : List ℤ) → IsLowestOf n den f low values →
      (pos 0) <ℤ den → (pos 0) <ℤ low
  pub whole : (n : ℕ) (den : ℤ) (f : ℕ → ℤ) (low : ℤ) (values : List ℤ) → IsLowestOf n den f low values →
      (j : ℕ) → j < n → IsWhole (f j) den ↔ IsWhole (coordinate values j) low
  pub of_block : (m : Model) (part : List ℕ) (point : Master) (b : ℕ) (way : Mode)
      (v : ℕ → ℤ) (den : ℤ) (block : BlockPart) → IsDecomposed m part →
      MeetsWithin (separation m part point b way) v den (pos 0) →
      IsLowestOf (width_of part b) den v block.times block.y →
      AllByRecursion (HoldsInBlock point block) (inequalities_of m part b)
  pub of_block_and_cost : (m : Model) (part : List ℕ) (point : Master) (b : ℕ)
      (v : ℕ → ℤ) (den : ℤ) (block : BlockPart) → IsDecomposed m part →
      MeetsWithin (separation m part point b mode.Cost) v den (pos 0) →
      IsLowestOf (width_of part b) den v block.times block.y → BlockHolds m part point b block
  pub of_node : (m : Model) (part : List ℕ) (box : Box) (cuts : List Cut) (way : Mode)
      (v : ℕ → ℤ) (den : ℤ) (point : Master) → IsDecomposed m part → AllByRecursion (IsCutOfSplit part) cuts →
      MeetsWithin (node m part box cuts way) v den (pos 0) → length point.x ≡ width_of part 0 →
      IsLowestOf (width_of part 0 + blocks_of part) den v point.den (point.x ++ point.eta) →
      MeetsNode m part box cuts point

-- Numbers over a positive denominator have exactly one lowest form.
pub record OneLowestForm : Type 0 where
  pub some : (n : ℕ) (den : ℤ) (f : ℕ → ℤ) → (pos 0) <ℤ den →
      (low : ℤ) × (values : List ℤ) × IsLowestOf n den f low values
  pub one : (n : ℕ) (den : ℤ) (f : ℕ → ℤ) (low other : ℤ) (values others : List ℤ) →
      IsLowestOf n den f low values → IsLowestOf n den f other others → (low ≡ other) × (values ≡ others)
