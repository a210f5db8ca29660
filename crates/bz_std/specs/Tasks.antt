-- The three programs of a split, over the positions of its parts: of either sign, as the model's columns are.
use Rattle.std.specs.Prelude.{ℕ, zero, suc, ◌+◌, ◌≡◌, ◌<◌, ◌^◌, ◌≤◌, ◌<ℤ◌, ℤ, pos, List, [], ◌∷◌, ◌++◌, map, length}
use Rattle.std.specs.List.{AllByRecursion, flat_map}
use Rattle.bz_algebra.specs.Numbers.{IsNarrow}
use Rattle.bz_algebra.specs.Sums.{AllBelow}
use Rattle.bz_num.specs.Fold.{IsNarrowSum, pairs_at, products}
use Rattle.bz_num.specs.Row.{entry_at}
use Rattle.bz_model.specs.declared.Ineq.{Ineq}
use Rattle.bz_model.specs.declared.Master.{Master}
use Rattle.bz_model.specs.declared.Model.{Model}
use Rattle.bz_model.specs.Parting.{blocks_of, inequalities_of, inner_cost, integers_of, negated, terms_in, width_of}
use Rattle.bz_model.specs.PartPoints.{eta_of}
use Rattle.bz_model.specs.Points.{coordinate}
use Rattle.bz_cut.specs.declared.Cut.{Cut}
use Rattle.bz_cut.specs.declared.Mode.{Mode}
use Rattle.bz_cut.specs.declared.Mode.TheVariants as mode
use Rattle.bz_tree.specs.Boxes.{Box}
use Rattle.bz_tree.specs.Leaves.{sides_of}
use Rattle.bz_tableau.specs.declared.programs.Lp.{Lp}
use Rattle.bz_tableau.specs.declared.programs.LpRow.{LpRow}
use Rattle.bz_std.specs.Posed.{AreAdded, IsProgramOf, Line, Posed, over_columns}

-- ---- separation: is there a completion of the master's point x / den in the block, at a cost of at most its eta?

-- what is left of an inequality's right side at the point, times den: `den h - T x`, added up in this order
abbrev pub right_pairs : Master → Ineq → List (ℤ × ℤ)
right_pairs point i = (point.den, i.rhs) ∷ pairs_at (negated i.master) (coordinate point.x)

-- the inequality, over den times the block's point
abbrev pub own_line : Master → Ineq → Line
own_line point i = record { terms = i.own; rhs = products (right_pairs point i) }

-- the block's cost is at most its eta
abbrev pub cost_line : Model → List ℕ → Master → ℕ → Line
cost_line m part point b = record { terms = terms_in part b (inner_cost m); rhs = eta_of point b }

-- in mode Cost that line is one of the program's
abbrev pub cost_lines : Model → List ℕ → Master → ℕ → Mode → List Line
cost_lines m part point b mode.Cost = cost_line m part point b ∷ []
cost_lines m part point b mode.Point = []

-- the new rows are the old ones, followed by that line's where it is one of the program's
abbrev pub IsCostAdded : Model → List ℕ → Master → ℕ → Mode → List LpRow → List LpRow → Type 0
IsCostAdded m part point b mode old new = AreAdded old new (cost_lines m part point b mode)

-- The separation program of block b: its variables are den times the block's positions. It has no cost.
abbrev pub separation : Model → List ℕ → Master → ℕ → Mode → Posed
separation m part point b mode = record {
  variables = width_of part b;
  rows = map (own_line point) (inequalities_of m part b) ++ cost_lines m part point b mode;
  cost = [];
}

-- the program of a separation, whose right sides are added up without a wide number
pub record IsSeparationLp (m : Model) (part : List ℕ) (point : Master) (b : ℕ) (mode : Mode) (lp : Lp) : Type 0 where
  pub program : IsProgramOf (separation m part point b mode) lp
  pub narrow : AllByRecursion (λ i. IsNarrowSum (right_pairs point i)) (inequalities_of m part b)

-- ---- floors: does the block's cost fall without bound?

-- along a direction the inequality doesn't rise
abbrev pub falling_line : Ineq → Line
falling_line i = record { terms = i.own; rhs = pos 0 }

-- The floor program of block b, over directions of its positions.
abbrev pub floor : Model → List ℕ → ℕ → Posed
floor m part b = record {
  variables = width_of part b;
  rows = map falling_line (inequalities_of m part b);
  cost = terms_in part b (inner_cost m);
}

-- ---- nodes: what is the least cost of the master in a box, as far as the cuts tell?

-- the terms with their indexes moved up by n; a number 0 has no term
abbrev pub moved : ℕ → List (ℕ × ℤ) → List (ℕ × ℤ)
moved n es = flat_map (λ e. entry_at (n + e.0) e.1) es

-- 1 at k indexes from n on
abbrev pub ones : ℕ → ℕ → List (ℕ × ℤ)
ones n zero = []
ones n (suc k) = (n, pos 1) ∷ ones (suc n) k

-- a side of the box of a leaf, over the master's positions and then the etas
abbrev pub side_line : ℕ → Ineq → Line
side_line n i = record { terms = i.master ++ moved n i.own; rhs = i.rhs }

-- in mode Cost the master's cost and the etas
abbrev pub node_cost : Model → List ℕ → Mode → List (ℕ × ℤ)
node_cost m part mode.Cost = terms_in part 0 (inner_cost m) ++ ones (width_of part 0) (blocks_of part)
node_cost m part mode.Point = []

-- The node program of a box and cuts. Its variables are the master's positions and then the etas of the blocks; its
-- rows are the sides that a leaf's multipliers are numbered by.
abbrev pub node : Model → List ℕ → Box → List Cut → Mode → Posed
node m part box cuts mode = record {
  variables = width_of part 0 + blocks_of part;
  rows = map (side_line (width_of part 0)) (sides_of m part box cuts);
  cost = node_cost m part mode;
}

-- the program of a node
abbrev pub IsNodeLp : Model → List ℕ → Box → List Cut → Mode → Lp → Type 0
IsNodeLp m part box cuts mode lp = IsProgramOf (node m part box cuts mode) lp

-- ---- costs over columns

-- the row is the cost of a part over columns
abbrev pub IsPartCost : Model → List ℕ → ℕ → List (ℕ × ℤ) → Type 0
IsPartCost m part b row = row ≡ over_columns (terms_in part b (inner_cost m))

-- the row is the cost of a node over columns
abbrev pub IsNodeCost : Model → List ℕ → Mode → List (ℕ × ℤ) → Type 0
IsNodeCost m part mode row = row ≡ over_columns (node_cost m part mode)

-- ---- what a task's lists fit

-- the point is one of the master's positions, with an eta for each block, over a positive denominator
pub record IsMasterOf (part : List ℕ) (point : Master) : Type 0 where
  pub x : length point.x ≡ width_of part 0
  pub eta : length point.eta ≡ blocks_of part
  pub den : (pos 0) <ℤ point.den

-- one end of each kind for each integer column
pub record IsBoxOf (m : Model) (box : Box) : Type 0 where
  pub lowers : length box.lower ≡ length (integers_of m)
  pub uppers : length box.upper ≡ length (integers_of m)

-- each cut is one of the split's blocks, over the master's positions
pub record IsCutOfSplit (part : List ℕ) (cut : Cut) : Type 0 where
  pub first : 0 < cut.block
  pub last : cut.block ≤ blocks_of part
  pub alpha : AllBelow (width_of part 0) cut.alpha
