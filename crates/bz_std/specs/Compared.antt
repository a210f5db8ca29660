-- Programs that are given compared with those that are posed: rows entry by entry, lists of rows one by one.
use Rattle.std.specs.Prelude.{ℕ, ◌+◌, ◌*◌, ◌<◌, ◌≡◌, ℤ, pos, negsuc, List, [], ◌∷◌, ◌++◌, length, drop, map}
use Rattle.std.specs.List.{AllByRecursion}
use Rattle.std.proofs.Math.IntN.{neg_ℤ}
use Rattle.bz_algebra.specs.Sums.{coef}
use Rattle.bz_num.specs.Fold.{IsNarrowSum}
use Rattle.bz_model.specs.declared.Ineq.{Ineq}
use Rattle.bz_model.specs.declared.Master.{Master}
use Rattle.bz_model.specs.declared.Model.{Model}
use Rattle.bz_model.specs.Parting.{blocks_of, inequalities_of, inner_cost, terms_in, width_of}
use Rattle.bz_cut.specs.declared.Cut.{Cut}
use Rattle.bz_cut.specs.declared.Mode.{Mode}
use Rattle.bz_cut.specs.declared.Mode.TheVariants as mode
use Rattle.bz_tree.specs.Boxes.{Box}
use Rattle.bz_tree.specs.Integers.{positions_of}
use Rattle.bz_tree.specs.Leaves.{sides_of}
use Rattle.bz_tableau.specs.declared.programs.LpRow.{LpRow}
use Rattle.bz_std.specs.NodeLines.{ends_lines}
use Rattle.bz_std.specs.Posed.{AreRowsOf, IsRowOf, Line, over_columns}
use Rattle.bz_std.specs.Tasks.{node_cost, own_line, right_pairs, separation, side_line}

-- ---- a row
-- from place `at` on the row has the two columns of the variable with this number, before what comes after them
abbrev pub IsPairAt : List (ℕ × ℤ) → ℕ → ℕ → ℤ → Type 0
IsPairAt row at variable number =
    drop at row ≡ (2 * variable, number) ∷ (2 * variable + 1, neg_ℤ number) ∷ drop (at + 2) row

-- the row begins with the columns of the terms
abbrev pub BeginsWith : List (ℕ × ℤ) → List (ℕ × ℤ) → Type 0
BeginsWith row terms = row ≡ over_columns terms ++ drop (2 * length terms) row

-- the variable has the number in the row
pub record HasNumber (row : List (ℕ × ℤ)) (variable : ℕ) (number : ℤ) : Type 0 where
  pub first : coef row (2 * variable) ≡ number
  pub second : coef row (2 * variable + 1) ≡ neg_ℤ number

-- the first variables have the numbers of f in the row
abbrev pub HasNumbers : List (ℕ × ℤ) → ℕ → (ℕ → ℤ) → Type 0
HasNumbers row count f = (j : ℕ) → j < count → HasNumber row j (f j)

-- `count` variables from `first` on have the number 1 in the row
abbrev pub HasOnes : List (ℕ × ℤ) → (first count : ℕ) → Type 0
HasOnes row first count = (k : ℕ) → k < count → HasNumber row (first + k) (pos 1)

-- each position of a part has in the row its number in the cost that is minimised
abbrev pub HasCosts : Model → List ℕ → ℕ → List (ℕ × ℤ) → Type 0
HasCosts m part b row = HasNumbers row (width_of part b) (coef (terms_in part b (inner_cost m)))

-- each variable of a node has in the row its number in mode Cost
abbrev pub HasNodeCosts : Model → List ℕ → List (ℕ × ℤ) → Type 0
HasNodeCosts m part row = HasNumbers row (width_of part 0 + blocks_of part) (coef (node_cost m part mode.Cost))

-- the row is that of the inequality at the point, and the sum of its right side is not wide
pub record IsOwnRow (point : Master) (ineq : Ineq) (row : LpRow) : Type 0 where
  pub line : IsRowOf (own_line point ineq) row
  pub narrow : IsNarrowSum (right_pairs point ineq)

-- the rows are those of the upper and the lower end of the integer column at a position
pub record AreEndsOf (position : ℕ) (lower upper : ℤ) (at_most at_least : LpRow) : Type 0 where
  pub upper_end : IsRowOf (record { terms = (position, pos 1) ∷ []; rhs = upper }) at_most
  pub lower_end : IsRowOf (record { terms = (position, negsuc 0) ∷ []; rhs = neg_ℤ lower }) at_least

-- ---- lists
-- the lists are equally long, and what stands at the same place of both is related
abbrev pub Pairwise : {X Y : Type 0} → (X → Y → Type 0) → List X → List Y → Type 0
Pairwise R [] [] = Unit {0}
Pairwise R [] (y ∷ ys) = ⊥
Pairwise R (x ∷ xs) [] = ⊥
Pairwise R (x ∷ xs) (y ∷ ys) = R x y × Pairwise R xs ys

-- the rows are those of the lines, each of its own
abbrev pub AreRowsOfEach : List Line → List LpRow → Type 0
AreRowsOfEach lines rows = Pairwise IsRowOf lines rows

-- the rows are those of the ends of the integer columns, in file order
abbrev pub AreEndRows : Model → List ℕ → List ℤ → List ℤ → List LpRow → Type 0
AreEndRows m part lower upper rows = AreRowsOfEach (ends_lines (width_of part 0) (positions_of m part) lower upper) rows

-- the rows are those of a separation, whose right sides are added up without a wide number
pub record AreSeparationRows (m : Model) (part : List ℕ) (point : Master) (b : ℕ) (way : Mode) (rows : List LpRow)
    : Type 0 where
  pub lines : AreRowsOf (separation m part point b way).rows rows
  pub narrow : AllByRecursion (λ i. IsNarrowSum (right_pairs point i)) (inequalities_of m part b)

-- the rows are those of a node
abbrev pub AreNodeRows : Model → List ℕ → Box → List Cut → List LpRow → Type 0
AreNodeRows m part box cuts rows = AreRowsOf (map (side_line (width_of part 0)) (sides_of m part box cuts)) rows
