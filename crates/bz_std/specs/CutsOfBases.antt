-- The cut of a basis of a separation, which depends on no point.
use Rattle.std.specs.Prelude.{ℕ, ◌*◌, ℤ, pos, List, [], ◌∷◌, ◌++◌, map, length, true}
use Rattle.bz_algebra.specs.Sums.{coef}
use Rattle.bz_algebra.specs.Tableaus.{IsObjectiveRow, Program}
use Rattle.bz_model.specs.declared.Model.{Model}
use Rattle.bz_model.specs.Parting.{inequalities_of, inner_cost, terms_in, width_of}
use Rattle.bz_cut.specs.declared.Cut.{Cut}
use Rattle.bz_cut.specs.declared.Mode.{Mode}
use Rattle.bz_cut.specs.declared.Mode.TheVariants as mode
use Rattle.bz_tableau.specs.Answers.{IsBasisList}
use Rattle.bz_tableau.specs.Laws.{place}
use Rattle.bz_std.specs.CutsFrom.{IsSeparationCut}
use Rattle.bz_std.specs.Meanings.{right_at, terms_at}
use Rattle.bz_std.specs.Posed.{Line, Posed, over_columns}
use Rattle.bz_std.specs.Tasks.{falling_line}

-- the program over columns that stands for the posed one
abbrev pub program_over_columns : Posed → Program
program_over_columns q = record {
  columns = 2 * q.variables;
  rows = length q.rows;
  term = λ i j. coef (over_columns (terms_at q.rows i)) j;
  rhs = right_at q.rows;
  cost = coef (over_columns q.cost);
}

-- in mode Cost the block's cost, with right side 0
abbrev pub falling_cost : Model → List ℕ → ℕ → Mode → List Line
falling_cost m part b mode.Cost = record { terms = terms_in part b (inner_cost m); rhs = pos 0 } ∷ []
falling_cost m part b mode.Point = []

-- the separation program of block b with 0 for each right side, so that it is the same at every point
abbrev pub unsided_separation : Model → List ℕ → ℕ → Mode → Posed
unsided_separation m part b mode = record {
  variables = width_of part b;
  rows = map falling_line (inequalities_of m part b) ++ falling_cost m part b mode;
  cost = [];
}

-- The cut is made by the multipliers of the basis's objective row in the relaxed separation of block b. Right sides
-- change neither bases nor objective rows, so that it is the basis's cut at every point.
pub record CutOf (m : Model) (part : List ℕ) (mode : Mode) (b : ℕ) (basis : List ℕ) (cut : Cut) : Type 0 where
  pub is_basis : IsBasisList true (program_over_columns (unsided_separation m part b mode)) basis
  pub den : ℤ
  pub y : ℕ → ℤ
  pub objective : IsObjectiveRow true (program_over_columns (unsided_separation m part b mode)) (place basis) den y
  pub made : IsSeparationCut m part b mode y cut
