-- Linear programs with whole numbers, read from their records.
use Rattle.std.specs.Prelude.{ℕ, zero, suc, ◌<◌, ◌^◌, ℤ, pos, Bool, List, [], ◌∷◌, length}
use Rattle.std.specs.List.{AllByRecursion}
use Rattle.bz_algebra.specs.Sums.{coef, AllBelow}
use Rattle.bz_algebra.specs.Tableaus.{Program, Equations, equations_of}
use Rattle.bz_tableau.specs.declared.programs.Lp.{Lp}
use Rattle.bz_tableau.specs.declared.programs.LpRow.{LpRow}

-- the terms of a row, none past the last
abbrev pub terms_of : List LpRow → ℕ → List (ℕ × ℤ)
terms_of [] i = []
terms_of (row ∷ rows) zero = row.terms
terms_of (row ∷ rows) (suc i) = terms_of rows i

-- the right side of a row, 0 past the last
abbrev pub rhs_of : List LpRow → ℕ → ℤ
rhs_of [] i = pos 0
rhs_of (row ∷ rows) zero = row.rhs
rhs_of (row ∷ rows) (suc i) = rhs_of rows i

-- minimise the cost over z >= 0 with terms z <= rhs in each row
abbrev pub program_of : Lp → Program
program_of lp = record {
  columns = lp.columns;
  rows = length lp.rows;
  term = λ i j. coef (terms_of lp.rows i) j;
  rhs = rhs_of lp.rows;
  cost = coef lp.cost;
}

-- each index is a column, and columns and rows are few
pub record IsLp (lp : Lp) : Type 0 where
  pub few_columns : lp.columns < 2 ^ 30
  pub few_rows : length lp.rows < 2 ^ 28
  pub rows : AllByRecursion (λ row. AllBelow lp.columns row.terms) lp.rows
  pub cost : AllBelow lp.columns lp.cost

-- the equations of a record's program, its objective as the last row
abbrev pub lp_equations : Bool → Lp → Equations
lp_equations relaxed lp = equations_of relaxed (program_of lp)
