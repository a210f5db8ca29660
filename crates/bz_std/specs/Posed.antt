-- Programs over variables of either sign, and the programs over columns that aren't negative which stand for them.
use Rattle.std.specs.Prelude.{ℕ, ◌≡◌, ◌+◌, ◌*◌, ◌<◌, ℤ, List, [], ◌∷◌, ◌++◌, map}
use Rattle.std.specs.List.{AllByRecursion}
use Rattle.std.proofs.Math.IntN.{neg_ℤ}
use Rattle.bz_algebra.specs.Sums.{AllBelow}
use Rattle.bz_tableau.specs.declared.programs.Lp.{Lp}
use Rattle.bz_tableau.specs.declared.programs.LpRow.{LpRow}

-- `terms <= rhs`
pub record Line : Type 0 where
  pub terms : List (ℕ × ℤ)
  pub rhs : ℤ

-- minimise the cost over variables of either sign with `terms <= rhs` in each row
pub record Posed : Type 0 where
  pub variables : ℕ
  pub rows : List Line
  pub cost : List (ℕ × ℤ)

-- each index is a variable
pub record IsPosed (q : Posed) : Type 0 where
  pub rows : AllByRecursion (λ row. AllBelow q.variables row.terms) q.rows
  pub cost : AllBelow q.variables q.cost

-- the two columns of a variable with this number
abbrev pub pair_of : ℕ → ℤ → List (ℕ × ℤ)
pair_of variable number = (2 * variable, number) ∷ (2 * variable + 1, neg_ℤ number) ∷ []

-- Variable j is the difference of two columns that aren't negative: of column 2 j and of the next one.
abbrev pub over_columns : List (ℕ × ℤ) → List (ℕ × ℤ)
over_columns [] = []
over_columns (e ∷ es) = (2 * e.0, e.1) ∷ (2 * e.0 + 1, neg_ℤ e.1) ∷ over_columns es

abbrev pub line_over_columns : Line → Line
line_over_columns row = record { terms = over_columns row.terms; rhs = row.rhs }

-- the numbers of a row of a program
abbrev pub line_of : LpRow → Line
line_of row = record { terms = row.terms; rhs = row.rhs }

-- the row of a program is that of the line, over two columns for each variable
abbrev pub IsRowOf : Line → LpRow → Type 0
IsRowOf line row = line_of row ≡ line_over_columns line

-- the rows are those of the lines
abbrev pub AreRowsOf : List Line → List LpRow → Type 0
AreRowsOf lines rows = map line_of rows ≡ map line_over_columns lines

-- the new rows are the old ones, followed by those of the lines
abbrev pub AreAdded : List LpRow → List LpRow → List Line → Type 0
AreAdded old new lines = map line_of new ≡ map line_of old ++ map line_over_columns lines

-- the program is the one that is posed, over two columns for each variable
pub record IsProgramOf (q : Posed) (lp : Lp) : Type 0 where
  pub columns : lp.columns ≡ 2 * q.variables
  pub rows : map line_of lp.rows ≡ map line_over_columns q.rows
  pub cost : lp.cost ≡ over_columns q.cost
