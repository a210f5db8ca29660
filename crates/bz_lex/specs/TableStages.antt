-- Tables on the way of a phase.
use Rattle.std.specs.Prelude.{ℕ, zero, suc, ◌≡◌, List, length}
use Rattle.bz_algebra.specs.Tableaus.{Equations}
use Rattle.bz_tableau.specs.Laws.{place}
use Rattle.bz_tableau.specs.Tables.{Table, IsTableOf, own, number, shown, factor_column}
use Rattle.bz_lex.specs.Lexicographic.{IsLeaving, IsStage}

-- the order of a phase as `shown` numbers the columns: the right side stands at the factor column, and behind it come the columns of the first basis
abbrev pub shown_order : Table → List ℕ → ℕ → ℕ
shown_order t first zero = factor_column t
shown_order t first (suc k) = place first k

-- row r of the table leaves where the column e enters, in the order that begins with the right side and goes on with the columns `first`
abbrev pub IsLeavingRow : Table → List ℕ → ℕ → ℕ → Type 0
IsLeavingRow t first e r = IsLeaving (length t.basis) (suc (length t.basis)) (shown_order t first) (shown t) e r

-- the table is the tableau of its basis in the equations, on the way of the phase that began at the basis `first`, with the bases met before it
pub record IsTableStage (s : Equations) (first : List ℕ) (t : Table) (met : List (ℕ → ℕ)) : Type 0 where
  pub table : IsTableOf s t.slack t.basis t.rows
  pub count : length first ≡ length t.basis
  pub stage : IsStage s (own t.slack first) (length t.basis) (own t.slack t.basis) (number t.rows) met
