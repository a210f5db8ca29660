-- A pivot that is refused names a true wide place.
use Rattle.std.specs.Prelude.{ℕ, ◌<◌, ◌≡◌, ◌≢◌, ◌⊎◌, pos, Bool, true, List, length}
use Rattle.std.proofs.Common.{subst, sym, ◌∙◌, arith}
use Rattle.bz_algebra.specs.Tableaus.{Program}
use Rattle.bz_tableau.specs.declared.answers.LpStop.{LpStop}
use Rattle.bz_tableau.specs.declared.answers.LpStop.TheVariants.{Wide, OutOfMemory}
use Rattle.bz_tableau.specs.declared.answers.WideAt.{WideAt}
use Rattle.bz_tableau.specs.declared.answers.WideAt.TheVariants.{Build, Pivot, Den, Fold}
use Rattle.bz_tableau.specs.declared.programs.Lp.{Lp}
use Rattle.bz_tableau.specs.Laws.{HasRowsOfBasis}
use Rattle.bz_tableau.specs.Pivots.{IsFirstWideRow}
use Rattle.bz_tableau.specs.Programs.{program_of}
use Rattle.bz_tableau.specs.Refusals.{IsRefusal}
use Rattle.bz_tableau.specs.Tables.{Table, IsTableauOf, number, shown, factor_column}
use Rattle.bz_tableau.proofs.RowsOfBasis.{rows_of_basis}
use Rattle.bz_lex.specs.Refusals.{IsFirstStop, IsFirstRelaxedStop}
use Rattle.bz_lex.specs.Shown.{HasPoint}
use Rattle.bz_tableau.specs.Stops.{IsPointBasis, IsWideClearing, EntersAtGoal, LeavesWithZero, GoesToGoal, IsTruePivot, IsTrueWide}
use Rattle.bz_lex.specs.Ways.{IsWayRefusal}
use Rattle.bz_lex.proofs.ShownBases.{basis_list, any_right_side}
use Rattle.bz_lex.proofs.TablesOnTheWay.{shown_column}

-- one of the three kinds of pivot
abbrev pub HasKind : Bool → Program → List ℕ → List ℕ → ℕ → ℕ → Type 0
HasKind relaxed p basis goal r e = EntersAtGoal relaxed p basis goal r e ⊎ (LeavesWithZero relaxed p basis goal r ⊎ GoesToGoal relaxed p basis goal e)

-- the pivot at place r in the column e may be made, on the way to the goal
pub record MayPivot (relaxed : Bool) (lp : Lp) (t : Table) (r e : ℕ) (goal : List ℕ) : Type 0 where
  pub row_inside : r < length t.basis
  pub column_inside : e < factor_column t
  pub nonzero : shown t r e ≢ pos 0
  pub goal_is : IsPointBasis relaxed (program_of lp) goal
  pub kind : HasKind relaxed (program_of lp) t.basis goal r e

module _ (relaxed : Bool) (lp : Lp) (t : Table) (h : IsTableauOf relaxed lp t) where
  rows : HasRowsOfBasis relaxed lp t
  rows = rows_of_basis relaxed lp t h

  wide_clearing : (r e i : ℕ) → r < length t.basis → e < factor_column t → shown t r e ≢ pos 0 → IsFirstWideRow t.rows r e i → IsWideClearing relaxed (program_of lp) t.basis i r e
  wide_clearing r e i b l n w = record {
    row_inside = omega (arith, w.inside, h.table.lines, rows.count);
    pivot_inside = omega (arith, b, rows.count);
    other = w.other;
    old = number t.rows i;
    is_old = rows.tableau.rows i (omega (arith, w.inside, h.table.lines, rows.count));
    pivot = number t.rows r;
    is_pivot = rows.tableau.rows r (omega (arith, b, rows.count));
    nonzero = λ z. n (shown_column t r e (λ g. omega arith) ∙ z);
    kept = w.here.kept;
    taken = w.here.taken;
    multipliers = w.here.multipliers;
    at = w.here.column;
    at_inside = omega (arith, w.here.inside, h.table.widths i w.inside);
    wide = w.here.wide;
  }

  -- a table with a point has a basis with one
  pub point_basis : HasPoint t → IsPointBasis relaxed (program_of lp) t.basis
  point_basis p = record { is_basis = basis_list relaxed lp t h; right_sides = any_right_side relaxed lp t h p }

  true_pivot : (r e i : ℕ) (goal : List ℕ) → MayPivot relaxed lp t r e goal → IsFirstWideRow t.rows r e i → IsTruePivot relaxed (program_of lp) t.basis goal i r e
  true_pivot r e i goal m w = record {
    is_basis = basis_list relaxed lp t h;
    goal_is = m.goal_is;
    column_inside = omega (arith, m.column_inside, rows.slack, rows.count);
    wide = wide_clearing r e i m.row_inside m.column_inside m.nonzero w;
    kind = m.kind;
  }

  -- ---- refusals
  pub true_way_stop : (r e : ℕ) (goal : List ℕ) (stop : LpStop) → MayPivot relaxed lp t r e goal → IsWayRefusal t r e goal stop → IsFirstStop lp stop
  true_way_stop r e goal OutOfMemory m w = record { is_true = tt; first = tt }
  true_way_stop r e goal (Wide (Build row)) m w = absurd w
  true_way_stop r e goal (Wide (Pivot named_relaxed basis named row pivot_row column)) m w = record { is_true = subst (λ (at : WideAt). IsTrueWide lp at) same (true_pivot r e row goal m w.wide); first = tt }
    where
      relaxed_is : named_relaxed ≡ relaxed
      relaxed_is = w.relaxed_is ∙ h.relaxed_is

      back : Pivot named_relaxed basis named row pivot_row column ≡ Pivot relaxed t.basis goal row r e
      back k = Pivot (relaxed_is k) (w.basis_is k) (w.goal_is k) row (w.pivot_row_is k) (w.column_is k)

      same : Pivot relaxed t.basis goal row r e ≡ Pivot named_relaxed basis named row pivot_row column
      same = sym back
  true_way_stop r e goal (Wide (Den named_relaxed basis at)) m w = absurd w
  true_way_stop r e goal (Wide (Fold named_relaxed basis column list at)) m w = absurd w

-- of a relaxed program
pub relaxed_way_stop : (lp : Lp) (t : Table) → IsTableauOf true lp t → (r e : ℕ) (goal : List ℕ) (stop : LpStop) → MayPivot true lp t r e goal → IsWayRefusal t r e goal stop → IsFirstRelaxedStop lp stop
relaxed_way_stop lp t h r e goal OutOfMemory m w = record { is_true = tt; first = tt }
relaxed_way_stop lp t h r e goal (Wide (Build row)) m w = absurd w
relaxed_way_stop lp t h r e goal (Wide (Pivot named_relaxed basis named row pivot_row column)) m w = record { is_true = ((true_way_stop true lp t h r e goal (Wide (Pivot named_relaxed basis named row pivot_row column)) m w).is_true, w.relaxed_is ∙ h.relaxed_is); first = tt }
relaxed_way_stop lp t h r e goal (Wide (Den named_relaxed basis at)) m w = absurd w
relaxed_way_stop lp t h r e goal (Wide (Fold named_relaxed basis column list at)) m w = absurd w

pub stop_of_relaxed : (lp : Lp) (stop : LpStop) → IsFirstRelaxedStop lp stop → IsFirstStop lp stop
stop_of_relaxed lp (Wide at) w = record { is_true = w.is_true.0; first = w.first }
stop_of_relaxed lp OutOfMemory w = record { is_true = tt; first = tt }

-- a refusal that names its own basis is on the way to it
pub own_way : (t : Table) (r e : ℕ) (stop : LpStop) → IsRefusal t r e stop → IsWayRefusal t r e t.basis stop
own_way t r e OutOfMemory w = tt
own_way t r e (Wide (Build row)) w = w
own_way t r e (Wide (Pivot relaxed basis goal row pivot_row column)) w = record { relaxed_is = w.relaxed_is; basis_is = w.basis_is; goal_is = w.goal_is; pivot_row_is = w.pivot_row_is; column_is = w.column_is; wide = w.wide }
own_way t r e (Wide (Den relaxed basis at)) w = w
own_way t r e (Wide (Fold relaxed basis column list at)) w = w
