-- A tableau's rows in the program's own words: without the factor column, and the objective row by itself.
use Rattle.std.specs.Prelude.{ℕ, suc, ◌+◌, ◌<◌, ◌≤◌, ◌≡◌, ◌==◌, if◌then◌else◌, Bool, length}
use Rattle.std.proofs.Common.{refl, ap, sym, ◌∙◌, arith, inl, inr}
use Rattle.std.proofs.lemmas.Bool.{cases_eq, eq-eqb, ne_eqb}
use Rattle.bz_algebra.specs.Tableaus.{IsRow, IsTableau, AreColumns, rows_of, with_factor, factor}
use Rattle.bz_algebra.proofs.Agreement.{tableau_same, row_same}
use Rattle.bz_algebra.proofs.Objectives.{narrowed, narrowed_before, narrowed_at, row_without_objective, basis_without_objective}
use Rattle.bz_algebra.proofs.Programs.{objective_row}
use Rattle.bz_algebra.proofs.Uniqueness.{tableau_basis}
use Rattle.bz_tableau.specs.declared.programs.Lp.{Lp}
use Rattle.bz_tableau.specs.Laws.{place, HasRowsOfBasis}
use Rattle.bz_tableau.specs.Programs.{program_of, lp_equations}
use Rattle.bz_tableau.specs.Tables.{Table, number, own, factor_column, shown, IsTableauOf}

module _ (relaxed : Bool) (lp : Lp) (t : Table) (h : IsTableauOf relaxed lp t) where
  count_is : length t.basis ≡ length lp.rows
  count_is = omega (arith, h.table.count)

  slack_is : t.slack ≡ (lp_equations relaxed lp).slack
  slack_is = sym h.table.slack_is

  own_is : (i : ℕ) → with_factor relaxed (program_of lp) (place t.basis) i ≡ own t.slack t.basis i
  own_is i = sym (λ k. if (i == count_is k) then (slack_is k + count_is k) else place t.basis i)

  tableau_is : IsTableau (lp_equations relaxed lp) (with_factor relaxed (program_of lp) (place t.basis)) (number t.rows)
  tableau_is = tableau_same (lp_equations relaxed lp) (own t.slack t.basis) (with_factor relaxed (program_of lp) (place t.basis)) (number t.rows) (number t.rows) h.table.tableau (λ i b. own_is i) (λ i j b l. refl)

  columns_are : AreColumns (rows_of relaxed (program_of lp)) (place t.basis)
  columns_are = (basis_without_objective relaxed (program_of lp) (place t.basis) (tableau_basis (lp_equations relaxed lp) (with_factor relaxed (program_of lp) (place t.basis)) (number t.rows) tableau_is)).columns

  factor_is : factor_column t ≡ factor relaxed (program_of lp)
  factor_is = λ k. slack_is k + count_is k

  shown_is : (i j : ℕ) → j ≤ factor relaxed (program_of lp) → shown t i j ≡ narrowed (factor relaxed (program_of lp)) (number t.rows i) j
  shown_is i j l = elim (cases_eq j (factor relaxed (program_of lp))) [
    | inl g ↦ rw (eq-eqb j (factor_column t) (g ∙ sym factor_is)) (ap (λ (k : ℕ). number t.rows i (suc k)) g ∙ sym (narrowed_at (factor relaxed (program_of lp)) (number t.rows i)) ∙ ap (narrowed (factor relaxed (program_of lp)) (number t.rows i)) (sym g))
    | inr n ↦ rw (ne_eqb j (factor_column t) (λ g. n (g ∙ factor_is))) (sym (narrowed_before (factor relaxed (program_of lp)) (number t.rows i) j (omega arith)))
  ]

  row_is : (i : ℕ) → i < length lp.rows → IsRow (rows_of relaxed (program_of lp)) (place t.basis) i (shown t i)
  row_is i b = row_same (rows_of relaxed (program_of lp)) (place t.basis) (place t.basis) i (narrowed (factor relaxed (program_of lp)) (number t.rows i)) (shown t i) columns_are b
      (row_without_objective relaxed (program_of lp) (place t.basis) i (number t.rows i) columns_are b (tableau_is.rows i (omega arith)))
      (λ k l. refl)
      (λ j l. shown_is i j l)

pub rows_of_basis : (relaxed : Bool) (lp : Lp) (t : Table) → IsTableauOf relaxed lp t → HasRowsOfBasis relaxed lp t
rows_of_basis relaxed lp t h = record {
  slack = slack_is relaxed lp t h;
  count = count_is relaxed lp t h;
  basis = basis_without_objective relaxed (program_of lp) (place t.basis) (tableau_basis (lp_equations relaxed lp) (with_factor relaxed (program_of lp) (place t.basis)) (number t.rows) (tableau_is relaxed lp t h));
  rows = row_is relaxed lp t h;
  objective = objective_row relaxed (program_of lp) (place t.basis) (number t.rows (length lp.rows)) ((tableau_is relaxed lp t h).rows (length lp.rows) (omega arith));
  tableau = tableau_is relaxed lp t h;
}
