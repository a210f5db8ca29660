-- The column s leaves, where its row has the right side 0, and the columns are renumbered.
use Rattle.std.specs.Prelude.{ℕ, suc, ◌+◌, ◌<◌, ◌≡◌, ◌≢◌, ℤ, pos, ◌≤ℤ◌, true, false, List, length}
use Rattle.std.proofs.Common.{refl, ap, sym, subst, ◌∙◌, arith, inl, inr}
use Rattle.bz_algebra.specs.Tableaus.{Equations, side, equations_of, rows_of, IsRow, IsBasis}
use Rattle.bz_algebra.proofs.Agreement.{basis_same, row_same}
use Rattle.bz_algebra.proofs.Uniqueness.{basis_tableau, row_unique}
use Rattle.bz_tableau.specs.declared.programs.Lp.{Lp}
use Rattle.bz_tableau.specs.Laws.{place, HasRowsOfBasis}
use Rattle.bz_tableau.specs.Pivots.{IsPivoted}
use Rattle.bz_tableau.specs.Programs.{program_of, lp_equations}
use Rattle.bz_tableau.specs.Tables.{Table, IsTableauOf, number, shown, factor_column}
use Rattle.bz_tableau.proofs.RowsOfBasis.{rows_of_basis}
use Rattle.bz_lex.specs.Renumbering.{unrelaxed_basis, relaxed_number}
use Rattle.bz_lex.specs.Shown.{HasPoint}
use Rattle.bz_tableau.specs.Stops.{IsPointBasis, LeavesWithZero}
use Rattle.bz_lex.specs.Ways.{right_side, IsOtherEntry, HasNoOtherEntry, IsRenumbered}
use Rattle.bz_lex.proofs.RelaxedTables.{relaxed_s_right, relaxed_other_entry, zero_right_point, table_unrelaxed}
use Rattle.bz_lex.proofs.TablesOnTheWay.{shown_side}
use Rattle.bz_lex.proofs.TowardsTables.{pivoted_away}
use Rattle.bz_lex.proofs.TruePivots.{MayPivot, point_basis}
use Rattle.bz_lex.proofs.BasesUnrelaxed.{row_unrelaxed, number_behind}

-- ---- s leaves
module _ (lp : Lp) (t : Table) (h : IsTableauOf true lp t) (p : HasPoint t) (zero : right_side t (length t.basis) ≡ pos 0) (r : ℕ) (inside : r < length t.basis) (of_s : place t.basis r ≡ lp.columns) where
  rows : HasRowsOfBasis true lp t
  rows = rows_of_basis true lp t h

  -- the row has another entry
  pub s_has_entry : HasNoOtherEntry t r lp.columns → ⊥
  s_has_entry n = let f = relaxed_other_entry lp t h r inside of_s in n (t.slack + f.0) (record { inside = omega (arith, f.1); different = λ e. omega (arith, rows.slack, e); nonzero = f.2 })

  s_right : right_side t r ≡ pos 0
  s_right = relaxed_s_right lp t h r inside of_s zero

  leaves : LeavesWithZero true (program_of lp) t.basis t.basis r
  leaves = record {
    at_goal = refl;
    is_relaxed = refl;
    of_s = of_s;
    zero = λ v g. sym (row_unique (equations_of true (program_of lp)) _ (number t.rows) v r rows.tableau (omega (arith, inside, rows.count)) g (side (equations_of true (program_of lp))) (omega arith)) ∙ at_side;
  }
    where
      at_side : number t.rows r (side (equations_of true (program_of lp))) ≡ pos 0
      at_side = ap (number t.rows r) same ∙ sym (shown_side t r) ∙ s_right
        where
          same : side (equations_of true (program_of lp)) ≡ suc (factor_column t)
          same = omega (arith, rows.slack, rows.count)

  pub s_may_leave : (e : ℕ) → IsOtherEntry t r lp.columns e → MayPivot true lp t r e t.basis
  s_may_leave e o = record { row_inside = inside; column_inside = o.inside; nonzero = o.nonzero; goal_is = point_basis true lp t h p; kind = inr (inl leaves) }

  module _ (e : ℕ) (o : IsOtherEntry t r lp.columns e) (new : Table) (q : IsPivoted t r e new) where
    pub left_point : HasPoint new
    left_point = zero_right_point (lp_equations true lp) t r e new h.table q p s_right

    pub left_away : (i : ℕ) → i < length new.basis → place new.basis i ≢ lp.columns
    left_away i b g = pivoted_away true lp t h r e new q inside (λ f. o.different (f ∙ of_s)) i b (g ∙ sym of_s)

-- ---- the columns renumbered
module _ (lp : Lp) (t : Table) (h : IsTableauOf true lp t) (p : HasPoint t) (away : (i : ℕ) → i < length t.basis → place t.basis i ≢ lp.columns) (goal : List ℕ) (renumbered : IsRenumbered lp.columns t.basis goal) where
  abbrev to : Equations
  to = rows_of false (program_of lp)

  has : HasRowsOfBasis true lp t
  has = rows_of_basis true lp t h

  same_columns : (i : ℕ) → i < length lp.rows → place goal i ≡ unrelaxed_basis lp.columns (place t.basis) i
  same_columns i b = renumbered.numbers i (omega (arith, b, has.count))

  moved_basis : IsBasis to (unrelaxed_basis lp.columns (place t.basis))
  moved_basis = table_unrelaxed lp t h away

  goal_basis : IsBasis to (place goal)
  goal_basis = basis_same to (unrelaxed_basis lp.columns (place t.basis)) (place goal) moved_basis same_columns

  goal_row : (i : ℕ) → i < length lp.rows → IsRow to (place goal) i (λ j. shown t i (relaxed_number lp.columns j))
  goal_row i b = row_same to (unrelaxed_basis lp.columns (place t.basis)) (place goal) i (λ j. shown t i (relaxed_number lp.columns j)) (λ j. shown t i (relaxed_number lp.columns j)) moved_basis.columns b
      (row_unrelaxed (program_of lp) (place t.basis) i (shown t i) (λ k c. away k (omega (arith, c, has.count))) b (has.rows i b))
      same_columns (λ j l. refl)

  right_of : (i : ℕ) (v : ℕ → ℤ) → i < length lp.rows → IsRow to (place goal) i v → right_side t i ≡ v (side to)
  right_of i v b g =
      let f = basis_tableau to (place goal) goal_basis in
      ap (shown t i) behind
      ∙ sym (row_unique to (place goal) f.0 (λ j. shown t i (relaxed_number lp.columns j)) i f.1 b (goal_row i b) (side to) (omega arith))
      ∙ row_unique to (place goal) f.0 v i f.1 b g (side to) (omega arith)
    where
      behind : factor_column t ≡ relaxed_number lp.columns (side to)
      behind = sym (number_behind lp.columns (side to) (omega arith) ∙ omega (arith, has.slack, has.count))

  pub renumbered_point : IsPointBasis false (program_of lp) goal
  renumbered_point = record {
    is_basis = record { count = renumbered.count ∙ has.count; is_basis = goal_basis };
    right_sides = λ i v b g. subst (λ (z : ℤ). (pos 0) ≤ℤ z) (right_of i v b g) (p i (omega (arith, b, has.count)));
  }
