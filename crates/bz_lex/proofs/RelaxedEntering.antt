-- The column s enters where the right sides are least.
use Rattle.std.specs.Prelude.{ℕ, ◌+◌, ◌<◌, ◌≡◌, ◌≢◌, ℤ, pos, negsuc, ◌≤ℤ◌, ◌<ℤ◌, true, List, length}
use Rattle.std.proofs.Common.{refl, ap, sym, subst, ◌∙◌, arith, inl, inr, set}
use Rattle.std.proofs.lemmas.Bool.{eq-eqb}
use Rattle.std.proofs.lemmas.Int.{ints}
use Rattle.std.proofs.lemmas.List.{get_or-set_same, length-set}
use Rattle.bz_algebra.specs.Tableaus.{Program, Equations, side, row_entry, rows_of, put, IsTableau, IsPivot}
use Rattle.bz_algebra.proofs.Agreement.{basis_same, tableau_same}
use Rattle.bz_algebra.proofs.Pivoting.{pivot, pivot_exists, pivot_basis}
use Rattle.bz_algebra.proofs.Uniqueness.{row_unique}
use Rattle.bz_tableau.specs.declared.programs.Lp.{Lp}
use Rattle.bz_tableau.specs.Laws.{place, HasRowsOfBasis}
use Rattle.bz_tableau.specs.Programs.{program_of}
use Rattle.bz_tableau.specs.Tables.{Table, IsTableauOf, shown, factor_column}
use Rattle.bz_tableau.proofs.RowsOfBasis.{rows_of_basis}
use Rattle.bz_tableau.specs.Stops.{IsPointBasis}
use Rattle.bz_lex.specs.Ways.{right_side, IsLeastRightTo}
use Rattle.bz_lex.proofs.RelaxedStarts.{slack_rows, lowest_right}
use Rattle.bz_lex.proofs.ShownBases.{few_rows}
use Rattle.bz_lex.proofs.TowardsTables.{place_put}
use Rattle.bz_lex.proofs.TruePivots.{MayPivot}

module _ (lp : Lp) (t : Table) (h : IsTableauOf true lp t) (slacks : (i : ℕ) → i < length t.basis → place t.basis i ≡ t.slack + i) (r : ℕ) (least : IsLeastRightTo (length t.basis) t r) where
  abbrev program : Program
  program = program_of lp

  abbrev few : Equations
  few = rows_of true (program_of lp)

  abbrev goal : List ℕ
  goal = set t.basis r lp.columns

  rows : HasRowsOfBasis true lp t
  rows = rows_of_basis true lp t h

  inside : r < length lp.rows
  inside = omega (arith, rows.count, least.inside)

  s_inside : lp.columns < factor_column t
  s_inside = omega (arith, rows.slack)

  right_is : (i : ℕ) → right_side t i ≡ shown t i (side few)
  right_is i = ap (shown t i) (λ k. rows.slack k + rows.count k)

  s_entry : (i : ℕ) → i < length lp.rows → shown t i lp.columns ≡ negsuc 0
  s_entry i b = (slack_rows few (place t.basis) (shown t) (few_rows true lp t h) (λ k c. slacks k (omega (arith, rows.count, c)) ∙ ap (λ (x : ℕ). x + k) rows.slack) i b).columns lp.columns (omega arith) ∙ minus
    where
      minus : row_entry true program i lp.columns ≡ negsuc 0
      minus = rw (eq-eqb lp.columns lp.columns refl)

  nonzero : shown t r lp.columns ≢ pos 0
  nonzero e = omega (arith, ints, sym (s_entry r inside) ∙ e)

  column_inside : lp.columns < side few
  column_inside = omega arith

  found : (v : ℕ → ℕ → ℤ) × IsPivot few (place t.basis) (shown t) r lp.columns v
  found = pivot_exists few (place t.basis) (shown t) r lp.columns (few_rows true lp t h) inside column_inside nonzero

  same_columns : (i : ℕ) → i < length lp.rows → place goal i ≡ put (place t.basis) r lp.columns i
  same_columns i b = place_put t.basis r lp.columns i least.inside

  goal_tableau : IsTableau few (place goal) found.0
  goal_tableau = tableau_same few (put (place t.basis) r lp.columns) (place goal) found.0 found.0 (pivot few (place t.basis) (shown t) r lp.columns found.0 (few_rows true lp t h) found.1) same_columns (λ i j b l. refl)

  goal_point : IsPointBasis true program goal
  goal_point = record {
    is_basis = record {
      count = length-set t.basis r lp.columns ∙ rows.count;
      is_basis = basis_same few (put (place t.basis) r lp.columns) (place goal) (pivot_basis few (place t.basis) (shown t) r lp.columns (few_rows true lp t h) inside column_inside nonzero) same_columns;
    };
    right_sides = λ i v b g. subst (λ (z : ℤ). (pos 0) ≤ℤ z) (row_unique few (place goal) found.0 v i goal_tableau b g (side few) (omega arith))
        (lowest_right few (place t.basis) (shown t) r lp.columns found.0 (length lp.rows) (few_rows true lp t h) found.1 (omega arith) inside s_entry
        (subst (λ (z : ℤ). z <ℤ (pos 0)) (right_is r) least.negative)
        (λ k c. omega (arith, ints, right_is r, right_is k, least.least k (omega (arith, rows.count, c))))
        i b);
  }

  -- on the way to the basis with s in it
  pub s_may_enter : MayPivot true lp t r lp.columns (set t.basis r lp.columns)
  s_may_enter = record {
    row_inside = least.inside;
    column_inside = s_inside;
    nonzero = nonzero;
    goal_is = goal_point;
    kind = inr (inr (record {
      entering = inr (r, inside, get_or-set_same t.basis r lp.columns 0 least.inside);
      basic = λ i b. inl (omega (arith, rows.slack, slacks i (omega (arith, rows.count, b))));
    }));
  }
