-- What the answer of a program's columns says of the variables that they stand for.
--
-- In the two columns of a variable stand a number and its negative, so that two sums that aren't negative are both 0.
use Rattle.std.specs.Prelude.{ℕ, ◌+◌, ◌*◌, ◌<◌, ◌≡◌, ℤ, pos, negsuc, ◌+ℤ◌, ◌-ℤ◌, ◌*ℤ◌, neg_ℤ, ◌≤ℤ◌, true, false, List, length}
use Rattle.std.proofs.Common.{refl, ap, ◌∙◌, arith}
use Rattle.std.proofs.lemmas.Bool.{eq-eqb, ne_eqb}
use Rattle.std.proofs.lemmas.Int.{ints}
use Rattle.bz_algebra.specs.Sums.{dot, coef, upto}
use Rattle.bz_algebra.specs.Tableaus.{rows_of, row_entry, objective_entry}
use Rattle.bz_algebra.proofs.Ring.{mul_neg, mul_zero, zero_add}
use Rattle.bz_algebra.proofs.SumLemmas.{upto_same, upto_neg}
use Rattle.bz_tableau.specs.Answers.{column_sum, side_sum, IsLeast, IsEmpty, IsRay}
use Rattle.bz_tableau.specs.Dense.{entry}
use Rattle.bz_tableau.specs.Points.{terms}
use Rattle.bz_tableau.specs.Programs.{program_of, terms_of, rhs_of}
use Rattle.bz_tableau.specs.declared.answers.Vals.{Vals}
use Rattle.bz_tableau.specs.declared.programs.Lp.{Lp}
use Rattle.bz_tableau.proofs.TrueAnswers.{cost_is_s}
use Rattle.bz_std.specs.Meanings.{differences, terms_at, sum_on, sum_right, IsLeastAt, IsLeastRise, IsEmptyBy, IsFallAlong}
use Rattle.bz_std.specs.Posed.{IsPosed, IsProgramOf, Posed, over_columns}
use Rattle.bz_std.proofs.ColumnSums.{coef_even, coef_odd, sum_of_columns}
use Rattle.bz_std.proofs.Lines.{all_lines, has_lines, line_below}

times_minus_one : (a : ℤ) → a *ℤ negsuc 0 ≡ neg_ℤ a
times_minus_one a = omega (arith, ints)

-- a number and its negative
both_zero : (a b : ℤ) → (pos 0) ≤ℤ (a +ℤ b) → (pos 0) ≤ℤ (neg_ℤ a +ℤ neg_ℤ b) → b ≡ neg_ℤ a
both_zero a b h i = omega (arith, ints)

module _ (q : Posed) (lp : Lp) (h : IsProgramOf q lp) (posed : IsPosed q) where
  -- ---- sums over the rows
  -- the sum of the rows times y in a column
  rows_times : (ℕ → ℤ) → ℕ → ℤ
  rows_times y j = upto (length lp.rows) (λ i. y i *ℤ coef (terms_of lp.rows i) j)

  sum_in : (y f : ℕ → ℤ) (j : ℕ) → ((i : ℕ) → coef (over_columns (terms_at q.rows i)) j ≡ f i) → rows_times y j ≡ upto (length q.rows) (λ i. y i *ℤ f i)
  unfolding rows_times
  sum_in y f j e = let l = has_lines q lp h in
      ap (λ (n : ℕ). upto n (λ i. y i *ℤ coef (terms_of lp.rows i) j)) l.count
      ∙ upto_same (length q.rows) _ _ (λ i b. ap (λ (t : ℤ). y i *ℤ t) (ap (λ (es : List (ℕ × ℤ)). coef es j) (l.terms i) ∙ e i))

  sum_even : (y : ℕ → ℤ) (j : ℕ) → rows_times y (2 * j) ≡ sum_on q y j
  sum_even y j = sum_in y (λ i. coef (terms_at q.rows i) j) (2 * j) (λ i. coef_even (terms_at q.rows i) j)

  sum_odd : (y : ℕ → ℤ) (j : ℕ) → rows_times y (2 * j + 1) ≡ neg_ℤ (sum_on q y j)
  sum_odd y j = sum_in y (λ i. neg_ℤ (coef (terms_at q.rows i) j)) (2 * j + 1) (λ i. coef_odd (terms_at q.rows i) j)
      ∙ upto_same (length q.rows) _ _ (λ i b. mul_neg (y i) (coef (terms_at q.rows i) j))
      ∙ upto_neg (length q.rows) (λ i. y i *ℤ coef (terms_at q.rows i) j)

  cost_even : (j : ℕ) → coef lp.cost (2 * j) ≡ coef q.cost j
  cost_even j = ap (λ (es : List (ℕ × ℤ)). coef es (2 * j)) h.cost ∙ coef_even q.cost j

  cost_odd : (j : ℕ) → coef lp.cost (2 * j + 1) ≡ neg_ℤ (coef q.cost j)
  cost_odd j = ap (λ (es : List (ℕ × ℤ)). coef es (2 * j + 1)) h.cost ∙ coef_odd q.cost j

  right_sum : (y : ℕ → ℤ) → side_sum (program_of lp) y ≡ sum_right q y
  right_sum y = let l = has_lines q lp h in
      ap (λ (n : ℕ). upto n (λ i. y i *ℤ rhs_of lp.rows i)) l.count
      ∙ upto_same (length q.rows) _ _ (λ i b. ap (λ (t : ℤ). y i *ℤ t) (l.right i))

  -- ---- multipliers
  in_range : (i : ℕ) → i < length q.rows → i < length lp.rows
  in_range i b = let l = has_lines q lp h in omega (arith, l.count)

  of_variable : (j : ℕ) → j < q.variables → 2 * j < lp.columns
  of_variable j b = omega (arith, h.columns)

  of_variable_too : (j : ℕ) → j < q.variables → 2 * j + 1 < lp.columns
  of_variable_too j b = omega (arith, h.columns)

  -- where the cost times d and the rows times y are negative in no column, they cancel out
  cancels : (y : ℕ → ℤ) (d : ℤ) → ((j : ℕ) → j < lp.columns → (pos 0) ≤ℤ ((d *ℤ coef lp.cost j) +ℤ rows_times y j)) → (j : ℕ) → j < q.variables → sum_on q y j ≡ neg_ℤ (d *ℤ coef q.cost j)
  cancels y d c j b = both_zero (d *ℤ coef q.cost j) (sum_on q y j)
      (rw (← cost_even j, ← sum_even y j) (c (2 * j) (of_variable j b)))
      (rw (← mul_neg d (coef q.cost j), ← cost_odd j, ← sum_odd y j) (c (2 * j + 1) (of_variable_too j b)))

  vanishes : (y : ℕ → ℤ) → ((j : ℕ) → j < lp.columns → (pos 0) ≤ℤ (rows_times y j)) → (j : ℕ) → j < q.variables → sum_on q y j ≡ pos 0
  vanishes y c j b = omega (arith, ints, c (2 * j) (of_variable j b), c (2 * j + 1) (of_variable_too j b), sum_even y j, sum_odd y j)

  -- ---- points
  -- a row at a point of the columns
  row_there : (z : ℕ → ℤ) (i : ℕ) → i < length q.rows → upto lp.columns (λ j. coef (terms_of lp.rows i) j *ℤ z j) ≡ dot (terms_at q.rows i) (differences z)
  row_there z i b = let l = has_lines q lp h in
      ap (λ (n : ℕ). upto n (λ j. coef (terms_of lp.rows i) j *ℤ z j)) h.columns
      ∙ ap (λ (es : List (ℕ × ℤ)). upto (2 * q.variables) (λ j. coef es j *ℤ z j)) (l.terms i)
      ∙ sum_of_columns q.variables (terms_at q.rows i) z (line_below q posed i b)

  cost_there : (z : ℕ → ℤ) → upto lp.columns (λ j. coef lp.cost j *ℤ z j) ≡ dot q.cost (differences z)
  cost_there z = ap (λ (n : ℕ). upto n (λ j. coef lp.cost j *ℤ z j)) h.columns
      ∙ ap (λ (es : List (ℕ × ℤ)). upto (2 * q.variables) (λ j. coef es j *ℤ z j)) h.cost
      ∙ sum_of_columns q.variables q.cost z posed.cost

  -- a row of the relaxed program has s with -1 behind its other columns
  before_s : (i j : ℕ) → j < lp.columns → row_entry true (program_of lp) i j ≡ coef (terms_of lp.rows i) j
  before_s i j b = rw (ne_eqb j lp.columns (λ e. omega arith)) refl

  row_relaxed : (z : ℕ → ℤ) (i : ℕ) → terms (rows_of true (program_of lp)) z i ≡ upto lp.columns (λ j. coef (terms_of lp.rows i) j *ℤ z j) -ℤ z lp.columns
  row_relaxed z i = ap (λ (t : ℤ). t +ℤ (row_entry true (program_of lp) i lp.columns *ℤ z lp.columns)) (upto_same lp.columns _ _ (λ j b. ap (λ (t : ℤ). t *ℤ z j) (before_s i j b))) ∙ rw (eq-eqb lp.columns lp.columns refl) (omega (arith, ints))

  -- ---- the answers
  pub least_crosses : (basis : List ℕ) (z y : Vals) → IsLeast false (program_of lp) basis z y → IsLeastAt q (differences (entry z.num)) z.den (entry y.num) y.den
  unfolding rows_times
  least_crosses basis z y a = record {
    den_positive = a.point.denominator.positive;
    by_positive = a.objective.positive;
    meets = all_lines (λ es rhs. (dot es (differences (entry z.num))) ≤ℤ ((rhs *ℤ z.den) +ℤ (pos 0))) q.rows
        (λ i b. omega (arith, ints, a.meets.rows_hold i (in_range i b), row_there (entry z.num) i b, ap (λ (t : ℤ). t *ℤ z.den) ((has_lines q lp h).right i)));
    multipliers = λ i b. a.bounds.multipliers i (in_range i b);
    balanced = cancels (entry y.num) y.den a.bounds.columns;
    value = rw (← cost_there (entry z.num), ← right_sum (entry y.num)) a.same_cost;
  }

  pub rise_crosses : (basis : List ℕ) (z y : Vals) → IsLeast true (program_of lp) basis z y → IsLeastRise q (differences (entry z.num)) (entry z.num (2 * q.variables)) z.den (entry y.num) y.den
  unfolding rows_times
  rise_crosses basis z y a = record {
    den_positive = a.point.denominator.positive;
    by_positive = a.objective.positive;
    nonnegative = rw (← s_is) (a.meets.nonnegative lp.columns (omega arith));
    meets = all_lines (λ es rhs. (dot es (differences (entry z.num))) ≤ℤ ((rhs *ℤ z.den) +ℤ s)) q.rows
        (λ i b. omega (arith, ints, a.meets.rows_hold i (in_range i b), row_relaxed (entry z.num) i, row_there (entry z.num) i b, ap (λ (t : ℤ). t *ℤ z.den) ((has_lines q lp h).right i), s_is));
    multipliers = λ i b. a.bounds.multipliers i (in_range i b);
    balanced = vanishes (entry y.num) (λ j b. rw (← relaxed_sum j b) (a.bounds.columns j (omega arith)));
    within = omega (arith, ints, a.bounds.columns lp.columns (omega arith), in_s (entry y.num), s_cost);
    value = rw (← s_is, ← cost_is_s (program_of lp) (entry z.num), ← right_sum (entry y.num)) a.same_cost;
  }
    where
      s : ℤ
      s = entry z.num (2 * q.variables)

      s_is : entry z.num lp.columns ≡ s
      s_is = ap (entry z.num) h.columns

      -- the column s has 1 in the objective and -1 in each row
      s_cost : y.den *ℤ objective_entry true (program_of lp) lp.columns ≡ y.den
      s_cost = rw (eq-eqb lp.columns lp.columns refl) (omega (arith, ints))

      in_s : (w : ℕ → ℤ) → column_sum true (program_of lp) w lp.columns ≡ neg_ℤ (upto (length q.rows) w)
      in_s w =
          rw (eq-eqb lp.columns lp.columns refl)
          (upto_same (length lp.rows) _ _ (λ i b. times_minus_one (w i))
          ∙ upto_neg (length lp.rows) w
          ∙ ap (λ (n : ℕ). neg_ℤ (upto n w)) (has_lines q lp h).count)

      relaxed_sum : (j : ℕ) → j < lp.columns → (y.den *ℤ objective_entry true (program_of lp) j) +ℤ column_sum true (program_of lp) (entry y.num) j ≡ rows_times (entry y.num) j
      relaxed_sum j b = rw (ne_eqb j lp.columns (λ e. omega arith), mul_zero y.den) (zero_add (rows_times (entry y.num) j))

  pub empty_crosses : (basis : List ℕ) (y : List ℤ) → IsEmpty (program_of lp) basis y → IsEmptyBy q (entry y)
  unfolding rows_times
  empty_crosses basis y a = record {
    multipliers = λ i b. a.nonnegative i (in_range i b);
    balanced = vanishes (entry y) a.columns;
    right = rw (← right_sum (entry y)) a.right;
  }

  pub ray_crosses : (basis : List ℕ) (column : ℕ) (z : Vals) (d : List ℤ) → IsRay (program_of lp) basis column z d → IsFallAlong q (differences (entry d))
  ray_crosses basis column z d a = record {
    rows = all_lines (λ es rhs. (dot es (differences (entry d))) ≤ℤ (pos 0)) q.rows
        (λ i b. rw (← row_there (entry d) i b) (a.falls.rows i (in_range i b)));
    cost = rw (← cost_there (entry d)) a.falls.cost;
  }
