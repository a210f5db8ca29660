-- The rows of a posed program times multipliers, at a point.
use Rattle.std.specs.Prelude.{ℕ, ◌<◌, ◌≡◌, ℤ, pos, ◌+ℤ◌, ◌*ℤ◌, neg_ℤ, ◌≤ℤ◌, ◌<ℤ◌, length}
use Rattle.std.proofs.Common.{ap, sym, subst, ◌∙◌, arith}
use Rattle.std.proofs.lemmas.Int.{ints}
use Rattle.bz_algebra.specs.Sums.{dot, coef, upto}
use Rattle.bz_algebra.proofs.Ring.{*ℤ_assoc, cancel_lt_right, mul_add, mul_le_left, mul_le_right, mul_positive, mul_zero, neg_mul, zero_mul}
use Rattle.bz_algebra.proofs.SumLemmas.{dot_all, upto_add, upto_le, upto_neg, upto_rows, upto_same, upto_scale, upto_scale_right, upto_zeros}
use Rattle.bz_tableau.proofs.TrueAnswers.{at_most}
use Rattle.bz_std.specs.Meanings.{terms_at, right_at, sum_on, sum_right, AreNonnegative, MeetsWithin, IsEmptyBy, IsLeastAt, IsLeastRise, IsPossible}
use Rattle.bz_std.specs.Posed.{IsPosed, Posed}
use Rattle.bz_std.proofs.Lines.{each_line, line_below}

-- the rows times y, at v
rows_at : Posed → (ℕ → ℤ) → (ℕ → ℤ) → ℤ
rows_at q y v = upto (length q.rows) (λ i. y i *ℤ dot (terms_at q.rows i) v)

-- they are what the sums on the variables come to there
by_variables : (q : Posed) (y v g : ℕ → ℤ) → IsPosed q → ((j : ℕ) → j < q.variables → sum_on q y j ≡ g j) → rows_at q y v ≡ upto q.variables (λ j. g j *ℤ v j)
unfolding rows_at
by_variables q y v g h e =
    upto_same (length q.rows) _ _ (λ i b. ap (λ (t : ℤ). y i *ℤ t) (dot_all q.variables (terms_at q.rows i) v (line_below q h i b)))
    ∙ sym (upto_rows q.variables (length q.rows) y (λ i j. coef (terms_at q.rows i) j) v)
    ∙ upto_same q.variables _ _ (λ j b. ap (λ (t : ℤ). t *ℤ v j) (e j b))

-- where nothing is left on the variables, 0
nothing_left : (q : Posed) (y v : ℕ → ℤ) → IsPosed q → ((j : ℕ) → j < q.variables → sum_on q y j ≡ pos 0) → rows_at q y v ≡ pos 0
nothing_left q y v h e = by_variables q y v (λ j. pos 0) h e ∙ upto_zeros q.variables _ (λ j b. zero_mul (v j))

-- where the cost is left, times -c, the cost of v times -c
cost_left : (q : Posed) (y v : ℕ → ℤ) (c : ℤ) → IsPosed q → ((j : ℕ) → j < q.variables → sum_on q y j ≡ neg_ℤ (c *ℤ coef q.cost j)) → rows_at q y v ≡ neg_ℤ (c *ℤ dot q.cost v)
cost_left q y v c h e =
    by_variables q y v (λ j. neg_ℤ (c *ℤ coef q.cost j)) h e
    ∙ upto_same q.variables _ _ (λ j b. neg_mul (c *ℤ coef q.cost j) (v j) ∙ ap neg_ℤ (*ℤ_assoc c (coef q.cost j) (v j)))
    ∙ upto_neg q.variables (λ j. c *ℤ (coef q.cost j *ℤ v j))
    ∙ ap neg_ℤ (upto_scale q.variables c (λ j. coef q.cost j *ℤ v j) ∙ ap (λ (t : ℤ). c *ℤ t) (sym (dot_all q.variables q.cost v h.cost)))

-- at a point that passes the right sides by at most t they are no more than those and t
within_by : (q : Posed) (y v : ℕ → ℤ) (den t : ℤ) → AreNonnegative q y → MeetsWithin q v den t → (rows_at q y v) ≤ℤ ((sum_right q y *ℤ den) +ℤ (upto (length q.rows) y *ℤ t))
unfolding rows_at
within_by q y v den t h m =
    rw (← upto_scale_right (length q.rows) (λ i. y i *ℤ right_at q.rows i) den, ← upto_scale_right (length q.rows) y t, ← upto_add (length q.rows) (λ i. (y i *ℤ right_at q.rows i) *ℤ den) (λ i. y i *ℤ t))
    (upto_le (length q.rows) _ _ (λ i b. rw (*ℤ_assoc (y i) (right_at q.rows i) den, ← mul_add (y i) (right_at q.rows i *ℤ den) t) (mul_le_left (y i) _ _ (h i b) (here i b))))
  where
    here : (i : ℕ) → i < length q.rows → (dot (terms_at q.rows i) v) ≤ℤ ((right_at q.rows i *ℤ den) +ℤ t)
    here i b = each_line (λ terms rhs. (dot terms v) ≤ℤ ((rhs *ℤ den) +ℤ t)) q.rows m i b

-- at a point they are no more than the right sides
within_right : (q : Posed) (y v : ℕ → ℤ) (den : ℤ) → AreNonnegative q y → MeetsWithin q v den (pos 0) → (rows_at q y v) ≤ℤ (sum_right q y *ℤ den)
within_right q y v den h m = omega (arith, ints, within_by q y v den (pos 0) h m, mul_zero (upto (length q.rows) y))

-- ---- no point
pub empty_excludes : (q : Posed) (y : ℕ → ℤ) → IsPosed q → IsEmptyBy q y → ¬ IsPossible q
empty_excludes q y h e p = omega (arith, ints, nothing_left q y p.v h e.balanced, within_right q y p.v p.den e.multipliers p.meets, neg_mul (sum_right q y) p.den, mul_positive (neg_ℤ (sum_right q y)) p.den (omega (arith, ints, e.right)) p.positive)

-- a rise that is more than 0 shows that there is none
pub rise_empties : (q : Posed) (v : ℕ → ℤ) (s den : ℤ) (y : ℕ → ℤ) (by : ℤ) → IsLeastRise q v s den y by → (pos 0) <ℤ s → IsEmptyBy q y
rise_empties q v s den y by r l = record { multipliers = r.multipliers; balanced = r.balanced; right = below }
  where
    above : ((pos 0) *ℤ den) <ℤ (neg_ℤ (sum_right q y) *ℤ den)
    above = rw (← r.value, zero_mul den) (mul_positive s by l r.by_positive)

    below : (sum_right q y) <ℤ (pos 0)
    below = omega (arith, ints, cancel_lt_right (pos 0) (neg_ℤ (sum_right q y)) den (omega (arith, ints, r.den_positive)) above)

pub rise_excludes : (q : Posed) (v : ℕ → ℤ) (s den : ℤ) (y : ℕ → ℤ) (by : ℤ) → IsPosed q → IsLeastRise q v s den y by → (pos 0) <ℤ s → ¬ IsPossible q
rise_excludes q v s den y by h r l = empty_excludes q y h (rise_empties q v s den y by r l)

-- ---- a point
pub rise_meets : (q : Posed) (v : ℕ → ℤ) (s den : ℤ) (y : ℕ → ℤ) (by : ℤ) → IsLeastRise q v s den y by → s ≡ pos 0 → MeetsWithin q v den (pos 0)
rise_meets q v s den y by r e = subst (λ (t : ℤ). MeetsWithin q v den t) e r.meets

-- every point passes some right side by at least the least rise
pub rise_bounds : (q : Posed) (v : ℕ → ℤ) (s den : ℤ) (y : ℕ → ℤ) (by : ℤ) (w : ℕ → ℤ) (d t : ℤ) → IsPosed q → IsLeastRise q v s den y by → (pos 0) <ℤ d → (pos 0) ≤ℤ t → MeetsWithin q w d t → (s *ℤ d) ≤ℤ (t *ℤ den)
rise_bounds q v s den y by w d t h r positive nonnegative meets = at_most s t by (sum_right q y) den d r.by_positive r.den_positive r.value
    (omega (arith, ints, nothing_left q y w h r.balanced, within_by q y w d t r.multipliers meets, mul_le_right (upto (length q.rows) y) by t nonnegative r.within))

-- no point costs less than a least one
pub least_bounds : (q : Posed) (v : ℕ → ℤ) (den : ℤ) (y : ℕ → ℤ) (by : ℤ) (p : IsPossible q) → IsPosed q → IsLeastAt q v den y by → (dot q.cost v *ℤ p.den) ≤ℤ (dot q.cost p.v *ℤ den)
least_bounds q v den y by p h l = at_most (dot q.cost v) (dot q.cost p.v) by (sum_right q y) den p.den l.by_positive l.den_positive l.value
    (omega (arith, ints, cost_left q y p.v by h l.balanced, within_right q y p.v p.den l.multipliers p.meets))
