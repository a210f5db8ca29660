-- The signs of a basis: what its rows and its objective row say of its point and of the columns outside it.
use Rattle.std.specs.Prelude.{ℕ, ◌+◌, ◌-◌, ◌<◌, ◌≡◌, ◌≢◌, ℤ, pos, ◌+ℤ◌, ◌-ℤ◌, ◌*ℤ◌, neg_ℤ, ◌≤ℤ◌, ◌<ℤ◌, Bool}
use Rattle.std.proofs.Common.{refl, ap, sym, subst, ◌∙◌, arith, inl, inr}
use Rattle.std.proofs.lemmas.Int.{ints}
use Rattle.bz_algebra.specs.Sums.{upto}
use Rattle.bz_algebra.specs.Tableaus.{Equations, side, Program, IsRow, IsTableau, IsObjectiveRow, row_entry, objective_entry, rows_of, equations_of, factor, with_factor}
use Rattle.bz_algebra.proofs.Bounded.{by_lt}
use Rattle.bz_algebra.proofs.Programs.{combination_columns, objective_row, factor_off}
use Rattle.bz_algebra.proofs.Ring.{*ℤ_assoc, neg_mul, mul_add, add_mul, mul_zero, zero_mul, mul_nonnegative, cancel_le_right}
use Rattle.bz_algebra.proofs.SumLemmas.{upto_same, upto_add, upto_scale, upto_rows, upto_scale_right, upto_split, upto_only, upto_zeros}
use Rattle.bz_tableau.proofs.OneObjective.{objective_is as objective_of}
use Rattle.bz_lex.proofs.Wholes.{IsWhole, only_zero, extended, extended_before, extended_slack, extended_meets, whole_of_half, basic_or_not}
use Rattle.bz_tableau.specs.Answers.{AreMultipliersFor, IsSameCost}
use Rattle.bz_tableau.specs.Points.{IsOutside, terms, IsPoint, MeetsRows}

-- ---- the point
module _ (s : Equations) (basis : ℕ → ℕ) (w : ℕ → ℕ → ℤ) (tableau : IsTableau s basis w) (z : ℕ → ℤ) (den : ℤ) (point : IsPoint s basis z den) where
  point_whole : IsWhole s basis w den (side s) (pos 0) (extended s z den)
  point_whole = whole_of_half s basis w den (side s) (pos 0) z tableau (inr refl) (record {
    outside = λ j b o. point.outside j b o ∙ sym (only_zero (side s) j);
    basic = λ k b l. point.basic k (w k) b l (tableau.rows k b) ∙ as_said den (w k (side s));
  })
    where
      as_said : (a b : ℤ) → a *ℤ b ≡ (b *ℤ a) -ℤ (b *ℤ pos 0)
      as_said a b = omega (arith, ints, mul_zero b)

  pub point_outside : (j : ℕ) → j < side s → IsOutside s basis j → extended s z den j ≡ pos 0
  point_outside j b o = point_whole.outside j b o ∙ only_zero (side s) j

  pub point_basic : (k : ℕ) → k < s.rows → extended s z den (basis k) *ℤ w k (basis k) ≡ w k (side s) *ℤ den
  point_basic k b = point_whole.basic k b ∙ no_rest (w k (side s) *ℤ den) (w k (side s))
    where
      no_rest : (a b : ℤ) → a -ℤ (b *ℤ pos 0) ≡ a
      no_rest a b = omega (arith, ints, mul_zero b)

  -- where no right side is negative the point meets the rows
  meets_by_signs : ((k : ℕ) → k < s.rows → (pos 0) ≤ℤ (w k (side s))) → MeetsRows s z den
  meets_by_signs h = record {
    rows_hold = λ i b. omega (arith, ints, extended_slack s z den i, nonnegative (s.slack + i) (omega arith));
    nonnegative = λ j b. subst (λ (y : ℤ). (pos 0) ≤ℤ y) (extended_before s z den j b) (nonnegative j (omega arith));
  }
    where
      at_place : (k : ℕ) → k < s.rows → (pos 0) ≤ℤ (extended s z den (basis k))
      at_place k b = cancel_le_right (pos 0) (extended s z den (basis k)) (w k (basis k)) ((tableau.rows k b).positive)
          (omega (arith, ints, zero_mul (w k (basis k)), point_basic k b, mul_nonnegative (w k (side s)) den (h k b) (omega (arith, ints, point.denominator.positive))))

      nonnegative : (j : ℕ) → j < side s → (pos 0) ≤ℤ (extended s z den j)
      nonnegative j b = elim (basic_or_not s basis w tableau j) [
        | inl o ↦ omega (arith, ints, point_outside j b o)
        | inr p ↦ subst (λ (i : ℕ). (pos 0) ≤ℤ (extended s z den i)) p.2 (at_place p.0 p.1)
      ]

  -- and where it does none is
  signs_by_meets : MeetsRows s z den → (k : ℕ) → k < s.rows → (pos 0) ≤ℤ (w k (side s))
  signs_by_meets m k b = cancel_le_right (pos 0) (w k (side s)) den point.denominator.positive
      (omega (arith, ints, zero_mul den, point_basic k b, mul_nonnegative (extended s z den (basis k)) (w k (basis k)) (nonnegative (basis k) (tableau.columns.in_range k b)) (omega (arith, ints, (tableau.rows k b).positive))))
    where
      nonnegative : (j : ℕ) → j < side s → (pos 0) ≤ℤ (extended s z den j)
      nonnegative j l = by_lt j s.slack
          (λ c. subst (λ (y : ℤ). (pos 0) ≤ℤ y) (sym (extended_before s z den j c)) (m.nonnegative j c))
          (λ c. let e : s.slack + (j - s.slack) ≡ j = omega arith in
          subst (λ (i : ℕ). (pos 0) ≤ℤ (extended s z den i)) e (omega (arith, ints, extended_slack s z den (j - s.slack), m.rows_hold (j - s.slack) (omega arith))))

pub point_meets : (s : Equations) (basis : ℕ → ℕ) (w : ℕ → ℕ → ℤ) (z : ℕ → ℤ) (den : ℤ) → IsTableau s basis w → IsPoint s basis z den → ((k : ℕ) → k < s.rows → (pos 0) ≤ℤ (w k (side s))) → MeetsRows s z den
point_meets s basis w z den t p h = meets_by_signs s basis w t z den p h

pub point_signs : (s : Equations) (basis : ℕ → ℕ) (w : ℕ → ℕ → ℤ) (z : ℕ → ℤ) (den : ℤ) → IsTableau s basis w → IsPoint s basis z den → MeetsRows s z den → (k : ℕ) → k < s.rows → (pos 0) ≤ℤ (w k (side s))
point_signs s basis w z den t p m = signs_by_meets s basis w t z den p m

-- ---- the objective row
module _ (relaxed : Bool) (p : Program) (basis : ℕ → ℕ) (w : ℕ → ℕ → ℤ) (tableau : IsTableau (equations_of relaxed p) (with_factor relaxed p basis) w) where
  abbrev all : Equations
  all = equations_of relaxed p

  abbrev few : Equations
  few = rows_of relaxed p

  -- the objective row
  abbrev last : ℕ → ℤ
  last = w p.rows

  pub last_row : IsRow all (with_factor relaxed p basis) p.rows last
  last_row = tableau.rows p.rows (omega arith)

  last_columns : (j : ℕ) → j < all.slack → last j ≡ upto p.rows (λ i. last (all.slack + i) *ℤ row_entry relaxed p i j) +ℤ (last (factor relaxed p) *ℤ objective_entry relaxed p j)
  last_columns j b = combination_columns relaxed p last j last_row.combination b

  pub last_basic : (k : ℕ) → k < p.rows → last (basis k) ≡ pos 0
  last_basic k b = ap last (sym (factor_off relaxed p basis k b)) ∙ last_row.cleared k (omega arith) (λ e. omega arith)

  pub last_positive : (pos 0) <ℤ (last (factor relaxed p))
  last_positive = (objective_row relaxed p basis last last_row).positive

  -- its sum with numbers that meet the rows as equations
  pub objective_sum : (f : ℕ → ℤ) (r : ℤ) → ((i : ℕ) → i < p.rows → terms few f i +ℤ f (all.slack + i) ≡ p.rhs i *ℤ r)
      → upto (side few) (λ j. last j *ℤ f j) ≡ (upto p.rows (λ i. last (all.slack + i) *ℤ p.rhs i) *ℤ r) +ℤ (last (factor relaxed p) *ℤ upto all.slack (λ j. objective_entry relaxed p j *ℤ f j))
  objective_sum f r h =
      upto_split all.slack p.rows (λ j. last j *ℤ f j)
      ∙ (λ k. columns k +ℤ upto p.rows (λ i. y i *ℤ f (all.slack + i)))
      ∙ swapped (upto p.rows (λ i. y i *ℤ terms few f i)) (den *ℤ cost) (upto p.rows (λ i. y i *ℤ f (all.slack + i)))
      ∙ (λ k. rows k +ℤ (den *ℤ cost))
    where
      y : ℕ → ℤ
      y i = last (all.slack + i)

      den : ℤ
      den = last (factor relaxed p)

      cost : ℤ
      cost = upto all.slack (λ j. objective_entry relaxed p j *ℤ f j)

      swapped : (a b c : ℤ) → (a +ℤ b) +ℤ c ≡ (a +ℤ c) +ℤ b
      swapped a b c = omega (arith, ints)

      columns : upto all.slack (λ j. last j *ℤ f j) ≡ upto p.rows (λ i. y i *ℤ terms few f i) +ℤ (den *ℤ cost)
      columns =
          upto_same all.slack _ _ (λ j b. ap (λ (t : ℤ). t *ℤ f j) (last_columns j b) ∙ add_mul (upto p.rows (λ i. y i *ℤ row_entry relaxed p i j)) (den *ℤ objective_entry relaxed p j) (f j))
          ∙ upto_add all.slack (λ j. upto p.rows (λ i. y i *ℤ row_entry relaxed p i j) *ℤ f j) (λ j. (den *ℤ objective_entry relaxed p j) *ℤ f j)
          ∙ (λ k. upto_rows all.slack p.rows y (row_entry relaxed p) f k
          +ℤ (upto_same all.slack (λ j. (den *ℤ objective_entry relaxed p j) *ℤ f j) (λ j. den *ℤ (objective_entry relaxed p j *ℤ f j)) (λ j b. *ℤ_assoc den (objective_entry relaxed p j) (f j)) ∙ upto_scale all.slack den (λ j. objective_entry relaxed p j *ℤ f j)) k)

      rows : upto p.rows (λ i. y i *ℤ terms few f i) +ℤ upto p.rows (λ i. y i *ℤ f (all.slack + i)) ≡ upto p.rows (λ i. y i *ℤ p.rhs i) *ℤ r
      rows =
          sym (upto_add p.rows (λ i. y i *ℤ terms few f i) (λ i. y i *ℤ f (all.slack + i)))
          ∙ upto_same p.rows _ _ (λ i b. sym (mul_add (y i) (terms few f i) (f (all.slack + i))) ∙ ap (λ (t : ℤ). y i *ℤ t) (h i b) ∙ sym (*ℤ_assoc (y i) (p.rhs i) r))
          ∙ upto_scale_right p.rows (λ i. y i *ℤ p.rhs i) r

  -- its number in a column, by the multipliers
  term_is : (d : ℤ) (y : ℕ → ℤ) → (last (factor relaxed p) ≡ d) × ((i : ℕ) → i < p.rows → last (all.slack + i) ≡ y i) → (j : ℕ) → j < all.slack → last j ≡ (d *ℤ objective_entry relaxed p j) +ℤ upto p.rows (λ i. y i *ℤ row_entry relaxed p i j)
  term_is d y same j b = last_columns j b
      ∙ turned (upto p.rows (λ i. last (all.slack + i) *ℤ row_entry relaxed p i j)) (last (factor relaxed p) *ℤ objective_entry relaxed p j)
      ∙ (λ k. (same.0 k *ℤ objective_entry relaxed p j) +ℤ upto_same p.rows (λ i. last (all.slack + i) *ℤ row_entry relaxed p i j) (λ i. y i *ℤ row_entry relaxed p i j) (λ i c. ap (λ (t : ℤ). t *ℤ row_entry relaxed p i j) (same.1 i c)) k)
    where
      turned : (a b : ℤ) → a +ℤ b ≡ b +ℤ a
      turned a b = omega (arith, ints)

  -- no number of the row is negative where those of the multipliers aren't, and the other way
  pub multipliers_by_signs : (d : ℤ) (y : ℕ → ℤ) → IsObjectiveRow relaxed p basis d y → ((j : ℕ) → j < side few → (pos 0) ≤ℤ (last j)) → AreMultipliersFor relaxed p d y
  multipliers_by_signs d y o h = let same = objective_of relaxed p basis w tableau d y o in record {
    multipliers = λ i b. subst (λ (t : ℤ). (pos 0) ≤ℤ t) (same.1 i b) (h (all.slack + i) (omega arith));
    columns = λ j b. subst (λ (t : ℤ). (pos 0) ≤ℤ t) (term_is d y same j b) (h j (omega arith));
  }

  pub signs_by_multipliers : (d : ℤ) (y : ℕ → ℤ) → IsObjectiveRow relaxed p basis d y → AreMultipliersFor relaxed p d y → (j : ℕ) → j < side few → (pos 0) ≤ℤ (last j)
  signs_by_multipliers d y o m j b = by_lt j all.slack
      (λ l. let same = objective_of relaxed p basis w tableau d y o in
      subst (λ (t : ℤ). (pos 0) ≤ℤ t) (sym (term_is d y same j l)) (m.columns j l))
      (λ l. let e : all.slack + (j - all.slack) ≡ j = omega arith in
      subst (λ (i : ℕ). (pos 0) ≤ℤ (last i)) e (subst (λ (t : ℤ). (pos 0) ≤ℤ t) (sym ((objective_of relaxed p basis w tableau d y o).1 (j - all.slack) (omega arith))) (m.multipliers (j - all.slack) (omega arith))))

  -- a sum with the objective row over what is 0 outside the basis but at c
  pub objective_at : (few_rows : ℕ → ℕ → ℤ) → IsTableau few basis few_rows → (f : ℕ → ℤ) (c : ℕ) → c < side few → ((j : ℕ) → j < side few → j ≢ c → IsOutside few basis j → f j ≡ pos 0) → upto (side few) (λ j. last j *ℤ f j) ≡ last c *ℤ f c
  objective_at v t f c b h = upto_only (side few) c (λ j. last j *ℤ f j) b (λ j l n. elim (basic_or_not few basis v t j) [
    | inl o ↦ ap (λ (x : ℤ). last j *ℤ x) (h j l n o) ∙ mul_zero (last j)
    | inr q ↦ ap (λ (x : ℤ). x *ℤ f j) (subst (λ (i : ℕ). last i ≡ pos 0) q.2 (last_basic q.0 q.1)) ∙ zero_mul (f j)
  ])

  pub objective_nowhere : (few_rows : ℕ → ℕ → ℤ) → IsTableau few basis few_rows → (f : ℕ → ℤ) → ((j : ℕ) → j < side few → IsOutside few basis j → f j ≡ pos 0) → upto (side few) (λ j. last j *ℤ f j) ≡ pos 0
  objective_nowhere v t f h = upto_zeros (side few) (λ j. last j *ℤ f j) (λ j l. elim (basic_or_not few basis v t j) [
    | inl o ↦ ap (λ (x : ℤ). last j *ℤ x) (h j l o) ∙ mul_zero (last j)
    | inr q ↦ ap (λ (x : ℤ). x *ℤ f j) (subst (λ (i : ℕ). last i ≡ pos 0) q.2 (last_basic q.0 q.1)) ∙ zero_mul (f j)
  ])

  -- the cost of the point is what the multipliers say
  pub same_cost : (few_rows : ℕ → ℕ → ℤ) → IsTableau few basis few_rows → (z : ℕ → ℤ) (den d : ℤ) (y : ℕ → ℤ) → IsPoint few basis z den → IsObjectiveRow relaxed p basis d y → IsSameCost relaxed p z den y d
  same_cost v t z den d y point o = turned (upto p.rows (λ i. y i *ℤ p.rhs i)) den d (upto all.slack (λ j. objective_entry relaxed p j *ℤ z j))
      (sym (objective_nowhere v t (extended few z den) (point_outside few basis v t z den point))
      ∙ objective_sum (extended few z den) den (λ i b. extended_meets few z den i)
      ∙ (λ k. (upto_same p.rows (λ i. last (all.slack + i) *ℤ p.rhs i) (λ i. y i *ℤ p.rhs i) (λ i b. ap (λ (x : ℤ). x *ℤ p.rhs i) ((objective_of relaxed p basis w tableau d y o).1 i b)) k *ℤ den)
      +ℤ ((objective_of relaxed p basis w tableau d y o).0 k *ℤ upto_same all.slack (λ j. objective_entry relaxed p j *ℤ extended few z den j) (λ j. objective_entry relaxed p j *ℤ z j) (λ j b. ap (λ (x : ℤ). objective_entry relaxed p j *ℤ x) (extended_before few z den j b)) k)))
    where
      turned : (a b e f : ℤ) → pos 0 ≡ (a *ℤ b) +ℤ (e *ℤ f) → f *ℤ e ≡ neg_ℤ a *ℤ b
      turned a b e f h = omega (arith, ints, neg_mul a b, h)
