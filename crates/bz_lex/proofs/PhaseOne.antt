-- The first phase: the objective of a relaxed program is its column s alone, so that it has no ray.
use Rattle.std.specs.Prelude.{ℕ, suc, ◌+◌, ◌<◌, ◌≤◌, ◌≡◌, ◌≢◌, ◌⊎◌, ℤ, pos, ◌+ℤ◌, ◌*ℤ◌, neg_ℤ, ◌≤ℤ◌, ◌<ℤ◌, true}
use Rattle.std.proofs.Common.{refl, ap, sym, subst, ◌∙◌, arith, inl, inr}
use Rattle.std.proofs.Math.IntN.{*ℤ_comm}
use Rattle.std.proofs.lemmas.Bool.{cases_eq, eq-eqb, ne_eqb}
use Rattle.std.proofs.lemmas.Int.{ints, by_lt_z}
use Rattle.bz_algebra.specs.Sums.{upto}
use Rattle.bz_algebra.specs.Tableaus.{Program, Equations, side, row_entry, objective_entry, equations_of, IsCombination, IsOwnRow, IsRow, IsTableau, factor, with_factor}
use Rattle.bz_algebra.proofs.Bounded.{below_suc, all_or_some}
use Rattle.bz_algebra.proofs.Combinations.{each_entry, combination_add, combination_scale}
use Rattle.bz_algebra.proofs.NothingElse.{nothing_else}
use Rattle.bz_algebra.proofs.Programs.{own, own_is, own_row, combination_columns, combination_right, entry_objective, right_objective, factor_at, factor_off}
use Rattle.bz_algebra.proofs.Ring.{mul_zero, mul_one, mul_positive, mul_lt_left, mul_nonnegative, cancel_lt_left, other_zero, positive-ne}
use Rattle.bz_algebra.proofs.SumLemmas.{upto_same}
use Rattle.bz_algebra.proofs.Uniqueness.{row_unique}

module _ (p : Program) where
  abbrev all : Equations
  all = equations_of true p

  abbrev at : ℕ
  at = factor true p

  -- the column s
  abbrev column_s : ℕ
  column_s = p.columns

  -- the objective itself
  objective : ℕ → ℤ
  objective = own all p.rows

  is_objective : IsOwnRow all p.rows objective
  unfolding objective
  is_objective = own_is all p.rows (omega arith)

  objective_combination : IsCombination all objective
  objective_combination = (own_row all p.rows objective (omega arith) is_objective).combination

  at_factor : objective at ≡ pos 1
  at_factor = is_objective.own

  at_s : objective column_s ≡ pos 1
  at_s = is_objective.columns column_s (omega arith) ∙ entry_objective true p column_s ∙ entry
    where
      entry : objective_entry true p column_s ≡ pos 1
      entry = rw (eq-eqb p.columns p.columns refl)

  elsewhere : (j : ℕ) → j ≤ side all → j ≢ column_s → j ≢ at → objective j ≡ pos 0
  elsewhere = each_entry all (λ j. j ≢ column_s → j ≢ at → objective j ≡ pos 0)
      (λ j b n m. is_objective.columns j b ∙ entry_objective true p j ∙ entry j n)
      (λ i b n m. is_objective.others i b (λ e. m (ap (λ (k : ℕ). all.slack + k) e)))
      (λ n m. is_objective.right ∙ right_objective true p)
    where
      entry : (j : ℕ) → j ≢ column_s → objective_entry true p j ≡ pos 0
      entry j n = rw (ne_eqb j p.columns n)

  module _ (basis : ℕ → ℕ) (w : ℕ → ℕ → ℤ) (t : IsTableau all (with_factor true p basis) w) where
    apart : (i k : ℕ) → i < p.rows → k < p.rows → i ≢ k → basis i ≢ basis k
    apart i k b c n e = n (t.columns.different i k (omega arith) (omega arith) (factor_off true p basis i b ∙ e ∙ sym (factor_off true p basis k c)))

    not_factor : (i : ℕ) → i < p.rows → basis i ≢ at
    not_factor i b e = omega (arith, t.columns.different i p.rows (omega arith) (omega arith) (factor_off true p basis i b ∙ e ∙ sym (factor_at true p basis)))

    inside : (i : ℕ) → i < p.rows → basis i < side all
    inside i b = subst (λ (c : ℕ). c < side all) (factor_off true p basis i b) (t.columns.in_range i (omega arith))

    -- the rows in the basic columns
    other_column : (i k : ℕ) → i < suc p.rows → k < p.rows → k ≢ i → w i (basis k) ≡ pos 0
    other_column i k b c n = ap (w i) (sym (factor_off true p basis k c)) ∙ (t.rows i b).cleared k (omega arith) n

    factor_column : (i : ℕ) → i < p.rows → w i at ≡ pos 0
    factor_column i b = ap (w i) (sym (factor_at true p basis)) ∙ (t.rows i (omega arith)).cleared p.rows (omega arith) (λ e. omega arith)

    own_column : (i : ℕ) → i < p.rows → (pos 0) <ℤ (w i (basis i))
    own_column i b = subst (λ (c : ℕ). (pos 0) <ℤ (w i c)) (factor_off true p basis i b) (t.rows i (omega arith)).positive

    own_factor : (pos 0) <ℤ (w p.rows at)
    own_factor = subst (λ (c : ℕ). (pos 0) <ℤ (w p.rows c)) (factor_at true p basis) (t.rows p.rows (omega arith)).positive

    -- ---- s is basic
    module _ (k : ℕ) (b : k < p.rows) (basic : basis k ≡ column_s) where
      -- the sum of the objective row and row k, so that it has the same number in s and in the factor column
      abbrev joined : ℕ → ℤ
      joined j = (w k column_s *ℤ w p.rows j) +ℤ (w p.rows at *ℤ w k j)

      -- without the objective
      abbrev difference : ℕ → ℤ
      difference j = joined j +ℤ (neg_ℤ (w p.rows at *ℤ w k column_s) *ℤ objective j)

      in_s : (a d x o : ℤ) → x ≡ pos 0 → o ≡ pos 1 → ((a *ℤ x) +ℤ (d *ℤ a)) +ℤ (neg_ℤ (d *ℤ a) *ℤ o) ≡ pos 0
      in_s a d x o e f = rw (e, f, mul_zero a, mul_one (neg_ℤ (d *ℤ a))) (omega (arith, ints))

      in_factor : (a d y o : ℤ) → y ≡ pos 0 → o ≡ pos 1 → ((a *ℤ d) +ℤ (d *ℤ y)) +ℤ (neg_ℤ (d *ℤ a) *ℤ o) ≡ pos 0
      in_factor a d y o e f = rw (e, f, mul_zero d, mul_one (neg_ℤ (d *ℤ a)), *ℤ_comm a d) (omega (arith, ints))

      in_other : (a d x y o : ℤ) → x ≡ pos 0 → y ≡ pos 0 → o ≡ pos 0 → ((a *ℤ x) +ℤ (d *ℤ y)) +ℤ (neg_ℤ (d *ℤ a) *ℤ o) ≡ pos 0
      in_other a d x y o e f g = rw (e, f, g, mul_zero a, mul_zero d, mul_zero (neg_ℤ (d *ℤ a))) (omega (arith, ints))

      in_basis : (l : ℕ) → l < p.rows → difference (basis l) ≡ pos 0
      in_basis l c = elim (cases_eq l k) [
        | inl e ↦ subst (λ (j : ℕ). difference j ≡ pos 0) (sym (ap basis e ∙ basic)) (in_s (w k column_s) (w p.rows at) (w p.rows column_s) (objective column_s) (ap (w p.rows) (sym basic) ∙ other_column p.rows k (omega arith) b (λ g. omega arith)) at_s)
        | inr n ↦ in_other (w k column_s) (w p.rows at) (w p.rows (basis l)) (w k (basis l)) (objective (basis l)) (other_column p.rows l (omega arith) c (λ g. omega arith)) (other_column k l (omega arith) c n)
            (elsewhere (basis l) (omega (arith, inside l c)) (λ e. apart l k c b n (e ∙ sym basic)) (not_factor l c))
      ]

      zeros : (j : ℕ) → j ≤ side all → difference j ≡ pos 0
      zeros = nothing_else all (with_factor true p basis) w t difference
          (combination_add all joined (λ j. neg_ℤ (w p.rows at *ℤ w k column_s) *ℤ objective j)
          (combination_add all (λ j. w k column_s *ℤ w p.rows j) (λ j. w p.rows at *ℤ w k j) (combination_scale all (w k column_s) (w p.rows) (t.rows p.rows (omega arith)).combination) (combination_scale all (w p.rows at) (w k) (t.rows k (omega arith)).combination))
          (combination_scale all (neg_ℤ (w p.rows at *ℤ w k column_s)) objective objective_combination))
          (below_suc p.rows (λ l. difference (with_factor true p basis l) ≡ pos 0)
          (λ l c. subst (λ (j : ℕ). difference j ≡ pos 0) (sym (factor_off true p basis l c)) (in_basis l c))
          (subst (λ (j : ℕ). difference j ≡ pos 0) (sym (factor_at true p basis)) (in_factor (w k column_s) (w p.rows at) (w k at) (objective at) (factor_column k b) at_factor)))

      mirrored : (j : ℕ) → j ≤ side all → j ≢ column_s → j ≢ at → joined j ≡ pos 0
      mirrored j l n m = left (joined j) (neg_ℤ (w p.rows at *ℤ w k column_s)) (objective j) (elsewhere j l n m) (zeros j l)
        where
          left : (x a o : ℤ) → o ≡ pos 0 → x +ℤ (a *ℤ o) ≡ pos 0 → x ≡ pos 0
          left x a o e f = omega (arith, ints, mul_zero a, ap (λ (t : ℤ). a *ℤ t) e)

    -- ---- s isn't basic
    module _ (away : (k : ℕ) → k < p.rows → basis k ≢ column_s) where
      objective_is : IsRow all (with_factor true p basis) p.rows objective
      objective_is = record {
        combination = objective_combination;
        primitive = (own_row all p.rows objective (omega arith) is_objective).primitive;
        positive = subst (λ (c : ℕ). (pos 0) <ℤ (objective c)) (sym (factor_at true p basis)) (subst (λ (z : ℤ). (pos 0) <ℤ z) (sym at_factor) (omega (arith, ints)));
        cleared = below_suc p.rows (λ k. k ≢ p.rows → objective (with_factor true p basis k) ≡ pos 0)
            (λ k c n. ap objective (factor_off true p basis k c) ∙ elsewhere (basis k) (omega (arith, inside k c)) (away k c) (not_factor k c))
            (λ n. absurd (n refl));
      }

      same : (j : ℕ) → j ≤ side all → w p.rows j ≡ objective j
      same = row_unique all (with_factor true p basis) w objective p.rows t (omega arith) objective_is

      nonnegative : (j : ℕ) → j ≤ side all → (pos 0) ≤ℤ (w p.rows j)
      nonnegative j l = subst (λ (z : ℤ). (pos 0) ≤ℤ z) (sym (same j l)) (elim (cases_eq j column_s) [
        | inl e ↦ subst (λ (i : ℕ). (pos 0) ≤ℤ (objective i)) (sym e) (subst (λ (z : ℤ). (pos 0) ≤ℤ z) (sym at_s) (omega (arith, ints)))
        | inr n ↦ elim (cases_eq j at) [
          | inl e ↦ subst (λ (i : ℕ). (pos 0) ≤ℤ (objective i)) (sym e) (subst (λ (z : ℤ). (pos 0) ≤ℤ z) (sym at_factor) (omega (arith, ints)))
          | inr m ↦ subst (λ (z : ℤ). (pos 0) ≤ℤ z) (sym (elsewhere j l n m)) (omega (arith, ints))
        ]
      ])

      no_right : w p.rows (side all) ≡ pos 0
      no_right = same (side all) (omega arith) ∙ elsewhere (side all) (omega arith) (λ e. omega arith) (λ e. omega arith)

    -- s is basic at some place, or at none
    basic_or_not : ((k : ℕ) → k < p.rows → basis k ≢ column_s) ⊎ ((k : ℕ) × (k < p.rows) × (basis k ≡ column_s))
    basic_or_not = all_or_some p.rows (λ k. basis k ≢ column_s) (λ k. basis k ≡ column_s) (λ k. elim (cases_eq (basis k) column_s) [ inl e ↦ inr e | inr n ↦ inl n ])

-- where s is basic, its row and the objective row are negatives of each other but for s and the factor column, up to positive multiples; so are their right sides
pub mirror : (p : Program) (basis : ℕ → ℕ) (w : ℕ → ℕ → ℤ) → IsTableau (equations_of true p) (with_factor true p basis) w → (k : ℕ) → k < p.rows → basis k ≡ p.columns → (j : ℕ) → j ≤ side (equations_of true p) → j ≢ p.columns → j ≢ factor true p
    → (w k p.columns *ℤ w p.rows j) +ℤ (w p.rows (factor true p) *ℤ w k j) ≡ pos 0
mirror p basis w t k b basic = mirrored p basis w t k b basic

-- where s isn't basic, the objective row has no negative entry
pub objective_nonnegative : (p : Program) (basis : ℕ → ℕ) (w : ℕ → ℕ → ℤ) → IsTableau (equations_of true p) (with_factor true p basis) w → ((k : ℕ) → k < p.rows → basis k ≢ p.columns) → (j : ℕ) → j ≤ side (equations_of true p) → (pos 0) ≤ℤ (w p.rows j)
objective_nonnegative = nonnegative

-- and its right side is 0
pub objective_right_zero : (p : Program) (basis : ℕ → ℕ) (w : ℕ → ℕ → ℤ) → IsTableau (equations_of true p) (with_factor true p basis) w → ((k : ℕ) → k < p.rows → basis k ≢ p.columns) → w p.rows (side (equations_of true p)) ≡ pos 0
objective_right_zero = no_right

-- ---- signs of mirrored numbers
mirrored_positive : (a x d y : ℤ) → (pos 0) <ℤ a → (pos 0) <ℤ d → (a *ℤ x) +ℤ (d *ℤ y) ≡ pos 0 → x <ℤ (pos 0) → (pos 0) <ℤ y
mirrored_positive a x d y h k e l = cancel_lt_left d (pos 0) y (omega (arith, ints)) (omega (arith, ints, mul_zero d, mul_zero a, mul_lt_left a x (pos 0) h l))

mirrored_negative : (a x d y : ℤ) → (pos 0) <ℤ a → (pos 0) <ℤ d → (a *ℤ x) +ℤ (d *ℤ y) ≡ pos 0 → (pos 0) ≤ℤ y → x ≤ℤ (pos 0)
mirrored_negative a x d y h k e l = by_lt_z (pos 0) x (λ m. absurd (omega (arith, ints, mul_positive a x h m, mul_nonnegative d y (omega (arith, ints)) l))) (λ m. m)

mirrored_zero : (a x d y : ℤ) → (pos 0) <ℤ d → (a *ℤ x) +ℤ (d *ℤ y) ≡ pos 0 → x ≡ pos 0 → y ≡ pos 0
mirrored_zero a x d y k e z = other_zero d y (positive-ne d k) (omega (arith, ints, mul_zero a, ap (λ (t : ℤ). a *ℤ t) z))

-- ---- what the phase needs
-- no ray: where the objective row is negative, some row is positive
pub entering_rises : (p : Program) (basis : ℕ → ℕ) (w : ℕ → ℕ → ℤ) → IsTableau (equations_of true p) (with_factor true p basis) w → (e : ℕ) → e ≤ side (equations_of true p) → (w p.rows e) <ℤ (pos 0) → (k : ℕ) × (k < p.rows) × ((pos 0) <ℤ (w k e))
entering_rises p basis w t e l h = elim (basic_or_not p basis w t) [ inl n ↦ absurd (omega (arith, ints, nonnegative p basis w t n e l)) | inr f ↦ (f.0, f.1, rises f.0 f.1 f.2) ]
  where
    rises : (k : ℕ) → k < p.rows → basis k ≡ p.columns → (pos 0) <ℤ (w k e)
    rises k b basic = mirrored_positive (w k p.columns) (w p.rows e) (w p.rows (factor true p)) (w k e)
        (subst (λ (c : ℕ). (pos 0) <ℤ (w k c)) basic (own_column p basis w t k b))
        (own_factor p basis w t)
        (mirror p basis w t k b basic e l
        (λ g. omega (arith, ints, ap (w p.rows) (g ∙ sym basic) ∙ other_column p basis w t p.rows k (omega arith) b (λ m. omega arith)))
        (λ g. omega (arith, ints, subst (λ (c : ℕ). (pos 0) <ℤ (w p.rows c)) (sym g) (own_factor p basis w t))))
        h

-- where the right sides of the rows aren't negative, that of the objective row isn't positive
pub objective_right : (p : Program) (basis : ℕ → ℕ) (w : ℕ → ℕ → ℤ) → IsTableau (equations_of true p) (with_factor true p basis) w → ((i : ℕ) → i < p.rows → (pos 0) ≤ℤ (w i (side (equations_of true p)))) → (w p.rows (side (equations_of true p))) ≤ℤ (pos 0)
objective_right p basis w t h = elim (basic_or_not p basis w t) [ inl n ↦ omega (arith, ints, no_right p basis w t n) | inr f ↦ low f.0 f.1 f.2 ]
  where
    low : (k : ℕ) → k < p.rows → basis k ≡ p.columns → (w p.rows (side (equations_of true p))) ≤ℤ (pos 0)
    low k b basic = mirrored_negative (w k p.columns) (w p.rows (side (equations_of true p))) (w p.rows (factor true p)) (w k (side (equations_of true p)))
        (subst (λ (c : ℕ). (pos 0) <ℤ (w k c)) basic (own_column p basis w t k b))
        (own_factor p basis w t)
        (mirror p basis w t k b basic (side (equations_of true p)) (omega arith) (λ g. omega arith) (λ g. omega arith))
        (h k b)

-- where the objective row's right side is 0, so is that of the row of s
pub s_right : (p : Program) (basis : ℕ → ℕ) (w : ℕ → ℕ → ℤ) → IsTableau (equations_of true p) (with_factor true p basis) w → (k : ℕ) → k < p.rows → basis k ≡ p.columns → w p.rows (side (equations_of true p)) ≡ pos 0 → w k (side (equations_of true p)) ≡ pos 0
s_right p basis w t k b basic z = mirrored_zero (w k p.columns) (w p.rows (side (equations_of true p))) (w p.rows (factor true p)) (w k (side (equations_of true p))) (own_factor p basis w t)
    (mirror p basis w t k b basic (side (equations_of true p)) (omega arith) (λ g. omega arith) (λ g. omega arith)) z

-- ---- no point
-- the multipliers of an objective row without a negative entry add the rows up to one without a negative term
pub empty_columns : (p : Program) (v : ℕ → ℤ) → IsCombination (equations_of true p) v → ((j : ℕ) → j < p.columns → (pos 0) ≤ℤ (v j)) → (j : ℕ) → j < p.columns → (pos 0) ≤ℤ (upto p.rows (λ i. v ((equations_of true p).slack + i) *ℤ p.term i j))
empty_columns p v c h j b = subst (λ (z : ℤ). (pos 0) ≤ℤ z)
    (combination_columns true p v j c (omega arith)
    ∙ alone (upto p.rows (λ i. v ((equations_of true p).slack + i) *ℤ row_entry true p i j)) (v ((equations_of true p).slack + p.rows)) (objective_entry true p j) no_cost
    ∙ upto_same p.rows _ _ (λ i l. ap (λ (z : ℤ). v ((equations_of true p).slack + i) *ℤ z) (term i)))
    (h j b)
  where
    no_cost : objective_entry true p j ≡ pos 0
    no_cost = rw (ne_eqb j p.columns (λ e. omega arith))

    term : (i : ℕ) → row_entry true p i j ≡ p.term i j
    term i = rw (ne_eqb j p.columns (λ e. omega arith))

    alone : (x y o : ℤ) → o ≡ pos 0 → x +ℤ (y *ℤ o) ≡ x
    alone x y o e = rw (e, mul_zero y) (omega (arith, ints))

-- and to its own right side
pub empty_right : (p : Program) (v : ℕ → ℤ) → IsCombination (equations_of true p) v → (v (side (equations_of true p))) <ℤ (pos 0) → (upto p.rows (λ i. v ((equations_of true p).slack + i) *ℤ p.rhs i)) <ℤ (pos 0)
empty_right p v c h = subst (λ (z : ℤ). z <ℤ (pos 0)) (combination_right true p v c) h
