-- Answers are true: multipliers bound every point of their program, and along a ray the cost falls below every number.
use Rattle.std.specs.Prelude.{ℕ, suc, ◌<◌, ◌≡◌, ℤ, pos, ◌+ℤ◌, ◌-ℤ◌, ◌*ℤ◌, neg_ℤ, ◌≤ℤ◌, ◌<ℤ◌, Bool, true, false, List}
use Rattle.std.proofs.Common.{refl, ap, sym, subst, ◌∙◌, arith}
use Rattle.std.proofs.Math.IntN.{*ℤ_comm, nat_abs}
use Rattle.std.proofs.lemmas.Bool.{eq-eqb, ne_eqb}
use Rattle.std.proofs.lemmas.Int.{ints}
use Rattle.bz_algebra.specs.Sums.{upto}
use Rattle.bz_algebra.specs.Tableaus.{Equations, Program, rows_of, row_entry, objective_entry}
use Rattle.bz_algebra.proofs.Ring.{*ℤ_assoc, add_mul, mul_add, mul_left, mul_right, neg_mul, mul_neg, mul_one, one_mul, zero_mul, mul_nonnegative, mul_le_left, mul_le_right, mul_positive, cancel_le_left}
use Rattle.bz_algebra.proofs.SumLemmas.{upto_same, upto_add, upto_scale, upto_scale_right, upto_rows, upto_le, upto_only, upto_zero}
use Rattle.bz_tableau.specs.Answers.{AreMultipliersFor, IsLeast, IsEmpty, IsRay}
use Rattle.bz_tableau.specs.Dense.{entry}
use Rattle.bz_tableau.specs.Points.{terms, cost_at, MeetsRows, FallsFreely}
use Rattle.bz_tableau.specs.Truths.{IsPointOf, CostsLeast, HasLeastS, HasNoPoint, along, FallsBelowAll}
use Rattle.bz_tableau.specs.declared.answers.Vals.{Vals}

-- ---- rows times multipliers that aren't negative
-- a sum of the rows, at a point, is at most the sum of the right sides
rows_bound : (s : Equations) (y x : ℕ → ℤ) (q : ℤ) → ((i : ℕ) → i < s.rows → (pos 0) ≤ℤ (y i)) → MeetsRows s x q
    → (upto s.slack (λ j. upto s.rows (λ i. y i *ℤ s.entry i j) *ℤ x j)) ≤ℤ (upto s.rows (λ i. y i *ℤ s.right i) *ℤ q)
rows_bound s y x q h m =
    rw (upto_rows s.slack s.rows y s.entry x, ← (upto_scale_right s.rows (λ i. y i *ℤ s.right i) q))
    (upto_le s.rows (λ i. y i *ℤ terms s x i) (λ i. (y i *ℤ s.right i) *ℤ q)
    (λ i b. subst (λ (z : ℤ). (y i *ℤ terms s x i) ≤ℤ z) (sym (*ℤ_assoc (y i) (s.right i) q)) (mul_le_left (y i) (terms s x i) (s.right i *ℤ q) (h i b) (m.rows_hold i b))))

sum_nonnegative : (n : ℕ) (f : ℕ → ℤ) → ((j : ℕ) → j < n → (pos 0) ≤ℤ (f j)) → (pos 0) ≤ℤ (upto n f)
sum_nonnegative n f h = subst (λ (z : ℤ). z ≤ℤ (upto n f)) (upto_zero n) (upto_le n (λ j. pos 0) f h)

-- ---- no point costs less
module _ (relaxed : Bool) (p : Program) (d : ℤ) (y : ℕ → ℤ) (bounds : AreMultipliersFor relaxed p d y) (x : ℕ → ℤ) (q : ℤ) (m : MeetsRows (rows_of relaxed p) x q) where
  abbrev few : Equations
  few = rows_of relaxed p

  abbrev column : ℕ → ℤ
  column j = upto p.rows (λ i. y i *ℤ row_entry relaxed p i j)

  -- the cost is at least what the multipliers make of the right sides
  cost_bound : (pos 0) ≤ℤ ((d *ℤ cost_at relaxed p x) +ℤ (upto p.rows (λ i. y i *ℤ p.rhs i) *ℤ q))
  cost_bound = omega (arith, ints, together, rows_bound few y x q bounds.multipliers m)
    where
      split : upto few.slack (λ j. ((d *ℤ objective_entry relaxed p j) +ℤ column j) *ℤ x j) ≡ (d *ℤ cost_at relaxed p x) +ℤ upto few.slack (λ j. column j *ℤ x j)
      split = upto_same few.slack _ (λ j. (d *ℤ (objective_entry relaxed p j *ℤ x j)) +ℤ (column j *ℤ x j)) (λ j b. add_mul (d *ℤ objective_entry relaxed p j) (column j) (x j) ∙ ap (λ (z : ℤ). z +ℤ (column j *ℤ x j)) (*ℤ_assoc d (objective_entry relaxed p j) (x j)))
          ∙ upto_add few.slack (λ j. d *ℤ (objective_entry relaxed p j *ℤ x j)) (λ j. column j *ℤ x j)
          ∙ ap (λ (z : ℤ). z +ℤ upto few.slack (λ j. column j *ℤ x j)) (upto_scale few.slack d (λ j. objective_entry relaxed p j *ℤ x j))

      together : (pos 0) ≤ℤ ((d *ℤ cost_at relaxed p x) +ℤ upto few.slack (λ j. column j *ℤ x j))
      together = subst (λ (z : ℤ). (pos 0) ≤ℤ z) split (sum_nonnegative few.slack _ (λ j b. mul_nonnegative _ (x j) (bounds.columns j b) (m.nonnegative j b)))

-- a z / den whose cost is the multipliers' costs no more than x / q
pub at_most : (cost other d right den q : ℤ) → (pos 0) <ℤ d → (pos 0) <ℤ den → cost *ℤ d ≡ neg_ℤ right *ℤ den → (pos 0) ≤ℤ ((d *ℤ other) +ℤ (right *ℤ q)) → (cost *ℤ q) ≤ℤ (other *ℤ den)
at_most cost other d right den q h k same bound = cancel_le_left d (cost *ℤ q) (other *ℤ den) h
    (subst (λ (z : ℤ). z ≤ℤ (d *ℤ (other *ℤ den))) (sym left)
    (subst (λ (z : ℤ). (neg_ℤ (right *ℤ q) *ℤ den) ≤ℤ z) (*ℤ_assoc d other den)
    (mul_le_right (neg_ℤ (right *ℤ q)) (d *ℤ other) den (omega (arith, ints)) (omega (arith, ints)))))
  where
    left : d *ℤ (cost *ℤ q) ≡ neg_ℤ (right *ℤ q) *ℤ den
    left = sym (*ℤ_assoc d cost q) ∙ ap (λ (z : ℤ). z *ℤ q) (*ℤ_comm d cost ∙ same) ∙ mul_right (neg_ℤ right) den q ∙ ap (λ (z : ℤ). z *ℤ den) (neg_mul right q)

pub least_is_least : (relaxed : Bool) (p : Program) (basis : List ℕ) (z y : Vals) → IsLeast relaxed p basis z y → CostsLeast relaxed p (entry z.num) z.den
least_is_least relaxed p basis z y a = record {
  point = record { positive = a.point.denominator.positive; meets = a.meets };
  least = λ x q m. at_most (cost_at relaxed p (entry z.num)) (cost_at relaxed p x) y.den (upto p.rows (λ i. entry y.num i *ℤ p.rhs i)) z.den q a.objective.positive a.point.denominator.positive a.same_cost
      (cost_bound relaxed p y.den (entry y.num) a.bounds x q m.meets);
}

-- the cost of a relaxed program's point is its s
pub cost_is_s : (p : Program) (x : ℕ → ℤ) → cost_at true p x ≡ x p.columns
cost_is_s p x = upto_only (suc p.columns) p.columns (λ j. objective_entry true p j *ℤ x j) (omega arith)
    (λ j b n. rw (ne_eqb j p.columns n) (zero_mul (x j)))
    ∙ rw (eq-eqb p.columns p.columns refl) (one_mul (x p.columns))

pub least_s : (p : Program) (basis : List ℕ) (z y : Vals) → IsLeast true p basis z y → HasLeastS p (entry z.num) z.den
least_s p basis z y a = let l = least_is_least true p basis z y a in record {
  point = l.point;
  least = λ x q m. subst (λ (c : ℤ). (c *ℤ q) ≤ℤ (x p.columns *ℤ z.den)) (cost_is_s p (entry z.num)) (subst (λ (c : ℤ). (cost_at true p (entry z.num) *ℤ q) ≤ℤ (c *ℤ z.den)) (cost_is_s p x) (l.least x q m));
}

-- ---- no point
pub empty_has_none : (p : Program) (basis : List ℕ) (y : List ℤ) → IsEmpty p basis y → HasNoPoint p
empty_has_none p basis y a x q m = absurd (omega (arith, ints, above, below))
  where
    above : (pos 0) ≤ℤ (upto p.rows (λ i. entry y i *ℤ p.rhs i) *ℤ q)
    above = omega (arith, ints, rows_bound (rows_of false p) (entry y) x q a.nonnegative m.meets, sum_nonnegative p.columns (λ j. upto p.rows (λ i. entry y i *ℤ p.term i j) *ℤ x j) (λ j b. mul_nonnegative _ (x j) (a.columns j b) (m.meets.nonnegative j b)))

    below : (upto p.rows (λ i. entry y i *ℤ p.rhs i) *ℤ q) <ℤ (pos 0)
    below = omega (arith, ints, mul_positive (neg_ℤ (upto p.rows (λ i. entry y i *ℤ p.rhs i))) q (omega (arith, ints, a.right)) m.positive, neg_mul (upto p.rows (λ i. entry y i *ℤ p.rhs i)) q)

-- ---- along a ray
-- a sum at z and k times d
sum_along : (n : ℕ) (e z d : ℕ → ℤ) (k : ℤ) → upto n (λ j. e j *ℤ (z j +ℤ (k *ℤ d j))) ≡ upto n (λ j. e j *ℤ z j) +ℤ (k *ℤ upto n (λ j. e j *ℤ d j))
sum_along n e z d k = upto_same n _ (λ j. (e j *ℤ z j) +ℤ (k *ℤ (e j *ℤ d j))) (λ j b. mul_add (e j) (z j) (k *ℤ d j) ∙ ap (λ (t : ℤ). (e j *ℤ z j) +ℤ t) (mul_left (e j) k (d j)))
    ∙ upto_add n (λ j. e j *ℤ z j) (λ j. k *ℤ (e j *ℤ d j))
    ∙ ap (λ (t : ℤ). upto n (λ j. e j *ℤ z j) +ℤ t) (upto_scale n k (λ j. e j *ℤ d j))

module _ (p : Program) (z d : ℕ → ℤ) (den : ℤ) (positive : (pos 0) <ℤ den) (meets : MeetsRows (rows_of false p) z den) (falls : FallsFreely p d) where
  along_point : (k : ℤ) → (pos 0) ≤ℤ k → IsPointOf false p (along z d k) den
  along_point k h = record {
    positive = positive;
    meets = record {
      rows_hold = λ i b. rw (sum_along p.columns (λ j. p.term i j) z d k) (omega (arith, ints, meets.rows_hold i b, mul_le_left k (terms (rows_of false p) d i) (pos 0) h (falls.rows i b)));
      nonnegative = λ j b. omega (arith, ints, meets.nonnegative j b, mul_nonnegative k (d j) h (falls.columns j b));
    };
  }

  far : ℤ → ℤ
  far n = pos (suc (nat_abs (upto p.columns (λ j. p.cost j *ℤ z j) -ℤ (n *ℤ den))))

  along_cost : (n : ℤ) → (cost_at false p (along z d (far n))) <ℤ (n *ℤ den)
  unfolding far
  along_cost n = rw (sum_along p.columns p.cost z d (far n)) (low (upto p.columns (λ j. p.cost j *ℤ z j)) (upto p.columns (λ j. p.cost j *ℤ d j)) (n *ℤ den) falls.cost)
    where
      low : (c e g : ℤ) → e <ℤ (pos 0) → (c +ℤ (pos (suc (nat_abs (c -ℤ g))) *ℤ e)) <ℤ g
      low c e g h = omega (arith, ints, mul_le_left (pos (suc (nat_abs (c -ℤ g)))) e (neg_ℤ (pos 1)) (omega (arith, ints)) (omega (arith, ints)), mul_neg (pos (suc (nat_abs (c -ℤ g)))) (pos 1), mul_one (pos (suc (nat_abs (c -ℤ g)))))

  far_positive : (n : ℤ) → (pos 0) ≤ℤ (far n)
  unfolding far
  far_positive n = omega (arith, ints)

  pub falls_below_all : FallsBelowAll p z den d
  falls_below_all = record { points = along_point; costs = λ n. (far n, far_positive n, along_cost n) }

pub ray_falls_below : (p : Program) (basis : List ℕ) (column : ℕ) (z : Vals) (d : List ℤ) → IsRay p basis column z d → FallsBelowAll p (entry z.num) z.den (entry d)
ray_falls_below p basis column z d a = falls_below_all p (entry z.num) (entry d) z.den a.point.denominator.positive a.meets a.falls
