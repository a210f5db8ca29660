-- The equations of a program: what their rows and combinations are, and the tableau of the slacks.
use Rattle.std.specs.Prelude.{ℕ, ◌+◌, ◌-◌, ◌<◌, ◌≤◌, ◌≡◌, ◌≢◌, ℤ, pos, ◌+ℤ◌, ◌*ℤ◌, ◌<ℤ◌, Bool, unsigned_abs, cond, ltb, eqb}
use Rattle.std.specs.Int.{◌∣◌}
use Rattle.std.proofs.Common.{refl, ap, sym, subst, ◌∙◌, arith}
use Rattle.std.proofs.lemmas.Bool.{eq-eqb, ne_eqb}
use Rattle.std.proofs.lemmas.Bool.Decides.{nat_tests}
use Rattle.std.proofs.lemmas.Int.{ints}
use Rattle.std.proofs.Math.Nat.{eq-one_of_dvd-one}
use Rattle.bz_algebra.specs.Sums.{upto}
use Rattle.bz_algebra.specs.Tableaus.{Program, Equations, side, row_entry, objective_entry, equations_of, IsCombination, IsOwnRow, slacks, IsRow, AreColumns, IsTableau, factor, with_factor, IsObjectiveRow}
use Rattle.bz_algebra.proofs.Bounded.{by_lt, below_suc}
use Rattle.bz_algebra.proofs.Divisors.{multipliers_primitive}
use Rattle.bz_algebra.proofs.Ring.{zero_mul, one_mul, mul_zero, add_zero}
use Rattle.bz_algebra.proofs.SumLemmas.{upto_same, upto_only}

-- ---- the rows
pub entry_row : (relaxed : Bool) (p : Program) (i j : ℕ) → i < p.rows → (equations_of relaxed p).entry i j ≡ row_entry relaxed p i j
entry_row relaxed p i j b = rw (ne_eqb i p.rows (λ e. omega arith))

pub entry_objective : (relaxed : Bool) (p : Program) (j : ℕ) → (equations_of relaxed p).entry p.rows j ≡ objective_entry relaxed p j
entry_objective relaxed p j = rw (eq-eqb p.rows p.rows refl)

pub right_row : (relaxed : Bool) (p : Program) (i : ℕ) → i < p.rows → (equations_of relaxed p).right i ≡ p.rhs i
right_row relaxed p i b = rw (ne_eqb i p.rows (λ e. omega arith))

pub right_objective : (relaxed : Bool) (p : Program) → (equations_of relaxed p).right p.rows ≡ pos 0
right_objective relaxed p = rw (eq-eqb p.rows p.rows refl)

-- ---- combinations: multipliers of the rows, and the factor of the objective
-- the entry of a combination in a column before the slacks
pub combination_columns : (relaxed : Bool) (p : Program) (v : ℕ → ℤ) (j : ℕ) → IsCombination (equations_of relaxed p) v → j < (equations_of relaxed p).slack
    → v j ≡ upto p.rows (λ i. v ((equations_of relaxed p).slack + i) *ℤ row_entry relaxed p i j) +ℤ (v ((equations_of relaxed p).slack + p.rows) *ℤ objective_entry relaxed p j)
combination_columns relaxed p v j c b =
    c.columns j b
    ∙ (λ k. upto_same p.rows (λ i. v ((equations_of relaxed p).slack + i) *ℤ (equations_of relaxed p).entry i j) (λ i. v ((equations_of relaxed p).slack + i) *ℤ row_entry relaxed p i j) (λ i l. ap (λ (t : ℤ). v ((equations_of relaxed p).slack + i) *ℤ t) (entry_row relaxed p i j l)) k
    +ℤ (v ((equations_of relaxed p).slack + p.rows) *ℤ entry_objective relaxed p j k))

-- its right side, to which the objective adds nothing
pub combination_right : (relaxed : Bool) (p : Program) (v : ℕ → ℤ) → IsCombination (equations_of relaxed p) v
    → v (side (equations_of relaxed p)) ≡ upto p.rows (λ i. v ((equations_of relaxed p).slack + i) *ℤ p.rhs i)
combination_right relaxed p v c =
    c.right
    ∙ (λ k. upto_same p.rows (λ i. v ((equations_of relaxed p).slack + i) *ℤ (equations_of relaxed p).right i) (λ i. v ((equations_of relaxed p).slack + i) *ℤ p.rhs i) (λ i l. ap (λ (t : ℤ). v ((equations_of relaxed p).slack + i) *ℤ t) (right_row relaxed p i l)) k
    +ℤ (v ((equations_of relaxed p).slack + p.rows) *ℤ right_objective relaxed p k))
    ∙ ap (λ (t : ℤ). upto p.rows (λ i. v ((equations_of relaxed p).slack + i) *ℤ p.rhs i) +ℤ t) (mul_zero (v ((equations_of relaxed p).slack + p.rows)))
    ∙ add_zero (upto p.rows (λ i. v ((equations_of relaxed p).slack + i) *ℤ p.rhs i))

-- ---- the tableau of the slacks
own_sum : (s : Equations) (i : ℕ) (v : ℕ → ℤ) (e : ℕ → ℤ) → i < s.rows → IsOwnRow s i v → e i ≡ upto s.rows (λ k. v (s.slack + k) *ℤ e k)
own_sum s i v e b o = sym (upto_only s.rows i (λ k. v (s.slack + k) *ℤ e k) b (λ k l n. ap (λ (t : ℤ). t *ℤ e k) (o.others k l n) ∙ zero_mul (e k)) ∙ ap (λ (t : ℤ). t *ℤ e i) o.own ∙ one_mul (e i))

-- row i itself
pub own : Equations → ℕ → ℕ → ℤ
own s i j = cond (ltb j s.slack) (s.entry i j) (cond (eqb j (side s)) (s.right i) (cond (eqb j (s.slack + i)) (pos 1) (pos 0)))

pub own_is : (s : Equations) (i : ℕ) → i < s.rows → IsOwnRow s i (own s i)
unfolding own
own_is s i b = record {
  columns = λ j l. grind (arith, nat_tests);
  own = grind (arith, nat_tests);
  others = λ k l n. grind (arith, nat_tests);
  right = grind (arith, nat_tests);
}

-- each row itself is the row of its slack
pub own_row : (s : Equations) (i : ℕ) (v : ℕ → ℤ) → i < s.rows → IsOwnRow s i v → IsRow s (slacks s) i v
own_row s i v b o = record {
  combination = record {
    columns = λ j l. o.columns j l ∙ own_sum s i v (λ k. s.entry k j) b o;
    right = o.right ∙ own_sum s i v s.right b o;
  };
  primitive = λ d h. eq-one_of_dvd-one (subst (λ (t : ℤ). d ∣ unsigned_abs t) o.own (h (s.slack + i) (omega arith)));
  positive = rw (o.own) (omega (arith, ints));
  cleared = o.others;
}

-- the rows themselves are the tableau of the slacks
pub slack_tableau : (s : Equations) (w : ℕ → ℕ → ℤ) → ((i : ℕ) → i < s.rows → IsOwnRow s i (w i)) → IsTableau s (slacks s) w
slack_tableau s w h = record {
  columns = record { in_range = λ i b. omega arith; different = λ i k b c e. omega arith };
  rows = λ i b. own_row s i (w i) b (h i b);
}

-- ---- the factor column's place
pub factor_at : (relaxed : Bool) (p : Program) (basis : ℕ → ℕ) → with_factor relaxed p basis p.rows ≡ factor relaxed p
factor_at relaxed p basis = rw (eq-eqb p.rows p.rows refl)

pub factor_off : (relaxed : Bool) (p : Program) (basis : ℕ → ℕ) (k : ℕ) → k < p.rows → with_factor relaxed p basis k ≡ basis k
factor_off relaxed p basis k b = rw (ne_eqb k p.rows (λ e. omega arith))

-- ---- the objective row
-- the row at the objective's place, with its entries in the slacks as y and the one in the factor column as d, is the objective row
pub objective_row : (relaxed : Bool) (p : Program) (basis : ℕ → ℕ) (v : ℕ → ℤ) → IsRow (equations_of relaxed p) (with_factor relaxed p basis) p.rows v
    → IsObjectiveRow relaxed p basis (v (factor relaxed p)) (λ i. v ((equations_of relaxed p).slack + i))
objective_row relaxed p basis v r = record {
  positive = subst (λ (c : ℕ). (pos 0) <ℤ (v c)) (factor_at relaxed p basis) r.positive;
  primitive = λ g h k. multipliers_primitive (equations_of relaxed p) v r.combination r.primitive g (below_suc p.rows (λ i. g ∣ unsigned_abs (v ((equations_of relaxed p).slack + i))) k h);
  columns = λ k b l. sym (combination_columns relaxed p v (basis k) r.combination l) ∙ basic k b;
  slacks = λ k i b l e. ap v (sym e) ∙ basic k b;
}
  where
    basic : (k : ℕ) → k < p.rows → v (basis k) ≡ pos 0
    basic k b = ap v (sym (factor_off relaxed p basis k b)) ∙ r.cleared k (omega arith) (λ e. omega arith)

-- and an objective row is the row at that place, with the multipliers y and d
pub row_of_objective : (relaxed : Bool) (p : Program) (basis : ℕ → ℕ) (v : ℕ → ℤ) → AreColumns (equations_of relaxed p) (with_factor relaxed p basis) → IsCombination (equations_of relaxed p) v
    → IsObjectiveRow relaxed p basis (v (factor relaxed p)) (λ i. v ((equations_of relaxed p).slack + i)) → IsRow (equations_of relaxed p) (with_factor relaxed p basis) p.rows v
row_of_objective relaxed p basis v a c o = record {
  combination = c;
  primitive = λ g h. o.primitive g (h (factor relaxed p) (omega arith)) (λ i b. h ((equations_of relaxed p).slack + i) (omega arith));
  positive = subst (λ (x : ℕ). (pos 0) <ℤ (v x)) (sym (factor_at relaxed p basis)) o.positive;
  cleared = below_suc p.rows (λ k. k ≢ p.rows → v (with_factor relaxed p basis k) ≡ pos 0)
      (λ k b n. ap v (factor_off relaxed p basis k b) ∙ basic k b)
      (λ n. absurd (n refl));
}
  where
    in_range : (k : ℕ) → k < p.rows → basis k < side (equations_of relaxed p)
    in_range k b = subst (λ (x : ℕ). x < side (equations_of relaxed p)) (factor_off relaxed p basis k b) (a.in_range k (omega arith))

    own_place : (k : ℕ) → k < p.rows → basis k ≢ factor relaxed p
    own_place k b e = absurd (omega (arith, a.different k p.rows (omega arith) (omega arith) (factor_off relaxed p basis k b ∙ e ∙ sym (factor_at relaxed p basis))))

    basic : (k : ℕ) → k < p.rows → v (basis k) ≡ pos 0
    basic k b = by_lt (basis k) (equations_of relaxed p).slack
        (λ l. combination_columns relaxed p v (basis k) c l ∙ o.columns k b l)
        (λ l. by_slack (basis k - (equations_of relaxed p).slack) refl l)
      where
        by_slack : (i : ℕ) → i ≡ basis k - (equations_of relaxed p).slack → (equations_of relaxed p).slack ≤ basis k → v (basis k) ≡ pos 0
        by_slack i f l = let e : basis k ≡ (equations_of relaxed p).slack + i = omega arith in ap v e ∙ o.slacks k i b (omega (arith, in_range k b, own_place k b)) e
