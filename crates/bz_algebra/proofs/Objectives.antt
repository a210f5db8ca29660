-- The program's rows with and without its objective: the rows of a basis are the same but for the factor column, and each basis has its objective row.
use Rattle.std.specs.Prelude.{ℕ, zero, suc, ◌+◌, ◌<◌, ◌≤◌, ◌≡◌, ◌≢◌, ℤ, pos, ◌+ℤ◌, ◌-ℤ◌, ◌*ℤ◌, ◌<ℤ◌, Bool, unsigned_abs, cond, eqb}
use Rattle.std.specs.Int.{◌∣◌}
use Rattle.std.proofs.Common.{refl, ap, sym, subst, ◌∙◌, arith, inl, inr}
use Rattle.std.proofs.lemmas.Bool.{cases_eq, eq-eqb, ne_eqb}
use Rattle.std.proofs.lemmas.Int.{ints}
use Rattle.std.proofs.lemmas.Nat.Gcd.{dvd-zero}
use Rattle.bz_algebra.specs.Sums.{upto}
use Rattle.bz_algebra.specs.Tableaus.{Program, Equations, side, row_entry, equations_of, rows_of, IsCombination, IsRow, AreColumns, IsTableau, IsBasis, IsBasisOf, factor, with_factor}
use Rattle.bz_algebra.proofs.Bounded.{by_lt, below_suc}
use Rattle.bz_algebra.proofs.Combinations.{combination_sub, combination_divide}
use Rattle.bz_algebra.proofs.Divisors.{PrimitivePart, primitive_part}
use Rattle.bz_algebra.proofs.Programs.{own, own_is, own_row, entry_row, right_row, factor_at, factor_off}
use Rattle.bz_algebra.proofs.Ring.{zero_mul, mul_zero, add_zero, mul-ne, other_zero, positive-ne}
use Rattle.bz_algebra.proofs.SumLemmas.{upto_same}
use Rattle.bz_algebra.proofs.Uniqueness.{basis_tableau, no_rest, crossed}

-- v with 0 put in at f, so that what stood there stands behind it
pub widened : ℕ → (ℕ → ℤ) → ℕ → ℤ
widened f v j = cond (eqb j f) (pos 0) (cond (eqb j (suc f)) (v f) (v j))

pub widened_before : (f : ℕ) (v : ℕ → ℤ) (j : ℕ) → j < f → widened f v j ≡ v j
unfolding widened
widened_before f v j b = rw (ne_eqb j f (λ e. omega arith), ne_eqb j (suc f) (λ e. omega arith))

pub widened_at : (f : ℕ) (v : ℕ → ℤ) → widened f v f ≡ pos 0
unfolding widened
widened_at f v = rw (eq-eqb f f refl)

pub widened_after : (f : ℕ) (v : ℕ → ℤ) → widened f v (suc f) ≡ v f
unfolding widened
widened_after f v = rw (ne_eqb (suc f) f (λ e. omega arith), eq-eqb (suc f) (suc f) refl)

-- v without what stands at f
pub narrowed : ℕ → (ℕ → ℤ) → ℕ → ℤ
narrowed f v j = cond (eqb j f) (v (suc f)) (v j)

pub narrowed_before : (f : ℕ) (v : ℕ → ℤ) (j : ℕ) → j < f → narrowed f v j ≡ v j
unfolding narrowed
narrowed_before f v j b = rw (ne_eqb j f (λ e. omega arith))

pub narrowed_at : (f : ℕ) (v : ℕ → ℤ) → narrowed f v f ≡ v (suc f)
unfolding narrowed
narrowed_at f v = rw (eq-eqb f f refl)

module _ (relaxed : Bool) (p : Program) where
  abbrev few : Equations
  few = rows_of relaxed p

  abbrev all : Equations
  all = equations_of relaxed p

  abbrev at : ℕ
  at = factor relaxed p

  -- the right side behind the factor column
  last : side all ≡ suc at
  last = omega arith

  -- a sum over all rows in which the objective isn't taken
  untaken : (v : ℕ → ℤ) (e g : ℕ → ℤ) → v at ≡ pos 0 → ((i : ℕ) → i < p.rows → e i ≡ g i) → upto (suc p.rows) (λ i. v (all.slack + i) *ℤ e i) ≡ upto p.rows (λ i. v (all.slack + i) *ℤ g i)
  untaken v e g z h =
      (λ k. upto_same p.rows (λ i. v (all.slack + i) *ℤ e i) (λ i. v (all.slack + i) *ℤ g i) (λ i b. ap (λ (t : ℤ). v (all.slack + i) *ℤ t) (h i b)) k +ℤ (z k *ℤ e p.rows))
      ∙ ap (λ (t : ℤ). upto p.rows (λ i. v (all.slack + i) *ℤ g i) +ℤ t) (zero_mul (e p.rows))
      ∙ add_zero (upto p.rows (λ i. v (all.slack + i) *ℤ g i))

  widened_combination : (v : ℕ → ℤ) → IsCombination few v → IsCombination all (widened at v)
  widened_combination v c = record {
    columns = λ j b. widened_before at v j (omega arith) ∙ c.columns j b ∙ same_multipliers (λ i. row_entry relaxed p i j)
        ∙ sym (untaken (widened at v) (λ i. all.entry i j) (λ i. row_entry relaxed p i j) (widened_at at v) (λ i l. entry_row relaxed p i j l));
    right = ap (widened at v) last ∙ widened_after at v ∙ c.right ∙ same_multipliers p.rhs
        ∙ sym (untaken (widened at v) all.right p.rhs (widened_at at v) (λ i l. right_row relaxed p i l));
  }
    where
      same_multipliers : (g : ℕ → ℤ) → upto p.rows (λ i. v (all.slack + i) *ℤ g i) ≡ upto p.rows (λ i. widened at v (all.slack + i) *ℤ g i)
      same_multipliers g = upto_same p.rows _ _ (λ i b. ap (λ (t : ℤ). t *ℤ g i) (sym (widened_before at v (all.slack + i) (omega arith))))

  narrowed_combination : (v : ℕ → ℤ) → v at ≡ pos 0 → IsCombination all v → IsCombination few (narrowed at v)
  narrowed_combination v z c = record {
    columns = λ j b. narrowed_before at v j (omega arith) ∙ c.columns j b ∙ untaken v (λ i. all.entry i j) (λ i. row_entry relaxed p i j) z (λ i l. entry_row relaxed p i j l) ∙ same_multipliers (λ i. row_entry relaxed p i j);
    right = narrowed_at at v ∙ ap v (sym last) ∙ c.right ∙ untaken v all.right p.rhs z (λ i l. right_row relaxed p i l) ∙ same_multipliers p.rhs;
  }
    where
      same_multipliers : (g : ℕ → ℤ) → upto p.rows (λ i. v (all.slack + i) *ℤ g i) ≡ upto p.rows (λ i. narrowed at v (all.slack + i) *ℤ g i)
      same_multipliers g = upto_same p.rows _ _ (λ i b. ap (λ (t : ℤ). t *ℤ g i) (sym (narrowed_before at v (all.slack + i) (omega arith))))

  -- a row of the program's rows is a row of all, with 0 in the factor column
  with_objective : (basis : ℕ → ℕ) (i : ℕ) (v : ℕ → ℤ) → AreColumns few basis → i < p.rows → IsRow few basis i v → IsRow all (with_factor relaxed p basis) i (widened at v)
  with_objective basis i v a b r = record {
    combination = widened_combination v r.combination;
    primitive = λ d h. r.primitive d (λ j l. by_lt j at
        (λ m. subst (λ (z : ℤ). d ∣ unsigned_abs z) (widened_before at v j m) (h j (omega arith)))
        (λ m. let e : j ≡ at = omega arith in subst (λ (z : ℤ). d ∣ unsigned_abs z) (widened_after at v ∙ ap v (sym e)) (h (suc at) (omega arith))));
    positive = subst (λ (z : ℤ). (pos 0) <ℤ z) (sym (there i b)) r.positive;
    cleared = below_suc p.rows (λ k. k ≢ i → widened at v (with_factor relaxed p basis k) ≡ pos 0)
        (λ k c n. there k c ∙ r.cleared k c n)
        (λ n. ap (widened at v) (factor_at relaxed p basis) ∙ widened_at at v);
  }
    where
      there : (k : ℕ) → k < p.rows → widened at v (with_factor relaxed p basis k) ≡ v (basis k)
      there k c = ap (widened at v) (factor_off relaxed p basis k c) ∙ widened_before at v (basis k) (a.in_range k c)

  -- and a row of all at one of the program's places is a row of the program's rows
  without_objective : (basis : ℕ → ℕ) (i : ℕ) (v : ℕ → ℤ) → AreColumns few basis → i < p.rows → IsRow all (with_factor relaxed p basis) i v → IsRow few basis i (narrowed at v)
  without_objective basis i v a b r = record {
    combination = narrowed_combination v zero_there r.combination;
    primitive = λ d h. r.primitive d (λ j l. by_lt j at
        (λ m. subst (λ (z : ℤ). d ∣ unsigned_abs z) (narrowed_before at v j m) (h j (omega arith)))
        (λ m. elim (cases_eq j at) [
          | inl e ↦ subst (λ (z : ℤ). d ∣ unsigned_abs z) (sym (ap v e ∙ zero_there)) (dvd-zero d)
          | inr n ↦ let g : j ≡ suc at = omega arith in subst (λ (z : ℤ). d ∣ unsigned_abs z) (narrowed_at at v ∙ ap v (sym g)) (h at (omega arith))
        ]));
    positive = subst (λ (z : ℤ). (pos 0) <ℤ z) (sym (there i b)) r.positive;
    cleared = λ k c n. there k c ∙ r.cleared k (omega arith) n;
  }
    where
      zero_there : v at ≡ pos 0
      zero_there = ap v (sym (factor_at relaxed p basis)) ∙ r.cleared p.rows (omega arith) (λ e. omega arith)

      there : (k : ℕ) → k < p.rows → narrowed at v (basis k) ≡ v (with_factor relaxed p basis k)
      there k c = narrowed_before at v (basis k) (a.in_range k c) ∙ ap v (sym (factor_off relaxed p basis k c))

  columns_with : (basis : ℕ → ℕ) → AreColumns few basis → AreColumns all (with_factor relaxed p basis)
  columns_with basis a = record {
    in_range = below_suc p.rows (λ i. extended i < side all) (λ i b. subst (λ (x : ℕ). x < side all) (sym (off i b)) (omega (arith, a.in_range i b))) (subst (λ (x : ℕ). x < side all) (sym end) (omega arith));
    different = λ i k b c. apart i b k c;
  }
    where
      extended : ℕ → ℕ
      extended = with_factor relaxed p basis

      off : (i : ℕ) → i < p.rows → extended i ≡ basis i
      off = factor_off relaxed p basis

      end : extended p.rows ≡ at
      end = factor_at relaxed p basis

      outside : (i : ℕ) → i < p.rows → extended i ≡ extended p.rows → ⊥
      outside i b e = omega (arith, a.in_range i b, sym (off i b) ∙ e ∙ end)

      apart : (i : ℕ) → i < suc p.rows → (k : ℕ) → k < suc p.rows → extended i ≡ extended k → i ≡ k
      apart = below_suc p.rows (λ i. (k : ℕ) → k < suc p.rows → extended i ≡ extended k → i ≡ k)
          (λ i b. below_suc p.rows (λ k. extended i ≡ extended k → i ≡ k) (λ k c e. a.different i k b c (sym (off i b) ∙ e ∙ off k c)) (λ e. absurd (outside i b e)))
          (below_suc p.rows (λ k. extended p.rows ≡ extended k → p.rows ≡ k) (λ k c e. absurd (outside k c (sym e))) (λ e. refl))

  columns_without : (basis : ℕ → ℕ) → AreColumns all (with_factor relaxed p basis) → AreColumns few basis
  columns_without basis a = record {
    in_range = λ i b. omega (arith, subst (λ (x : ℕ). x < side all) (factor_off relaxed p basis i b) (a.in_range i (omega arith)), outside i b);
    different = λ i k b c e. a.different i k (omega arith) (omega arith) (factor_off relaxed p basis i b ∙ e ∙ sym (factor_off relaxed p basis k c));
  }
    where
      outside : (i : ℕ) → i < p.rows → basis i ≡ at → ⊥
      outside i b e = omega (arith, a.different i p.rows (omega arith) (omega arith) (factor_off relaxed p basis i b ∙ e ∙ sym (factor_at relaxed p basis)))

  -- a combination that takes the objective and is 0 in the first n basic columns
  record Cleared (basis : ℕ → ℕ) (n : ℕ) : Type 0 where
    pub vector : ℕ → ℤ
    pub combination : IsCombination all vector
    pub takes : vector at ≢ pos 0
    pub zeros : (k : ℕ) → k < n → vector (basis k) ≡ pos 0

  start : (basis : ℕ → ℕ) → Cleared basis 0
  start basis = let o = own_is all p.rows (omega arith) in record {
    vector = own all p.rows;
    combination = (own_row all p.rows (own all p.rows) (omega arith) o).combination;
    takes = λ e. omega (arith, ints, sym o.own ∙ e);
    zeros = λ k b. absurd (omega arith);
  }

  only_first : (a x b y : ℤ) → a ≢ pos 0 → x ≢ pos 0 → y ≡ pos 0 → (a *ℤ x) -ℤ (b *ℤ y) ≢ pos 0
  only_first a x b y n m e g = mul-ne a x n m (sym (omega (arith, ints, mul_zero b, ap (λ (t : ℤ). b *ℤ t) e)) ∙ g)

  module _ (basis : ℕ → ℕ) (w : ℕ → ℕ → ℤ) (t : IsTableau few basis w) where
    step : (n : ℕ) → n < p.rows → Cleared basis n → Cleared basis (suc n)
    step n b c = record {
      vector = vector;
      combination = combination_sub all (w n (basis n)) (c.vector (basis n)) c.vector (widened at (w n)) c.combination (widened_combination (w n) (t.rows n b).combination);
      takes = only_first (w n (basis n)) (c.vector at) (c.vector (basis n)) (widened at (w n) at) (positive-ne (w n (basis n)) (t.rows n b).positive) c.takes (widened_at at (w n));
      zeros = below_suc n (λ k. vector (basis k) ≡ pos 0)
          (λ k l. no_rest (w n (basis n)) (c.vector (basis n)) (c.vector (basis k)) (widened at (w n) (basis k)) (c.zeros k l) (there k (omega arith) ∙ (t.rows n b).cleared k (omega arith) (λ e. omega arith)))
          (ap (λ (z : ℤ). (w n (basis n) *ℤ c.vector (basis n)) -ℤ (c.vector (basis n) *ℤ z)) (there n b) ∙ crossed (w n (basis n)) (c.vector (basis n)));
    }
      where
        vector : ℕ → ℤ
        vector j = (w n (basis n) *ℤ c.vector j) -ℤ (c.vector (basis n) *ℤ widened at (w n) j)

        there : (k : ℕ) → k < p.rows → widened at (w n) (basis k) ≡ w n (basis k)
        there k l = widened_before at (w n) (basis k) (t.columns.in_range k l)

    clear : (n : ℕ) → n ≤ p.rows → Cleared basis n
    clear zero b = start basis
    clear (suc n) b = step n (omega arith) (clear n (omega arith))

    -- a basis has its objective row
    objective_exists : (v : ℕ → ℤ) × IsRow all (with_factor relaxed p basis) p.rows v
    objective_exists = (
      q.vector,
      record {
        combination = combination_divide all q.times c.vector q.vector q.nonzero q.multiple c.combination;
        primitive = q.primitive;
        positive = subst (λ (x : ℕ). (pos 0) <ℤ (q.vector x)) (sym (factor_at relaxed p basis)) q.positive;
        cleared = below_suc p.rows (λ k. k ≢ p.rows → q.vector (with_factor relaxed p basis k) ≡ pos 0)
            (λ k b n. ap q.vector (factor_off relaxed p basis k b) ∙ other_zero q.times (q.vector (basis k)) q.nonzero (q.multiple (basis k) (omega (arith, t.columns.in_range k b)) ∙ c.zeros k b))
            (λ n. absurd (n refl));
      },
    )
      where
        c : Cleared basis p.rows
        c = clear p.rows (omega arith)

        q : PrimitivePart all c.vector at
        q = primitive_part all c.vector at (omega arith) c.takes

-- ---- with and without the objective
-- a row of a basis of the program's rows is one of all, with 0 in the factor column
pub row_with_objective : (relaxed : Bool) (p : Program) (basis : ℕ → ℕ) (i : ℕ) (v : ℕ → ℤ) → AreColumns (rows_of relaxed p) basis → i < p.rows → IsRow (rows_of relaxed p) basis i v
    → IsRow (equations_of relaxed p) (with_factor relaxed p basis) i (widened (factor relaxed p) v)
row_with_objective relaxed p = with_objective relaxed p

pub row_without_objective : (relaxed : Bool) (p : Program) (basis : ℕ → ℕ) (i : ℕ) (v : ℕ → ℤ) → AreColumns (rows_of relaxed p) basis → i < p.rows → IsRow (equations_of relaxed p) (with_factor relaxed p basis) i v
    → IsRow (rows_of relaxed p) basis i (narrowed (factor relaxed p) v)
row_without_objective relaxed p = without_objective relaxed p

-- a basis of the program's rows has its objective row, and so is a basis with the factor column
pub basis_with_objective : (relaxed : Bool) (p : Program) (basis : ℕ → ℕ) → IsBasis (rows_of relaxed p) basis → IsBasisOf relaxed p basis
basis_with_objective relaxed p basis g = let f = basis_tableau (rows_of relaxed p) basis g in record {
  columns = columns_with relaxed p basis g.columns;
  has_row = below_suc p.rows (λ i. (v : ℕ → ℤ) × IsRow (equations_of relaxed p) (with_factor relaxed p basis) i v)
      (λ i b. let h = g.has_row i b in (widened (factor relaxed p) h.0, with_objective relaxed p basis i h.0 g.columns b h.1))
      (objective_exists relaxed p basis f.0 f.1);
}

pub basis_without_objective : (relaxed : Bool) (p : Program) (basis : ℕ → ℕ) → IsBasisOf relaxed p basis → IsBasis (rows_of relaxed p) basis
basis_without_objective relaxed p basis g = let a = columns_without relaxed p basis g.columns in record {
  columns = a;
  has_row = λ i b. let h = g.has_row i (omega arith) in (narrowed (factor relaxed p) h.0, without_objective relaxed p basis i h.0 a b h.1);
}
