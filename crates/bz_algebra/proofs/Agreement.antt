-- Rows and bases that agree where it counts: rows up to the right side, bases at their places.
use Rattle.std.specs.Prelude.{ℕ, suc, ◌<◌, ◌≤◌, ◌≡◌, ℤ, pos, ◌<ℤ◌, unsigned_abs, Bool}
use Rattle.std.specs.Int.{◌∣◌}
use Rattle.std.proofs.Common.{refl, ap, sym, subst, ◌∙◌, arith, inl, inr}
use Rattle.std.proofs.lemmas.Bool.{cases_eq}
use Rattle.bz_algebra.specs.Tableaus.{Equations, Program, equations_of, side, IsRow, AreColumns, IsTableau, IsBasis, IsWithin, put, with_factor}
use Rattle.bz_algebra.proofs.Bounded.{below_suc}
use Rattle.bz_algebra.proofs.Combinations.{combination_same}
use Rattle.bz_algebra.proofs.Pivoting.{put_at, put_off}
use Rattle.bz_algebra.proofs.Programs.{factor_at, factor_off}
use Rattle.bz_algebra.proofs.Uniqueness.{same_rows}

-- ---- in general
pub columns_same : (s : Equations) (basis other : ℕ → ℕ) → AreColumns s basis → ((i : ℕ) → i < s.rows → other i ≡ basis i) → AreColumns s other
columns_same s basis other a h = record {
  in_range = λ i b. rw (h i b) (a.in_range i b);
  different = λ i k b c e. a.different i k b c (sym (h i b) ∙ e ∙ h k c);
}

pub row_same : (s : Equations) (basis other : ℕ → ℕ) (i : ℕ) (w v : ℕ → ℤ) → AreColumns s basis → i < s.rows → IsRow s basis i w → ((k : ℕ) → k < s.rows → other k ≡ basis k) → ((j : ℕ) → j ≤ side s → v j ≡ w j) → IsRow s other i v
row_same s basis other i w v a b r h e = record {
  combination = combination_same s w v e r.combination;
  primitive = λ d g. r.primitive d (λ j l. subst (λ (z : ℤ). d ∣ unsigned_abs z) (e j l) (g j l));
  positive = subst (λ (z : ℤ). (pos 0) <ℤ z) (sym (there i b)) r.positive;
  cleared = λ k c n. there k c ∙ r.cleared k c n;
}
  where
    there : (k : ℕ) → k < s.rows → v (other k) ≡ w (basis k)
    there k c = ap v (h k c) ∙ e (basis k) (omega (arith, a.in_range k c))

pub tableau_same : (s : Equations) (basis other : ℕ → ℕ) (w v : ℕ → ℕ → ℤ) → IsTableau s basis w → ((i : ℕ) → i < s.rows → other i ≡ basis i) → ((i j : ℕ) → i < s.rows → j ≤ side s → v i j ≡ w i j) → IsTableau s other v
tableau_same s basis other w v t h e = record {
  columns = columns_same s basis other t.columns h;
  rows = λ i b. row_same s basis other i (w i) (v i) t.columns b (t.rows i b) h (λ j l. e i j b l);
}

pub basis_same : (s : Equations) (basis other : ℕ → ℕ) → IsBasis s basis → ((i : ℕ) → i < s.rows → other i ≡ basis i) → IsBasis s other
basis_same s basis other g h = record {
  columns = columns_same s basis other g.columns h;
  has_row = λ i b. let f = g.has_row i b in (f.0, row_same s basis other i f.0 f.0 g.columns b f.1 h (λ j l. refl));
}

-- ---- with the factor column
-- a pivot at a place of the program's rows leaves the factor column where it is
pub put_factor : (relaxed : Bool) (p : Program) (basis : ℕ → ℕ) (r e : ℕ) → r < p.rows → (i : ℕ) → i < suc p.rows → with_factor relaxed p (put basis r e) i ≡ put (with_factor relaxed p basis) r e i
put_factor relaxed p basis r e b = below_suc p.rows (λ i. with_factor relaxed p (put basis r e) i ≡ put (with_factor relaxed p basis) r e i)
    (λ i c. factor_off relaxed p (put basis r e) i c ∙ elim (cases_eq i r) [
      | inl g ↦ ap (put basis r e) g ∙ put_at basis r e ∙ sym (put_at (with_factor relaxed p basis) r e) ∙ ap (put (with_factor relaxed p basis) r e) (sym g)
      | inr n ↦ put_off basis r e i n ∙ sym (factor_off relaxed p basis i c) ∙ sym (put_off (with_factor relaxed p basis) r e i n)
    ])
    (factor_at relaxed p (put basis r e) ∙ sym (factor_at relaxed p basis) ∙ sym (put_off (with_factor relaxed p basis) r e p.rows (λ g. omega arith)))

-- bases with the same columns have them with the factor column too
pub within_factor : (relaxed : Bool) (p : Program) (basis other : ℕ → ℕ) → IsWithin p.rows basis other → IsWithin (suc p.rows) (with_factor relaxed p basis) (with_factor relaxed p other)
within_factor relaxed p basis other h = below_suc p.rows (λ i. (k : ℕ) × (k < suc p.rows) × (with_factor relaxed p other k ≡ with_factor relaxed p basis i))
    (λ i b. let f = h i b in (f.0, omega (arith, f.1), factor_off relaxed p other f.0 f.1 ∙ f.2 ∙ sym (factor_off relaxed p basis i b)))
    (p.rows, omega arith, factor_at relaxed p other ∙ sym (factor_at relaxed p basis))

-- bases with the same columns have the same objective row
pub same_objective : (relaxed : Bool) (p : Program) (basis other : ℕ → ℕ) (w v : ℕ → ℕ → ℤ) → IsTableau (equations_of relaxed p) (with_factor relaxed p basis) w → IsTableau (equations_of relaxed p) (with_factor relaxed p other) v → IsWithin p.rows basis other
    → (j : ℕ) → j ≤ side (equations_of relaxed p) → w p.rows j ≡ v p.rows j
same_objective relaxed p basis other w v t u h = same_rows (equations_of relaxed p) (with_factor relaxed p basis) (with_factor relaxed p other) w v t u (within_factor relaxed p basis other h) p.rows p.rows (omega arith) (omega arith) (factor_at relaxed p other ∙ sym (factor_at relaxed p basis))
