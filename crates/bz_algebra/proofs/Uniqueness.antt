-- The row of a column is unique: two bases with the same columns have the same row for each column, the objective's too.
use Rattle.std.specs.Prelude.{ℕ, ◌<◌, ◌≤◌, ◌≡◌, ◌≢◌, ℤ, pos, ◌-ℤ◌, ◌*ℤ◌, ◌<ℤ◌}
use Rattle.std.proofs.Common.{refl, ap, sym, subst, ◌∙◌, arith, inl, inr}
use Rattle.std.proofs.lemmas.Bool.{cases_eq}
use Rattle.std.proofs.lemmas.Int.{ints}
use Rattle.bz_algebra.specs.Tableaus.{Equations, side, IsRow, IsTableau, IsBasis, IsWithin}
use Rattle.bz_algebra.proofs.Bounded.{choose}
use Rattle.bz_algebra.proofs.Combinations.{combination_sub}
use Rattle.bz_algebra.proofs.Divisors.{primitive_equal}
use Rattle.bz_algebra.proofs.NothingElse.{nothing_else}
use Rattle.bz_algebra.proofs.Ring.{mul_zero}

equal_of_zero : (a b : ℤ) → a -ℤ b ≡ pos 0 → a ≡ b
equal_of_zero a b e = omega (arith, ints)

-- both parts of a difference are 0
pub no_rest : (a b x y : ℤ) → x ≡ pos 0 → y ≡ pos 0 → (a *ℤ x) -ℤ (b *ℤ y) ≡ pos 0
no_rest a b x y e f = rw (e, f, mul_zero a, mul_zero b)

pub crossed : (a b : ℤ) → (a *ℤ b) -ℤ (b *ℤ a) ≡ pos 0
crossed a b = omega (arith, ints)

-- a basis has a tableau
pub basis_tableau : (s : Equations) (basis : ℕ → ℕ) → IsBasis s basis → (w : ℕ → ℕ → ℤ) × IsTableau s basis w
basis_tableau s basis b = let f = choose s.rows (λ j. pos 0) (λ i v. IsRow s basis i v) b.has_row in (f.0, record { columns = b.columns; rows = f.1 })

pub tableau_basis : (s : Equations) (basis : ℕ → ℕ) (w : ℕ → ℕ → ℤ) → IsTableau s basis w → IsBasis s basis
tableau_basis s basis w t = record { columns = t.columns; has_row = λ i b. (w i, t.rows i b) }

-- the row of a column: the basis may have its columns in another order, so that the column stands at place i here and at place k there
pub column_row : (s : Equations) (basis other : ℕ → ℕ) (w : ℕ → ℕ → ℤ) (v : ℕ → ℤ) (i k : ℕ) → IsTableau s basis w → IsWithin s.rows basis other → i < s.rows → IsRow s other k v → other k ≡ basis i → (j : ℕ) → j ≤ side s → w i j ≡ v j
column_row s basis other w v i k t within b r e = primitive_equal s (w i) v (v (basis i)) (w i (basis i)) row.primitive r.primitive positive_v row.positive
    (λ j l. equal_of_zero _ _ (nothing_else s basis w t difference (combination_sub s (v (basis i)) (w i (basis i)) (w i) v row.combination r.combination) zeros j l))
  where
    row : IsRow s basis i (w i)
    row = t.rows i b

    positive_v : (pos 0) <ℤ (v (basis i))
    positive_v = subst (λ (c : ℕ). (pos 0) <ℤ (v c)) e r.positive

    difference : ℕ → ℤ
    difference j = (v (basis i) *ℤ w i j) -ℤ (w i (basis i) *ℤ v j)

    elsewhere : (l : ℕ) → l < s.rows → l ≢ i → v (basis l) ≡ pos 0
    elsewhere l m n = let p = within l m in subst (λ (c : ℕ). v c ≡ pos 0) p.2 (r.cleared p.0 p.1 (λ g. n (t.columns.different l i m b (sym p.2 ∙ ap other g ∙ e))))

    zeros : (l : ℕ) → l < s.rows → difference (basis l) ≡ pos 0
    zeros l m = elim (cases_eq l i) [
      | inl g ↦ ap (λ (c : ℕ). difference (basis c)) g ∙ crossed (v (basis i)) (w i (basis i))
      | inr n ↦ no_rest (v (basis i)) (w i (basis i)) (w i (basis l)) (v (basis l)) (row.cleared l m n) (elsewhere l m n)
    ]

-- the row at a place of a basis is one
pub row_unique : (s : Equations) (basis : ℕ → ℕ) (w : ℕ → ℕ → ℤ) (v : ℕ → ℤ) (i : ℕ) → IsTableau s basis w → i < s.rows → IsRow s basis i v → (j : ℕ) → j ≤ side s → w i j ≡ v j
row_unique s basis w v i t b r = column_row s basis basis w v i i t (λ k l. (k, l, refl)) b r refl

-- two tableaus of the same columns have the same row for the same column
pub same_rows : (s : Equations) (basis other : ℕ → ℕ) (w v : ℕ → ℕ → ℤ) → IsTableau s basis w → IsTableau s other v → IsWithin s.rows basis other → (i k : ℕ) → i < s.rows → k < s.rows → other k ≡ basis i → (j : ℕ) → j ≤ side s → w i j ≡ v k j
same_rows s basis other w v t u within i k b c e = column_row s basis other w (v k) i k t within b (u.rows k c) e
