-- At the first basis the rows are positive in the order, and at each basis no two rows are level.
use Rattle.std.specs.Prelude.{ℕ, zero, suc, ◌<◌, ◌≤◌, ◌≡◌, ◌≢◌, ◌⊎◌, ℤ, pos, ◌-ℤ◌, ◌*ℤ◌, ◌≤ℤ◌}
use Rattle.std.proofs.Common.{ap, ◌∙◌, arith, inl, inr}
use Rattle.std.proofs.lemmas.Int.{ints, by_lt_z}
use Rattle.bz_algebra.specs.Tableaus.{Equations, side, IsRow, AreColumns, IsTableau, IsBasis}
use Rattle.bz_algebra.proofs.Bounded.{below_suc}
use Rattle.bz_algebra.proofs.Combinations.{combination_sub}
use Rattle.bz_algebra.proofs.NothingElse.{nothing_else}
use Rattle.bz_algebra.proofs.Ring.{mul_zero, mul-ne, positive-ne, le_antisym}
use Rattle.bz_algebra.proofs.Uniqueness.{basis_tableau, no_rest}
use Rattle.bz_lex.specs.Lexicographic.{order, AreInRange, IsLexPositive, read, lead, IsAbove, AreLevel, AreLexPositive}
use Rattle.bz_lex.proofs.LexOrder.{by_above}

-- the places of the order are columns or the right side
pub order_in_range : (s : Equations) (first : ℕ → ℕ) → AreColumns s first → AreInRange s (suc s.rows) (order s first)
order_in_range s first a zero b = omega arith
order_in_range s first a (suc k) b = omega (arith, a.in_range k (omega arith))

-- ---- the first basis
-- before its own column a row of the first basis with right side 0 has only zeros
zeros_before : (s : Equations) (first : ℕ → ℕ) (v : ℕ → ℤ) (i : ℕ) → IsRow s first i v → i < s.rows → v (side s) ≡ pos 0 → (k : ℕ) → k < suc i → v (order s first k) ≡ pos 0
zeros_before s first v i r b e zero l = e
zeros_before s first v i r b e (suc k) l = r.cleared k (omega arith) (λ g. omega arith)

-- a row of the first basis whose right side isn't negative is positive in the order, its own column counted
pub first_positive : (s : Equations) (first : ℕ → ℕ) (v : ℕ → ℤ) (n i : ℕ) → IsRow s first i v → i < n → n ≤ s.rows → (pos 0) ≤ℤ (v (side s)) → IsLexPositive (suc n) (read (order s first) v)
first_positive s first v n i r b l h = by_lt_z (pos 0) (v (side s))
    (λ p. record { place = 0; inside = omega arith; positive = p; before = λ k m. absurd (omega arith) })
    (λ q. record { place = suc i; inside = omega arith; positive = r.positive; before = zeros_before s first v i r (omega arith) (le_antisym (v (side s)) (pos 0) q h) })

-- so are the first n rows
pub first_rows_positive : (s : Equations) (first : ℕ → ℕ) (w : ℕ → ℕ → ℤ) (n : ℕ) → IsTableau s first w → n ≤ s.rows → ((i : ℕ) → i < n → (pos 0) ≤ℤ (w i (side s))) → AreLexPositive n (suc n) (order s first) w
first_rows_positive s first w n t l h i b = first_positive s first (w i) n i (t.rows i (omega arith)) b l (h i b)

-- ---- no tie
only_own : (a x b y : ℤ) → y ≡ pos 0 → (a *ℤ x) -ℤ (b *ℤ y) ≡ pos 0 → a *ℤ x ≡ pos 0
only_own a x b y e f = omega (arith, ints, mul_zero b, ap (λ (t : ℤ). b *ℤ t) e)

-- two rows at different places aren't level, whatever basis the order reads: their difference would be 0 everywhere, but one of them isn't 0 in its own column, where the other is
pub rows_not_level : (s : Equations) (first basis : ℕ → ℕ) (w : ℕ → ℕ → ℤ) (e i k : ℕ) → IsBasis s first → IsTableau s basis w → i < s.rows → k < s.rows → i ≢ k → w k e ≢ pos 0
    → AreLevel (suc s.rows) (order s first) e (w i) (w k) → ⊥
rows_not_level s first basis w e i k g t b c n m z = mul-ne (w k e) (w i (basis i)) m (positive-ne (w i (basis i)) (t.rows i b).positive)
    (only_own (w k e) (w i (basis i)) (w i e) (w k (basis i)) ((t.rows k c).cleared i b n) everywhere)
  where
    difference : ℕ → ℤ
    difference j = (w k e *ℤ w i j) -ℤ (w i e *ℤ w k j)

    everywhere : difference (basis i) ≡ pos 0
    everywhere = let f = basis_tableau s first g in nothing_else s first f.0 f.1 difference (combination_sub s (w k e) (w i e) (w i) (w k) (t.rows i b).combination (t.rows k c).combination) (λ l d. z (suc l) (omega arith)) (basis i) (omega (arith, t.columns.in_range i b))

-- nor are two of the first n rows by the first n columns of the order, where one row follows, with the same column in both bases
pub few_rows_not_level : (s : Equations) (first basis : ℕ → ℕ) (w : ℕ → ℕ → ℤ) (n e i k : ℕ) → IsBasis s first → IsTableau s basis w → s.rows ≡ suc n → first n ≡ basis n → i < n → k < n → i ≢ k → w k e ≢ pos 0
    → AreLevel (suc n) (order s first) e (w i) (w k) → ⊥
few_rows_not_level s first basis w n e i k g t o f b c d m z = rows_not_level s first basis w e i k g t (omega arith) (omega arith) d m
    (λ l h. below_suc (suc n) (λ x. lead (order s first) e (w i) (w k) x ≡ pos 0) z last l (omega arith))
  where
    last : lead (order s first) e (w i) (w k) (suc n) ≡ pos 0
    last = no_rest (w k e) (w i e) (w i (first n)) (w k (first n)) (ap (w i) f ∙ (t.rows i (omega arith)).cleared n (omega arith) (λ h. omega arith)) (ap (w k) f ∙ (t.rows k (omega arith)).cleared n (omega arith) (λ h. omega arith))

-- so one of the two is above the other
pub one_above : (s : Equations) (first basis : ℕ → ℕ) (w : ℕ → ℕ → ℤ) (n e i k : ℕ) → IsBasis s first → IsTableau s basis w → s.rows ≡ suc n → first n ≡ basis n → i < n → k < n → i ≢ k → w k e ≢ pos 0
    → IsAbove (suc n) (order s first) e (w i) (w k) ⊎ IsAbove (suc n) (order s first) e (w k) (w i)
one_above s first basis w n e i k g t o f b c d m = by_above (suc n) (order s first) e (w i) (w k) inl (λ z. absurd (few_rows_not_level s first basis w n e i k g t o f b c d m z)) inr
