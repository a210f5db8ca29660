-- The leaving row, found row by row.
use Rattle.std.specs.Prelude.{ℕ, suc, ◌<◌, ◌≡◌, ◌≢◌, ℤ, pos, ◌≤ℤ◌, ◌<ℤ◌}
use Rattle.std.proofs.Common.{refl, sym, subst, arith, inl, inr}
use Rattle.std.proofs.lemmas.Bool.{cases_eq}
use Rattle.std.proofs.lemmas.Int.{ints}
use Rattle.bz_algebra.proofs.Bounded.{below_suc}
use Rattle.bz_lex.specs.Lexicographic.{IsAbove, IsLeaving}
use Rattle.bz_lex.proofs.LexOrder.{above_trans, above_same}

-- the first row with a positive entry
pub leaving_first : (m n : ℕ) (places : ℕ → ℕ) (w : ℕ → ℕ → ℤ) (e : ℕ) → ((i : ℕ) → i < m → (w i e) ≤ℤ (pos 0)) → (pos 0) <ℤ (w m e) → IsLeaving (suc m) n places w e m
leaving_first m n places w e none h = record { inside = omega arith; positive = h; below = λ i b d p. absurd (omega (arith, ints, none i (omega arith))) }

-- a row without a positive entry, or above the row that leaves so far
pub leaving_still : (m n : ℕ) (places : ℕ → ℕ) (w : ℕ → ℕ → ℤ) (e r : ℕ) → IsLeaving m n places w e r → ((pos 0) <ℤ (w m e) → IsAbove n places e (w m) (w r)) → IsLeaving (suc m) n places w e r
leaving_still m n places w e r l h = record {
  inside = omega (arith, l.inside);
  positive = l.positive;
  below = below_suc m (λ i. i ≢ r → (pos 0) <ℤ (w i e) → IsAbove n places e (w i) (w r)) l.below (λ d. h);
}

-- a row below the row that leaves so far
pub leaving_next : (m n : ℕ) (places : ℕ → ℕ) (w : ℕ → ℕ → ℤ) (e r : ℕ) → IsLeaving m n places w e r → (pos 0) <ℤ (w m e) → IsAbove n places e (w r) (w m) → IsLeaving (suc m) n places w e m
leaving_next m n places w e r l h a = record {
  inside = omega arith;
  positive = h;
  below = below_suc m (λ i. i ≢ m → (pos 0) <ℤ (w i e) → IsAbove n places e (w i) (w m))
      (λ i b d p. elim (cases_eq i r) [
        | inl f ↦ subst (λ (k : ℕ). IsAbove n places e (w k) (w m)) (sym f) a
        | inr g ↦ above_trans n places e (w i) (w r) (w m) p l.positive h (l.below i b g p) a
      ])
      (λ d p. absurd (d refl));
}

-- rows with the same numbers at the places and in the column
pub leaving_same : (count n : ℕ) (places others : ℕ → ℕ) (w v : ℕ → ℕ → ℤ) (e r : ℕ) → ((i : ℕ) → i < count → v i e ≡ w i e) → ((i k : ℕ) → i < count → k < n → v i (others k) ≡ w i (places k)) → IsLeaving count n places w e r → IsLeaving count n others v e r
leaving_same count n places others w v e r h g l = record {
  inside = l.inside;
  positive = subst (λ (z : ℤ). (pos 0) <ℤ z) (sym (h r l.inside)) l.positive;
  below = λ i b d p. above_same n places others e e (w i) (w r) (v i) (v r) (h i b) (h r l.inside) (λ k c. g i k b c) (λ k c. g r k l.inside c) (l.below i b d (subst (λ (z : ℤ). (pos 0) <ℤ z) (h i b) p));
}
