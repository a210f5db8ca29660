-- One vector more than coordinates: some multiples, not all 0, add up to 0.
use Rattle.std.specs.Prelude.{ℕ, zero, suc, ◌-◌, ◌<◌, ◌≤◌, ◌≡◌, ◌≢◌, ℤ, pos, ◌-ℤ◌, ◌*ℤ◌, neg_ℤ, cond, ltb, eqb}
use Rattle.std.proofs.Common.{refl, ap, sym, subst, ◌∙◌, arith, inl, inr}
use Rattle.std.proofs.lemmas.Bool.{eq-eqb, ne_eqb}
use Rattle.std.proofs.lemmas.Bool.Decides.{nat_tests}
use Rattle.std.proofs.lemmas.Int.{ints}
use Rattle.bz_algebra.specs.Sums.{upto}
use Rattle.bz_algebra.proofs.Bounded.{zeros_or_not, by_order}
use Rattle.bz_algebra.proofs.Ring.{as_diff, diff_add, diff_neg, diff_mul, diff_same, neg_mul, mul_zero, one_mul, mul-ne}
use Rattle.bz_algebra.proofs.SumLemmas.{upto_same, upto_sub, upto_zeros, upto_scale_right, single, single_at, single_sum}

-- multiples of the m + 1 vectors `f i` that add up to 0 in each of the m coordinates, the one at `place` not being 0
pub record Dependence (m : ℕ) (f : ℕ → ℕ → ℤ) : Type 0 where
  pub times : ℕ → ℤ
  pub place : ℕ
  pub within : place < suc m
  pub nonzero : times place ≢ pos 0
  pub vanishes : (j : ℕ) → j < m → upto (suc m) (λ i. times i *ℤ f i j) ≡ pos 0

-- the coordinates but p, in order
skip : ℕ → ℕ → ℕ
skip p j = cond (ltb j p) j (suc j)

skip_before : (p j : ℕ) → j < p → skip p j ≡ j
unfolding skip
skip_before p j h = grind (arith, nat_tests)

skip_after : (p j : ℕ) → p ≤ j → skip p j ≡ suc j
unfolding skip
skip_after p j h = grind (arith, nat_tests)

expand : (c f x p l : ℤ) → c *ℤ ((f *ℤ x) -ℤ (p *ℤ l)) ≡ ((c *ℤ f) *ℤ x) -ℤ ((c *ℤ p) *ℤ l)
expand c f x p l = rw (as_diff c, as_diff f, as_diff x, as_diff p, as_diff l) (simp (diff_add, diff_neg, diff_mul) (diff_same _ _ _ _ (omega arith)))

cancels : (c f p : ℤ) → c *ℤ ((f *ℤ p) -ℤ (p *ℤ f)) ≡ pos 0
cancels c f p = let e : (f *ℤ p) -ℤ (p *ℤ f) ≡ pos 0 = omega (arith, ints) in rw e (mul_zero c)

-- the vectors before n are cleared in one coordinate, where they have the numbers p and vector n has f; x are the numbers in another coordinate
clear_sum : (n : ℕ) (c new x p : ℕ → ℤ) (f : ℤ) → ((i : ℕ) → i < n → new i ≡ c i *ℤ f) → new n ≡ neg_ℤ (upto n (λ i. c i *ℤ p i))
    → upto (suc n) (λ i. new i *ℤ x i) ≡ upto n (λ i. c i *ℤ ((f *ℤ x i) -ℤ (p i *ℤ x n)))
clear_sum n c new x p f h last =
    rw (last, neg_mul (upto n (λ i. c i *ℤ p i)) (x n), ← upto_scale_right n (λ i. c i *ℤ p i) (x n), upto_same n (λ i. new i *ℤ x i) (λ i. (c i *ℤ f) *ℤ x i) (λ i b. ap (λ (t : ℤ). t *ℤ x i) (h i b)))
    (sym (upto_sub n (λ i. (c i *ℤ f) *ℤ x i) (λ i. (c i *ℤ p i) *ℤ x n)) ∙ upto_same n _ _ (λ i b. sym (expand (c i) f (x i) (p i) (x n))))

extended : (n : ℕ) (c : ℕ → ℤ) (f last : ℤ) → ℕ → ℤ
extended n c f last i = cond (eqb i n) last (c i *ℤ f)

extended_at : (n : ℕ) (c : ℕ → ℤ) (f last : ℤ) → extended n c f last n ≡ last
unfolding extended
extended_at n c f last = rw (eq-eqb n n refl)

extended_before : (n : ℕ) (c : ℕ → ℤ) (f last : ℤ) (i : ℕ) → i < n → extended n c f last i ≡ c i *ℤ f
unfolding extended
extended_before n c f last i b = rw (ne_eqb i n (λ e. omega arith))

-- where the last vector is 0 everywhere, it is taken once and the others not at all
by_last : (m : ℕ) (f : ℕ → ℕ → ℤ) → ((j : ℕ) → j < m → f m j ≡ pos 0) → Dependence m f
by_last m f h = record {
  times = single m (pos 1);
  place = m;
  within = omega arith;
  nonzero = λ e. omega (arith, ints, sym (single_at m (pos 1)) ∙ e);
  vanishes = λ j b. single_sum (suc m) m (pos 1) (λ i. f i j) (omega arith) ∙ one_mul (f m j) ∙ h j b;
}

-- else it clears one coordinate of the others, and these depend on each other in the coordinates that are left
by_clearing : (m : ℕ) (f : ℕ → ℕ → ℤ) (p : ℕ) → p < suc m → f (suc m) p ≢ pos 0 → Dependence m (λ i j. (f (suc m) p *ℤ f i (skip p j)) -ℤ (f i p *ℤ f (suc m) (skip p j))) → Dependence (suc m) f
by_clearing m f p b n d = record {
  times = new;
  place = d.place;
  within = omega (arith, d.within);
  nonzero = λ e. mul-ne (d.times d.place) (f (suc m) p) d.nonzero n (sym (extended_before (suc m) d.times (f (suc m) p) last d.place d.within) ∙ e);
  vanishes = λ j l. sums j ∙ zeros j l;
}
  where
    last : ℤ
    last = neg_ℤ (upto (suc m) (λ i. d.times i *ℤ f i p))

    new : ℕ → ℤ
    new = extended (suc m) d.times (f (suc m) p) last

    rest : ℕ → ℤ
    rest j = upto (suc m) (λ i. d.times i *ℤ ((f (suc m) p *ℤ f i j) -ℤ (f i p *ℤ f (suc m) j)))

    sums : (j : ℕ) → upto (suc (suc m)) (λ i. new i *ℤ f i j) ≡ rest j
    sums j = clear_sum (suc m) d.times new (λ i. f i j) (λ i. f i p) (f (suc m) p) (extended_before (suc m) d.times (f (suc m) p) last) (extended_at (suc m) d.times (f (suc m) p) last)

    zeros : (j : ℕ) → j < suc m → rest j ≡ pos 0
    zeros j l = by_order j p
        (λ h. subst (λ (t : ℕ). rest t ≡ pos 0) (skip_before p j h) (d.vanishes j (omega arith)))
        (λ e. upto_zeros (suc m) _ (λ i k. rw (e) (cancels (d.times i) (f (suc m) p) (f i p))))
        (λ h. subst (λ (t : ℕ). rest t ≡ pos 0) (skip_after p (j - 1) (omega arith) ∙ omega arith) (d.vanishes (j - 1) (omega arith)))

-- of m + 1 vectors in m coordinates some multiples, not all 0, add up to 0
pub dependent : (m : ℕ) (f : ℕ → ℕ → ℤ) → Dependence m f
dependent zero f = by_last zero f (λ j b. absurd (omega arith))
dependent (suc m) f = elim (zeros_or_not (suc m) (f (suc m))) [
  | inl h ↦ by_last (suc m) f h
  | inr q ↦ by_clearing m f q.0 q.1 q.2 (dependent m (λ i j. (f (suc m) q.0 *ℤ f i (skip q.0 j)) -ℤ (f i q.0 *ℤ f (suc m) (skip q.0 j))))
]
