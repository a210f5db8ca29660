-- The inner cost of a part, and the width of a part.
use Rattle.std.proofs.Common.{◌≡◌, refl, ℕ, ◌<◌, ◌≤◌, ◌^◌, Bool, true, false, cond, List, [], ◌∷◌, length, arith, ℤ, pos, ◌+ℤ◌, nat_eq, neg_ℤ}
use Rattle.std.proofs.lemmas.Int.{ints}
use Rattle.std.proofs.lemmas.List.Sums.{count_by-le-length}
use Rattle.bz_algebra.specs.Sums.{coef}
use Rattle.bz_model.specs.Parting.{column_at, columns_of, width_of, inner_cost, negated, terms_in}
use Rattle.bz_model.specs.Splits.{Decomposition, IsSplit}
use Rattle.bz_model.proofs.InnerCosts.{cost_within, decomposed}
use Rattle.bz_model.proofs.PartSums.{coef_terms_in}
use Rattle.bz_model.proofs.Positions.{length-columns_of}

-- a part has few columns
pub width_small : (d : Decomposition) (b : ℕ) → IsSplit d → length (columns_of d.part b) < 2 ^ 28
width_small d b s =
    let most : width_of d.part b ≤ length d.part = count_by-le-length (λ c. nat_eq c b) d.part in
    rw (length-columns_of d.part b) (omega (arith, s.partition.numbers, d.model.few_columns))

coef_negated-step : (b : Bool) (v r : ℤ) → cond b (neg_ℤ v) (pos 0) +ℤ neg_ℤ r ≡ neg_ℤ (cond b v (pos 0) +ℤ r)
coef_negated-step true v r = omega (arith, ints)
coef_negated-step false v r = omega (arith, ints)

pub coef_negated : (es : List (ℕ × ℤ)) (j : ℕ) → coef (negated es) j ≡ neg_ℤ (coef es j)
coef_negated [] j = refl
coef_negated (e ∷ es) j = rw (coef_negated es j) (coef_negated-step (nat_eq e.0 j) e.1 (coef es j))

-- the number of a column in the cost, the other way round where b says so
pub coef_turned : (b : Bool) (es : List (ℕ × ℤ)) (j : ℕ) → coef (cond b (negated es) es) j ≡ cond b (neg_ℤ (coef es j)) (coef es j)
coef_turned true es j = coef_negated es j
coef_turned false es j = refl

-- what holds of entries, and then of the same with each number the other way round, holds of those that b says
pub negated_where : (b : Bool) (P : List (ℕ × ℤ) → Type 0) (es : List (ℕ × ℤ)) → (P es → P (negated es)) → P es → P (cond b (negated es) es)
negated_where true P es f h = f h
negated_where false P es f h = h

-- the inner cost at a position is that of the column there
pub cost_at : (d : Decomposition) (b i : ℕ) → IsSplit d → i < width_of d.part b → coef (terms_in d.part b (inner_cost d.model)) i ≡ coef (inner_cost d.model) (column_at d.part b i)
cost_at d b i s l = coef_terms_in d.part b (inner_cost d.model) i (cost_within d.model d.part (decomposed d s)) l
