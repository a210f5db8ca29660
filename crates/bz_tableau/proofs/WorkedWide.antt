-- A basis by hand that has an answer, whose point is wide over its common denominator: z = 1/2 and w = 2^127 - 1.
use Rattle.std.specs.Prelude.{ℕ, zero, suc, ◌+◌, ◌-◌, ◌^◌, ◌<◌, ◌≤◌, ◌≡◌, ◌≢◌, ℤ, pos, ◌+ℤ◌, ◌*ℤ◌, ◌≤ℤ◌, List, [], ◌∷◌, unsigned_abs, false}
use Rattle.std.specs.Int.{◌∣◌}
use Rattle.std.proofs.Common.{refl, subst, arith, inl, inr}
use Rattle.std.proofs.Math.Nat.{eq-one_of_dvd-one, one-dvd}
use Rattle.std.proofs.lemmas.Nat.Gcd.{dvd_refl}
use Rattle.std.proofs.lemmas.Int.{ints}
use Rattle.bz_algebra.specs.Numbers.{IsWide}
use Rattle.bz_algebra.specs.Sums.{upto}
use Rattle.bz_algebra.specs.Tableaus.{Program, Equations, IsRow, IsTableau, rows_of}
use Rattle.bz_algebra.proofs.Uniqueness.{row_unique, tableau_basis}
use Rattle.bz_tableau.specs.Answers.{column_sum}
use Rattle.bz_tableau.specs.Dense.{entry}
use Rattle.bz_tableau.specs.Laws.{place}
use Rattle.bz_tableau.specs.WidePlaces.{IsTrueDen}

abbrev by_two : {X : Type 0} → X → X → ℕ → X
by_two x y zero = x
by_two x y (suc i) = y

for_two : (P : ℕ → Type 0) → P 0 → P 1 → (j : ℕ) → j < 2 → P j
for_two P p q zero l = p
for_two P p q (suc zero) l = q
for_two P p q (suc (suc j)) l = absurd (omega arith)

abbrev greatest : ℤ
greatest = pos (2 ^ 127 - 1)

-- 2 z <= 1 and w <= 2^127 - 1, and every point costs 0
abbrev program : Program
program = record {
  columns = 2;
  rows = 2;
  term = λ i. entry (by_two (pos 2 ∷ pos 0 ∷ []) (pos 0 ∷ pos 1 ∷ []) i);
  rhs = by_two (pos 1) greatest;
  cost = λ j. pos 0;
}

abbrev few : Equations
few = rows_of false program

abbrev basis : List ℕ
basis = 0 ∷ 1 ∷ []

-- 2 z + the first slack = 1, and w + the second = 2^127 - 1
abbrev rows : ℕ → ℕ → ℤ
rows i = entry (by_two (pos 2 ∷ pos 0 ∷ pos 1 ∷ pos 0 ∷ pos 1 ∷ []) (pos 0 ∷ pos 1 ∷ pos 0 ∷ pos 1 ∷ greatest ∷ []) i)

first_row : IsRow few (place basis) 0 (rows 0)
first_row = record {
  combination = record { columns = for_two (λ j. rows 0 j ≡ upto 2 (λ i. rows 0 (2 + i) *ℤ few.entry i j)) refl refl; right = refl };
  primitive = λ d h. eq-one_of_dvd-one (h 2 (omega arith));
  positive = omega (arith, ints);
  cleared = for_two (λ k. k ≢ 0 → rows 0 (place basis k) ≡ pos 0) (λ n. absurd (n refl)) (λ n. refl);
}

second_row : IsRow few (place basis) 1 (rows 1)
second_row = record {
  combination = record { columns = for_two (λ j. rows 1 j ≡ upto 2 (λ i. rows 1 (2 + i) *ℤ few.entry i j)) refl refl; right = refl };
  primitive = λ d h. eq-one_of_dvd-one (h 3 (omega arith));
  positive = omega (arith, ints);
  cleared = for_two (λ k. k ≢ 1 → rows 1 (place basis k) ≡ pos 0) (λ n. refl) (λ n. absurd (n refl));
}

tableau : IsTableau few (place basis) rows
tableau = record {
  columns = record {
    in_range = for_two (λ i. place basis i < 4) (omega arith) (omega arith);
    different = λ i k l m. for_two (λ i. place basis i ≡ place basis k → i ≡ k) (for_two (λ k. 0 ≡ place basis k → 0 ≡ k) (λ e. refl) (λ e. e) k m) (for_two (λ k. 1 ≡ place basis k → 1 ≡ k) (λ e. e) (λ e. refl) k m) i l;
  };
  rows = for_two (λ i. IsRow few (place basis) i (rows i)) first_row second_row;
}

same : (i : ℕ) (v : ℕ → ℤ) (j : ℕ) → i < 2 → j ≤ 4 → IsRow few (place basis) i v → rows i j ≡ v j
same i v j l m r = row_unique few (place basis) rows v i tableau l r j m

-- the denominator is 2, and over it w is 2^128 - 2
value_is_wide : IsTrueDen false program basis 1
value_is_wide = record {
  has_answer = record {
    is_basis = record { count = refl; is_basis = tableau_basis few (place basis) rows tableau };
    right_sides = λ i v l r. subst (λ (x : ℤ). (pos 0) ≤ℤ x) (same i v 4 l (omega arith) r) (for_two (λ i. (pos 0) ≤ℤ (rows i 4)) (omega (arith, ints)) (omega (arith, ints)) i l);
    signs = inl (record {
      den = pos 1;
      y = λ i. pos 0;
      objective = record {
        positive = omega (arith, ints);
        primitive = λ g h k. eq-one_of_dvd-one h;
        columns = λ k l m. for_two (λ k. column_sum false program (λ i. pos 0) (place basis k) +ℤ pos 0 ≡ pos 0) refl refl k l;
        slacks = λ k i l m e. refl;
      };
      bounds = record {
        multipliers = λ i l. omega (arith, ints);
        columns = for_two (λ j. (pos 0) ≤ℤ (pos 0 +ℤ column_sum false program (λ i. pos 0) j)) (omega (arith, ints)) (omega (arith, ints));
      };
    });
  };
  order = 0 ∷ 1 ∷ [];
  is_order = record {
    inside = for_two (λ k. place basis k < 2) (omega arith) (omega arith);
    before_slacks = for_two (λ k. place basis (place basis k) < 2) (omega arith) (omega arith);
    rising = λ k l m b. for_two (λ l. k < l → place basis (place basis k) < place basis (place basis l)) (λ m. absurd (omega (arith, m))) (λ m. below_one k m) l b m;
    complete = λ i l m. for_two (λ i. (k : ℕ) × (k < 2) × (place basis (place basis k) ≡ place basis i)) (0, omega arith, refl) (1, omega arith, refl) i l;
  };
  inside = omega arith;
  wide = record {
    inside = omega arith;
    before_slacks = omega arith;
    wide = inr (record {
      den = pos 2;
      denominator = record {
        positive = omega (arith, ints);
        multiple = λ i v l m r. subst (λ (x : ℤ). unsigned_abs x ∣ 2) (same i v (place basis i) l (omega (arith, m)) r) (for_two (λ i. unsigned_abs (rows i (place basis i)) ∣ 2) (dvd_refl 2) (one-dvd 2) i l);
        least = λ d h. h 0 (rows 0) (omega arith) (omega arith) first_row;
      };
      narrow = omega arith;
      row = rows 1;
      is_row = second_row;
      times = pos 2;
      times_is = refl;
      wide = inl (let w : IsWide (greatest *ℤ pos 2) = omega arith in w);
    });
  };
}
  where
    below_one : (k : ℕ) → k < 1 → place basis (place basis k) < 1
    below_one zero l = omega arith
    below_one (suc k) l = absurd (omega arith)
