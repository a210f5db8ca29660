-- Programs by hand, one for each answer and a relaxed one, so that the definitions of answers are seen to say what they should.
use Rattle.std.specs.Prelude.{ℕ, zero, suc, ◌+◌, ◌<◌, ◌≤◌, ◌≡◌, ◌≢◌, ℤ, pos, negsuc, ◌+ℤ◌, ◌*ℤ◌, ◌≤ℤ◌, [], ◌∷◌, None, unsigned_abs, true, false}
use Rattle.std.specs.Int.{◌∣◌}
use Rattle.std.proofs.Common.{refl, subst, arith}
use Rattle.std.proofs.Math.Nat.{eq-one_of_dvd-one, one-dvd}
use Rattle.std.proofs.lemmas.Nat.Gcd.{dvd_refl}
use Rattle.std.proofs.lemmas.Int.{ints}
use Rattle.bz_algebra.specs.Sums.{upto}
use Rattle.bz_algebra.specs.Tableaus.{Program, Equations, IsRow, IsTableau, rows_of, side, row_entry, objective_entry}
use Rattle.bz_algebra.proofs.Uniqueness.{row_unique, tableau_basis}
use Rattle.bz_tableau.specs.Answers.{column_sum, IsLeast, IsEmpty, IsRay, GivesAnswer}
use Rattle.bz_tableau.specs.Dense.{entry}
use Rattle.bz_tableau.specs.Laws.{place}
use Rattle.bz_tableau.specs.Points.{terms, IsOutside}
use Rattle.bz_tableau.specs.Programs.{program_of}
use Rattle.bz_tableau.specs.declared.answers.Answer.TheVariants.{Least}
use Rattle.bz_tableau.specs.declared.programs.Lp.{Lp}
use Rattle.bz_tableau.specs.declared.answers.Vals.{Vals}

-- each program has one row and one column z
abbrev with_row : ℤ → ℤ → ℤ → Program
with_row term right cost = record { columns = 1; rows = 1; term = λ i j. term; rhs = λ i. right; cost = λ j. cost }

-- the one row of a tableau with one row
one_tableau : (s : Equations) (basis : ℕ → ℕ) (v : ℕ → ℤ) → s.rows ≡ 1 → basis 0 < side s → IsRow s basis 0 v → IsTableau s basis (λ i. v)
one_tableau s basis v e b r = record {
  columns = record { in_range = λ i l. first (λ k. basis k < side s) b i l; different = λ i k l m g. omega (arith, e) };
  rows = λ i l. first (λ k. IsRow s basis k v) r i l;
}
  where
    first : (P : ℕ → Type 0) → P 0 → (i : ℕ) → i < s.rows → P i
    first P p zero l = p
    first P p (suc i) l = absurd (omega (arith, e))

-- ---- minimise -z over 2 z <= 5: the point is 5/2, and once the row and twice the cost are 0 on z
abbrev least : Program
least = with_row (pos 2) (pos 5) (negsuc 0)

abbrev few : Equations
few = rows_of false least

abbrev basis : ℕ → ℕ
basis = place (0 ∷ [])

-- 2 z + slack = 5
least_row : ℕ → ℤ
least_row zero = pos 2
least_row (suc zero) = pos 1
least_row (suc (suc j)) = pos 5

least_is_row : IsRow few basis 0 least_row
unfolding least_row
least_is_row = record {
  combination = record { columns = columns; right = refl };
  primitive = λ d h. eq-one_of_dvd-one (h 1 (omega arith));
  positive = omega (arith, ints);
  cleared = λ k l n. absurd (omega arith);
}
  where
    columns : (j : ℕ) → j < 1 → least_row j ≡ pos 2
    columns zero l = refl
    columns (suc j) l = absurd (omega arith)

-- each row of the basis at its place is that one
only_row : (s : Equations) (basis : ℕ → ℕ) (w : ℕ → ℤ) (e : s.rows ≡ 1) (b : basis 0 < side s) (r : IsRow s basis 0 w) (P : ℕ → (ℕ → ℤ) → Type 0)
    → ((v : ℕ → ℤ) → ((j : ℕ) → j ≤ s.slack + s.rows → w j ≡ v j) → P 0 v) → (i : ℕ) (v : ℕ → ℤ) → i < s.rows → IsRow s basis i v → P i v
only_row s basis w e b r P h zero v l q = h v (λ j m. row_unique s basis (λ i. w) v 0 (one_tableau s basis w e b r) l q j m)
only_row s basis w e b r P h (suc i) v l q = absurd (omega (arith, e))

first_only : (P : ℕ → Type 0) → P 0 → (i : ℕ) → i < 1 → P i
first_only P p zero l = p
first_only P p (suc i) l = absurd (omega arith)

abbrev least_point : Vals
least_point = record { num = pos 5 ∷ []; den = pos 2; den_positive = omega (arith, ints) }

abbrev least_multipliers : Vals
least_multipliers = record { num = pos 1 ∷ []; den = pos 2; den_positive = omega (arith, ints) }

least_is : IsLeast false least (0 ∷ []) least_point least_multipliers
unfolding least_row
least_is = record {
  is_basis = record { count = refl; is_basis = tableau_basis few basis (λ i. least_row) (one_tableau few basis least_row refl (omega arith) least_is_row) };
  numbers = refl;
  point = record {
    denominator = record {
      positive = omega (arith, ints);
      multiple = λ i v l m r. only (λ i v. unsigned_abs (v (basis i)) ∣ 2) (λ v e. subst (λ (x : ℤ). unsigned_abs x ∣ 2) (e 0 (omega arith)) (dvd_refl 2)) i v l r;
      least = λ d h. h 0 least_row (omega arith) (omega arith) least_is_row;
    };
    outside = first_only (λ j. IsOutside few basis j → entry (pos 5 ∷ []) j ≡ pos 0) (λ o. absurd (o 0 (omega arith) refl));
    basic = λ i v l m r. only (λ i v. entry (pos 5 ∷ []) (basis i) *ℤ v (basis i) ≡ pos 2 *ℤ v 2) (λ v e. rw (← (e 0 (omega arith)), ← (e 2 (omega arith))) refl) i v l r;
  };
  meets = record { rows_hold = λ i l. omega (arith, ints); nonnegative = first_only (λ j. (pos 0) ≤ℤ (entry (pos 5 ∷ []) j)) (omega (arith, ints)) };
  multipliers = refl;
  objective = record {
    positive = omega (arith, ints);
    primitive = λ g h k. eq-one_of_dvd-one (k 0 (omega arith));
    columns = λ k l m. first_only (λ k. upto 1 (λ i. entry (pos 1 ∷ []) i *ℤ pos 2) +ℤ (pos 2 *ℤ negsuc 0) ≡ pos 0) refl k l;
    slacks = λ k i l m e. first_only (λ k. place (0 ∷ []) k ≡ 1 + i → entry (pos 1 ∷ []) i ≡ pos 0) (λ e. absurd (omega arith)) k l e;
  };
  bounds = record { multipliers = first_only (λ i. (pos 0) ≤ℤ (entry (pos 1 ∷ []) i)) (omega (arith, ints)); columns = λ j l. omega (arith, ints) };
  same_cost = refl;
}
  where
    only : (P : ℕ → (ℕ → ℤ) → Type 0) → ((v : ℕ → ℤ) → ((j : ℕ) → j ≤ 2 → least_row j ≡ v j) → P 0 v) → (i : ℕ) (v : ℕ → ℤ) → i < 1 → IsRow few basis i v → P i v
    only = only_row few basis least_row refl (omega arith) least_is_row

-- ---- z <= -1 has no point: in the relaxed program s is at least 1, and the row alone shows it
abbrev empty : Program
empty = with_row (pos 1) (negsuc 0) (pos 0)

-- s - z - slack = 1
empty_row : ℕ → ℤ
empty_row zero = negsuc 0
empty_row (suc zero) = pos 1
empty_row (suc (suc zero)) = negsuc 0
empty_row (suc (suc (suc j))) = pos 1

empty_is_row : IsRow (rows_of true empty) (place (1 ∷ [])) 0 empty_row
unfolding empty_row
empty_is_row = record {
  combination = record { columns = columns; right = refl };
  primitive = λ d h. eq-one_of_dvd-one (h 1 (omega arith));
  positive = omega (arith, ints);
  cleared = λ k l n. absurd (omega arith);
}
  where
    columns : (j : ℕ) → j < 2 → empty_row j ≡ upto 1 (λ i. negsuc 0 *ℤ row_entry true empty i j)
    columns zero l = refl
    columns (suc zero) l = refl
    columns (suc (suc j)) l = absurd (omega arith)

empty_is : IsEmpty empty (1 ∷ []) (pos 1 ∷ [])
empty_is = record {
  is_basis = record {
    count = refl;
    is_basis = tableau_basis (rows_of true empty) (place (1 ∷ [])) (λ i. empty_row) (one_tableau (rows_of true empty) (place (1 ∷ [])) empty_row refl (omega arith) empty_is_row);
  };
  multipliers = refl;
  den = pos 1;
  objective = record {
    positive = omega (arith, ints);
    primitive = λ g h k. eq-one_of_dvd-one h;
    columns = λ k l m. first_only (λ k. upto 1 (λ i. entry (pos 1 ∷ []) i *ℤ row_entry true empty i (place (1 ∷ []) k)) +ℤ (pos 1 *ℤ objective_entry true empty (place (1 ∷ []) k)) ≡ pos 0) refl k l;
    slacks = λ k i l m e. first_only (λ k. place (1 ∷ []) k ≡ 2 + i → entry (pos 1 ∷ []) i ≡ pos 0) (λ e. absurd (omega (arith, e))) k l e;
  };
  nonnegative = first_only (λ i. (pos 0) ≤ℤ (entry (pos 1 ∷ []) i)) (omega (arith, ints));
  columns = λ j l. omega (arith, ints);
  right = omega (arith, ints);
}

-- ---- the same row, relaxed: s is at least 1, and 1 at z = 0
abbrev needs_s : Lp
needs_s = record { columns = 1; rows = record { terms = (0, pos 1) ∷ []; rhs = negsuc 0; rhs_narrow = omega arith } ∷ []; cost = [] }

abbrev with_s : Equations
with_s = rows_of true (program_of needs_s)

two_only : (P : ℕ → Type 0) → P 0 → P 1 → (j : ℕ) → j < 2 → P j
two_only P p q zero l = p
two_only P p q (suc zero) l = q
two_only P p q (suc (suc j)) l = absurd (omega arith)

s_is_row : IsRow with_s (place (1 ∷ [])) 0 empty_row
unfolding empty_row
s_is_row = record {
  combination = record { columns = two_only (λ j. empty_row j ≡ upto 1 (λ i. negsuc 0 *ℤ row_entry true (program_of needs_s) i j)) refl refl; right = refl };
  primitive = λ d h. eq-one_of_dvd-one (h 1 (omega arith));
  positive = omega (arith, ints);
  cleared = λ k l n. absurd (omega arith);
}

abbrev s_point : Vals
s_point = record { num = pos 0 ∷ pos 1 ∷ []; den = pos 1; den_positive = omega (arith, ints) }

abbrev s_multipliers : Vals
s_multipliers = record { num = pos 1 ∷ []; den = pos 1; den_positive = omega (arith, ints) }

s_is_least : IsLeast true (program_of needs_s) (1 ∷ []) s_point s_multipliers
unfolding empty_row
s_is_least = record {
  is_basis = record { count = refl; is_basis = tableau_basis with_s (place (1 ∷ [])) (λ i. empty_row) (one_tableau with_s (place (1 ∷ [])) empty_row refl (omega arith) s_is_row) };
  numbers = refl;
  point = record {
    denominator = record {
      positive = omega (arith, ints);
      multiple = λ i v l m r. only (λ i v. unsigned_abs (v (place (1 ∷ []) i)) ∣ 1) (λ v e. subst (λ (x : ℤ). unsigned_abs x ∣ 1) (e 1 (omega arith)) (dvd_refl 1)) i v l r;
      least = λ d h. one-dvd d;
    };
    outside = two_only (λ j. IsOutside with_s (place (1 ∷ [])) j → entry (pos 0 ∷ pos 1 ∷ []) j ≡ pos 0) (λ o. refl) (λ o. absurd (o 0 (omega arith) refl));
    basic = λ i v l m r. only (λ i v. entry (pos 0 ∷ pos 1 ∷ []) (place (1 ∷ []) i) *ℤ v (place (1 ∷ []) i) ≡ pos 1 *ℤ v 3) (λ v e. rw (← (e 1 (omega arith)), ← (e 3 (omega arith))) refl) i v l r;
  };
  meets = record {
    rows_hold = first_only (λ i. (terms with_s (entry (pos 0 ∷ pos 1 ∷ [])) i) ≤ℤ (with_s.right i *ℤ pos 1)) (omega (arith, ints));
    nonnegative = two_only (λ j. (pos 0) ≤ℤ (entry (pos 0 ∷ pos 1 ∷ []) j)) (omega (arith, ints)) (omega (arith, ints));
  };
  multipliers = refl;
  objective = record {
    positive = omega (arith, ints);
    primitive = λ g h k. eq-one_of_dvd-one h;
    columns = λ k l m. first_only (λ k. column_sum true (program_of needs_s) (entry (pos 1 ∷ [])) (place (1 ∷ []) k) +ℤ (pos 1 *ℤ objective_entry true (program_of needs_s) (place (1 ∷ []) k)) ≡ pos 0) refl k l;
    slacks = λ k i l m e. first_only (λ k. place (1 ∷ []) k ≡ 2 + i → entry (pos 1 ∷ []) i ≡ pos 0) (λ e. absurd (omega (arith, e))) k l e;
  };
  bounds = record {
    multipliers = first_only (λ i. (pos 0) ≤ℤ (entry (pos 1 ∷ []) i)) (omega (arith, ints));
    columns = two_only (λ j. (pos 0) ≤ℤ ((pos 1 *ℤ objective_entry true (program_of needs_s) j) +ℤ column_sum true (program_of needs_s) (entry (pos 1 ∷ [])) j)) (omega (arith, ints)) (omega (arith, ints));
  };
  same_cost = refl;
}
  where
    only : (P : ℕ → (ℕ → ℤ) → Type 0) → ((v : ℕ → ℤ) → ((j : ℕ) → j ≤ 3 → empty_row j ≡ v j) → P 0 v) → (i : ℕ) (v : ℕ → ℤ) → i < 1 → IsRow with_s (place (1 ∷ [])) i v → P i v
    only = only_row with_s (place (1 ∷ [])) empty_row refl (omega arith) s_is_row

-- the basis of the relaxed program, s alone, gives the answer
s_is_given : GivesAnswer true None needs_s (1 ∷ []) (Least (1 ∷ []) s_point s_multipliers)
s_is_given = record { basis_is = refl; column_is = refl; answer = s_is_least }

-- ---- minimise -z over -z <= 0: from the point 0 the cost falls along z
abbrev ray : Program
ray = with_row (negsuc 0) (pos 0) (negsuc 0)

-- slack - z = 0
ray_row : ℕ → ℤ
ray_row zero = negsuc 0
ray_row (suc zero) = pos 1
ray_row (suc (suc j)) = pos 0

ray_is_row : IsRow (rows_of false ray) (place (1 ∷ [])) 0 ray_row
unfolding ray_row
ray_is_row = record {
  combination = record { columns = first_only (λ j. ray_row j ≡ negsuc 0) refl; right = refl };
  primitive = λ d h. eq-one_of_dvd-one (h 1 (omega arith));
  positive = omega (arith, ints);
  cleared = λ k l n. absurd (omega arith);
}

abbrev ray_point : Vals
ray_point = record { num = pos 0 ∷ []; den = pos 1; den_positive = omega (arith, ints) }

ray_is : IsRay ray (1 ∷ []) 0 ray_point (pos 1 ∷ [])
ray_is = record {
  is_basis = record {
    count = refl;
    is_basis = tableau_basis (rows_of false ray) (place (1 ∷ [])) (λ i. ray_row) (one_tableau (rows_of false ray) (place (1 ∷ [])) ray_row refl (omega arith) ray_is_row);
  };
  numbers = refl;
  point = record {
    denominator = record { positive = omega (arith, ints); multiple = λ i v l m r. absurd (outside i l m); least = λ d h. one-dvd d };
    outside = λ j l o. first_only (λ j. entry (pos 0 ∷ []) j ≡ pos 0) refl j l;
    basic = λ i v l m r. absurd (outside i l m);
  };
  meets = record { rows_hold = λ i l. omega (arith, ints); nonnegative = first_only (λ j. (pos 0) ≤ℤ (entry (pos 0 ∷ []) j)) (omega (arith, ints)) };
  moves = refl;
  direction = record {
    inside = omega arith;
    outside = first_only (λ i. place (1 ∷ []) i ≢ 0) (λ e. absurd (omega (arith, e)));
    rises = λ l. omega (arith, ints);
    slack_rises = λ i l e. absurd (omega (arith, e));
    stays = λ j l n o. absurd (omega (arith, n));
    slack_stays = λ i l n o. absurd (o 0 (omega arith) (first_only (λ i. 1 ≡ 1 + i) refl i l));
  };
  falls = record { columns = first_only (λ j. (pos 0) ≤ℤ (entry (pos 1 ∷ []) j)) (omega (arith, ints)); rows = λ i l. omega (arith, ints); cost = omega (arith, ints) };
  primitive = λ g h. eq-one_of_dvd-one (h 0 (omega arith));
}
  where
    outside : (i : ℕ) → i < 1 → place (1 ∷ []) i < 1 → ⊥
    outside = first_only (λ i. place (1 ∷ []) i < 1 → ⊥) (λ l. absurd (omega (arith, l)))
