-- The two ends of a posed program's cost, and of a block's.
use Rattle.std.specs.Prelude.{ℕ, ◌<◌, ◌≡◌, ℤ, pos, ◌+ℤ◌, ◌*ℤ◌, neg_ℤ, ◌≤ℤ◌, ◌<ℤ◌, ◌⊎◌, List, length}
use Rattle.std.proofs.Common.{refl, sym, ◌∙◌, arith, inl, inr}
use Rattle.std.proofs.lemmas.Int.{ints}
use Rattle.std.proofs.lemmas.List.{length-map}
use Rattle.bz_algebra.specs.Sums.{dot, coef, upto}
use Rattle.bz_algebra.proofs.Ring.{mul_zero}
use Rattle.bz_algebra.proofs.SumLemmas.{dot_all, dot_zero, upto_zeros}
use Rattle.bz_farkas.specs.Falls.{IsFall}
use Rattle.bz_farkas.proofs.Farkas as dense
use Rattle.bz_model.specs.declared.Ineq.{Ineq}
use Rattle.bz_model.specs.declared.Model.{Model}
use Rattle.bz_model.specs.Decomposed.{IsDecomposed}
use Rattle.bz_model.specs.Parting.{inequalities_of}
use Rattle.bz_model.proofs.MeetingParts.{all_of}
use Rattle.bz_model.proofs.Numbered.{all_mapped}
use Rattle.bz_cut.specs.Rows.{own_at}
use Rattle.bz_std.specs.Floored.{CostFalls, CostIsBalanced}
use Rattle.bz_std.specs.Meanings.{terms_at, sum_on, sum_right, AreNonnegative, IsEmptyBy, IsFallAlong, IsPossible}
use Rattle.bz_std.specs.Posed.{IsPosed, Posed}
use Rattle.bz_std.specs.Tasks.{falling_line, floor}
use Rattle.bz_std.proofs.Lines.{all_lines, each_line, line_below}
use Rattle.bz_std.proofs.PosedTasks.{floor_posed}
use Rattle.bz_std.proofs.RowSums.{made_sum}

-- ---- of any posed program
module _ (q : Posed) (h : IsPosed q) where
  abbrev term : ℕ → ℕ → ℤ
  term i = coef (terms_at q.rows i)

  falls_along : (d : ℕ → ℤ) → IsFall q.variables (length q.rows) term (coef q.cost) d → IsFallAlong q d
  falls_along d f = record {
    rows = all_lines (λ terms rhs. (dot terms d) ≤ℤ (pos 0)) q.rows (λ i b. rw (dot_all q.variables (terms_at q.rows i) d (line_below q h i b)) (f.rows_hold i b));
    cost = rw (dot_all q.variables q.cost d h.cost) f.cost_falls;
  }

  along_falls : (d : ℕ → ℤ) → IsFallAlong q d → IsFall q.variables (length q.rows) term (coef q.cost) d
  along_falls d f = record {
    rows_hold = λ i b. rw (← dot_all q.variables (terms_at q.rows i) d (line_below q h i b)) (each_line (λ terms rhs. (dot terms d) ≤ℤ (pos 0)) q.rows f.rows i b);
    cost_falls = rw (← dot_all q.variables q.cost d h.cost) f.cost;
  }

  -- the rows times y leave -by times the cost
  record Balances (y : ℕ → ℤ) (by : ℤ) : Type 0 where
    multipliers : AreNonnegative q y
    positive : (pos 0) <ℤ by
    balanced : (j : ℕ) → j < q.variables → sum_on q y j ≡ neg_ℤ (by *ℤ coef q.cost j)

  fall_or_balance : ((d : ℕ → ℤ) × IsFallAlong q d) ⊎ ((y : ℕ → ℤ) × (by : ℤ) × Balances y by)
  fall_or_balance = elim (dense.fall_or_balance q.variables (length q.rows) term (coef q.cost)) [
    | inl f ↦ inl (f.0, falls_along f.0 f.1)
    | inr b ↦ inr (b.0, b.1, record { multipliers = b.2.multipliers; positive = b.2.positive; balanced = λ j l. omega (arith, ints, b.2.balanced j l) })
  ]

  not_both : (d : ℕ → ℤ) → IsFallAlong q d → (y : ℕ → ℤ) (by : ℤ) → Balances y by → ⊥
  not_both d f y by b = dense.not_both q.variables (length q.rows) term (coef q.cost) (d, along_falls d f)
      (y, by, record { multipliers = b.multipliers; positive = b.positive; balanced = λ j l. omega (arith, ints, b.balanced j l) })

-- ---- of a floor
module _ (m : Model) (part : List ℕ) (b : ℕ) where
  abbrev of_block : List Ineq
  of_block = inequalities_of m part b

  own_sum : (y : ℕ → ℤ) (j : ℕ) → sum_on (floor m part b) y j ≡ upto (length of_block) (λ n. y n *ℤ coef (own_at of_block n) j)
  own_sum y j = made_sum falling_line of_block y (λ terms rhs. coef terms j) (λ own master rhs. coef own j) (λ i. refl)

  pub floor_falls_or_balances : IsDecomposed m part → CostFalls m part b ⊎ CostIsBalanced m part b
  floor_falls_or_balances d = elim (fall_or_balance (floor m part b) (floor_posed m part d b)) [
    | inl f ↦ inl f
    | inr r ↦ inr (
      r.0,
      r.1,
      r.2.positive,
      record {
        multipliers = λ n l. r.2.multipliers n (omega (arith, length-map of_block falling_line));
        nonnegative = omega (arith, ints, r.2.positive);
        own = λ i l. sym (own_sum r.0 i) ∙ r.2.balanced i l;
      },
    )
  ]

  pub floor_not_both : IsDecomposed m part → CostFalls m part b → CostIsBalanced m part b → ⊥
  floor_not_both d f r = not_both (floor m part b) (floor_posed m part d b) f.0 f.1 r.0 r.1 (record {
    multipliers = λ n l. r.3.multipliers n (omega (arith, length-map of_block falling_line));
    positive = r.2;
    balanced = λ j l. own_sum r.0 j ∙ r.3.own j l;
  })

  -- its right sides are all 0
  pub floor_never_empty : (y : ℕ → ℤ) → IsEmptyBy (floor m part b) y → ⊥
  floor_never_empty y e =
      let none : sum_right (floor m part b) y ≡ pos 0 = made_sum falling_line of_block y (λ terms rhs. rhs) (λ own master rhs. pos 0) (λ i. refl) ∙ upto_zeros (length of_block) _ (λ n l. mul_zero (y n)) in
      omega (arith, ints, e.right, none)

  -- along no direction at all nothing rises
  pub floor_possible : IsPossible (floor m part b)
  floor_possible = record {
    v = λ j. pos 0;
    den = pos 1;
    positive = omega (arith, ints);
    meets = all_mapped (λ row. (dot row.terms (λ j. pos 0)) ≤ℤ ((row.rhs *ℤ pos 1) +ℤ (pos 0))) falling_line of_block
        (all_of _ of_block (λ i. rw (dot_zero i.own) (omega (arith, ints))));
  }
