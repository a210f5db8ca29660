-- Numbers divided by their greatest common divisor, and what a direction of a floor keeps.
use Rattle.std.specs.Prelude.{ℕ, ◌*◌, ◌≡◌, ℤ, pos, ◌*ℤ◌, ◌≤ℤ◌, List, length, unsigned_abs}
use Rattle.std.specs.Int.{◌∣◌}
use Rattle.std.proofs.Common.{sym, ap, subst, ◌∙◌, arith}
use Rattle.std.proofs.Math.Nat.{dvd_of_mul-dvd-mul_left, mul-dvd-mul_left}
use Rattle.std.proofs.lemmas.Int.{ints, unsigned_abs-mul}
use Rattle.bz_algebra.specs.Sums.{AllBelow, dot}
use Rattle.bz_algebra.proofs.Ring.{cancel_le_left, cancel_lt_left, mul_zero, positive-ne}
use Rattle.bz_algebra.proofs.SumLemmas.{dot_same_below, dot_scale, dot_zero}
use Rattle.bz_num.proofs.Quotients.{nonzero_size}
use Rattle.bz_num.specs.Dense.{DividesRow, IsDivisorOf, entry}
use Rattle.bz_model.specs.declared.Model.{Model}
use Rattle.bz_model.specs.Decomposed.{IsDecomposed}
use Rattle.bz_model.specs.Parting.{width_of}
use Rattle.bz_model.proofs.MeetingParts.{all_both}
use Rattle.bz_std.specs.LowestForms.{IsLowestOf}
use Rattle.bz_std.specs.Making.{HasSome}
use Rattle.bz_std.specs.Meanings.{IsFallAlong}
use Rattle.bz_std.specs.NumberLists.{HasNumbers}
use Rattle.bz_std.specs.Posed.{IsPosed}
use Rattle.bz_std.specs.Tasks.{floor}
use Rattle.bz_std.proofs.PosedTasks.{floor_posed}
use Rattle.bz_event.specs.Stops.{IsPrimitiveOf}
use Rattle.bz_floor.specs.Outcomes.{IsMoving}

-- ---- the division
-- numbers in lowest form over their own divisor have no other one
pub primitive_is : (g low : ℤ) (numbers new : List ℤ) → IsDivisorOf (unsigned_abs g) numbers → IsLowestOf (length numbers) g (entry numbers) low new → IsPrimitiveOf (length numbers) (entry numbers) new
primitive_is g low numbers new divisor l = record {
  count = l.count;
  times = l.times;
  positive = l.positive;
  numbers = l.values_are;
  primitive = λ k h. l.lowest k (of_low k h) (λ j i. h j (omega (arith, l.count)));
}
  where
    grown : (k : ℕ) → DividesRow k new → DividesRow (unsigned_abs l.times * k) numbers
    grown k h j i = subst (λ (m : ℕ). (unsigned_abs l.times * k) ∣ m) (sym (unsigned_abs-mul l.times (entry new j)) ∙ ap unsigned_abs (l.values_are j i)) (mul-dvd-mul_left k (unsigned_abs l.times) (h j (omega (arith, l.count))))

    of_low : (k : ℕ) → DividesRow k new → k ∣ unsigned_abs low
    of_low k h = dvd_of_mul-dvd-mul_left k (nonzero_size l.times (positive-ne l.times l.positive))
        (subst (λ (m : ℕ). (unsigned_abs l.times * k) ∣ m) (ap unsigned_abs (sym l.den_is) ∙ unsigned_abs-mul l.times low) (divisor.greatest (unsigned_abs l.times * k) (grown k h)))

-- ---- numbers of a direction
pub some_moves : (n : ℕ) (f : ℕ → ℤ) (values : List ℤ) → HasNumbers n f values → IsMoving n f → HasSome values
some_moves n f values h m zeros = m (λ j l. sym (h.numbers j l) ∙ zeros j (omega (arith, h.width)))

pub primitive_of : (n : ℕ) (f : ℕ → ℤ) (values d : List ℤ) → HasNumbers n f values → IsPrimitiveOf (length values) (entry values) d → IsPrimitiveOf n f d
primitive_of n f values d h p = record {
  count = p.count ∙ h.width;
  times = p.times;
  positive = p.positive;
  numbers = λ j l. p.numbers j (omega (arith, h.width)) ∙ h.numbers j l;
  primitive = p.primitive;
}

module _ (m : Model) (part : List ℕ) (d : IsDecomposed m part) (b : ℕ) where
  posed : IsPosed (floor m part b)
  posed = floor_posed m part d b

  -- where the cost falls, something moves
  pub falls_move : (f : ℕ → ℤ) → IsFallAlong (floor m part b) f → IsMoving (width_of part b) f
  falls_move f h zeros = omega (arith, ints, h.cost, dot_same_below (width_of part b) (floor m part b).cost f (λ j. pos 0) posed.cost zeros, dot_zero (floor m part b).cost)

  module _ (f : ℕ → ℤ) (values : List ℤ) (p : IsPrimitiveOf (width_of part b) f values) where
    sum_is : (es : List (ℕ × ℤ)) → AllBelow (width_of part b) es → dot es f ≡ p.times *ℤ dot es (entry values)
    sum_is es below = dot_same_below (width_of part b) es f (λ j. p.times *ℤ entry values j) below (λ j l. sym (p.numbers j l)) ∙ dot_scale es p.times (entry values)

    -- the divided direction falls too
    pub falls_divided : IsFallAlong (floor m part b) f → IsFallAlong (floor m part b) (entry values)
    falls_divided h = record {
      rows = all_both _ _ (λ row. (dot row.terms (entry values)) ≤ℤ (pos 0)) (floor m part b).rows posed.rows h.rows
          (λ row below k. cancel_le_left p.times (dot row.terms (entry values)) (pos 0) p.positive (omega (arith, ints, k, sum_is row.terms below, mul_zero p.times)));
      cost = cancel_lt_left p.times (dot (floor m part b).cost (entry values)) (pos 0) (omega (arith, ints, p.positive)) (omega (arith, ints, h.cost, sum_is (floor m part b).cost posed.cost, mul_zero p.times));
    }
