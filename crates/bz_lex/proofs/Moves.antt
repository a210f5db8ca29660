-- Directions made of the values of basic columns.
use Rattle.std.specs.Prelude.{ℕ, ◌<◌, ◌≤◌, ◌≡◌, ◌≢◌, ℤ, pos, ◌-ℤ◌, ◌*ℤ◌, neg_ℤ, ◌≤ℤ◌, ◌<ℤ◌, List, length, unsigned_abs}
use Rattle.std.specs.Int.{◌∣◌}
use Rattle.std.proofs.Common.{refl, ap, sym, subst, ◌∙◌, arith, inl, inr}
use Rattle.std.proofs.Math.Nat.{eq-zero_of_zero-dvd}
use Rattle.std.proofs.lemmas.Int.{ints}
use Rattle.bz_algebra.proofs.Bounded.{by_order}
use Rattle.bz_algebra.proofs.Ring.{*ℤ_assoc, mul_neg, one_mul, positive-ne, le_antisym}
use Rattle.bz_num.proofs.DenseRows.{quotients_primitive}
use Rattle.bz_num.proofs.Quotients.{zero_from_size}
use Rattle.bz_tableau.specs.Dense.{entry, IsDivisorOf, IsDivided}
use Rattle.bz_tableau.specs.Laws.{place}
use Rattle.bz_tableau.specs.Tables.{Table, shown, factor_column}
use Rattle.bz_lex.specs.Shown.{IsOrderOf, IsShownBasis, IsShownOrder, own_entry, IsOver, IsWideOver, AreValuesTo, IsFirstWideOver, IsNarrowLeast, IsPrimitivePart, IsShownDirection, IsShownMove, GoesWideAtRay}
use Rattle.bz_lex.proofs.BasicValues.{not_both}

pub part_divided : (d : ℤ) (old new : List ℤ) → (pos 0) <ℤ d → IsDivisorOf (unsigned_abs d) old → IsDivided d old new → IsPrimitivePart old new
part_divided d old new h g i = inr (d, h, i, quotients_primitive d old new (positive-ne d h) g i)

pub part_zero : (d : ℤ) (old : List ℤ) → (pos 0) ≤ℤ d → d ≤ℤ (pos 0) → IsDivisorOf (unsigned_abs d) old → IsPrimitivePart old old
part_zero d old h l g = inl (refl, λ j b. zero_from_size (entry old j) (eq-zero_of_zero-dvd (subst (λ (k : ℤ). unsigned_abs k ∣ unsigned_abs (entry old j)) (le_antisym d (pos 0) l h) (g.divides j b))))

pub minus : (d : ℤ) → pos 0 -ℤ d ≡ neg_ℤ d
minus d = omega (arith, ints)

-- ---- orders
pub order_of : (t : Table) (order : List ℕ) → IsShownOrder t order → IsShownBasis t → IsOrderOf t order
order_of t order h b = record {
  inside = h.inside;
  before_slacks = h.before_slacks;
  different = λ k l i j e. by_order k l (λ m. absurd (omega (arith, h.rising k l m j, e))) (λ m. m) (λ m. absurd (omega (arith, h.rising l k m i, e)));
  positive = λ k l. b.positive (place order k) (h.inside k l);
}

-- ---- the direction
over_is : (den e r x : ℤ) → IsOver (neg_ℤ den) e r x → x *ℤ e ≡ neg_ℤ (r *ℤ den)
over_is den e r x h = ap (λ (y : ℤ). y *ℤ e) h.value_is ∙ *ℤ_assoc r h.times e ∙ ap (λ (y : ℤ). r *ℤ y) h.times_is ∙ mul_neg r den

pub none_wide : (n : ℕ) (t : Table) (order : List ℕ) (den : ℤ) (column : ℕ) (values : List ℤ) → IsOrderOf t order → AreValuesTo n t order den column values → n ≤ length order → (k : ℕ) → k < n → IsWideOver den (own_entry t order k) (shown t (place order k) column) → ⊥
none_wide n t order den column values o h l k b w = not_both den (own_entry t order k) (shown t (place order k) column) _ (o.positive k (omega arith)) (h.basic k b) w

module _ (t : Table) (order : List ℕ) (den : ℤ) (column : ℕ) (moves raised d : List ℤ) (o : IsOrderOf t order) (h : AreValuesTo (length order) t order (neg_ℤ den) column moves) (width : length raised ≡ t.slack) (own : column < t.slack → entry raised column ≡ den) (other : (j : ℕ) → j ≢ column → entry raised j ≡ entry moves j) where
  direction_of : (times : ℤ) → length d ≡ length raised → ((j : ℕ) → j < length raised → entry raised j ≡ times *ℤ entry d j) → IsShownDirection t order den column times d
  direction_of times l e = record {
    width = l ∙ width;
    basic = λ k b n. ap (λ (y : ℤ). y *ℤ own_entry t order k) (sym (e (place t.basis (place order k)) (omega (arith, width, o.before_slacks k b))) ∙ other (place t.basis (place order k)) n)
        ∙ over_is den (own_entry t order k) (shown t (place order k) column) _ (h.basic k b);
    own = λ b. sym (e column (omega (arith, width))) ∙ own b;
    other = λ j b n f. sym (e j (omega (arith, width))) ∙ other j n ∙ h.other j f;
  }

  pub move_of : IsPrimitivePart raised d → length d ≡ length raised → IsShownMove t order den column d
  move_of (inl z) l = record {
    times = pos 1;
    times_positive = omega (arith, ints);
    direction = direction_of (pos 1) l (λ j b. ap (λ (x : List ℤ). entry x j) (sym z.0) ∙ sym (one_mul (entry d j)));
    primitive = inl (λ j b. ap (λ (x : List ℤ). entry x j) z.0 ∙ z.1 j (omega (arith, l)));
    narrow = none_wide (length order) t order (neg_ℤ den) column moves o h (omega arith);
  }
  move_of (inr q) l = record {
    times = q.0;
    times_positive = q.1;
    direction = direction_of q.0 l q.2.numbers;
    primitive = inr q.3;
    narrow = none_wide (length order) t order (neg_ℤ den) column moves o h (omega arith);
  }

-- ---- where a ray goes wide
module _ (t : Table) (order : List ℕ) (den : ℤ) (column : ℕ) (is_order : IsShownOrder t order) (b : IsShownBasis t) (narrow : IsNarrowLeast (length order) (own_entry t order) den) where
  pub wide_move : (k : ℕ) (values : List ℤ) → AreValuesTo (length order) t order den (factor_column t) values → IsFirstWideOver (length order) t order (neg_ℤ den) column k → GoesWideAtRay t column k
  wide_move k values h w = record {
    order = order;
    is_order = is_order;
    wide = inr (
      den,
      narrow,
      record {
        inside = w.inside;
        here = inr w.here;
        first_value = λ l m. none_wide (length order) t order den (factor_column t) values (order_of t order is_order b) h (omega arith) l (omega (arith, w.inside));
        first_move = w.first;
      },
    );
  }

  pub wide_value : (k : ℕ) (d : List ℤ) → IsFirstWideOver (length order) t order den (factor_column t) k → IsShownMove t order den column d → GoesWideAtRay t column k
  wide_value k d w h = record {
    order = order;
    is_order = is_order;
    wide = inr (
      den,
      narrow,
      record {
        inside = w.inside;
        here = inl w.here;
        first_value = w.first;
        first_move = λ l m. h.narrow l (omega (arith, w.inside));
      },
    );
  }

  pub wide_first : (k l : ℕ) → k ≤ l → IsFirstWideOver (length order) t order den (factor_column t) k → IsFirstWideOver (length order) t order (neg_ℤ den) column l → GoesWideAtRay t column k
  wide_first k l c w v = record {
    order = order;
    is_order = is_order;
    wide = inr (
      den,
      narrow,
      record {
        inside = w.inside;
        here = inl w.here;
        first_value = w.first;
        first_move = λ m i. v.first m (omega arith);
      },
    );
  }

  pub wide_second : (k l : ℕ) → l ≤ k → IsFirstWideOver (length order) t order den (factor_column t) k → IsFirstWideOver (length order) t order (neg_ℤ den) column l → GoesWideAtRay t column l
  wide_second k l c w v = record {
    order = order;
    is_order = is_order;
    wide = inr (
      den,
      narrow,
      record {
        inside = v.inside;
        here = inr v.here;
        first_value = λ m i. w.first m (omega arith);
        first_move = v.first;
      },
    );
  }
