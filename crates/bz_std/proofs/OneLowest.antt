-- Numbers over a positive denominator have exactly one lowest form.
use Rattle.std.specs.Prelude.{ℕ, zero, suc, ◌<◌, ◌≤◌, ◌≡◌, ℤ, pos, ◌*ℤ◌, ◌<ℤ◌, List, [], ◌∷◌, length}
use Rattle.std.specs.Int.{◌∣◌}
use Rattle.std.specs.Int.RustNames.{unsigned_abs}
use Rattle.std.proofs.Common.{refl, ap, sym, subst, ◌∙◌, arith}
use Rattle.std.proofs.lemmas.Int.{ints}
use Rattle.bz_algebra.specs.Tableaus.{Equations, IsPrimitive, side}
use Rattle.bz_algebra.proofs.Bounded.{below_suc, with_last, with_last_at, with_last_before}
use Rattle.bz_algebra.proofs.Divisors.{PrimitivePart, primitive_equal, primitive_part}
use Rattle.bz_algebra.proofs.Ring.{cancel_lt_right, zero_mul}
use Rattle.bz_model.specs.Points.{coordinate}
use Rattle.bz_model.proofs.Numbered.{coordinate-list_of, length-list_of, list_of}
use Rattle.bz_std.specs.LowestForms.{IsLowestOf}

-- lists of the same numbers
same_list : (xs ys : List ℤ) → length xs ≡ length ys → ((j : ℕ) → j < length xs → coordinate xs j ≡ coordinate ys j) → xs ≡ ys
same_list [] [] e h = refl
same_list [] (y ∷ ys) e h = absurd (omega (arith, e))
same_list (x ∷ xs) [] e h = absurd (omega (arith, e))
same_list (x ∷ xs) (y ∷ ys) e h = let rest : xs ≡ ys = same_list xs ys (omega (arith, e)) (λ j l. h (suc j) (omega arith)) in λ i. h zero (omega arith) i ∷ rest i

module _ (n : ℕ) where
  -- n numbers and the denominator behind them
  abbrev places : Equations
  places = record { rows = 0; slack = n; entry = λ i j. pos 0; right = λ i. pos 0 }

  each_place : (P : ℕ → Type 0) → ((j : ℕ) → j < n → P j) → P n → (j : ℕ) → j ≤ side places → P j
  each_place P h k j l = below_suc n P h k j (omega arith)

  module _ (den : ℤ) (f : ℕ → ℤ) where
    -- ---- at most one
    module _ (low : ℤ) (values : List ℤ) (l : IsLowestOf n den f low values) where
      abbrev vector : ℕ → ℤ
      vector = with_last n (coordinate values) low

      primitive : IsPrimitive places vector
      primitive d h = l.lowest d
          (subst (λ (z : ℤ). d ∣ unsigned_abs z) (with_last_at n (coordinate values) low) (h n (omega arith)))
          (λ j b. subst (λ (z : ℤ). d ∣ unsigned_abs z) (with_last_before n (coordinate values) low j b) (h j (omega arith)))

      multiple : (j : ℕ) → j ≤ side places → l.times *ℤ vector j ≡ with_last n f den j
      multiple = each_place (λ j. l.times *ℤ vector j ≡ with_last n f den j)
          (λ j b. ap (λ (z : ℤ). l.times *ℤ z) (with_last_before n (coordinate values) low j b) ∙ l.values_are j b ∙ sym (with_last_before n f den j b))
          (ap (λ (z : ℤ). l.times *ℤ z) (with_last_at n (coordinate values) low) ∙ l.den_is ∙ sym (with_last_at n f den))

    pub one_lowest : (low other : ℤ) (values others : List ℤ) → IsLowestOf n den f low values → IsLowestOf n den f other others → (low ≡ other) × (values ≡ others)
    one_lowest low other values others l k = (
      sym (with_last_at n (coordinate values) low) ∙ same n (omega arith) ∙ with_last_at n (coordinate others) other,
      same_list values others (l.count ∙ sym k.count) (λ j b. let u : j < n = omega (arith, l.count) in sym (with_last_before n (coordinate values) low j u) ∙ same j (omega arith) ∙ with_last_before n (coordinate others) other j u),
    )
      where
        same : (j : ℕ) → j ≤ side places → vector low values l j ≡ vector other others k j
        same = primitive_equal places (vector low values l) (vector other others k) l.times k.times (primitive low values l) (primitive other others k) l.positive k.positive
            (λ j b. multiple low values l j b ∙ sym (multiple other others k j b))

    -- ---- and one
    pub has_lowest : (pos 0) <ℤ den → (low : ℤ) × (values : List ℤ) × IsLowestOf n den f low values
    has_lowest h = (
      p.vector n,
      list_of n p.vector,
      record {
        count = length-list_of n p.vector;
        times = p.times;
        positive = cancel_lt_right (pos 0) p.times (p.vector n) (omega (arith, ints, p.positive)) (omega (arith, ints, h, at_den, zero_mul (p.vector n)));
        den_is = at_den;
        values_are = λ j b. ap (λ (z : ℤ). p.times *ℤ z) (coordinate-list_of n p.vector j b) ∙ p.multiple j (omega arith) ∙ with_last_before n f den j b;
        lowest = λ d a b. p.primitive d (each_place (λ j. d ∣ unsigned_abs (p.vector j)) (λ j u. subst (λ (z : ℤ). d ∣ unsigned_abs z) (coordinate-list_of n p.vector j u) (b j u)) a);
      },
    )
      where
        p : PrimitivePart places (with_last n f den) n
        p = primitive_part places (with_last n f den) n (omega arith) (λ e. omega (arith, ints, h, sym (with_last_at n f den) ∙ e))

        at_den : p.times *ℤ p.vector n ≡ den
        at_den = p.multiple n (omega arith) ∙ with_last_at n f den
