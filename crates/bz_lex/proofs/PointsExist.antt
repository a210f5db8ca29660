-- Each basis has its point, in numbers without limit.
use Rattle.std.specs.Prelude.{ℕ, ◌/◌, ◌<◌, ◌≤◌, ◌≡◌, ◌⊎◌, ℤ, pos, ◌*ℤ◌, ◌<ℤ◌, List, length, unsigned_abs, cond, ltb, map}
use Rattle.std.specs.Int.{◌∣◌}
use Rattle.std.specs.List.{range_with_len}
use Rattle.std.proofs.Common.{refl, ap, sym, subst, ◌∙◌, arith, inl, inr}
use Rattle.std.proofs.Math.IntN.{*ℤ_comm}
use Rattle.std.proofs.Math.Nat.{one-dvd}
use Rattle.std.proofs.lemmas.Bool.{lt-ltb, le-ltb}
use Rattle.std.proofs.lemmas.Int.{ints}
use Rattle.std.proofs.lemmas.List.FromFn.{get_or-map-range_with_len, length-map-range_with_len}
use Rattle.bz_algebra.specs.Tableaus.{Equations, side, IsTableau}
use Rattle.bz_algebra.proofs.Bounded.{by_lt, choose}
use Rattle.bz_algebra.proofs.Ring.{*ℤ_assoc}
use Rattle.bz_algebra.proofs.Uniqueness.{row_unique}
use Rattle.bz_tableau.specs.Dense.{entry}
use Rattle.bz_tableau.specs.Points.{IsOutside, IsCommonDenominator, IsPoint}
use Rattle.bz_lex.proofs.LeastMultiples.{positive_is, multiple_of, least_exists}
use Rattle.bz_lex.proofs.Wholes.{basic_or_not}

-- the numbers of f below n, as a list
pub listed : ℕ → (ℕ → ℤ) → List ℤ
listed n f = map f (range_with_len 0 n)

pub length_listed : (n : ℕ) (f : ℕ → ℤ) → length (listed n f) ≡ n
unfolding listed
length_listed n f = length-map-range_with_len f 0 n

pub entry_listed : (n : ℕ) (f : ℕ → ℤ) (j : ℕ) → j < n → entry (listed n f) j ≡ f j
unfolding listed
entry_listed n f j b = get_or-map-range_with_len f 0 n j j (pos 0) b (omega arith)

module _ (s : Equations) (basis : ℕ → ℕ) (w : ℕ → ℕ → ℤ) (tableau : IsTableau s basis w) where
  -- ---- the common denominator
  -- the entry of a place's column, 1 where it is a slack
  own : ℕ → ℤ
  own k = cond (ltb (basis k) s.slack) (w k (basis k)) (pos 1)

  own_before : (k : ℕ) → basis k < s.slack → own k ≡ w k (basis k)
  unfolding own
  own_before k b = rw (lt-ltb (basis k) s.slack b)

  own_slack : (k : ℕ) → s.slack ≤ basis k → own k ≡ pos 1
  unfolding own
  own_slack k b = rw (le-ltb (basis k) s.slack b)

  own_positive : (k : ℕ) → k < s.rows → (pos 0) <ℤ (own k)
  own_positive k b = by_lt (basis k) s.slack
      (λ l. subst (λ (x : ℤ). (pos 0) <ℤ x) (sym (own_before k l)) ((tableau.rows k b).positive))
      (λ l. subst (λ (x : ℤ). (pos 0) <ℤ x) (sym (own_slack k l)) (omega (arith, ints)))

  denominator : (den : ℤ) × IsCommonDenominator s basis den
  denominator = let f = least_exists s.rows own own_positive in (
    f.0,
    record {
      positive = f.1.positive;
      multiple = λ i v b l r. subst (λ (x : ℤ). unsigned_abs x ∣ unsigned_abs f.0) (own_before i l ∙ row_unique s basis w v i tableau b r (basis i) (omega (arith, l))) (f.1.multiple i b);
      least = λ d g. f.1.least d (λ k b. by_lt (basis k) s.slack
          (λ l. subst (λ (x : ℤ). unsigned_abs x ∣ d) (sym (own_before k l)) (g k (w k) b l (tableau.rows k b)))
          (λ l. subst (λ (x : ℤ). unsigned_abs x ∣ d) (sym (own_slack k l)) (one-dvd d)));
    },
  )

  -- ---- the point
  module _ (den : ℤ) (common : IsCommonDenominator s basis den) where
    -- the number of a column
    record IsNumber (j : ℕ) (y : ℤ) : Type 0 where
      pub outside : IsOutside s basis j → y ≡ pos 0
      pub basic : (k : ℕ) → k < s.rows → basis k ≡ j → y *ℤ w k (basis k) ≡ den *ℤ w k (side s)

    -- how many times the entry goes into the denominator
    times : (k : ℕ) → k < s.rows → basis k < s.slack → (q : ℤ) × (q *ℤ w k (basis k) ≡ den)
    times k b l = let q = pos (unsigned_abs den / unsigned_abs (w k (basis k))) in (
      q,
      *ℤ_comm q (w k (basis k))
          ∙ sym (multiple_of (w k (basis k)) (unsigned_abs den) ((tableau.rows k b).positive) (common.multiple k (w k) b l (tableau.rows k b)))
          ∙ positive_is den common.positive,
    )

    number_of : (j : ℕ) → j < s.slack → IsOutside s basis j ⊎ ((k : ℕ) × (k < s.rows) × (basis k ≡ j)) → (y : ℤ) × IsNumber j y
    number_of j l (inl o) = (pos 0, record { outside = λ g. refl; basic = λ k b e. absurd (o k b e) })
    number_of j l (inr p) = let q = times p.0 p.1 (omega (arith, l, p.2)) in (
      q.0 *ℤ w p.0 (side s),
      record {
        outside = λ o. absurd (o p.0 p.1 p.2);
        basic = λ k b e. subst (λ (i : ℕ). (q.0 *ℤ w p.0 (side s)) *ℤ w i (basis i) ≡ den *ℤ w i (side s)) (tableau.columns.different p.0 k p.1 b (p.2 ∙ sym e))
            (turned q.0 (w p.0 (side s)) (w p.0 (basis p.0)) ∙ ap (λ (x : ℤ). x *ℤ w p.0 (side s)) q.1);
      },
    )
      where
        turned : (a b c : ℤ) → (a *ℤ b) *ℤ c ≡ (a *ℤ c) *ℤ b
        turned a b c = *ℤ_assoc a b c ∙ ap (λ (x : ℤ). a *ℤ x) (*ℤ_comm b c) ∙ sym (*ℤ_assoc a c b)

    numbers : (y : ℕ → ℤ) × ((j : ℕ) → j < s.slack → IsNumber j (y j))
    numbers = choose s.slack (pos 0) IsNumber (λ j b. number_of j b (basic_or_not s basis w tableau j))

    is_point : IsPoint s basis (entry (listed s.slack numbers.0)) den
    is_point = record {
      denominator = common;
      outside = λ j b o. entry_listed s.slack numbers.0 j b ∙ (numbers.1 j b).outside o;
      basic = λ i v b l r.
          (λ k. entry_listed s.slack numbers.0 (basis i) l k *ℤ sym (row_unique s basis w v i tableau b r (basis i) (omega (arith, l))) k)
          ∙ (numbers.1 (basis i) l).basic i b refl
          ∙ ap (λ (x : ℤ). den *ℤ x) (row_unique s basis w v i tableau b r (side s) (omega arith));
    }

    point : (z : List ℤ) × (length z ≡ s.slack) × IsPoint s basis (entry z) den
    point = (listed s.slack numbers.0, length_listed s.slack numbers.0, is_point)

pub denominator_exists : (s : Equations) (basis : ℕ → ℕ) (w : ℕ → ℕ → ℤ) → IsTableau s basis w → (den : ℤ) × IsCommonDenominator s basis den
denominator_exists s basis w t = denominator s basis w t

pub point_exists : (s : Equations) (basis : ℕ → ℕ) (w : ℕ → ℕ → ℤ) (den : ℤ) → IsTableau s basis w → IsCommonDenominator s basis den → (z : List ℤ) × (length z ≡ s.slack) × IsPoint s basis (entry z) den
point_exists s basis w den t c = point s basis w t den c
