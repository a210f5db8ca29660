-- Directions along which the cost falls freely, and the signs of a column that say so.
use Rattle.std.specs.Prelude.{ℕ, ◌+◌, ◌-◌, ◌<◌, ◌≡◌, ◌≢◌, ◌⊎◌, ℤ, pos, ◌+ℤ◌, ◌-ℤ◌, ◌*ℤ◌, neg_ℤ, ◌≤ℤ◌, ◌<ℤ◌, unsigned_abs, List, length, take, drop, ◌++◌, false}
use Rattle.std.proofs.Common.{refl, ap, sym, subst, ◌∙◌, arith, inl, inr}
use Rattle.std.proofs.Math.Seq.{take-length}
use Rattle.std.proofs.lemmas.Bool.{cases_eq}
use Rattle.std.proofs.lemmas.List.{take-append-le}
use Rattle.std.proofs.lemmas.Int.{ints}
use Rattle.std.proofs.Math.IntN.{*ℤ_comm}
use Rattle.bz_algebra.specs.Sums.{upto}
use Rattle.bz_algebra.specs.Tableaus.{Equations, side, Program, IsTableau, rows_of, equations_of, factor, with_factor}
use Rattle.bz_algebra.proofs.Bounded.{by_lt, choose}
use Rattle.bz_algebra.proofs.Ring.{*ℤ_assoc, mul_left, mul_zero, zero_mul, neg_mul, mul_positive, mul_nonnegative, positive-ne, cancel_le_right, cancel_le_left, cancel_lt_left, other_zero}
use Rattle.bz_algebra.proofs.SumLemmas.{upto_same, upto_scale}
use Rattle.bz_lex.proofs.PointSigns.{last_basic, last_positive, objective_sum, objective_at}
use Rattle.bz_lex.proofs.Wholes.{IsWhole, only_at, only_here, only_off, extended, extended_before, extended_slack, extended_meets, whole_meets, basic_or_not, balance, upto_two, total_of, total_positive, total_times}
use Rattle.bz_tableau.specs.Points.{IsOutside, terms, IsDirection, FallsFreely, MakesRay}

-- the objective row is negative in the column, and no row of the basis is positive there
pub record AreRaySigns (p : Program) (v : ℕ → ℕ → ℤ) (last : ℕ → ℤ) (c : ℕ) : Type 0 where
  pub inside : c < side (rows_of false p)
  pub falls : (last c) <ℤ (pos 0)
  pub free : (k : ℕ) → k < p.rows → (v k c) ≤ℤ (pos 0)

negative : (g x : ℤ) → (pos 0) <ℤ g → (g *ℤ x) <ℤ (pos 0) → x <ℤ (pos 0)
negative g x h l = cancel_lt_left g x (pos 0) (omega (arith, ints)) (omega (arith, ints, mul_zero g))

positive_factor : (g x : ℤ) → (pos 0) <ℤ g → (pos 0) <ℤ (g *ℤ x) → (pos 0) <ℤ x
positive_factor g x h l = cancel_lt_left g (pos 0) x (omega (arith, ints)) (omega (arith, ints, mul_zero g))

nonnegative_factor : (g x : ℤ) → (pos 0) <ℤ g → (pos 0) ≤ℤ (g *ℤ x) → (pos 0) ≤ℤ x
nonnegative_factor g x h l = cancel_le_left g (pos 0) x h (omega (arith, ints, mul_zero g))

nonpositive_factor : (g x : ℤ) → (pos 0) <ℤ g → (g *ℤ x) ≤ℤ (pos 0) → x ≤ℤ (pos 0)
nonpositive_factor g x h l = cancel_le_left g x (pos 0) h (omega (arith, ints, mul_zero g))

-- ---- a smaller direction
-- f is g times as long as d before the slacks
module _ (s : Equations) (f d : ℕ → ℤ) (g : ℤ) (h : (pos 0) <ℤ g) (same : (j : ℕ) → j < s.slack → f j ≡ g *ℤ d j) where
  shorter_sum : (e : ℕ → ℤ) → upto s.slack (λ j. e j *ℤ f j) ≡ g *ℤ upto s.slack (λ j. e j *ℤ d j)
  shorter_sum e = upto_same s.slack _ _ (λ j b. ap (λ (x : ℤ). e j *ℤ x) (same j b) ∙ mul_left (e j) g (d j)) ∙ upto_scale s.slack g (λ j. e j *ℤ d j)

  pub shorter_direction : (basis : ℕ → ℕ) (c : ℕ) → IsDirection s basis c f → IsDirection s basis c d
  shorter_direction basis c a = record {
    inside = a.inside;
    outside = a.outside;
    rises = λ b. positive_factor g (d c) h (subst (λ (x : ℤ). (pos 0) <ℤ x) (same c b) (a.rises b));
    slack_rises = λ i b e. negative g (terms s d i) h (subst (λ (x : ℤ). x <ℤ (pos 0)) (shorter_sum (s.entry i)) (a.slack_rises i b e));
    stays = λ j b n o. other_zero g (d j) (positive-ne g h) (sym (same j b) ∙ a.stays j b n o);
    slack_stays = λ i b n o. other_zero g (terms s d i) (positive-ne g h) (sym (shorter_sum (s.entry i)) ∙ a.slack_stays i b n o);
  }

pub shorter_falls : (p : Program) (f d : ℕ → ℤ) (g : ℤ) → (pos 0) <ℤ g → ((j : ℕ) → j < p.columns → f j ≡ g *ℤ d j) → FallsFreely p f → FallsFreely p d
shorter_falls p f d g h same a = record {
  columns = λ j b. nonnegative_factor g (d j) h (subst (λ (x : ℤ). (pos 0) ≤ℤ x) (same j b) (a.columns j b));
  rows = λ i b. nonpositive_factor g (terms (rows_of false p) d i) h (subst (λ (x : ℤ). x ≤ℤ (pos 0)) (shorter_sum (rows_of false p) f d g h same ((rows_of false p).entry i)) (a.rows i b));
  cost = negative g (upto p.columns (λ j. p.cost j *ℤ d j)) h (subst (λ (x : ℤ). x <ℤ (pos 0)) (shorter_sum (rows_of false p) f d g h same p.cost) a.cost);
}

module _ (p : Program) (basis : ℕ → ℕ) (v w : ℕ → ℕ → ℤ) (rows : IsTableau (rows_of false p) basis v) (tableau : IsTableau (equations_of false p) (with_factor false p basis) w) (c : ℕ) where
  abbrev few : Equations
  few = rows_of false p

  abbrev last : ℕ → ℤ
  last = w p.rows

  -- ---- from signs to directions
  -- a column in which the objective row isn't 0 is outside
  pub falls_outside : (last c) <ℤ (pos 0) → IsOutside few basis c
  falls_outside l k b e = omega (arith, ints, sym (ap last e) ∙ last_basic false p basis w tableau k b)

  module _ (signs : AreRaySigns p v last c) (t : ℤ) (positive : (pos 0) <ℤ t) (f : ℕ → ℤ) (whole : IsWhole few basis v (pos 0) c t f) where
    at_column : f c ≡ t
    at_column = whole.outside c signs.inside (falls_outside signs.falls) ∙ only_here c t

    elsewhere : (j : ℕ) → j < side few → j ≢ c → IsOutside few basis j → f j ≡ pos 0
    elsewhere j b n o = whole.outside j b o ∙ only_off c t j n

    meets : (i : ℕ) → i < p.rows → terms few f i +ℤ f (few.slack + i) ≡ p.rhs i *ℤ pos 0
    meets = whole_meets few basis v rows (pos 0) c t f (inl (signs.inside, falls_outside signs.falls)) whole

    against : (i : ℕ) → i < p.rows → terms few f i ≡ neg_ℤ (f (few.slack + i))
    against i b = omega (arith, ints, meets i b, mul_zero (p.rhs i))

    basic_nonnegative : (k : ℕ) → k < p.rows → (pos 0) ≤ℤ (f (basis k))
    basic_nonnegative k b = cancel_le_right (pos 0) (f (basis k)) (v k (basis k)) ((rows.rows k b).positive)
        (omega (arith, ints, zero_mul (v k (basis k)), whole.basic k b, mul_zero (v k (side few)), neg_mul (v k c) t, mul_nonnegative (neg_ℤ (v k c)) t (omega (arith, ints, signs.free k b)) (omega (arith, ints))))

    nonnegative : (j : ℕ) → j < side few → (pos 0) ≤ℤ (f j)
    nonnegative j b = elim (basic_or_not few basis v rows j) [
      | inl o ↦ elim (cases_eq j c) [
        | inl e ↦ subst (λ (i : ℕ). (pos 0) ≤ℤ (f i)) (sym e) (omega (arith, ints, at_column))
        | inr n ↦ omega (arith, ints, elsewhere j b n o)
      ]
      | inr q ↦ subst (λ (i : ℕ). (pos 0) ≤ℤ (f i)) q.2 (basic_nonnegative q.0 q.1)
    ]

    pub signs_direction : IsDirection few basis c f
    signs_direction = record {
      inside = signs.inside;
      outside = falls_outside signs.falls;
      rises = λ b. omega (arith, ints, at_column);
      slack_rises = λ i b e. omega (arith, ints, against i b, ap f (sym e) ∙ at_column);
      stays = λ j b n o. elsewhere j (omega arith) n o;
      slack_stays = λ i b n o. against i b ∙ ap neg_ℤ (elsewhere (few.slack + i) (omega arith) n o);
    }

    pub signs_fall : FallsFreely p f
    signs_fall = record {
      columns = λ j b. nonnegative j (omega arith);
      rows = λ i b. omega (arith, ints, against i b, nonnegative (few.slack + i) (omega arith));
      cost = negative (last (factor false p)) _ (last_positive false p basis w tableau)
          (omega (
            arith,
            ints,
            sym (objective_sum false p basis w tableau f (pos 0) meets) ∙ objective_at false p basis w tableau v rows f c signs.inside elsewhere ∙ ap (λ (x : ℤ). last c *ℤ x) at_column,
            mul_zero (upto p.rows (λ i. last (few.slack + i) *ℤ p.rhs i)),
            neg_mul (last c) t,
            mul_positive (neg_ℤ (last c)) t (omega (arith, ints, signs.falls)) positive,
          ));
    }

  -- there is one
  module _ (signs : AreRaySigns p v last c) where
    entries : ℕ → ℤ
    entries k = v k (basis k)

    total : ℤ
    total = total_of entries p.rows

    positive_total : (pos 0) <ℤ total
    unfolding total entries
    positive_total = total_positive entries p.rows (λ k b. (rows.rows k b).positive)

    record IsNumber (j : ℕ) (y : ℤ) : Type 0 where
      pub outside : IsOutside few basis j → y ≡ only_at c total j
      pub basic : (k : ℕ) → k < p.rows → basis k ≡ j → y *ℤ v k (basis k) ≡ neg_ℤ (v k c) *ℤ total

    number_of : (j : ℕ) → IsOutside few basis j ⊎ ((k : ℕ) × (k < p.rows) × (basis k ≡ j)) → (y : ℤ) × IsNumber j y
    unfolding total entries
    number_of j (inl o) = (only_at c (total_of entries p.rows) j, record { outside = λ g. refl; basic = λ k b e. absurd (o k b e) })
    number_of j (inr q) = let f = total_times entries p.rows q.0 q.1 in (
      neg_ℤ (v q.0 c) *ℤ f.0,
      record {
        outside = λ o. absurd (o q.0 q.1 q.2);
        basic = λ k b e. subst (λ (i : ℕ). (neg_ℤ (v q.0 c) *ℤ f.0) *ℤ v i (basis i) ≡ neg_ℤ (v i c) *ℤ total_of entries p.rows) (rows.columns.different q.0 k q.1 b (q.2 ∙ sym e))
            (*ℤ_assoc (neg_ℤ (v q.0 c)) f.0 (v q.0 (basis q.0)) ∙ ap (λ (x : ℤ). neg_ℤ (v q.0 c) *ℤ x) f.1);
      },
    )

    numbers : (y : ℕ → ℤ) × ((j : ℕ) → j < side few → IsNumber j (y j))
    numbers = choose (side few) (pos 0) IsNumber (λ j b. number_of j (basic_or_not few basis v rows j))

    whole_numbers : IsWhole few basis v (pos 0) c total numbers.0
    whole_numbers = record {
      outside = λ j b o. (numbers.1 j b).outside o;
      basic = λ k b. (numbers.1 (basis k) (rows.columns.in_range k b)).basic k b refl ∙ as_said (v k c) total (v k (side few));
    }
      where
        as_said : (a b e : ℤ) → neg_ℤ a *ℤ b ≡ (e *ℤ pos 0) -ℤ (a *ℤ b)
        as_said a b e = omega (arith, ints, mul_zero e, neg_mul a b)

    pub signs_make_ray : MakesRay p basis c
    signs_make_ray = (numbers.0, signs_direction signs total positive_total numbers.0 whole_numbers, signs_fall signs total positive_total numbers.0 whole_numbers)

  -- ---- from directions to signs
  module _ (d : ℕ → ℤ) (direction : IsDirection few basis c d) (falls : FallsFreely p d) where
    f : ℕ → ℤ
    f = extended few d (pos 0)

    before : (j : ℕ) → j < few.slack → f j ≡ d j
    unfolding f
    before = extended_before few d (pos 0)

    behind : (i : ℕ) → f (few.slack + i) ≡ neg_ℤ (terms few d i)
    unfolding f
    behind i = extended_slack few d (pos 0) i ∙ no_right (p.rhs i) (terms few d i)
      where
        no_right : (a b : ℤ) → (a *ℤ pos 0) -ℤ b ≡ neg_ℤ b
        no_right a b = omega (arith, ints, mul_zero a)

    extends : (i : ℕ) → i < p.rows → terms few f i +ℤ f (few.slack + i) ≡ p.rhs i *ℤ pos 0
    unfolding f
    extends i b = extended_meets few d (pos 0) i

    each : (P : ℕ → Type 0) → ((j : ℕ) → j < few.slack → P j) → ((i : ℕ) → i < p.rows → P (few.slack + i)) → (j : ℕ) → j < side few → P j
    each P a b j l = by_lt j few.slack (a j) (λ g. let e : few.slack + (j - few.slack) ≡ j = omega arith in subst P e (b (j - few.slack) (omega arith)))

    rising : (pos 0) <ℤ (f c)
    rising = each (λ j. j ≡ c → (pos 0) <ℤ (f j))
        (λ j b e. omega (arith, ints, before j b, ap d e, direction.rises (omega (arith, e))))
        (λ i b e. omega (arith, ints, behind i, direction.slack_rises i b (sym e)))
        c direction.inside refl

    staying : (j : ℕ) → j < side few → j ≢ c → IsOutside few basis j → f j ≡ pos 0
    staying = each (λ j. j ≢ c → IsOutside few basis j → f j ≡ pos 0)
        (λ j b n o. before j b ∙ direction.stays j b n o)
        (λ i b n o. behind i ∙ ap neg_ℤ (direction.slack_stays i b n o))

    nowhere_negative : (j : ℕ) → j < side few → (pos 0) ≤ℤ (f j)
    nowhere_negative = each (λ j. (pos 0) ≤ℤ (f j))
        (λ j b. omega (arith, ints, before j b, falls.columns j b))
        (λ i b. omega (arith, ints, behind i, falls.rows i b))

    two : (k : ℕ) → k < p.rows → (v k (basis k) *ℤ f (basis k)) +ℤ (v k c *ℤ f c) ≡ pos 0
    two k b = sym (upto_two (side few) (basis k) c (λ j. v k j *ℤ f j) (rows.columns.in_range k b) direction.inside (direction.outside k b) (λ j l n m. nothing j l n m (basic_or_not few basis v rows j)))
        ∙ balance few f (pos 0) extends (v k) (rows.rows k b).combination ∙ mul_zero (v k (side few))
      where
        nothing : (j : ℕ) → j < side few → j ≢ basis k → j ≢ c → IsOutside few basis j ⊎ ((i : ℕ) × (i < p.rows) × (basis i ≡ j)) → v k j *ℤ f j ≡ pos 0
        nothing j l n m (inl o) = ap (λ (x : ℤ). v k j *ℤ x) (staying j l m o) ∙ mul_zero (v k j)
        nothing j l n m (inr q) = ap (λ (x : ℤ). x *ℤ f j) (subst (λ (i : ℕ). v k i ≡ pos 0) q.2 ((rows.rows k b).cleared q.0 q.1 (λ e. n (sym q.2 ∙ ap basis e)))) ∙ zero_mul (f j)

    cost_is : upto few.slack (λ j. p.cost j *ℤ f j) ≡ upto few.slack (λ j. p.cost j *ℤ d j)
    cost_is = upto_same few.slack _ _ (λ j b. ap (λ (x : ℤ). p.cost j *ℤ x) (before j b))

    pub direction_signs : AreRaySigns p v last c
    direction_signs = record {
      inside = direction.inside;
      falls = negative (f c) (last c) rising
          (omega (
            arith,
            ints,
            *ℤ_comm (f c) (last c),
            sym (objective_at false p basis w tableau v rows f c direction.inside staying) ∙ objective_sum false p basis w tableau f (pos 0) extends ∙ ap (λ (x : ℤ). (upto p.rows (λ i. last (few.slack + i) *ℤ p.rhs i) *ℤ pos 0) +ℤ (last (factor false p) *ℤ x)) cost_is,
            mul_zero (upto p.rows (λ i. last (few.slack + i) *ℤ p.rhs i)),
            *ℤ_comm (last (factor false p)) (upto few.slack (λ j. p.cost j *ℤ d j)),
            neg_mul (upto few.slack (λ j. p.cost j *ℤ d j)) (last (factor false p)),
            mul_positive (neg_ℤ (upto few.slack (λ j. p.cost j *ℤ d j))) (last (factor false p)) (omega (arith, ints, falls.cost)) (last_positive false p basis w tableau),
          ));
      free = λ k b. nonpositive_factor (f c) (v k c) rising
          (omega (arith, ints, *ℤ_comm (f c) (v k c), two k b, mul_nonnegative (v k (basis k)) (f (basis k)) (omega (arith, ints, (rows.rows k b).positive)) (nowhere_negative (basis k) (rows.columns.in_range k b))));
    }

-- ---- a direction divided in place
pub size_negated : (d : ℤ) → unsigned_abs (pos 0 -ℤ d) ≡ unsigned_abs d
size_negated d = omega (arith, ints)

-- a slice of the whole list, written back, is the list
pub written_back : (n : ℕ) (new items : List ℤ) → n ≡ length items → length new ≡ length items → take n (new ++ drop (length new) items) ≡ new
written_back n new items e f = take-append-le n new (drop (length new) items) (omega arith) ∙ subst (λ (m : ℕ). take m new ≡ new) (f ∙ sym e) (take-length new)
