-- The bases that have an answer are those with the signs of one.
use Rattle.std.specs.Prelude.{ℕ, zero, suc, ◌-◌, ◌<◌, ◌≡◌, ◌≢◌, ◌⊎◌, ℤ, pos, ◌*ℤ◌, ◌≤ℤ◌, ◌<ℤ◌, Bool, false, List, length, unsigned_abs}
use Rattle.std.specs.Int.{◌∣◌}
use Rattle.std.proofs.Common.{refl, ap, sym, subst, ◌∙◌, arith, inl, inr}
use Rattle.std.proofs.lemmas.Int.{ints}
use Rattle.bz_algebra.specs.Tableaus.{Equations, side, Program, IsTableau, IsBasis, IsObjectiveRow, rows_of, equations_of, with_factor}
use Rattle.bz_algebra.proofs.Bounded.{by_lt, below_suc, all_or_some, zeros_or_not}
use Rattle.bz_algebra.proofs.Divisors.{PrimitivePart, primitive_part}
use Rattle.bz_algebra.proofs.Objectives.{basis_with_objective}
use Rattle.bz_algebra.proofs.Ring.{mul_zero, zero_mul, by_sign, cancel_lt_right}
use Rattle.bz_algebra.proofs.SumLemmas.{upto_zeros}
use Rattle.bz_algebra.proofs.Uniqueness.{basis_tableau, row_unique}
use Rattle.bz_tableau.specs.Dense.{entry}
use Rattle.bz_tableau.specs.Laws.{place}
use Rattle.bz_tableau.specs.Programs.{program_of}
use Rattle.bz_tableau.specs.declared.answers.Answer.{Answer}
use Rattle.bz_tableau.specs.declared.answers.Answer.TheVariants.{Least, Empty, Ray}
use Rattle.bz_tableau.specs.declared.answers.Vals.{Vals}
use Rattle.bz_tableau.specs.declared.programs.Lp.{Lp}
use Rattle.bz_tableau.specs.Answers.{IsBasisList, IsLeast, IsRay, IsAnswer, HasAnswer, basis_of}
use Rattle.bz_tableau.specs.Points.{IsPoint, HasNoNegativeSide, MeetsRows, IsDirection, FallsFreely, MakesRay, IsRayColumn}
use Rattle.bz_tableau.specs.WidePlaces.{HasLeastSigns, HasAnswerSigns}
use Rattle.bz_tableau.proofs.OneObjective.{objective_same}
use Rattle.bz_lex.proofs.PointSigns.{point_meets, point_signs, multipliers_by_signs, signs_by_multipliers, same_cost}
use Rattle.bz_lex.proofs.PointsExist.{listed, length_listed, entry_listed, denominator_exists, point_exists}
use Rattle.bz_lex.proofs.RaySigns.{AreRaySigns, direction_signs, signs_make_ray, shorter_direction, shorter_falls}

-- ---- from signs to answers
module _ (relaxed : Bool) (p : Program) (basis : List ℕ) (is_basis : IsBasisList relaxed p basis) where
  abbrev few : Equations
  few = rows_of relaxed p

  abbrev all : Equations
  all = equations_of relaxed p

  rows : (w : ℕ → ℕ → ℤ) × IsTableau few (place basis) w
  rows = basis_tableau few (place basis) is_basis.is_basis

  rows_and_objective : (w : ℕ → ℕ → ℤ) × IsTableau all (with_factor relaxed p (place basis)) w
  rows_and_objective = basis_tableau all (with_factor relaxed p (place basis)) (basis_with_objective relaxed p (place basis) is_basis.is_basis)

  -- the point of the basis, and that it meets the rows
  record IsPointFor (z : Vals) : Type 0 where
    pub numbers : length z.num ≡ few.slack
    pub point : IsPoint few (place basis) (entry z.num) z.den
    pub meets : MeetsRows few (entry z.num) z.den

  point_for : HasNoNegativeSide relaxed p (place basis) → (z : Vals) × IsPointFor z
  point_for h =
      let den = denominator_exists few (place basis) rows.0 rows.1 in
      let z = point_exists few (place basis) rows.0 den.0 rows.1 den.1 in (
        record { num = z.0; den = den.0; den_positive = den.1.positive },
        record {
          numbers = z.1;
          point = z.2;
          meets = point_meets few (place basis) rows.0 (entry z.0) den.0 rows.1 z.2 (λ k b. h k (rows.0 k) b (rows.1.rows k b));
        },
      )

  least_for : HasNoNegativeSide relaxed p (place basis) → HasLeastSigns relaxed p (place basis) → (z y : Vals) × IsLeast relaxed p basis z y
  least_for h signs =
      let z = point_for h in
      let o = objective in (
        z.0,
        record { num = y; den = signs.den; den_positive = signs.objective.positive },
        record {
          is_basis = is_basis;
          numbers = z.1.numbers;
          point = z.1.point;
          meets = z.1.meets;
          multipliers = length_listed p.rows signs.y;
          objective = o;
          bounds = multipliers_by_signs relaxed p (place basis) rows_and_objective.0 rows_and_objective.1 signs.den (entry y) o
              (signs_by_multipliers relaxed p (place basis) rows_and_objective.0 rows_and_objective.1 signs.den signs.y signs.objective signs.bounds);
          same_cost = same_cost relaxed p (place basis) rows_and_objective.0 rows_and_objective.1 rows.0 rows.1 (entry z.0.num) z.0.den signs.den (entry y) z.1.point o;
        },
      )
    where
      y : List ℤ
      y = listed p.rows signs.y

      objective : IsObjectiveRow relaxed p (place basis) signs.den (entry (listed p.rows signs.y))
      objective = objective_same relaxed p (place basis) signs.den signs.den signs.y (entry (listed p.rows signs.y)) signs.objective refl (λ i b. entry_listed p.rows signs.y i b)

-- ---- directions without a common divisor
record IsPrimitiveMove (p : Program) (basis : ℕ → ℕ) (column : ℕ) (d : List ℤ) : Type 0 where
  pub moves : length d ≡ p.columns
  pub direction : IsDirection (rows_of false p) basis column (entry d)
  pub falls : FallsFreely p (entry d)
  pub primitive : (g : ℕ) → ((j : ℕ) → j < p.columns → g ∣ unsigned_abs (entry d j)) → g ≡ 1

positive_times : (g x : ℤ) → (pos 0) <ℤ x → (pos 0) <ℤ (g *ℤ x) → (pos 0) <ℤ g
positive_times g x h l = cancel_lt_right (pos 0) g x (omega (arith, ints)) (omega (arith, ints, zero_mul x))

positive_if : (x : ℤ) → (pos 0) ≤ℤ x → x ≢ pos 0 → (pos 0) <ℤ x
positive_if x h n = by_sign x (λ l. omega (arith, ints)) (λ e. absurd (n e)) (λ l. l)

module _ (p : Program) (basis : ℕ → ℕ) (column : ℕ) (d : ℕ → ℤ) (direction : IsDirection (rows_of false p) basis column d) (falls : FallsFreely p d) where
  -- the numbers below the program's columns, as a vector up to the last of them
  abbrev numbers : Equations
  numbers = record { rows = 0; slack = p.columns - 1; entry = λ i j. pos 0; right = λ i. pos 0 }

  moved : (j : ℕ) × (j < p.columns) × (d j ≢ pos 0)
  moved = elim (zeros_or_not p.columns d) [
    | inl z ↦ absurd (omega (arith, ints, falls.cost, upto_zeros p.columns (λ j. p.cost j *ℤ d j) (λ j b. ap (λ (x : ℤ). p.cost j *ℤ x) (z j b) ∙ mul_zero (p.cost j))))
    | inr f ↦ f
  ]

  part : PrimitivePart numbers d moved.0
  part = primitive_part numbers d moved.0 (omega (arith, moved.1)) moved.2

  positive_part : (pos 0) <ℤ part.times
  positive_part = positive_times part.times (part.vector moved.0) part.positive (rw (part.multiple moved.0 (omega (arith, moved.1))) (positive_if (d moved.0) (falls.columns moved.0 moved.1) moved.2))

  same : (j : ℕ) → j < p.columns → d j ≡ part.times *ℤ entry (listed p.columns part.vector) j
  same j b = sym (part.multiple j (omega (arith, b))) ∙ ap (λ (x : ℤ). part.times *ℤ x) (sym (entry_listed p.columns part.vector j b))

  primitive_move : (d : List ℤ) × IsPrimitiveMove p basis column d
  primitive_move = (
    listed p.columns part.vector,
    record {
      moves = length_listed p.columns part.vector;
      direction = shorter_direction (rows_of false p) d (entry (listed p.columns part.vector)) part.times positive_part same basis column direction;
      falls = shorter_falls p d (entry (listed p.columns part.vector)) part.times positive_part same falls;
      primitive = λ g h. part.primitive g (λ j b. let l : j < p.columns = omega (arith, b, moved.1) in subst (λ (x : ℤ). g ∣ unsigned_abs x) (entry_listed p.columns part.vector j l) (h j l));
    },
  )

ray_for : (p : Program) (basis : List ℕ) (column : ℕ) → IsBasisList false p basis → HasNoNegativeSide false p (place basis) → MakesRay p (place basis) column → (z : Vals) × (d : List ℤ) × IsRay p basis column z d
ray_for p basis column b h makes =
    let z = point_for false p basis b h in
    let d = primitive_move p (place basis) column makes.0 makes.1 makes.2 in (
      z.0,
      d.0,
      record {
        is_basis = b;
        numbers = z.1.numbers;
        point = z.1.point;
        meets = z.1.meets;
        moves = d.1.moves;
        direction = d.1.direction;
        falls = d.1.falls;
        primitive = d.1.primitive;
      },
    )

-- ---- the first column of a ray
-- a number below n that is the first with the property, or none below n has it
first_below : (n : ℕ) (P : ℕ → Type 0) → ((j : ℕ) → (P j → ⊥) ⊎ P j) → ((j : ℕ) → j < n → P j → ⊥) ⊎ ((j : ℕ) × P j × ((i : ℕ) → i < j → P i → ⊥))
first_below zero P test = inl (λ j b. absurd (omega arith))
first_below (suc n) P test = elim (first_below n P test) [
  | inl h ↦ elim (test n) [ inl f ↦ inl (below_suc n (λ j. P j → ⊥) h f) | inr p ↦ inr (n, p, h) ]
  | inr f ↦ inr f
]

first_of : (n : ℕ) (P : ℕ → Type 0) → ((j : ℕ) → (P j → ⊥) ⊎ P j) → P n → (j : ℕ) × P j × ((i : ℕ) → i < j → P i → ⊥)
first_of n P test p = elim (first_below (suc n) P test) [ inl h ↦ absurd (h n (omega arith) p) | inr f ↦ f ]

module _ (p : Program) (basis : ℕ → ℕ) (is_basis : IsBasis (rows_of false p) basis) where
  v : (w : ℕ → ℕ → ℤ) × IsTableau (rows_of false p) basis w
  v = basis_tableau (rows_of false p) basis is_basis

  w : (w : ℕ → ℕ → ℤ) × IsTableau (equations_of false p) (with_factor false p basis) w
  w = basis_tableau (equations_of false p) (with_factor false p basis) (basis_with_objective false p basis is_basis)

  ray_signs_or_not : (c : ℕ) → (AreRaySigns p v.0 (w.0 p.rows) c → ⊥) ⊎ AreRaySigns p v.0 (w.0 p.rows) c
  ray_signs_or_not c = by_lt c (side (rows_of false p))
      (λ inside. by_sign (w.0 p.rows c)
      (λ falls. elim (all_or_some p.rows (λ k. (v.0 k c) ≤ℤ (pos 0)) (λ k. (pos 0) <ℤ (v.0 k c)) (λ k. by_sign (v.0 k c) (λ l. inl (omega (arith, ints))) (λ e. inl (omega (arith, ints, e))) (λ l. inr l))) [
        | inl free ↦ inr (record { inside = inside; falls = falls; free = free })
        | inr f ↦ inl (λ s. omega (arith, ints, s.free f.0 f.1, f.2))
      ])
      (λ e. inl (λ s. omega (arith, ints, s.falls, e)))
      (λ l. inl (λ s. omega (arith, ints, s.falls, l))))
      (λ l. inl (λ s. omega (arith, s.inside, l)))

  makes_or_not : (c : ℕ) → (MakesRay p basis c → ⊥) ⊎ MakesRay p basis c
  makes_or_not c = elim (ray_signs_or_not c) [
    | inl n ↦ inl (λ m. n (direction_signs p basis v.0 w.0 v.1 w.1 c m.0 m.1 m.2))
    | inr s ↦ inr (signs_make_ray p basis v.0 w.0 v.1 w.1 c s)
  ]

  -- of the columns that make the basis a ray there is a first
  first_column : (c : ℕ) → MakesRay p basis c → (c : ℕ) × IsRayColumn p basis c
  first_column c m = let f = first_of c (MakesRay p basis) makes_or_not m in (f.0, record { makes = f.1; first = f.2 })

-- ---- from signs to the answer
pub answer_of_signs : (relaxed : Bool) (lp : Lp) (basis : List ℕ) → HasAnswerSigns relaxed (program_of lp) basis → HasAnswer relaxed lp basis
answer_of_signs relaxed lp basis h = elim h.signs [
  | inl s ↦ let a = least_for relaxed (program_of lp) basis h.is_basis h.right_sides s in
      record { answer = Least basis a.0 a.1; is_answer = record { basis_is = refl; answer = a.2; first_column = tt } }
  | inr s ↦
      let b = subst (λ (r : Bool). IsBasisList r (program_of lp) basis) s.1.unrelaxed h.is_basis in
      let r = subst (λ (r : Bool). HasNoNegativeSide r (program_of lp) (place basis)) s.1.unrelaxed h.right_sides in
      let f = first_column (program_of lp) (place basis) b.is_basis s.0 s.1.makes in
      let a = ray_for (program_of lp) basis f.0 b r f.1.makes in
      record { answer = Ray basis f.0 a.0 a.1; is_answer = record { basis_is = refl; answer = (s.1.unrelaxed, a.2); first_column = f.1 } }
]

-- ---- from answers to signs
right_sides_of : (relaxed : Bool) (p : Program) (basis : List ℕ) (z : ℕ → ℤ) (den : ℤ) → IsBasisList relaxed p basis → IsPoint (rows_of relaxed p) (place basis) z den → MeetsRows (rows_of relaxed p) z den → HasNoNegativeSide relaxed p (place basis)
right_sides_of relaxed p basis z den b point meets i v l r =
    let t = basis_tableau (rows_of relaxed p) (place basis) b.is_basis in
    subst (λ (x : ℤ). (pos 0) ≤ℤ x) (row_unique (rows_of relaxed p) (place basis) t.0 v i t.1 l r (side (rows_of relaxed p)) (omega arith)) (point_signs (rows_of relaxed p) (place basis) t.0 z den t.1 point meets i l)

signs_of_answer : (relaxed : Bool) (lp : Lp) (a : Answer) → IsAnswer relaxed lp a → HasAnswerSigns relaxed (program_of lp) (basis_of a)
signs_of_answer relaxed lp (Least basis z y) a = record {
  is_basis = a.is_basis;
  right_sides = right_sides_of relaxed (program_of lp) basis (entry z.num) z.den a.is_basis a.point a.meets;
  signs = inl (record { den = y.den; y = entry y.num; objective = a.objective; bounds = a.bounds });
}
signs_of_answer relaxed lp (Empty basis y) a = absurd a
signs_of_answer relaxed lp (Ray basis column z d) a =
    subst (λ (r : Bool). HasAnswerSigns r (program_of lp) basis) (sym a.0)
    (record {
      is_basis = a.1.is_basis;
      right_sides = right_sides_of false (program_of lp) basis (entry z.num) z.den a.1.is_basis a.1.point a.1.meets;
      signs = inr (column, record { unrelaxed = refl; makes = (entry d, a.1.direction, a.1.falls) });
    })

pub signs_with_basis : (relaxed : Bool) (lp : Lp) (basis : List ℕ) (a : Answer) → basis_of a ≡ basis → IsAnswer relaxed lp a → HasAnswerSigns relaxed (program_of lp) basis
signs_with_basis relaxed lp basis a e h = subst (λ (b : List ℕ). HasAnswerSigns relaxed (program_of lp) b) e (signs_of_answer relaxed lp a h)
