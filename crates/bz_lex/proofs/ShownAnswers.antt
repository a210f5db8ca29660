-- The answer that a tableau shows is the answer of its basis, and where it goes wide is the first wide place.
use Rattle.std.specs.Prelude.{ℕ, suc, ◌+◌, ◌<◌, ◌≡◌, ◌≢◌, ℤ, pos, ◌-ℤ◌, ◌*ℤ◌, neg_ℤ, ◌<ℤ◌, Bool, false, List, length, unsigned_abs}
use Rattle.std.specs.Int.{◌∣◌}
use Rattle.std.proofs.Common.{ap, sym, subst, ◌∙◌, arith, inl, inr}
use Rattle.std.proofs.lemmas.Int.{ints}
use Rattle.bz_algebra.specs.Numbers.{IsNarrow, IsWide}
use Rattle.bz_algebra.specs.Tableaus.{Equations, side, Program, IsObjectiveRow, rows_of, factor}
use Rattle.bz_algebra.proofs.Bounded.{by_order}
use Rattle.bz_algebra.proofs.Ring.{mul_zero, mul_neg, neg_mul, neg_neg}
use Rattle.bz_algebra.proofs.SumLemmas.{upto_zeros}
use Rattle.bz_tableau.specs.Dense.{entry}
use Rattle.bz_tableau.specs.Laws.{place}
use Rattle.bz_tableau.specs.Programs.{program_of, lp_equations}
use Rattle.bz_tableau.specs.Tables.{Table, number, shown, factor_column, IsTableauOf}
use Rattle.bz_tableau.specs.declared.answers.Vals.{Vals}
use Rattle.bz_tableau.specs.declared.programs.Lp.{Lp}
use Rattle.bz_tableau.proofs.RowsOfBasis.{rows_of_basis}
use Rattle.bz_tableau.specs.Answers.{IsLeast, IsRay}
use Rattle.bz_tableau.specs.Points.{IsOutside, IsPoint, IsDirection, FallsFreely, MakesRay, IsRayColumn}
use Rattle.bz_tableau.specs.WidePlaces.{IsWideValue, HasAnswerSigns}
use Rattle.bz_lex.specs.Refusals.{IsWideForFirst, IsFirstRay, IsFirstWidePlace, HasNoWidePlace}
use Rattle.bz_lex.specs.Shown.{HasPoint, HasLeastCost, IsFreeFall, IsFirstFall, own_entry, IsLeastTo, IsNarrowLeast, IsFirstWideLeast, IsWideOver, IsShownOrder, IsShownLeast, IsShownMove, IsShownRay}
use Rattle.bz_lex.proofs.LeastMultiples.{least_divides, divides_narrow, least_same}
use Rattle.bz_tableau.proofs.OneObjective.{objective_same}
use Rattle.bz_lex.proofs.PointSigns.{point_meets, multipliers_by_signs, same_cost}
use Rattle.bz_lex.proofs.RaySigns.{AreRaySigns, direction_signs, signs_make_ray, signs_direction, signs_fall, shorter_direction, shorter_falls, falls_outside}
use Rattle.bz_lex.proofs.ShownBases.{few_rows, all_rows, slack_is, count_is, side_is, basis_list, right_sides, any_right_side, last_signs, least_signs, last_number, is_order, find, common_denominator, multiple_up_to, not_wide, shown_point}
use Rattle.bz_lex.proofs.Wholes.{IsHalf, IsWhole, only_at, only_here, only_off, extended, extended_before, whole_of_half}

-- ---- multiples that aren't wide
narrow_multiples : (n l : ℕ) (e : ℕ → ℤ) (den m : ℤ) → l < n → IsNarrowLeast n e den → IsLeastTo (suc l) e m → IsNarrow m
narrow_multiples n l e den m b h g = divides_narrow m den h.is_least.positive (least_divides (suc l) n e m den (omega arith) g h.is_least) h.narrow

-- ---- where the program isn't relaxed: rays
module _ (lp : Lp) (t : Table) (h : IsTableauOf false lp t) where
  abbrev program : Program
  program = program_of lp

  abbrev few : Equations
  few = rows_of false (program_of lp)

  abbrev basis : ℕ → ℕ
  basis = place t.basis

  abbrev last : ℕ → ℤ
  last = number t.rows (length lp.rows)

  fall_signs : (c : ℕ) → IsFreeFall t c → AreRaySigns program (shown t) last c
  fall_signs c f = let inside : c < side few = omega (arith, f.inside, side_is false lp t h) in record {
    inside = inside;
    falls = subst (λ (x : ℤ). x <ℤ (pos 0)) (last_number false lp t h c inside) f.falls;
    free = λ k b. f.free k (omega (arith, b, count_is false lp t h));
  }

  signs_fall_freely : (c : ℕ) → AreRaySigns program (shown t) last c → IsFreeFall t c
  signs_fall_freely c s = record {
    inside = omega (arith, s.inside, side_is false lp t h);
    falls = subst (λ (x : ℤ). x <ℤ (pos 0)) (sym (last_number false lp t h c s.inside)) s.falls;
    free = λ k b. s.free k (omega (arith, b, count_is false lp t h));
  }

  -- a column that makes the basis a ray falls freely
  pub ray_falls : (c : ℕ) → MakesRay program basis c → IsFreeFall t c
  ray_falls c m = signs_fall_freely c (direction_signs program basis (shown t) (number t.rows) (few_rows false lp t h) (all_rows false lp t h) c m.0 m.1 m.2)

  pub fall_makes_ray : (c : ℕ) → IsFreeFall t c → MakesRay program basis c
  fall_makes_ray c f = signs_make_ray program basis (shown t) (number t.rows) (few_rows false lp t h) (all_rows false lp t h) c (fall_signs c f)

  pub ray_column : (c : ℕ) → IsFirstFall t c → IsRayColumn program basis c
  ray_column c f = record { makes = fall_makes_ray c f.here; first = λ j b m. f.first j b (ray_falls j m) }

  -- there is one such column
  pub same_column : (c k : ℕ) → IsFirstFall t c → IsRayColumn program basis k → k ≡ c
  same_column c k f r = by_order k c (λ l. absurd (f.first k l (ray_falls k r.makes))) (λ e. e) (λ l. absurd (r.first c l (fall_makes_ray c f.here)))

  -- ---- the direction
  module _ (column : ℕ) (fall : IsFirstFall t column) (order : List ℕ) (shown_order : IsShownOrder t order) (den : ℤ) (narrow : IsNarrowLeast (length order) (own_entry t order) den) (d : List ℤ) (move : IsShownMove t order den column d) where
    signs : AreRaySigns program (shown t) last column
    signs = fall_signs column fall.here

    outside : IsOutside few basis column
    outside = falls_outside program basis (shown t) (number t.rows) (few_rows false lp t h) (all_rows false lp t h) column signs.falls

    longer : ℕ → ℤ
    longer j = move.times *ℤ entry d j

    half : IsHalf few basis (shown t) (pos 0) column den longer
    unfolding longer
    half = record {
      outside = λ j b o. by_order j column (λ m. off j b (λ e. omega (arith, m, e)) o) (λ e. subst (λ (i : ℕ). move.times *ℤ entry d i ≡ only_at column den i) (sym e) (move.direction.own (omega (arith, b, e, slack_is false lp t h)) ∙ sym (only_here column den))) (λ m. off j b (λ e. omega (arith, m, e)) o);
      basic = λ k b l. let f = find false lp t h order shown_order k b l in
          subst (λ (i : ℕ). (move.times *ℤ entry d (basis i)) *ℤ shown t i (basis i) ≡ (shown t i (side few) *ℤ pos 0) -ℤ (shown t i column *ℤ den)) f.2
          (move.direction.basic f.0 f.1 (λ e. outside (place order f.0) (inside f.0 f.1) e) ∙ as_said (shown t (place order f.0) column *ℤ den) (shown t (place order f.0) (side few)));
    }
      where
        as_said : (a b : ℤ) → neg_ℤ a ≡ (b *ℤ pos 0) -ℤ a
        as_said a b = omega (arith, ints, mul_zero b)

        inside : (k : ℕ) → k < length order → place order k < length lp.rows
        inside k b = (is_order false lp t h order shown_order).inside k b

        off : (j : ℕ) → j < few.slack → j ≢ column → IsOutside few basis j → move.times *ℤ entry d j ≡ only_at column den j
        off j b n o = move.direction.other j (omega (arith, b, slack_is false lp t h)) n (λ k l. o (place order k) (inside k l)) ∙ sym (only_off column den j n)

    whole : IsWhole few basis (shown t) (pos 0) column den (extended few longer (pos 0))
    whole = whole_of_half few basis (shown t) (pos 0) column den longer (few_rows false lp t h) (inl (signs.inside, outside)) half

    same : (j : ℕ) → j < few.slack → extended few longer (pos 0) j ≡ move.times *ℤ entry d j
    unfolding longer
    same j b = extended_before few longer (pos 0) j b

    pub is_direction : IsDirection few basis column (entry d)
    is_direction = shorter_direction few (extended few longer (pos 0)) (entry d) move.times move.times_positive same basis column
        (signs_direction program basis (shown t) (number t.rows) (few_rows false lp t h) (all_rows false lp t h) column signs den narrow.is_least.positive (extended few longer (pos 0)) whole)

    pub falls_freely : FallsFreely program (entry d)
    falls_freely = shorter_falls program (extended few longer (pos 0)) (entry d) move.times move.times_positive same
        (signs_fall program basis (shown t) (number t.rows) (few_rows false lp t h) (all_rows false lp t h) column signs den narrow.is_least.positive (extended few longer (pos 0)) whole)

    width : length d ≡ program.columns
    width = move.direction.width ∙ slack_is false lp t h

    pub is_primitive : (g : ℕ) → ((j : ℕ) → j < program.columns → g ∣ unsigned_abs (entry d j)) → g ≡ 1
    is_primitive g divides = elim move.primitive [
      | inl z ↦ absurd (omega (arith, ints, falls_freely.cost, upto_zeros program.columns (λ j. program.cost j *ℤ entry d j) (λ j b. ap (λ (x : ℤ). program.cost j *ℤ x) (z j (omega (arith, b, width))) ∙ mul_zero (program.cost j))))
      | inr p ↦ p g (λ j b. divides j (omega (arith, b, width)))
    ]

  pub ray_is : (column : ℕ) (named_basis : List ℕ) (named : ℕ) (z : Vals) (d : List ℤ) → HasPoint t → IsFirstFall t column → IsShownRay t column named_basis named z d → IsRay program t.basis column z d
  ray_is column named_basis named z d p f a = record {
    is_basis = basis_list false lp t h;
    numbers = a.point.values.width ∙ slack_is false lp t h;
    point = point;
    meets = point_meets few basis (shown t) (entry z.num) z.den (few_rows false lp t h) point (right_sides false lp t h p);
    moves = a.move.direction.width ∙ slack_is false lp t h;
    direction = is_direction column f a.order a.is_order z.den a.point.den d a.move;
    falls = falls_freely column f a.order a.is_order z.den a.point.den d a.move;
    primitive = is_primitive column f a.order a.is_order z.den a.point.den d a.move;
  }
    where
      point : IsPoint few basis (entry z.num) z.den
      point = shown_point false lp t h a.order a.is_order z a.point

-- ---- points of least cost
module _ (relaxed : Bool) (lp : Lp) (t : Table) (h : IsTableauOf relaxed lp t) where
  -- a basis of least cost is no ray
  pub no_ray : HasLeastCost t → (c : ℕ) → IsFirstRay relaxed (program_of lp) (place t.basis) c → ⊥
  no_ray least c r = let f = ray_falls lp t (subst (λ (b : Bool). IsTableauOf b lp t) r.unrelaxed h) c r.ray.makes in omega (arith, ints, least c f.inside, f.falls)

  pub least_is : (named_basis : List ℕ) (z y : Vals) → HasPoint t → HasLeastCost t → IsShownLeast t named_basis z y → IsLeast relaxed (program_of lp) t.basis z y
  least_is named_basis z y p c a = record {
    is_basis = basis_list relaxed lp t h;
    numbers = a.point.values.width ∙ slack_is relaxed lp t h;
    point = point;
    meets = point_meets (rows_of relaxed (program_of lp)) (place t.basis) (shown t) (entry z.num) z.den (few_rows relaxed lp t h) point (right_sides relaxed lp t h p);
    multipliers = a.multipliers.width ∙ count_is relaxed lp t h;
    objective = objective;
    bounds = multipliers_by_signs relaxed (program_of lp) (place t.basis) (number t.rows) (all_rows relaxed lp t h) y.den (entry y.num) objective (last_signs relaxed lp t h c);
    same_cost = same_cost relaxed (program_of lp) (place t.basis) (number t.rows) (all_rows relaxed lp t h) (shown t) (few_rows relaxed lp t h) (entry z.num) z.den y.den (entry y.num) point objective;
  }
    where
      point : IsPoint (rows_of relaxed (program_of lp)) (place t.basis) (entry z.num) z.den
      point = shown_point relaxed lp t h a.order a.is_order z a.point

      numbers_are : (i : ℕ) → i < length lp.rows → entry y.num i ≡ number t.rows (length lp.rows) ((lp_equations relaxed lp).slack + i)
      numbers_are i b = a.multipliers.numbers i (omega (arith, b, count_is relaxed lp t h))
          ∙ ap (λ (m : ℕ). shown t (length t.basis) (m + i)) (slack_is relaxed lp t h)
          ∙ last_number relaxed lp t h ((lp_equations relaxed lp).slack + i) (omega (arith, b))

      objective : IsObjectiveRow relaxed (program_of lp) (place t.basis) y.den (entry y.num)
      objective = objective_same relaxed (program_of lp) (place t.basis) (number t.rows (length lp.rows) (factor relaxed (program_of lp))) y.den (λ i. number t.rows (length lp.rows) ((lp_equations relaxed lp).slack + i)) (entry y.num)
          (rows_of_basis relaxed lp t h).objective
          (a.factor_is ∙ (λ i. number t.rows (count_is relaxed lp t h i) (side_is relaxed lp t h i)))
          numbers_are

  -- ---- no wide place
  module _ (order : List ℕ) (shown_order : IsShownOrder t order) (den : ℤ) (narrow : IsNarrowLeast (length order) (own_entry t order) den) (values : (k : ℕ) → k < length order → IsWideOver den (own_entry t order k) (shown t (place order k) (factor_column t)) → ⊥)
      (moves : (k c : ℕ) → k < length order → IsFirstRay relaxed (program_of lp) (place t.basis) c → IsWideOver (neg_ℤ den) (own_entry t order k) (shown t (place order k) c) → ⊥) where
    pub none_is_wide : HasNoWidePlace relaxed lp t.basis
    none_is_wide i w = let f = find relaxed lp t h order shown_order i w.inside w.before_slacks in
        not_wide relaxed lp t h order shown_order f.0 f.1
        (λ m g. narrow_multiples (length order) f.0 (own_entry t order) den m f.1 narrow g)
        (λ e g x. values f.0 f.1 (subst (λ (y : ℤ). IsWideOver y (own_entry t order f.0) (shown t (place order f.0) (factor_column t))) (least_same (length order) (own_entry t order) e den g.is_least narrow.is_least) x))
        (λ e c g r b x. moves f.0 c f.1 r (subst (λ (y : ℤ). IsWideOver (neg_ℤ y) (own_entry t order f.0) (shown t (place order f.0) c)) (least_same (length order) (own_entry t order) e den g.is_least narrow.is_least) x))
        (subst (λ (j : ℕ). IsWideForFirst relaxed (program_of lp) (place t.basis) j) (sym f.2) w)

  -- ---- the first wide place
  module _ (order : List ℕ) (shown_order : IsShownOrder t order) (k : ℕ) where
    pub wide_multiple : IsFirstWideLeast (length order) (own_entry t order) k → IsFirstWidePlace relaxed (program_of lp) (place t.basis) k
    wide_multiple w = record {
      order = order;
      is_order = is_order relaxed lp t h order shown_order;
      inside = w.inside;
      wide = record {
        inside = (is_order relaxed lp t h order shown_order).inside k w.inside;
        before_slacks = (is_order relaxed lp t h order shown_order).before_slacks k w.inside;
        wide = inl (record { multiple = w.multiple; is_multiple = multiple_up_to relaxed lp t h order shown_order k w.inside w.multiple w.is_least; wide = w.wide });
      };
      first = λ l b. not_wide relaxed lp t h order shown_order l (omega (arith, b, w.inside))
          (λ m g. narrow_multiples k l (own_entry t order) w.before m b w.is_narrow g)
          (λ e g x. too_wide e g)
          (λ e c g r i x. too_wide e g);
    }
      where
        too_wide : (e : ℤ) → IsNarrowLeast (length order) (own_entry t order) e → ⊥
        too_wide e g = omega (arith, w.wide, narrow_multiples (length order) k (own_entry t order) e w.multiple w.inside g w.is_least)

    module _ (den : ℤ) (narrow : IsNarrowLeast (length order) (own_entry t order) den) (inside : k < length order)
        (values : (l : ℕ) → l < k → IsWideOver den (own_entry t order l) (shown t (place order l) (factor_column t)) → ⊥)
        (moves : (l c : ℕ) → l < k → IsFirstRay relaxed (program_of lp) (place t.basis) c → IsWideOver (neg_ℤ den) (own_entry t order l) (shown t (place order l) c) → ⊥) where
      first_at : IsWideValue (rows_of relaxed (program_of lp)) (IsFirstRay relaxed (program_of lp) (place t.basis)) (place t.basis) (place order k) → IsFirstWidePlace relaxed (program_of lp) (place t.basis) k
      first_at w = record {
        order = order;
        is_order = is_order relaxed lp t h order shown_order;
        inside = inside;
        wide = record {
          inside = (is_order relaxed lp t h order shown_order).inside k inside;
          before_slacks = (is_order relaxed lp t h order shown_order).before_slacks k inside;
          wide = inr w;
        };
        first = λ l b. not_wide relaxed lp t h order shown_order l (omega (arith, b, inside))
            (λ m g. narrow_multiples (length order) l (own_entry t order) den m (omega (arith, b, inside)) narrow g)
            (λ e g x. values l b (subst (λ (y : ℤ). IsWideOver y (own_entry t order l) (shown t (place order l) (factor_column t))) (least_same (length order) (own_entry t order) e den g.is_least narrow.is_least) x))
            (λ e c g r i x. moves l c b r (subst (λ (y : ℤ). IsWideOver (neg_ℤ y) (own_entry t order l) (shown t (place order l) c)) (least_same (length order) (own_entry t order) e den g.is_least narrow.is_least) x));
      }

      pub wide_value : IsWideOver den (own_entry t order k) (shown t (place order k) (factor_column t)) → IsFirstWidePlace relaxed (program_of lp) (place t.basis) k
      wide_value w = first_at (record {
        den = den;
        denominator = common_denominator relaxed lp t h order shown_order den narrow.is_least;
        narrow = narrow.narrow;
        row = shown t (place order k);
        is_row = (few_rows relaxed lp t h).rows (place order k) ((is_order relaxed lp t h order shown_order).inside k inside);
        times = w.times;
        times_is = w.times_is;
        wide = inl (subst (λ (j : ℕ). IsWide (shown t (place order k) j *ℤ w.times)) (side_is relaxed lp t h) w.wide);
      })

      pub wide_move : (c : ℕ) → IsFirstRay relaxed (program_of lp) (place t.basis) c → IsWideOver (neg_ℤ den) (own_entry t order k) (shown t (place order k) c) → IsFirstWidePlace relaxed (program_of lp) (place t.basis) k
      wide_move c r w = first_at (record {
        den = den;
        denominator = common_denominator relaxed lp t h order shown_order den narrow.is_least;
        narrow = narrow.narrow;
        row = shown t (place order k);
        is_row = (few_rows relaxed lp t h).rows (place order k) ((is_order relaxed lp t h order shown_order).inside k inside);
        times = neg_ℤ w.times;
        times_is = neg_mul w.times (own_entry t order k) ∙ ap neg_ℤ w.times_is ∙ neg_neg den;
        wide = inr (c, r, subst (λ (x : ℤ). IsWide x) (sym (mul_neg (shown t (place order k) c) w.times)) (wide_neg (shown t (place order k) c *ℤ w.times) w.wide));
      })
        where
          wide_neg : (x : ℤ) → IsWide x → IsWide (neg_ℤ x)
          wide_neg x g = omega (arith, ints, g)

  pub least_signs_are : HasPoint t → HasLeastCost t → HasAnswerSigns relaxed (program_of lp) t.basis
  least_signs_are p c = record { is_basis = basis_list relaxed lp t h; right_sides = any_right_side relaxed lp t h p; signs = inl (least_signs relaxed lp t h c) }

  pub ray_signs_are : (c : ℕ) → HasPoint t → IsFirstRay relaxed (program_of lp) (place t.basis) c → HasAnswerSigns relaxed (program_of lp) t.basis
  ray_signs_are c p r = record { is_basis = basis_list relaxed lp t h; right_sides = any_right_side relaxed lp t h p; signs = inr (c, record { unrelaxed = r.unrelaxed; makes = r.ray.makes }) }
