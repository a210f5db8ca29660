-- What a tableau shows of its basis, in the program's own words.
use Rattle.std.specs.Prelude.{ℕ, zero, suc, ◌+◌, ◌<◌, ◌≤◌, ◌≡◌, ℤ, pos, ◌*ℤ◌, neg_ℤ, ◌≤ℤ◌, Bool, List, length, unsigned_abs}
use Rattle.std.specs.Int.{◌∣◌}
use Rattle.std.proofs.Common.{ap, sym, subst, ◌∙◌, arith, inl, inr}
use Rattle.std.proofs.Math.IntN.{*ℤ_comm}
use Rattle.std.proofs.lemmas.Bool.{ne_eqb}
use Rattle.std.proofs.lemmas.Int.{ints}
use Rattle.bz_algebra.specs.Numbers.{IsNarrow, IsWide}
use Rattle.bz_algebra.specs.Tableaus.{Equations, side, Program, IsRow, IsTableau, IsObjectiveRow, rows_of, equations_of, factor, with_factor}
use Rattle.bz_algebra.proofs.Bounded.{by_order, by_lt}
use Rattle.bz_algebra.proofs.Ring.{*ℤ_assoc, mul_neg, neg_mul}
use Rattle.bz_algebra.proofs.Uniqueness.{row_unique}
use Rattle.bz_tableau.specs.Dense.{entry}
use Rattle.bz_tableau.specs.Laws.{place, HasRowsOfBasis}
use Rattle.bz_tableau.specs.Programs.{program_of, lp_equations}
use Rattle.bz_tableau.specs.Tables.{Table, number, shown, factor_column, IsTableauOf}
use Rattle.bz_tableau.specs.declared.answers.Vals.{Vals}
use Rattle.bz_tableau.specs.declared.programs.Lp.{Lp}
use Rattle.bz_tableau.proofs.RowsOfBasis.{rows_of_basis}
use Rattle.bz_tableau.specs.Answers.{IsBasisList, AreMultipliersFor}
use Rattle.bz_tableau.specs.Points.{IsMultipleOfEntries, IsLeastMultiple, IsCommonDenominator, IsPoint, MeetsRows}
use Rattle.bz_tableau.specs.WidePlaces.{IsRisingOrder, HasLeastSigns, IsWideValue}
use Rattle.bz_lex.specs.Refusals.{IsWideForFirst, IsFirstRay}
use Rattle.bz_lex.specs.Shown.{HasPoint, HasLeastCost, own_entry, IsShownBasis, IsMultipleTo, IsLeastTo, IsNarrowLeast, IsOver, IsWideOver, IsShownOrder, IsShownPoint}
use Rattle.bz_lex.proofs.PointSigns.{point_signs, multipliers_by_signs, signs_by_multipliers}

module _ (relaxed : Bool) (lp : Lp) (t : Table) (h : IsTableauOf relaxed lp t) where
  abbrev program : Program
  program = program_of lp

  abbrev few : Equations
  few = rows_of relaxed (program_of lp)

  abbrev basis : ℕ → ℕ
  basis = place t.basis

  has : HasRowsOfBasis relaxed lp t
  has = rows_of_basis relaxed lp t h

  -- the rows and the objective row
  pub few_rows : IsTableau few basis (shown t)
  few_rows = record { columns = has.basis.columns; rows = has.rows }

  pub all_rows : IsTableau (equations_of relaxed program) (with_factor relaxed program basis) (number t.rows)
  all_rows = has.tableau

  abbrev last : ℕ → ℤ
  last = number t.rows (length lp.rows)

  pub slack_is : t.slack ≡ few.slack
  slack_is = has.slack

  pub count_is : length t.basis ≡ length lp.rows
  count_is = has.count

  pub side_is : factor_column t ≡ side few
  side_is i = has.slack i + has.count i

  last_is : (j : ℕ) → j < side few → shown t (length t.basis) j ≡ last j
  last_is j b = rw (ne_eqb j (factor_column t) (λ e. omega (arith, side_is, b, e))) (ap (λ (i : ℕ). number t.rows i j) has.count)

  pub shown_basis : IsShownBasis t
  shown_basis = record {
    different = λ i k b c e. has.basis.columns.different i k (omega (arith, b, has.count)) (omega (arith, c, has.count)) e;
    positive = λ i b. (has.rows i (omega (arith, b, has.count))).positive;
  }

  pub basis_list : IsBasisList relaxed program t.basis
  basis_list = record { count = has.count; is_basis = has.basis }

  -- ---- signs
  pub right_sides : HasPoint t → (k : ℕ) → k < length lp.rows → (pos 0) ≤ℤ (shown t k (side few))
  right_sides p k b = subst (λ (j : ℕ). (pos 0) ≤ℤ (shown t k j)) side_is (p k (omega (arith, b, has.count)))

  pub has_point : ((k : ℕ) → k < length lp.rows → (pos 0) ≤ℤ (shown t k (side few))) → HasPoint t
  has_point p k b = subst (λ (j : ℕ). (pos 0) ≤ℤ (shown t k j)) (sym side_is) (p k (omega (arith, b, has.count)))

  pub row_of : (i : ℕ) (v : ℕ → ℤ) → i < length lp.rows → IsRow few basis i v → (j : ℕ) → j ≤ side few → shown t i j ≡ v j
  row_of i v b r j l = row_unique few basis (shown t) v i few_rows b r j l

  pub any_right_side : HasPoint t → (i : ℕ) (v : ℕ → ℤ) → i < length lp.rows → IsRow few basis i v → (pos 0) ≤ℤ (v (side few))
  any_right_side p i v b r = subst (λ (x : ℤ). (pos 0) ≤ℤ x) (row_of i v b r (side few) (omega arith)) (right_sides p i b)

  pub last_signs : HasLeastCost t → (j : ℕ) → j < side few → (pos 0) ≤ℤ (last j)
  last_signs c j b = subst (λ (x : ℤ). (pos 0) ≤ℤ x) (last_is j b) (c j (omega (arith, b, side_is)))

  pub has_least_cost : ((j : ℕ) → j < side few → (pos 0) ≤ℤ (last j)) → HasLeastCost t
  has_least_cost c j b = let l : j < side few = omega (arith, b, side_is) in subst (λ (x : ℤ). (pos 0) ≤ℤ x) (sym (last_is j l)) (c j l)

  pub last_number : (j : ℕ) → j < side few → shown t (length t.basis) j ≡ last j
  last_number = last_is

  pub least_signs : HasLeastCost t → HasLeastSigns relaxed program basis
  least_signs c = record {
    den = last (factor relaxed program);
    y = λ i. last ((lp_equations relaxed lp).slack + i);
    objective = has.objective;
    bounds = multipliers_by_signs relaxed program basis (number t.rows) all_rows (last (factor relaxed program)) (λ i. last ((lp_equations relaxed lp).slack + i)) has.objective (last_signs c);
  }

  -- a point of the basis that meets the rows, and multipliers of it that bound the cost
  pub point_of_answer : (z : ℕ → ℤ) (den : ℤ) → IsPoint few basis z den → MeetsRows few z den → HasPoint t
  point_of_answer z den p m = has_point (point_signs few basis (shown t) z den few_rows p m)

  pub cost_of_answer : (den : ℤ) (y : ℕ → ℤ) → IsObjectiveRow relaxed program basis den y → AreMultipliersFor relaxed program den y → HasLeastCost t
  cost_of_answer den y o m = has_least_cost (signs_by_multipliers relaxed program basis (number t.rows) all_rows den y o m)

  -- ---- the order
  module _ (order : List ℕ) (shown_order : IsShownOrder t order) where
    pub is_order : IsRisingOrder (length lp.rows) few.slack basis order
    is_order = subst (λ (m : ℕ). IsRisingOrder m few.slack basis order) has.count (subst (λ (m : ℕ). IsRisingOrder (length t.basis) m basis order) has.slack shown_order)

    column : ℕ → ℕ
    column k = basis (place order k)

    -- the number of a place whose column is before the slacks
    pub find : (i : ℕ) → i < length lp.rows → basis i < few.slack → (k : ℕ) × (k < length order) × (place order k ≡ i)
    find i b l = let f = is_order.complete i b l in (f.0, f.1, has.basis.columns.different (place order f.0) i (is_order.inside f.0 f.1) b f.2)

    later : (k l : ℕ) → k < length order → l < length order → basis (place order k) < suc (basis (place order l)) → k < suc l
    later k l b c d = by_lt l k (λ m. absurd (omega (arith, is_order.rising l k m b, d))) (λ m. omega (arith, m))

    earlier : (k l : ℕ) → k < suc l → l < length order → basis (place order k) < suc (basis (place order l))
    earlier k l b c = by_order k l (λ m. omega (arith, is_order.rising k l m c)) (λ e. omega (arith, ap (λ (i : ℕ). basis (place order i)) e)) (λ m. absurd (omega (arith, b, m)))

    -- the number of a column is no less than its number in the order
    pub number_small : (k : ℕ) → k < length order → k ≤ basis (place order k)
    number_small zero b = omega arith
    number_small (suc k) b = omega (arith, number_small k (omega (arith, b)), is_order.rising k (suc k) (omega arith) b)

    -- ---- least common multiples
    module _ (n bound : ℕ) (inside : (k : ℕ) → k < n → k < length order) (below : (k : ℕ) → k < n → basis (place order k) < bound) (found : (i : ℕ) → i < length lp.rows → basis i < bound → (k : ℕ) × (k < n) × (place order k ≡ i)) where
      entries_of : (d : ℕ) → IsMultipleTo n (own_entry t order) d → IsMultipleOfEntries few basis bound d
      entries_of d m i v b l r = let f = found i b l in
          subst (λ (x : ℤ). unsigned_abs x ∣ d) (row_of i v b r (basis i) (omega (arith, has.basis.columns.in_range i b)))
          (subst (λ (j : ℕ). unsigned_abs (shown t j (basis j)) ∣ d) f.2 (m f.0 f.1))

      of_entries : (d : ℕ) → IsMultipleOfEntries few basis bound d → IsMultipleTo n (own_entry t order) d
      of_entries d m k b = m (place order k) (shown t (place order k)) (is_order.inside k (inside k b)) (below k b) (has.rows (place order k) (is_order.inside k (inside k b)))

      least_multiple : (m : ℤ) → IsLeastTo n (own_entry t order) m → IsLeastMultiple few basis bound m
      least_multiple m l = record { positive = l.positive; multiple = entries_of (unsigned_abs m) l.multiple; least = λ d g. l.least d (of_entries d g) }

      least_to : (m : ℤ) → IsLeastMultiple few basis bound m → IsLeastTo n (own_entry t order) m
      least_to m l = record { positive = l.positive; multiple = of_entries (unsigned_abs m) l.multiple; least = λ d g. l.least d (entries_of d g) }

    pub common_denominator : (m : ℤ) → IsLeastTo (length order) (own_entry t order) m → IsCommonDenominator few basis m
    common_denominator = least_multiple (length order) few.slack (λ k b. b) is_order.before_slacks find

    pub of_denominator : (m : ℤ) → IsCommonDenominator few basis m → IsLeastTo (length order) (own_entry t order) m
    of_denominator = least_to (length order) few.slack (λ k b. b) is_order.before_slacks find

    module _ (l : ℕ) (within : l < length order) where
      find_to : (i : ℕ) → i < length lp.rows → basis i < suc (basis (place order l)) → (k : ℕ) × (k < suc l) × (place order k ≡ i)
      find_to i b c = let f = find i b (omega (arith, c, is_order.before_slacks l within)) in (f.0, later f.0 l f.1 within (subst (λ (j : ℕ). basis j < suc (basis (place order l))) (sym f.2) c), f.2)

      pub multiple_up_to : (m : ℤ) → IsLeastTo (suc l) (own_entry t order) m → IsLeastMultiple few basis (suc (basis (place order l))) m
      multiple_up_to = least_multiple (suc l) (suc (basis (place order l))) (λ k b. omega (arith, b, within)) (λ k b. earlier k l b within) find_to

      pub of_multiple : (m : ℤ) → IsLeastMultiple few basis (suc (basis (place order l))) m → IsLeastTo (suc l) (own_entry t order) m
      of_multiple = least_to (suc l) (suc (basis (place order l))) (λ k b. omega (arith, b, within)) (λ k b. earlier k l b within) find_to

      -- ---- wide places
      -- where no multiple up to it and no value is wide, the place isn't
      pub not_wide : ((m : ℤ) → IsLeastTo (suc l) (own_entry t order) m → IsNarrow m)
          → ((den : ℤ) → IsNarrowLeast (length order) (own_entry t order) den → IsWideOver den (own_entry t order l) (shown t (place order l) (factor_column t)) → ⊥)
          → ((den : ℤ) (c : ℕ) → IsNarrowLeast (length order) (own_entry t order) den → IsFirstRay relaxed program basis c → c < side few → IsWideOver (neg_ℤ den) (own_entry t order l) (shown t (place order l) c) → ⊥)
          → IsWideForFirst relaxed program basis (place order l) → ⊥
      not_wide multiples values moves w = elim w.wide [
        | inl m ↦ omega (arith, m.wide, multiples m.multiple (of_multiple m.multiple m.is_multiple))
        | inr v ↦ not_value v
      ]
        where
          not_value : IsWideValue few (IsFirstRay relaxed program basis) basis (place order l) → ⊥
          not_value v = elim v.wide [
            | inl x ↦ values v.den least (record { times = v.times; times_is = times_is; wide = subst (λ (y : ℤ). IsWide (y *ℤ v.times)) (sym (same (side few) (omega arith)) ∙ ap (λ (j : ℕ). shown t (place order l) j) (sym side_is)) x })
            | inr x ↦ let inside : x.0 < side few = subst (λ (r : Bool). x.0 < side (rows_of r program)) (sym x.1.unrelaxed) x.1.ray.makes.1.inside in moves v.den x.0 least x.1 inside (record {
              times = neg_ℤ v.times;
              times_is = neg_mul v.times (own_entry t order l) ∙ ap neg_ℤ times_is;
              wide = subst (λ (y : ℤ). IsWide y) (sym (mul_neg (shown t (place order l) x.0) v.times)) (wide_neg (shown t (place order l) x.0 *ℤ v.times) (subst (λ (y : ℤ). IsWide (y *ℤ v.times)) (sym (same x.0 (omega (arith, inside)))) x.2));
            })
          ]
            where
              same : (j : ℕ) → j ≤ side few → shown t (place order l) j ≡ v.row j
              same j b = row_of (place order l) v.row w.inside v.is_row j b

              least : IsNarrowLeast (length order) (own_entry t order) v.den
              least = record { is_least = of_denominator v.den v.denominator; narrow = v.narrow }

              times_is : v.times *ℤ own_entry t order l ≡ v.den
              times_is = ap (λ (y : ℤ). v.times *ℤ y) (same (basis (place order l)) (omega (arith, has.basis.columns.in_range (place order l) w.inside))) ∙ v.times_is

              wide_neg : (x : ℤ) → IsWide x → IsWide (neg_ℤ x)
              wide_neg x g = omega (arith, ints, g)

    -- ---- the point
    pub shown_point : (z : Vals) → IsShownPoint t order z → IsPoint few basis (entry z.num) z.den
    shown_point z p = record {
      denominator = common_denominator z.den p.den.is_least;
      outside = λ j b o. p.values.other j (λ k c. o (place order k) (is_order.inside k c));
      basic = λ i v b l r. let f = find i b l in
          ap (λ (x : ℤ). entry z.num (basis i) *ℤ x) (sym (row_of i v b r (basis i) (omega (arith, has.basis.columns.in_range i b))))
          ∙ subst (λ (j : ℕ). entry z.num (basis j) *ℤ shown t j (basis j) ≡ z.den *ℤ shown t j (factor_column t)) f.2 (value_is _ _ _ _ (p.values.basic f.0 f.1))
          ∙ ap (λ (x : ℤ). z.den *ℤ x) (ap (λ (j : ℕ). shown t i j) side_is ∙ row_of i v b r (side few) (omega arith));
    }
      where
        value_is : (den e r x : ℤ) → IsOver den e r x → x *ℤ e ≡ den *ℤ r
        value_is den e r x o = ap (λ (y : ℤ). y *ℤ e) o.value_is ∙ *ℤ_assoc r o.times e ∙ ap (λ (y : ℤ). r *ℤ y) o.times_is ∙ *ℤ_comm r den
