-- Sound facts that pass the end tests make a model. So a text has a model or a fault.
use Rattle.std.proofs.Common.{ℕ, zero, suc, ◌-◌, ◌*◌, ◌%◌, ◌<◌, ◌≤◌, ◌^◌, ◌≡◌, ◌⊎◌, inl, inr, refl, sym, ap, ◌∙◌, subst, arith, ℤ, pos, negsuc, ◌*ℤ◌, ◌<ℤ◌, Bool, true, false, ◌||◌, List, [], ◌∷◌, ◌++◌, length, map, fold, Option, Some, None}
use Rattle.std.specs.Prelude.{flat_map}
use Rattle.std.specs.Int.{IsGcd}
use Rattle.std.specs.Int.RustNames.{int_div, unsigned_abs}
use Rattle.std.specs.List.{AllByRecursion, AllZip, enumerate_from, slice_index_or, zip}
use Rattle.std.specs.Option.{ForSome}
use Rattle.std.proofs.lemmas.Bool.{leb-false}
use Rattle.std.proofs.lemmas.Int.{ints}
use Rattle.std.proofs.lemmas.Nat.Gcd.{IsGcd-from_mod, IsGcd-from_zero}
use Rattle.std.proofs.Math.Nat.{mod-lt, mul-le-mul_right, zero-lt-suc}
use Rattle.bz_algebra.specs.Numbers.{IsNarrow}
use Rattle.bz_lines.specs.FirstFault.{NoneFails, first_failing}
use Rattle.bz_lines.proofs.FirstFaults.{none_fails, some_fails}
use Rattle.bz_model.specs.declared.Column.{Column}
use Rattle.bz_model.specs.declared.Model.{Model}
use Rattle.bz_model.specs.declared.Row.{Row}
use Rattle.bz_num.specs.Fold.{is_wide}
use Rattle.bz_num.specs.Lowest.{IsLowest}
use Rattle.bz_num.specs.declared.Dec.{Dec}
use Rattle.bz_num.specs.declared.Frac.{Frac}
use Rattle.bz_num.proofs.Divisors.{divided_z, size-product}
use Rattle.bz_num.proofs.Lowest.{divisor_some, lowest_of, other_positive}
use Rattle.bz_facts.specs.declared.BoundLine.{BoundLine}
use Rattle.bz_facts.specs.declared.Facts.{Facts}
use Rattle.bz_facts.specs.declared.MpsFault.{MpsFault}
use Rattle.bz_facts.specs.declared.MpsKind.{MpsKind}
use Rattle.bz_facts.specs.declared.MpsKind.TheVariants.{TooWide}
use Rattle.bz_facts.specs.declared.RowType.{RowType}
use Rattle.bz_facts.specs.FactTexts.{IsFactsOf, IsLineFault}
use Rattle.bz_facts.specs.SoundFacts.{AreSound, IsBoundAmong, IsFinite}
use Rattle.bz_facts.proofs.FactLaws.{text_has_facts_or_fault}
use Rattle.bz_facts.proofs.FactsOfTexts.{facts_sound}
use Rattle.bz_facts.proofs.SoundLists.{or-none}
use Rattle.bz_mps.specs.declared.column_ends.Ends.{Ends}
use Rattle.bz_mps.specs.ColumnEnds.{IsBound, IsFractionOf, bounded, ends_by, is_integer, lines_at, starting}
use Rattle.bz_mps.specs.FactModel.{IsColumnOf, IsModelOf, IsRowOf, ModelOf, MpsFaultOf, end_test_at_row, end_tests, end_tests_at_column, fault}
use Rattle.bz_mps.specs.ScaledRows.{Scaled, constant_of, constraints, cost_of, has_wide_term, is_wide_objective, is_wide_row, is_wide_side, objective_digits, objective_place, row_at}
use Rattle.bz_mps.specs.TestAnswers.{AreFinite}
use Rattle.bz_mps.proofs.BoundNumbers.{finite_above, fraction_above, fraction_below, power_fits, power_some}
use Rattle.bz_mps.proofs.ColumnSteps.{lines_finite}
use Rattle.bz_mps.proofs.EndLemmas.{binary_finite, bounded_finite, starting_finite}
use Rattle.bz_mps.proofs.ModelLemmas.{few_columns, few_rows, scale_positive}

-- A finite decimal has a fraction in lowest terms.

gcd_there : (n a b : ℕ) → b < n → (g : ℕ) × IsGcd a b g
gcd_there zero a b h = absurd (omega arith)
gcd_there (suc n) a zero h = (a, IsGcd-from_zero a 0 refl)
gcd_there (suc n) a (suc b) h =
    let rest = gcd_there n (suc b) (a % suc b) (omega (arith, mod-lt a {m = suc b} (zero-lt-suc b))) in
    (rest.0, IsGcd-from_mod a (suc b) rest.0 rest.1)

no_greater : (g : ℕ) (z q : ℤ) → 0 < g → z ≡ pos g *ℤ q → unsigned_abs q ≤ unsigned_abs z
no_greater g z q some e =
    let size : unsigned_abs z ≡ g * unsigned_abs q = ap unsigned_abs e ∙ size-product g q in
    let once : 1 * unsigned_abs q ≤ g * unsigned_abs q = mul-le-mul_right (unsigned_abs q) some in
    omega arith

lowest_there : (num : ℤ) (den : ℕ) → IsNarrow num → 0 < den → den < 2 ^ 127 → (f : Frac) × IsLowest num (pos den) f
lowest_there num den narrow some few = (f, lowest_of num (pos den) (pos gcd.0) f positive nums dens gcd.1)
  where
    gcd : (g : ℕ) × IsGcd (unsigned_abs num) den g
    gcd = gcd_there (suc den) (unsigned_abs num) den (omega arith)

    there : 0 < gcd.0
    there = divisor_some (unsigned_abs num) den gcd.0 some gcd.1

    positive : (pos 0) <ℤ (pos gcd.0)
    positive = let h = there in omega (arith, ints)

    nums : num ≡ pos gcd.0 *ℤ int_div num (pos gcd.0)
    nums = sym (divided_z (pos gcd.0) num positive gcd.1.0)

    dens : pos den ≡ pos gcd.0 *ℤ int_div (pos den) (pos gcd.0)
    dens = sym (divided_z (pos gcd.0) (pos den) positive gcd.1.1)

    f : Frac
    f = record {
      num = int_div num (pos gcd.0);
      den = int_div (pos den) (pos gcd.0);
      positive = other_positive (pos den) (pos gcd.0) (int_div (pos den) (pos gcd.0)) (omega (arith, ints, some)) (omega (arith, ints)) dens;
      narrow_num = omega (arith, narrow, no_greater gcd.0 num (int_div num (pos gcd.0)) there nums);
      narrow_den = omega (arith, few, no_greater gcd.0 (pos den) (int_div (pos den) (pos gcd.0)) there dens);
    }

fraction_there : (d : Dec) → IsFinite d → (f : Frac) × IsFractionOf d f
fraction_there d h = by d.exp refl h.within.exp
  where
    by : (z : ℤ) → d.exp ≡ z → unsigned_abs z ≤ 30 → (f : Frac) × IsFractionOf d f
    by (pos n) same few =
        let less = finite_above d n same h.finite in
        let lowest = lowest_there (d.mant *ℤ pos (10 ^ n)) 1 (omega (arith, less)) (omega arith) (omega arith) in
        (lowest.0, fraction_above d lowest.0 n same lowest.1)
    by (negsuc n) same few =
        let mant = h.within.mant in
        let some : 1 ≤ 10 ^ suc n = power_some (suc n) in
        let fits : 10 ^ suc n ≤ 10 ^ 38 = power_fits (suc n) (omega (arith, few)) in
        let lowest = lowest_there d.mant (10 ^ suc n) (omega (arith, mant)) (omega (arith, some)) (omega (arith, fits)) in
        (lowest.0, fraction_below d lowest.0 n (omega (arith, few)) same lowest.1)

bound_there : (o : Option Dec) → ForSome o IsFinite → (f : Option Frac) × IsBound o f
bound_there None h = (None, tt)
bound_there (Some d) h = let fraction = fraction_there d (h d refl) in (Some fraction.0, fraction.1)

-- Columns.

folded_finite : (e : Ends) (lines : List BoundLine) → AllByRecursion (λ b. ForSome b.number IsFinite) lines → AreFinite e → AreFinite (fold (λ e b. bounded b.kind b.number e) e lines)
folded_finite e [] h f = f
folded_finite e (b ∷ bs) h f =
    folded_finite (bounded b.kind b.number e) bs h.1 (bounded_finite b.kind b.number e h.0 f)

ends_finite : (marked : Bool) (lines : List BoundLine) → AllByRecursion (λ b. ForSome b.number IsFinite) lines → AreFinite (ends_by marked lines)
ends_finite true [] h = binary_finite
ends_finite false [] h = starting_finite
ends_finite marked (b ∷ bs) h = folded_finite starting (b ∷ bs) h starting_finite

column_there : (count : ℕ) (bounds : List BoundLine) (c : ℕ × (List ℕ × Bool)) → AllByRecursion (IsBoundAmong count) bounds → (column : Column) × IsColumnOf bounds c column
column_there count bounds c h =
    let lines = lines_at c.0 bounds in
    let finite = ends_finite c.1.1 lines (lines_finite count c.0 bounds lines refl h) in
    let lower = bound_there (ends_by c.1.1 lines).lower finite.lower in
    let upper = bound_there (ends_by c.1.1 lines).upper finite.upper in (
      record { name = c.1.0; integer = is_integer c.1.1 lines; lower = lower.0; upper = upper.0 },
      record { named = refl; integer = refl; lower = lower.1; upper = upper.1 },
    )

columns_there : (count : ℕ) (bounds : List BoundLine) (cs : List (ℕ × (List ℕ × Bool))) → AllByRecursion (IsBoundAmong count) bounds → (columns : List Column) × AllZip (IsColumnOf bounds) cs columns
columns_there count bounds [] h = ([], tt)
columns_there count bounds (c ∷ cs) h =
    let first = column_there count bounds c h in
    let rest = columns_there count bounds cs h in
    (first.0 ∷ rest.0, (first.1, rest.1))

-- Rows.

narrow_number : (z : ℤ) → is_wide z ≡ false → IsNarrow z
narrow_number z e = leb-false (2 ^ 127) (unsigned_abs z) e

narrow_side : (o : Option ℤ) → is_wide_side o ≡ false → ForSome o IsNarrow
narrow_side None e = λ x s. absurd cc
narrow_side (Some z) e = λ x s. let same : z ≡ x = cc in subst IsNarrow same (narrow_number z e)

row_there : (f : Facts) (r : ℕ × RowType) → is_wide_row (row_at f r) ≡ false → (row : Row) × IsRowOf f r row
row_there f r e =
    let scaled : Scaled = row_at f r in
    let sides = or-none (has_wide_term scaled.terms) (is_wide_side scaled.lower || is_wide_side scaled.upper) e in
    let each = or-none (is_wide_side scaled.lower) (is_wide_side scaled.upper) sides.1 in (
      record {
        name = slice_index_or f.row_names r.0 [];
        terms = scaled.terms;
        lower = scaled.lower;
        upper = scaled.upper;
        lower_narrow = narrow_side scaled.lower each.0;
        upper_narrow = narrow_side scaled.upper each.1;
      },
      record { named = refl; terms = refl; lower = refl; upper = refl },
    )

rows_there : (f : Facts) (rs : List (ℕ × RowType)) → NoneFails (map (end_test_at_row f) rs) → (rows : List Row) × AllZip (IsRowOf f) rs rows
rows_there f [] h = ([], tt)
rows_there f (r ∷ rs) h =
    let first = row_there f r h.0 in
    let rest = rows_there f rs h.1 in
    (first.0 ∷ rest.0, (first.1, rest.1))

-- The model.

none_behind : {K : Type 0} (before ts : List (Bool × K)) → NoneFails (before ++ ts) → NoneFails ts
none_behind [] ts h = h
none_behind (t ∷ before) ts h = none_behind before ts h.1

pub model_there : (f : Facts) → AreSound f → NoneFails (end_tests f) → (m : Model) × IsModelOf f m
unfolding end_tests
model_there f s h = (
  record {
    columns = columns.0;
    rows = rows.0;
    objective = slice_index_or f.row_names (objective_place f.row_types) [];
    cost = cost_of f;
    constant = constant_of f;
    scale = pos (10 ^ objective_digits f);
    maximise = f.maximise;
    constant_narrow = narrow_number (constant_of f) (or-none (has_wide_term (cost_of f)) (is_wide (constant_of f)) behind.0).1;
    scale_positive = scale_positive (pos (10 ^ objective_digits f)) (objective_digits f) refl;
    few_columns = omega (arith, few_columns f columns.0 s columns.1);
    few_rows = omega (arith, few_rows f rows.0 s rows.1);
  },
  record { columns = columns.1; rows = rows.1; objective = refl; cost = refl; constant = refl; scale = refl; maximise = refl },
)
  where
    behind : NoneFails ((is_wide_objective f, fault f.end TooWide) ∷ map (end_test_at_row f) (constraints f.row_types))
    behind = none_behind (flat_map (end_tests_at_column f.bounds) (enumerate_from 0 f.integers)) ((is_wide_objective f, fault f.end TooWide) ∷ map (end_test_at_row f) (constraints f.row_types)) h

    columns : (columns : List Column) × AllZip (IsColumnOf f.bounds) (enumerate_from 0 (zip f.columns f.integers)) columns
    columns = columns_there (length f.columns) f.bounds (enumerate_from 0 (zip f.columns f.integers)) s.bounds

    rows : (rows : List Row) × AllZip (IsRowOf f) (constraints f.row_types) rows
    rows = rows_there f (constraints f.row_types) behind.1

by_end : (text : List ℕ) (f : Facts) (found : Option MpsFault) → first_failing (end_tests f) ≡ found → AreSound f → IsFactsOf text f → ((m : Model) × ModelOf text m) ⊎ ((line : ℕ) × ((kind : MpsKind) × MpsFaultOf text line kind))
by_end text f None e s h =
    let ends = none_fails (end_tests f) e in
    let model = model_there f s ends in
    inl (model.0, record { facts = f; are = h; ends = ends; model = model.1 })
by_end text f (Some k) e s h =
    inr (k.line, (k.kind, inr (record { facts = f; are = h; first = some_fails (end_tests f) k e })))

pub text-model_or_fault : (text : List ℕ) → length text < 2 ^ 63 - 1 → ((m : Model) × ModelOf text m) ⊎ ((line : ℕ) × ((kind : MpsKind) × MpsFaultOf text line kind))
text-model_or_fault text l = by (text_has_facts_or_fault text)
  where
    by : ((f : Facts) × IsFactsOf text f) ⊎ ((line : ℕ) × ((kind : MpsKind) × IsLineFault text line kind)) → ((m : Model) × ModelOf text m) ⊎ ((line : ℕ) × ((kind : MpsKind) × MpsFaultOf text line kind))
    by (inl f) = by_end text f.0 (first_failing (end_tests f.0)) refl (facts_sound text f.0 l f.1) f.1
    by (inr k) = inr (k.0, (k.1.0, inl k.1.1))
