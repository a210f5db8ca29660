-- The end tests of facts, part by part, and what a model that facts make has.
use Rattle.std.proofs.Common.{ℕ, ◌<◌, ◌^◌, ◌≤◌, ◌+◌, ◌≡◌, refl, suc, not, sym, ap, subst, arith, ℤ, pos, ◌<ℤ◌, Bool, List, [], ◌∷◌, map, filter, cond, true, false}
use Rattle.std.specs.Prelude.{flat_map, length, nat_lt, zip, ◌==◌}
use Rattle.std.specs.Int.RustNames.{unsigned_abs}
use Rattle.std.specs.List.{AllByRecursion, AllZip, enumerate_from}
use Rattle.std.proofs.lemmas.Int.{ints}
use Rattle.std.proofs.lemmas.Slice.Zip.{AllZip-long}
use Rattle.bz_algebra.specs.Sums.{AllBelow}
use Rattle.bz_lines.specs.FirstFault.{NoneFails}
use Rattle.bz_model.specs.declared.Column.{Column}
use Rattle.bz_model.specs.declared.Model.{Model}
use Rattle.bz_model.specs.declared.Row.{Row}
use Rattle.bz_model.specs.Strict.{HasItsColumns}
use Rattle.bz_facts.specs.declared.Entry.{Entry}
use Rattle.bz_facts.specs.declared.Facts.{Facts}
use Rattle.bz_facts.specs.declared.MpsKind.TheVariants.{TooWide}
use Rattle.bz_facts.specs.declared.MpsStop.{MpsStop}
use Rattle.bz_facts.specs.declared.RowType.{RowType}
use Rattle.bz_facts.specs.LineTests.{is_counted, is_free}
use Rattle.bz_facts.specs.SoundFacts.{AreSound, IsEntryAmong}
use Rattle.bz_mps.specs.FactModel.{IsColumnOf, IsModelOf, IsRowOf, end_test_at_row, end_tests, end_tests_at_column, fault}
use Rattle.bz_mps.specs.ScaledRows.{constraints, entries_at, is_wide_objective, scaled, terms_by}
use Rattle.bz_mps.specs.TestAnswers.{StopsAtFirst}
use Rattle.bz_mps.proofs.BoundNumbers.{power_some}
use Rattle.bz_mps.proofs.ColumnSteps.{all_kept, all_weaker, as_many_columns}
use Rattle.bz_mps.proofs.TestLists.{none_append, stops_behind, stops_within}

pub column_stops_all : (f : Facts) (stop : MpsStop) → StopsAtFirst (flat_map (end_tests_at_column f.bounds) (enumerate_from 0 f.integers)) stop → StopsAtFirst (end_tests f) stop
unfolding end_tests
column_stops_all f stop h =
    stops_within [] (flat_map (end_tests_at_column f.bounds) (enumerate_from 0 f.integers)) ((is_wide_objective f, fault f.end TooWide) ∷ map (end_test_at_row f) (constraints f.row_types)) stop tt h

pub objective_stops_all : (f : Facts) (stop : MpsStop) → NoneFails (flat_map (end_tests_at_column f.bounds) (enumerate_from 0 f.integers)) → StopsAtFirst ((is_wide_objective f, fault f.end TooWide) ∷ []) stop → StopsAtFirst (end_tests f) stop
unfolding end_tests
objective_stops_all f stop columns h =
    stops_within (flat_map (end_tests_at_column f.bounds) (enumerate_from 0 f.integers)) ((is_wide_objective f, fault f.end TooWide) ∷ []) (map (end_test_at_row f) (constraints f.row_types)) stop columns h

pub row_stops_all : (f : Facts) (stop : MpsStop) → NoneFails (flat_map (end_tests_at_column f.bounds) (enumerate_from 0 f.integers)) → NoneFails ((is_wide_objective f, fault f.end TooWide) ∷ [])
    → StopsAtFirst (map (end_test_at_row f) (constraints f.row_types)) stop → StopsAtFirst (end_tests f) stop
unfolding end_tests
row_stops_all f stop columns objective h =
    stops_behind (flat_map (end_tests_at_column f.bounds) (enumerate_from 0 f.integers)) ((is_wide_objective f, fault f.end TooWide) ∷ map (end_test_at_row f) (constraints f.row_types)) stop columns
    (stops_behind ((is_wide_objective f, fault f.end TooWide) ∷ []) (map (end_test_at_row f) (constraints f.row_types)) stop objective h)

pub all_pass : (f : Facts) → NoneFails (flat_map (end_tests_at_column f.bounds) (enumerate_from 0 f.integers)) → NoneFails ((is_wide_objective f, fault f.end TooWide) ∷ [])
    → NoneFails (map (end_test_at_row f) (constraints f.row_types)) → NoneFails (end_tests f)
unfolding end_tests
all_pass f columns objective rows =
    none_append (flat_map (end_tests_at_column f.bounds) (enumerate_from 0 f.integers)) ((is_wide_objective f, fault f.end TooWide) ∷ map (end_test_at_row f) (constraints f.row_types)) columns (objective.0, rows)

-- a power of ten is positive
pub scale_positive : (s : ℤ) (k : ℕ) → s ≡ pos (10 ^ k) → (pos 0) <ℤ s
scale_positive s k e = let some : 1 ≤ 10 ^ k = power_some k in rw e (omega (arith, ints))

-- The terms of a row and of the objective are those of columns.

terms_below : (n k : ℕ) (es : List Entry) → AllByRecursion (λ e. e.column < n) es → AllBelow n (terms_by k es)
terms_below n k [] h = tt
terms_below n k (e ∷ es) h = by (nat_lt 0 (unsigned_abs e.number.mant)) (terms_below n k es h.1)
  where
    by : (b : Bool) → AllBelow n (terms_by k es)
        → AllBelow n (map (λ e. (e.column, scaled k e.number)) (cond b (e ∷ filter (λ e. nat_lt 0 (unsigned_abs e.number.mant)) es) (filter (λ e. nat_lt 0 (unsigned_abs e.number.mant)) es)))
    by true rest = (h.0, rest)
    by false rest = rest

below_at : (f : Facts) (r k : ℕ) → AreSound f → AllBelow (length f.columns) (terms_by k (entries_at r f.entries))
below_at f r k s =
    terms_below (length f.columns) k (entries_at r f.entries)
    (all_kept (λ e. e.column < length f.columns) (λ e. e.row == r) f.entries (all_weaker (IsEntryAmong (length f.columns) (length f.row_names)) (λ e. e.column < length f.columns) (λ e h. h.column) f.entries s.entries))

rows_below : (f : Facts) (rs : List (ℕ × RowType)) (rows : List Row) → AreSound f → AllZip (IsRowOf f) rs rows → AllByRecursion (λ row. AllBelow (length f.columns) row.terms) rows
rows_below f [] [] s h = tt
rows_below f [] (row ∷ rows) s h = absurd h
rows_below f (r ∷ rs) [] s h = absurd h
rows_below f (r ∷ rs) (row ∷ rows) s h = (subst (AllBelow (length f.columns)) (sym h.0.terms) (below_at f r.0 _ s), rows_below f rs rows s h.1)

-- a model has as many columns as its facts name, few columns and few rows
pub model-columns : (f : Facts) (m : Model) → AreSound f → IsModelOf f m → length m.columns ≡ length f.columns
model-columns f m s h = as_many_columns f.bounds f.columns f.integers m.columns s.integers h.columns

pub few_columns : (f : Facts) (columns : List Column) → AreSound f →
    AllZip (IsColumnOf f.bounds) (enumerate_from 0 (zip f.columns f.integers)) columns → length columns ≤ 2048
few_columns f columns s h =
    let same : length columns ≡ length f.columns = as_many_columns f.bounds f.columns f.integers columns s.integers h in
    let few = s.few_columns in
    omega arith

pub model-few_columns : (f : Facts) (m : Model) → AreSound f → IsModelOf f m → length m.columns ≤ 2048
model-few_columns f m s h = few_columns f m.columns s h.columns

constraints_counted : (n : ℕ) (types : List RowType) → length (filter (λ r. not (is_free r.1)) (enumerate_from n types)) ≡ length (filter is_counted types)
constraints_counted n [] = refl
constraints_counted n (t ∷ ts) = by (not (is_free t)) (constraints_counted (n + 1) ts)
  where
    by : (b : Bool) → length (filter (λ r. not (is_free r.1)) (enumerate_from (n + 1) ts)) ≡ length (filter is_counted ts)
        → length (cond b ((n, t) ∷ filter (λ r. not (is_free r.1)) (enumerate_from (n + 1) ts)) (filter (λ r. not (is_free r.1)) (enumerate_from (n + 1) ts))) ≡ length (cond b (t ∷ filter is_counted ts) (filter is_counted ts))
    by true rest = ap (λ n. suc n) rest
    by false rest = rest

pub few_rows : (f : Facts) (rows : List Row) → AreSound f → AllZip (IsRowOf f) (constraints f.row_types) rows → length rows ≤ 2048
few_rows f rows s h =
    let same : length rows ≡ length (constraints f.row_types) = AllZip-long (IsRowOf f) (constraints f.row_types) rows h in
    let counted = constraints_counted 0 f.row_types in
    let few = s.few_rows in
    omega arith

pub model-few_rows : (f : Facts) (m : Model) → AreSound f → IsModelOf f m → length m.rows ≤ 2048
model-few_rows f m s h = few_rows f m.rows s h.rows

-- the rows and the objective have terms of its columns alone
pub model-its_columns : (f : Facts) (m : Model) → AreSound f → IsModelOf f m → HasItsColumns m
model-its_columns f m s h =
    let same : length f.columns ≡ length m.columns = sym (model-columns f m s h) in
    record {
      rows = subst (λ (n : ℕ). AllByRecursion (λ row. AllBelow n row.terms) m.rows) same (rows_below f (constraints f.row_types) m.rows s h.rows);
      cost = subst (λ (n : ℕ). AllBelow n m.cost) same (subst (AllBelow (length f.columns)) (sym h.cost) (below_at f _ _ s));
    }
