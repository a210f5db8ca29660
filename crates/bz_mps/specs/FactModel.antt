-- The end tests, and the model that the facts of a text make.
use Rattle.std.specs.Prelude.{ℕ, pos, ◌^◌, ◌≡◌, ◌⊎◌, Bool, List, [], ◌∷◌, ◌++◌, flat_map, map, zip}
use Rattle.std.specs.List.{AllZip, enumerate_from, slice_index_or}
use Rattle.bz_model.specs.declared.records.Column.{Column}
use Rattle.bz_model.specs.declared.records.Model.{Model}
use Rattle.bz_model.specs.declared.records.Row.{Row}
use Rattle.bz_facts.specs.declared.BoundLine.{BoundLine}
use Rattle.bz_facts.specs.declared.Facts.{Facts}
use Rattle.bz_facts.specs.declared.MpsFault.{MpsFault}
use Rattle.bz_facts.specs.declared.MpsKind.{MpsKind}
use Rattle.bz_facts.specs.declared.MpsKind.TheVariants.{NegativeUpper, Crossed, TooWide}
use Rattle.bz_facts.specs.declared.RowType.{RowType}
use Rattle.bz_facts.specs.FactTexts.{IsFactsOf, IsLineFault}
use Rattle.bz_lines.specs.FirstFault.{IsFirstFailing, NoneFails}
use Rattle.bz_mps.specs.declared.column_ends.Ends.{Ends}
use Rattle.bz_mps.specs.ColumnEnds.{IsBound, ends_by, has_negative_upper, is_above, is_integer, last_bound_line, lines_at}
use Rattle.bz_mps.specs.ScaledRows.{Scaled, constant_of, constraints, cost_of, is_wide_objective, is_wide_row, objective_place, objective_digits, row_at}

abbrev pub fault : ℕ → MpsKind → MpsFault
fault line kind = record { line = line; kind = kind }

-- the end tests of a column with these bounds and bound lines: both faults stand at the last of the lines
abbrev pub end_tests_of_column : Ends → List BoundLine → List (Bool × MpsFault)
end_tests_of_column e lines =
    (has_negative_upper e lines, fault (last_bound_line lines) NegativeUpper)
    ∷ (is_above e.lower e.upper, fault (last_bound_line lines) Crossed)
    ∷ []

-- those of a column with its place and whether a marker was open
abbrev pub end_tests_at_column : List BoundLine → ℕ × Bool → List (Bool × MpsFault)
end_tests_at_column bounds c = end_tests_of_column (ends_by c.1 (lines_at c.0 bounds)) (lines_at c.0 bounds)

-- the end test of a row: its fault stands at ENDATA
abbrev pub end_test_at_row : Facts → ℕ × RowType → Bool × MpsFault
end_test_at_row f r = (is_wide_row (row_at f r), fault f.end TooWide)

-- the end tests in order: the columns, the objective, the rows
unfoldable pub end_tests : Facts → List (Bool × MpsFault)
end_tests f =
    flat_map (end_tests_at_column f.bounds) (enumerate_from 0 f.integers)
    ++ (is_wide_objective f, fault f.end TooWide)
    ∷ map (end_test_at_row f) (constraints f.row_types)

-- the column of the model has this name, and the bounds that its lines make
pub record IsColumnWith (name : List ℕ) (marked : Bool) (lines : List BoundLine) (column : Column) : Type 0 where
  pub named : column.name ≡ name
  pub integer : column.integer ≡ is_integer marked lines
  pub lower : IsBound (ends_by marked lines).lower column.lower
  pub upper : IsBound (ends_by marked lines).upper column.upper

-- the same of a column by its place, its name and whether a marker was open
abbrev pub IsColumnOf : List BoundLine → ℕ × (List ℕ × Bool) → Column → Type 0
IsColumnOf bounds c column = IsColumnWith c.1.0 c.1.1 (lines_at c.0 bounds) column

-- the row of the model has this name, and these terms and sides
pub record IsRowWith (name : List ℕ) (scaled : Scaled) (row : Row) : Type 0 where
  pub named : row.name ≡ name
  pub terms : row.terms ≡ scaled.terms
  pub lower : row.lower ≡ scaled.lower
  pub upper : row.upper ≡ scaled.upper

-- the same of a row by its place among all rows
abbrev pub IsRowOf : Facts → ℕ × RowType → Row → Type 0
IsRowOf f r row = IsRowWith (slice_index_or f.row_names r.0 []) (row_at f r) row

-- The facts make this model: columns and rows stand in file order. (Each column of a text says whether a marker was open,
-- so that the model has as many columns as the text names, which is a law, `models_fit`.)
pub record IsModelOf (f : Facts) (m : Model) : Type 0 where
  pub columns : AllZip (IsColumnOf f.bounds) (enumerate_from 0 (zip f.columns f.integers)) m.columns
  pub rows : AllZip (IsRowOf f) (constraints f.row_types) m.rows
  pub objective : m.objective ≡ slice_index_or f.row_names (objective_place f.row_types) []
  pub cost : m.cost ≡ cost_of f
  pub constant : m.constant ≡ constant_of f
  pub scale : m.scale ≡ pos (10 ^ objective_digits f)
  pub maximise : m.maximise ≡ f.maximise

-- the first end test that fails
abbrev pub EndFault : Facts → ℕ → MpsKind → Type 0
EndFault f line kind = IsFirstFailing (end_tests f) (fault line kind)

-- the text has this model: no line fails, no end test fails, and its facts make the model
pub record ModelOf (text : List ℕ) (m : Model) : Type 0 where
  pub facts : Facts
  pub are : IsFactsOf text facts
  pub ends : NoneFails (end_tests facts)
  pub model : IsModelOf facts m

-- no line of the text fails, but an end test does
pub record FailsAtEnd (text : List ℕ) (line : ℕ) (kind : MpsKind) : Type 0 where
  pub facts : Facts
  pub are : IsFactsOf text facts
  pub first : EndFault facts line kind

-- the text has this fault: that of its lines, or that of its end tests
abbrev pub MpsFaultOf : List ℕ → ℕ → MpsKind → Type 0
MpsFaultOf text line kind = IsLineFault text line kind ⊎ FailsAtEnd text line kind
