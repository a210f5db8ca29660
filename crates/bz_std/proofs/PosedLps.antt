-- A program that is posed is one of a program's record, where it has few variables and rows.
use Rattle.std.proofs.Common.{◌≡◌, refl, sym, ◌∙◌, ap, subst, ℕ, ◌+◌, ◌*◌, ◌<◌, ◌≤◌, ◌^◌, List, [], ◌∷◌, ◌++◌, length, map, suc, arith}
use Rattle.std.specs.List.{AllByRecursion}
use Rattle.std.proofs.lemmas.List.{length-map, map-append}
use Rattle.bz_algebra.specs.Sums.{AllBelow}
use Rattle.bz_tableau.specs.Programs.{IsLp}
use Rattle.bz_tableau.specs.declared.programs.Lp.{Lp}
use Rattle.bz_tableau.specs.declared.programs.LpRow.{LpRow}
use Rattle.bz_std.specs.Posed.{IsPosed, IsProgramOf, Line, Posed, line_of, line_over_columns, over_columns}
use Rattle.bz_std.proofs.ColumnSums.{columns_below}

lines_below : (n : ℕ) (lines : List Line) → AllByRecursion (λ l. AllBelow n l.terms) lines → AllByRecursion (λ l. AllBelow (2 * n) l.terms) (map line_over_columns lines)
lines_below n [] h = tt
lines_below n (l ∷ ls) h = (columns_below n l.terms h.0, lines_below n ls h.1)

rows_below : (n : ℕ) (rows : List LpRow) → AllByRecursion (λ l. AllBelow n l.terms) (map line_of rows) → AllByRecursion (λ row. AllBelow n row.terms) rows
rows_below n [] h = tt
rows_below n (row ∷ rows) h = (h.0, rows_below n rows h.1)

-- as many rows
pub as_many : (rows : List LpRow) (lines : List Line) → map line_of rows ≡ map line_over_columns lines → length rows ≡ length lines
as_many rows lines h = sym (length-map rows line_of) ∙ ap length h ∙ length-map lines line_over_columns

pub is_lp : (q : Posed) (lp : Lp) → IsPosed q → IsProgramOf q lp → q.variables < 2 ^ 29 → length q.rows < 2 ^ 28 → IsLp lp
is_lp q lp posed program few few_rows = record {
  few_columns = rw program.columns (omega arith);
  few_rows = rw (as_many lp.rows q.rows program.rows) few_rows;
  rows = rw program.columns (rows_below (2 * q.variables) lp.rows (subst (λ (ls : List Line). AllByRecursion (λ l. AllBelow (2 * q.variables) l.terms) ls) (sym program.rows) (lines_below q.variables q.rows posed.rows)));
  cost = rw (program.columns, program.cost) (columns_below q.variables q.cost posed.cost);
}

-- two lists of rows, one after the other
pub rows_joined : (first whole : List LpRow) (lines more : List Line) → map line_of first ≡ map line_over_columns lines → map line_of whole ≡ map line_of first ++ map line_over_columns more → map line_of whole ≡ map line_over_columns (lines ++ more)
rows_joined first whole lines more h k = k ∙ ap (λ (ls : List Line). ls ++ map line_over_columns more) h ∙ sym (map-append line_over_columns lines more)
