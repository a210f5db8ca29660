-- The rows of a posed program, one by one, and those of the program that stands for it.
use Rattle.std.specs.Prelude.{ℕ, zero, suc, ◌<◌, ◌≡◌, ℤ, List, [], ◌∷◌, length, map}
use Rattle.std.specs.List.{AllByRecursion}
use Rattle.std.proofs.Common.{refl, ap, sym, ◌∙◌, arith}
use Rattle.bz_algebra.specs.Sums.{AllBelow}
use Rattle.bz_tableau.specs.Programs.{terms_of, rhs_of}
use Rattle.bz_tableau.specs.declared.programs.Lp.{Lp}
use Rattle.bz_tableau.specs.declared.programs.LpRow.{LpRow}
use Rattle.bz_std.specs.Meanings.{terms_at, right_at}
use Rattle.bz_std.specs.Posed.{IsPosed, IsProgramOf, Line, Posed, line_of, line_over_columns, over_columns}

-- ---- a fact of each row
pub each_line : (P : List (ℕ × ℤ) → ℤ → Type 0) (rows : List Line) → AllByRecursion (λ row. P row.terms row.rhs) rows → (i : ℕ) → i < length rows → P (terms_at rows i) (right_at rows i)
each_line P [] h i b = absurd (omega arith)
each_line P (row ∷ rows) h zero b = h.0
each_line P (row ∷ rows) h (suc i) b = each_line P rows h.1 i (omega arith)

pub all_lines : (P : List (ℕ × ℤ) → ℤ → Type 0) (rows : List Line) → ((i : ℕ) → i < length rows → P (terms_at rows i) (right_at rows i)) → AllByRecursion (λ row. P row.terms row.rhs) rows
all_lines P [] h = tt
all_lines P (row ∷ rows) h = (h zero (omega arith), all_lines P rows (λ i b. h (suc i) (omega arith)))

-- ---- the rows of the program
count_kept : (rows : List LpRow) → length (map line_of rows) ≡ length rows
count_kept [] = refl
count_kept (row ∷ rows) = ap suc (count_kept rows)

terms_kept : (rows : List LpRow) (i : ℕ) → terms_at (map line_of rows) i ≡ terms_of rows i
terms_kept [] i = refl
terms_kept (row ∷ rows) zero = refl
terms_kept (row ∷ rows) (suc i) = terms_kept rows i

right_kept : (rows : List LpRow) (i : ℕ) → right_at (map line_of rows) i ≡ rhs_of rows i
right_kept [] i = refl
right_kept (row ∷ rows) zero = refl
right_kept (row ∷ rows) (suc i) = right_kept rows i

count_doubled : (rows : List Line) → length (map line_over_columns rows) ≡ length rows
count_doubled [] = refl
count_doubled (row ∷ rows) = ap suc (count_doubled rows)

terms_doubled : (rows : List Line) (i : ℕ) → terms_at (map line_over_columns rows) i ≡ over_columns (terms_at rows i)
terms_doubled [] i = refl
terms_doubled (row ∷ rows) zero = refl
terms_doubled (row ∷ rows) (suc i) = terms_doubled rows i

right_doubled : (rows : List Line) (i : ℕ) → right_at (map line_over_columns rows) i ≡ right_at rows i
right_doubled [] i = refl
right_doubled (row ∷ rows) zero = refl
right_doubled (row ∷ rows) (suc i) = right_doubled rows i

-- what the program's rows are, by place
pub record HasLines (q : Posed) (lp : Lp) : Type 0 where
  pub count : length lp.rows ≡ length q.rows
  pub terms : (i : ℕ) → terms_of lp.rows i ≡ over_columns (terms_at q.rows i)
  pub right : (i : ℕ) → rhs_of lp.rows i ≡ right_at q.rows i

pub has_lines : (q : Posed) (lp : Lp) → IsProgramOf q lp → HasLines q lp
has_lines q lp h = record {
  count = sym (count_kept lp.rows) ∙ ap length h.rows ∙ count_doubled q.rows;
  terms = λ i. sym (terms_kept lp.rows i) ∙ ap (λ (rows : List Line). terms_at rows i) h.rows ∙ terms_doubled q.rows i;
  right = λ i. sym (right_kept lp.rows i) ∙ ap (λ (rows : List Line). right_at rows i) h.rows ∙ right_doubled q.rows i;
}

-- the indexes of a row
pub line_below : (q : Posed) → IsPosed q → (i : ℕ) → i < length q.rows → AllBelow q.variables (terms_at q.rows i)
line_below q h i b = each_line (λ terms rhs. AllBelow q.variables terms) q.rows h.rows i b
