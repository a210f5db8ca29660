-- The size of a part, as a sum over rows and columns.
use Rattle.std.proofs.Common.{◌≡◌, ◌∙◌, ◌∷◌, [], ℕ, ◌+◌, ◌*◌, ◌==◌, ◌&&◌, not, Bool, true, false, if◌then◌else◌, List, length, filter, arith, ap, refl, add_assoc, length-append}
use Rattle.std.specs.List.{enumerate_from, flat_map}
use Rattle.bz_model.specs.declared.records.Column.{Column}
use Rattle.bz_model.specs.declared.records.Model.{Model}
use Rattle.bz_model.specs.declared.records.Row.{Row}
use Rattle.bz_model.specs.Parting.{home_of, part_of, sides_of_column, sides_of_row}
use Rattle.bz_model.specs.PartLists.{bounds_at, sides_of_columns, sides_of_rows}
use Rattle.bz_model.specs.Strict.{size_of}
use Rattle.bz_model.specs.Sizes.{column_size, row_size, sum_of}

-- what a test lets pass of a list with one more item in front
picked : {X Y : Type 0} (f : X → List Y) (p : X → Bool) (x : X) (xs : List X) (b : Bool) → p x ≡ b →
    length (flat_map f (filter p (x ∷ xs))) ≡ (if b then length (f x) else 0) + length (flat_map f (filter p xs))
picked f p x xs true e = rw e (length-append (f x) (flat_map f (filter p xs)))
picked f p x xs false e = rw e (omega arith)

rows_size : (part : List ℕ) (b : ℕ) (rows : List Row) → length (sides_of_rows part rows b) ≡ sum_of (row_size part b) rows
rows_size part b [] = refl
rows_size part b (row ∷ rows) =
    picked (sides_of_row part b) (λ r. home_of part r.terms == b) row rows (home_of part row.terms == b) refl
    ∙ ap (λ n. row_size part b row + n) (rows_size part b rows)

filtered : {X : Type 0} (p : X → Bool) (x : X) (xs : List X) (b : Bool) → p x ≡ b →
    length (filter p (x ∷ xs)) ≡ (if b then 1 else 0) + length (filter p xs)
filtered p x xs true e = rw e (omega arith)
filtered p x xs false e = rw e (omega arith)

-- the sides of the box that columns give
box_size : ℕ → List (ℕ × Column) → ℕ
box_size b es = (if b == 0 then 2 * length (filter (λ e. e.1.integer) es) else 0)

box_cases : (z i : Bool) (n : ℕ) →
    (if z then 2 * ((if i then 1 else 0) + n) else 0) ≡ (if z then (if i then 2 else 0) else 0) + (if z then 2 * n else 0)
box_cases true true n = omega arith
box_cases true false n = omega arith
box_cases false i n = omega arith

box_more : (b : ℕ) (e : ℕ × Column) (es : List (ℕ × Column)) →
    box_size b (e ∷ es) ≡ (if b == 0 then (if e.1.integer then 2 else 0) else 0) + box_size b es
unfolding box_size
box_more b e es =
    ap (λ n. (if b == 0 then 2 * n else 0)) (filtered (λ c. c.1.integer) e es e.1.integer refl)
    ∙ box_cases (b == 0) e.1.integer (length (filter (λ c. c.1.integer) es))

chosen_length : {X : Type 0} (b : Bool) (xs : List X) → length (if b then xs else []) ≡ (if b then length xs else 0)
chosen_length true xs = refl
chosen_length false xs = refl

no_box : (z : Bool) → 0 + (if z then 2 * 0 else 0) ≡ 0
no_box true = refl
no_box false = refl

regrouped : (all own rest box side more bound total : ℕ) → all ≡ own + rest → box ≡ side + more → bound ≡ own →
    rest + more ≡ total → all + box ≡ (bound + side) + total
regrouped all own rest box side more bound total a b c d = omega arith

one_more : (part : List ℕ) (b : ℕ) (e : ℕ × Column) (es : List (ℕ × Column)) →
    length (sides_of_columns part es b) + box_size b es ≡ sum_of (column_size part b) es →
    length (sides_of_columns part (e ∷ es) b) + box_size b (e ∷ es) ≡ sum_of (column_size part b) (e ∷ es)
one_more part b e es h =
    let own : length (sides_of_columns part (e ∷ es) b)
    ≡ (if (part_of part e.0 == b) && not e.1.integer then length (sides_of_column part b e) else 0) + length (sides_of_columns part es b) =
    picked (sides_of_column part b) (λ c. (part_of part c.0 == b) && not c.1.integer) e es _ refl in
    let box : box_size b (e ∷ es) ≡ (if b == 0 then (if e.1.integer then 2 else 0) else 0) + box_size b es = box_more b e es in
    let bounds : length (bounds_at part e b) ≡ (if (part_of part e.0 == b) && not e.1.integer then length (sides_of_column part b e) else 0) =
    chosen_length ((part_of part e.0 == b) && not e.1.integer) (sides_of_column part b e) in
    regrouped _ _ _ _ _ _ _ _ own box bounds h

columns_size : (part : List ℕ) (b : ℕ) (es : List (ℕ × Column)) →
    length (sides_of_columns part es b) + box_size b es ≡ sum_of (column_size part b) es
unfolding box_size
columns_size part b [] = no_box (b == 0)
columns_size part b (e ∷ es) = one_more part b e es (columns_size part b es)

pub size_is : (m : Model) (part : List ℕ) (b : ℕ) →
    size_of m part b ≡ sum_of (row_size part b) m.rows + sum_of (column_size part b) (enumerate_from 0 m.columns)
unfolding box_size
size_is m part b =
    let r : length (sides_of_rows part m.rows b) ≡ sum_of (row_size part b) m.rows = rows_size part b m.rows in
    let k : length (sides_of_columns part (enumerate_from 0 m.columns) b) + box_size b (enumerate_from 0 m.columns)
    ≡ sum_of (column_size part b) (enumerate_from 0 m.columns) = columns_size part b (enumerate_from 0 m.columns) in
    ap (λ n. n + box_size b (enumerate_from 0 m.columns))
    (length-append (sides_of_rows part m.rows b) (sides_of_columns part (enumerate_from 0 m.columns) b))
    ∙ add_assoc (length (sides_of_rows part m.rows b)) _ _ ∙ ap (λ n. n + (length (sides_of_columns part (enumerate_from 0 m.columns) b) + box_size b (enumerate_from 0 m.columns))) r ∙ ap (λ n. sum_of (row_size part b) m.rows + n) k
