-- The parts of a model under a partition of its columns, and the inequalities of each part. A partition is a list with
-- one number per column: 0 for the master, b for block b.
use Rattle.std.specs.Prelude.{ℕ, ℤ, Bool, ◌+ℤ◌, ◌*ℤ◌, ◌≤ℤ◌, ◌==◌, ◌&&◌, not, List, [], ◌∷◌, ◌++◌, Option, Some, None, take, filter, map, find, count_by, unwrap_or, slice_index, if◌then◌else◌, nat_lt}
use Rattle.std.specs.List.{enumerate_from, flat_map}
use Rattle.std.proofs.Math.IntN.{neg_ℤ}
use Rattle.bz_algebra.specs.Sums.{dot}
use Rattle.bz_num.specs.declared.Frac.{Frac}
use Rattle.bz_model.specs.declared.records.Column.{Column}
use Rattle.bz_model.specs.declared.records.Ineq.{Ineq}
use Rattle.bz_model.specs.declared.records.Model.{Model}
use Rattle.bz_model.specs.declared.records.Row.{Row}
use Rattle.bz_model.specs.Points.{coordinate}

-- the part of a column
abbrev pub part_of : List ℕ → ℕ → ℕ
part_of part j = slice_index part j

-- the number of blocks: the greatest number of a column's part
abbrev pub blocks_of : List ℕ → ℕ
blocks_of [] = 0
blocks_of (b ∷ bs) = (if nat_lt b (blocks_of bs) then blocks_of bs else b)

-- the columns of a part, in file order
abbrev pub columns_of : List ℕ → ℕ → List ℕ
columns_of part b = map (λ e. e.0) (filter (λ e. e.1 == b) (enumerate_from 0 part))

-- the column at a position of a part: a position is a place in the list of the part's columns
abbrev pub column_at : List ℕ → ℕ → ℕ → ℕ
column_at part b i = slice_index (columns_of part b) i

-- how many columns a part has
abbrev pub width_of : List ℕ → ℕ → ℕ
width_of part b = count_by (λ c. c == b) part

-- the position of a column in its part: how many earlier columns are in the same part
abbrev pub position_of : List ℕ → ℕ → ℕ
position_of part j = count_by (λ c. c == part_of part j) (take j part)

-- the terms of a row that stand in a part, by position
abbrev pub terms_in : List ℕ → ℕ → List (ℕ × ℤ) → List (ℕ × ℤ)
terms_in part b terms =
    map (λ e. (position_of part e.0, e.1)) (filter (λ e. part_of part e.0 == b) terms)

-- the part that a row belongs to: the block of its first column in a block, and the master where it has none
abbrev pub home_of : List ℕ → List (ℕ × ℤ) → ℕ
home_of part terms = unwrap_or (find (λ b. nat_lt 0 b) (map (λ e. part_of part e.0) terms)) 0

-- the part that each row belongs to
abbrev pub homes_of : List ℕ → List Row → List ℕ
homes_of part rows = map (λ row. home_of part row.terms) rows

-- each number the other way round
abbrev pub negated : List (ℕ × ℤ) → List (ℕ × ℤ)
negated terms = map (λ e. (e.0, neg_ℤ e.1)) terms

-- the terms as they are, or each number the other way round
abbrev pub turned : Bool → List (ℕ × ℤ) → List (ℕ × ℤ)
turned negate terms = (if negate then negated terms else terms)

-- `terms <= rhs` as an inequality of part b: its own terms, and beside them the master's where b is a block
abbrev pub at_most : List ℕ → ℕ → List (ℕ × ℤ) → ℤ → Ineq
at_most part b terms rhs = record {
  own = terms_in part b terms;
  master = (if b == 0 then [] else terms_in part 0 terms);
  rhs = rhs;
}

-- `terms >= rhs` as an inequality of part b: `-terms <= -rhs`
abbrev pub at_least : List ℕ → ℕ → List (ℕ × ℤ) → ℤ → Ineq
at_least part b terms rhs = at_most part b (negated terms) (neg_ℤ rhs)

-- what a side gives, where it is there
abbrev pub where_some : {A B : Type 0} → Option A → (A → B) → List B
where_some None f = []
where_some (Some a) f = f a ∷ []

-- what an upper side of terms gives part b, and a lower side
abbrev pub upper_side : List ℕ → ℕ → List (ℕ × ℤ) → Option ℤ → List Ineq
upper_side part b terms upper = where_some upper (at_most part b terms)

abbrev pub lower_side : List ℕ → ℕ → List (ℕ × ℤ) → Option ℤ → List Ineq
lower_side part b terms lower = where_some lower (at_least part b terms)

-- the inequalities of a row of part b: its upper side and then its lower side
abbrev pub sides_of_row : List ℕ → ℕ → Row → List Ineq
sides_of_row part b row = upper_side part b row.terms row.upper ++ lower_side part b row.terms row.lower

-- what an upper bound n / d of a column gives part b, as `d x <= n`, and a lower bound
abbrev pub upper_bound : List ℕ → ℕ → ℕ → Option Frac → List Ineq
upper_bound part b column upper = where_some upper (λ f. at_most part b ((column, f.den) ∷ []) f.num)

abbrev pub lower_bound : List ℕ → ℕ → ℕ → Option Frac → List Ineq
lower_bound part b column lower = where_some lower (λ f. at_least part b ((column, f.den) ∷ []) f.num)

-- the inequalities of a column of part b: its upper bound and then its lower bound
abbrev pub sides_of_column : List ℕ → ℕ → ℕ × Column → List Ineq
sides_of_column part b e = upper_bound part b e.0 e.1.upper ++ lower_bound part b e.0 e.1.lower

-- the rows of a part, in file order
abbrev pub rows_in : Model → List ℕ → ℕ → List Row
rows_in m part b = filter (λ row. home_of part row.terms == b) m.rows

-- the columns of a part that are no integers, each with its number, in file order
abbrev pub continuous_in : Model → List ℕ → ℕ → List (ℕ × Column)
continuous_in m part b =
    filter (λ e. (part_of part e.0 == b) && not e.1.integer) (enumerate_from 0 m.columns)

-- the integer columns of the model, each with its number, in file order
abbrev pub integers_of : Model → List (ℕ × Column)
integers_of m = filter (λ e. e.1.integer) (enumerate_from 0 m.columns)

-- The inequalities of a part, in `<=` form: its rows' sides in file order, and then the bounds of its columns in column
-- order. Bounds of integer columns are not among them.
abbrev pub inequalities_of : Model → List ℕ → ℕ → List Ineq
inequalities_of m part b =
    flat_map (sides_of_row part b) (rows_in m part b)
    ++ flat_map (sides_of_column part b) (continuous_in m part b)

-- the inequality of part b holds at the point p / q of the model
abbrev pub IneqHolds : List ℕ → ℕ → List ℤ → ℤ → Ineq → Type 0
IneqHolds part b p q i =
    (dot i.own (λ k. coordinate p (column_at part b k)) +ℤ dot i.master (λ k. coordinate p (column_at part 0 k)))
    ≤ℤ (i.rhs *ℤ q)

-- the cost that is minimised: the model's, the other way round where it maximises
abbrev pub inner_cost : Model → List (ℕ × ℤ)
inner_cost m = (if m.maximise then negated m.cost else m.cost)
