-- Points of a model: which are feasible, their objective, and what it is for one to be optimal, for a model to be
-- infeasible and for it to be unbounded. Nothing here knows parts, cuts, boxes or trees.
use Rattle.std.specs.Prelude.{ℕ, ℤ, pos, ◌≡◌, ◌+ℤ◌, ◌*ℤ◌, ◌<ℤ◌, ◌≤ℤ◌, List, length, Option, IfSome, MatchBool}
use Rattle.std.specs.Bool.{OnTrue}
use Rattle.std.specs.List.{AllByRecursion, enumerate_from, slice_index_or}
use Rattle.bz_algebra.specs.Fractions.{Fraction, IsLess, whole}
use Rattle.bz_algebra.specs.Sums.{dot}
use Rattle.bz_num.specs.declared.Frac.{Frac}
use Rattle.bz_model.specs.declared.records.Column.{Column}
use Rattle.bz_model.specs.declared.records.Model.{Model}
use Rattle.bz_model.specs.declared.records.Row.{Row}

-- the number at place j of a list of numbers, 0 past its end
abbrev pub coordinate : List ℤ → ℕ → ℤ
coordinate xs j = slice_index_or xs j (pos 0)

-- A point is a list p of whole numbers, one per column, over one positive whole number q: its coordinate j is p_j / q.

-- the row's sum at the point is within its sides
pub record RowHolds (row : Row) (p : List ℤ) (q : ℤ) : Type 0 where
  pub at_least : IfSome row.lower (λ l. (l *ℤ q) ≤ℤ dot row.terms (coordinate p))
  pub at_most : IfSome row.upper (λ u. dot row.terms (coordinate p) ≤ℤ (u *ℤ q))

-- x / q is within the bounds
pub record IsWithinBounds (lower upper : Option Frac) (x q : ℤ) : Type 0 where
  pub at_least : IfSome lower (λ f. (f.num *ℤ q) ≤ℤ (f.den *ℤ x))
  pub at_most : IfSome upper (λ f. (f.den *ℤ x) ≤ℤ (f.num *ℤ q))

-- x / q is a whole number
abbrev pub IsWhole : ℤ → ℤ → Type 0
IsWhole x q = (k : ℤ) × (x ≡ k *ℤ q)

-- x / q is a value of the column: within its bounds, and whole where the column is an integer
pub record ColumnHolds (column : Column) (x q : ℤ) : Type 0 where
  pub bounds : IsWithinBounds column.lower column.upper x q
  pub integer : OnTrue column.integer (IsWhole x q)

-- the point p / q keeps every row, every bound and every integer column of the model
pub record IsFeasible (m : Model) (p : List ℤ) (q : ℤ) : Type 0 where
  pub positive : pos 0 <ℤ q
  pub numbers : length p ≡ length m.columns
  pub rows : AllByRecursion (λ row. RowHolds row p q) m.rows
  pub columns : AllByRecursion (λ e. ColumnHolds e.1 (coordinate p e.0) q) (enumerate_from 0 m.columns)

-- the objective's value at the point p / q: (cost p + constant q) / (scale q)
abbrev pub objective : Model → List ℤ → ℤ → Fraction
objective m p q = record { num = dot m.cost (coordinate p) +ℤ (m.constant *ℤ q); den = m.scale *ℤ q }

-- the one value is better than the other: greater where the model maximises, and else less
abbrev pub IsBetter : Model → Fraction → Fraction → Type 0
IsBetter m a b = MatchBool m.maximise (IsLess b a) (IsLess a b)

-- the point is feasible, and no feasible point is better
pub record IsOptimal (m : Model) (p : List ℤ) (q : ℤ) : Type 0 where
  pub feasible : IsFeasible m p q
  pub best : (p' : List ℤ) (q' : ℤ) → IsFeasible m p' q' → ¬ IsBetter m (objective m p' q') (objective m p q)

-- no point is feasible
abbrev pub IsInfeasible : Model → Type 0
IsInfeasible m = (p : List ℤ) (q : ℤ) → ¬ IsFeasible m p q

-- for every whole number some feasible point is better
abbrev pub IsUnbounded : Model → Type 0
IsUnbounded m =
    (n : ℤ) → (p : List ℤ) × (q : ℤ) × IsFeasible m p q × IsBetter m (objective m p q) (whole n)
