-- Tableaus of linear programs over the whole numbers, by vectors alone: no matrix, no determinant, no fraction.
--
-- A program's rows become equations, each with a slack column of its own. The objective is one more row, the last, and its slack is called the factor column: a combination of all rows has there the number by which it takes the cost. So the objective row of a basis is the row of one more place, whose column is the factor column, and no law has to be said twice.
--
-- Columns, by number:
--     0 up to slack - 1      the program's own columns, and the column s behind them where the program is relaxed
--     slack + i      the slack of row i; slack + rows - 1 is the factor column, where the last row is the objective
--     slack + rows      the right side
-- A vector is a function from these numbers; what it gives past the right side is of no account. A basis is a function from places to columns: place i below rows has the column `basis i`.
use Rattle.std.specs.Prelude.{ℕ, suc, ◌+◌, ◌<◌, ◌≤◌, ℤ, pos, negsuc, ◌+ℤ◌, ◌-ℤ◌, ◌*ℤ◌, ◌<ℤ◌, ◌≡◌, ◌≢◌, ◌==◌, ◌&&◌, if◌then◌else◌, Bool, List, [], ◌∷◌, unsigned_abs}
use Rattle.std.specs.Int.{◌∣◌}
use Rattle.bz_algebra.specs.Sums.{upto}

-- ---- the equations of a program

-- minimise `cost z` over z >= 0 with `term i z <= rhs i` in each row i
pub record Program : Type 0 where
  -- how many columns z has, and how many rows there are
  pub columns : ℕ
  pub rows : ℕ
  -- the coefficient by row and column
  pub term : ℕ → ℕ → ℤ
  -- the right side of a row
  pub rhs : ℕ → ℤ
  -- the cost of a column
  pub cost : ℕ → ℤ

-- rows with a slack column each
pub record Equations : Type 0 where
  -- how many rows, the objective among them
  pub rows : ℕ
  -- the number of the first slack: how many columns stand before the slacks
  pub slack : ℕ
  -- the entry of a row in a column before the slacks
  pub entry : ℕ → ℕ → ℤ
  -- the right side of a row
  pub right : ℕ → ℤ

-- the number of the right side, one past the last column
abbrev pub side : Equations → ℕ
side s = s.slack + s.rows

-- the entry of a row of the program; a relaxed one has -1 in the column s
abbrev pub row_entry : Bool → Program → ℕ → ℕ → ℤ
row_entry relaxed p i j = if relaxed && j == p.columns then negsuc 0 else p.term i j

-- the entry of the objective: the cost, or where the program is relaxed 1 in the column s and 0 elsewhere
abbrev pub objective_entry : Bool → Program → ℕ → ℤ
objective_entry relaxed p j = if relaxed then (if j == p.columns then pos 1 else pos 0) else p.cost j

-- the program's rows, then its objective with right side 0; a relaxed program has the column s behind its own columns
abbrev pub equations_of : Bool → Program → Equations
equations_of relaxed p = record {
  rows = suc p.rows;
  slack = if relaxed then suc p.columns else p.columns;
  entry = λ i j. if i == p.rows then objective_entry relaxed p j else row_entry relaxed p i j;
  right = λ i. if i == p.rows then pos 0 else p.rhs i;
}

-- the program's rows alone, without its objective: there the right side stands at the number of the factor column
abbrev pub rows_of : Bool → Program → Equations
rows_of relaxed p = record {
  rows = p.rows;
  slack = if relaxed then suc p.columns else p.columns;
  entry = row_entry relaxed p;
  right = p.rhs;
}

-- ---- rows of a basis

-- v is a sum of multiples of the rows: row i is taken as often as v's entry in the slack of row i says
pub record IsCombination (s : Equations) (v : ℕ → ℤ) : Type 0 where
  pub columns : (j : ℕ) → j < s.slack → v j ≡ upto s.rows (λ i. v (s.slack + i) *ℤ s.entry i j)
  pub right : v (side s) ≡ upto s.rows (λ i. v (s.slack + i) *ℤ s.right i)

-- v is row i itself, with 1 in its own slack and 0 in the others
pub record IsOwnRow (s : Equations) (i : ℕ) (v : ℕ → ℤ) : Type 0 where
  pub columns : (j : ℕ) → j < s.slack → v j ≡ s.entry i j
  pub own : v (s.slack + i) ≡ pos 1
  pub others : (k : ℕ) → k < s.rows → k ≢ i → v (s.slack + k) ≡ pos 0
  pub right : v (side s) ≡ s.right i

-- the basis of the slacks
abbrev pub slacks : Equations → ℕ → ℕ
slacks s i = s.slack + i

-- v has no common divisor but 1, its right side counted
abbrev pub IsPrimitive : Equations → (ℕ → ℤ) → Type 0
IsPrimitive s v = (d : ℕ) → ((j : ℕ) → j ≤ side s → d ∣ unsigned_abs (v j)) → d ≡ 1

-- v is the row at place i of the basis: a primitive combination that is positive in the column of that place and 0 in the columns of the others
pub record IsRow (s : Equations) (basis : ℕ → ℕ) (i : ℕ) (v : ℕ → ℤ) : Type 0 where
  pub combination : IsCombination s v
  pub primitive : IsPrimitive s v
  pub positive : (pos 0) <ℤ (v (basis i))
  pub cleared : (k : ℕ) → k < s.rows → k ≢ i → v (basis k) ≡ pos 0

-- the places have different columns, none of them the right side
pub record AreColumns (s : Equations) (basis : ℕ → ℕ) : Type 0 where
  pub in_range : (i : ℕ) → i < s.rows → basis i < side s
  pub different : (i k : ℕ) → i < s.rows → k < s.rows → basis i ≡ basis k → i ≡ k

-- the tableau of a basis: each place's row
pub record IsTableau (s : Equations) (basis : ℕ → ℕ) (w : ℕ → ℕ → ℤ) : Type 0 where
  pub columns : AreColumns s basis
  pub rows : (i : ℕ) → i < s.rows → IsRow s basis i (w i)

-- a basis: different columns of which each has its row
pub record IsBasis (s : Equations) (basis : ℕ → ℕ) : Type 0 where
  pub columns : AreColumns s basis
  pub has_row : (i : ℕ) → i < s.rows → (v : ℕ → ℤ) × IsRow s basis i v

-- each column at the first n places of the one basis stands at one of the first n places of the other
abbrev pub IsWithin : ℕ → (ℕ → ℕ) → (ℕ → ℕ) → Type 0
IsWithin n basis other = (i : ℕ) → i < n → (k : ℕ) × (k < n) × (other k ≡ basis i)

-- the two have the same columns at their first n places, in whatever order
pub record AreAlike (n : ℕ) (basis other : ℕ → ℕ) : Type 0 where
  pub there : IsWithin n basis other
  pub back : IsWithin n other basis

-- a basis like none of the list, by the columns at the first n places
abbrev pub IsNew : ℕ → (ℕ → ℕ) → List (ℕ → ℕ) → Type 0
IsNew n basis [] = Unit {0}
IsNew n basis (other ∷ others) = (AreAlike n basis other → ⊥) × IsNew n basis others

-- no two of the list have the same columns at the first n places
abbrev pub NoTwoAlike : ℕ → List (ℕ → ℕ) → Type 0
NoTwoAlike n [] = Unit {0}
NoTwoAlike n (basis ∷ others) = IsNew n basis others × NoTwoAlike n others

-- the columns at the first n places of each of the list are below a bound
abbrev pub AllWithinBound : ℕ → ℕ → List (ℕ → ℕ) → Type 0
AllWithinBound n bound [] = Unit {0}
AllWithinBound n bound (basis ∷ others) = ((i : ℕ) → i < n → basis i < bound) × AllWithinBound n bound others

-- ---- the bases of a program

-- the factor column: the slack of the objective
abbrev pub factor : Bool → Program → ℕ
factor relaxed p = (equations_of relaxed p).slack + p.rows

-- a column for each row of the program, and the factor column for the objective
abbrev pub with_factor : Bool → Program → (ℕ → ℕ) → ℕ → ℕ
with_factor relaxed p basis i = if i == p.rows then factor relaxed p else basis i

-- the columns at the places of the program's rows are a basis of it; it is the same to be a basis of `rows_of` (basis_with_objective, basis_without_objective)
abbrev pub IsBasisOf : Bool → Program → (ℕ → ℕ) → Type 0
IsBasisOf relaxed p basis = IsBasis (equations_of relaxed p) (with_factor relaxed p basis)

-- the objective row of a basis in the program's own words: d times the cost plus the rows times y is 0 in each basic column, where a slack has the multiplier of its row; d is positive, and d and y have no common divisor but 1
pub record IsObjectiveRow (relaxed : Bool) (p : Program) (basis : ℕ → ℕ) (d : ℤ) (y : ℕ → ℤ) : Type 0 where
  pub positive : (pos 0) <ℤ d
  pub primitive : (g : ℕ) → g ∣ unsigned_abs d → ((i : ℕ) → i < p.rows → g ∣ unsigned_abs (y i)) → g ≡ 1
  pub columns : (k : ℕ) → k < p.rows → basis k < (equations_of relaxed p).slack → upto p.rows (λ i. y i *ℤ row_entry relaxed p i (basis k)) +ℤ (d *ℤ objective_entry relaxed p (basis k)) ≡ pos 0
  pub slacks : (k i : ℕ) → k < p.rows → i < p.rows → basis k ≡ (equations_of relaxed p).slack + i → y i ≡ pos 0

-- the programs have the same columns, the same terms in the same rows, and the same cost; their right sides may differ
pub record DifferInRightSides (p q : Program) : Type 0 where
  pub columns : q.columns ≡ p.columns
  pub rows : q.rows ≡ p.rows
  pub terms : (i j : ℕ) → i < p.rows → j < p.columns → q.term i j ≡ p.term i j
  pub cost : (j : ℕ) → j < p.columns → q.cost j ≡ p.cost j

-- ---- the pivot

-- the basis with the column e at place r
abbrev pub put : (ℕ → ℕ) → ℕ → ℕ → ℕ → ℕ
put basis r e k = if k == r then e else basis k

-- new is old cleared in the column e by the row pivot: `times new = kept old - taken pivot`, which is 0 in that column
pub record IsCleared (s : Equations) (old pivot : ℕ → ℤ) (e : ℕ) (new : ℕ → ℤ) (times kept taken : ℤ) : Type 0 where
  pub clears : kept *ℤ old e ≡ taken *ℤ pivot e
  pub made : (j : ℕ) → j ≤ side s → times *ℤ new j ≡ (kept *ℤ old j) -ℤ (taken *ℤ pivot j)

-- new is old cleared in the column e by the row pivot, made primitive and positive in its own column c
pub record IsNewRow (s : Equations) (old pivot : ℕ → ℤ) (e c : ℕ) (new : ℕ → ℤ) : Type 0 where
  pub times : ℤ
  pub kept : ℤ
  pub taken : ℤ
  pub times_nonzero : times ≢ pos 0
  pub kept_nonzero : kept ≢ pos 0
  pub cleared : IsCleared s old pivot e new times kept taken
  pub primitive : IsPrimitive s new
  pub positive : (pos 0) <ℤ (new c)

-- new is a multiple of old, primitive and positive in the column e: the pivot row with the sign that its new column wants
pub record IsMoved (s : Equations) (old : ℕ → ℤ) (e : ℕ) (new : ℕ → ℤ) : Type 0 where
  pub times : ℤ
  pub kept : ℤ
  pub times_nonzero : times ≢ pos 0
  pub kept_nonzero : kept ≢ pos 0
  pub multiple : (j : ℕ) → j ≤ side s → times *ℤ new j ≡ kept *ℤ old j
  pub primitive : IsPrimitive s new
  pub positive : (pos 0) <ℤ (new e)

-- the rows new come from the rows old of the basis by the pivot at place r in the column e
pub record IsPivot (s : Equations) (basis : ℕ → ℕ) (old : ℕ → ℕ → ℤ) (r e : ℕ) (new : ℕ → ℕ → ℤ) : Type 0 where
  pub row_in_range : r < s.rows
  pub column_in_range : e < side s
  pub entry_nonzero : old r e ≢ pos 0
  pub others : (i : ℕ) → i < s.rows → i ≢ r → IsNewRow s (old i) (old r) e (basis i) (new i)
  pub moved : IsMoved s (old r) e (new r)

-- what a pivot made of a row, with positive multipliers: `taken` has the sign of the row's entry in the column where the pivot's entry is positive
pub record Made (s : Equations) (old pivot : ℕ → ℤ) (e : ℕ) (new : ℕ → ℤ) : Type 0 where
  pub times : ℤ
  pub kept : ℤ
  pub taken : ℤ
  pub times_positive : (pos 0) <ℤ times
  pub kept_positive : (pos 0) <ℤ kept
  pub cleared : IsCleared s old pivot e new times kept taken
