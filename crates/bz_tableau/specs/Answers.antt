-- What a program comes to, by a basis that shows it.
use Rattle.std.specs.Prelude.{ℕ, ◌<◌, ◌≡◌, ℤ, pos, ◌+ℤ◌, ◌*ℤ◌, neg_ℤ, ◌≤ℤ◌, ◌<ℤ◌, Bool, List, length, Option, None, Some, unsigned_abs, true, false}
use Rattle.std.specs.Int.{◌∣◌}
use Rattle.bz_algebra.specs.Sums.{upto}
use Rattle.bz_algebra.specs.Tableaus.{Program, IsBasis, IsObjectiveRow, rows_of, row_entry, objective_entry}
use Rattle.bz_tableau.specs.Dense.{entry}
use Rattle.bz_tableau.specs.Laws.{place}
use Rattle.bz_tableau.specs.Programs.{program_of}
use Rattle.bz_tableau.specs.declared.answers.Answer.{Answer}
use Rattle.bz_tableau.specs.declared.answers.Answer.TheVariants.{Least, Empty, Ray}
use Rattle.bz_tableau.specs.declared.answers.Vals.{Vals}
use Rattle.bz_tableau.specs.declared.programs.Lp.{Lp}
use Rattle.bz_tableau.specs.Points.{cost_at, IsPoint, MeetsRows, IsDirection, FallsFreely, IsRayColumn}

-- the list is a basis of the program: a column for each row
pub record IsBasisList (relaxed : Bool) (p : Program) (basis : List ℕ) : Type 0 where
  pub count : length basis ≡ p.rows
  pub is_basis : IsBasis (rows_of relaxed p) (place basis)

-- the rows times y, in a column
abbrev pub column_sum : Bool → Program → (ℕ → ℤ) → ℕ → ℤ
column_sum relaxed p y j = upto p.rows (λ i. y i *ℤ row_entry relaxed p i j)

-- the right sides times y
abbrev pub side_sum : Program → (ℕ → ℤ) → ℤ
side_sum p y = upto p.rows (λ i. y i *ℤ p.rhs i)

-- no number of y is negative, and den times the cost plus the rows times y is negative in no column
pub record AreMultipliersFor (relaxed : Bool) (p : Program) (den : ℤ) (y : ℕ → ℤ) : Type 0 where
  pub multipliers : (i : ℕ) → i < p.rows → (pos 0) ≤ℤ (y i)
  pub columns : (j : ℕ) → j < (rows_of relaxed p).slack
      → (pos 0) ≤ℤ ((den *ℤ objective_entry relaxed p j) +ℤ column_sum relaxed p y j)

-- the cost of z / den is the sum of y / by times the right sides, with the other sign
abbrev pub IsSameCost : Bool → Program → (ℕ → ℤ) → ℤ → (ℕ → ℤ) → ℤ → Type 0
IsSameCost relaxed p z den y by = cost_at relaxed p z *ℤ by ≡ neg_ℤ (side_sum p y) *ℤ den

-- ---- a point of least cost
-- the point of the basis meets the rows, and the multipliers of its objective row show that no point that does costs less
pub record IsLeast (relaxed : Bool) (p : Program) (basis : List ℕ) (z y : Vals) : Type 0 where
  pub is_basis : IsBasisList relaxed p basis
  pub numbers : length z.num ≡ (rows_of relaxed p).slack
  pub point : IsPoint (rows_of relaxed p) (place basis) (entry z.num) z.den
  pub meets : MeetsRows (rows_of relaxed p) (entry z.num) z.den
  pub multipliers : length y.num ≡ p.rows
  pub objective : IsObjectiveRow relaxed p (place basis) y.den (entry y.num)
  pub bounds : AreMultipliersFor relaxed p y.den (entry y.num)
  pub same_cost : IsSameCost relaxed p (entry z.num) z.den (entry y.num) y.den

-- ---- no point
-- the multipliers of the objective row of a basis of the relaxed program add the rows up to one without a negative term and with a negative right side
pub record IsEmpty (p : Program) (basis : List ℕ) (y : List ℤ) : Type 0 where
  pub is_basis : IsBasisList true p basis
  pub multipliers : length y ≡ p.rows
  pub den : ℤ
  pub objective : IsObjectiveRow true p (place basis) den (entry y)
  pub nonnegative : (i : ℕ) → i < p.rows → (pos 0) ≤ℤ (entry y i)
  pub columns : (j : ℕ) → j < p.columns → (pos 0) ≤ℤ (column_sum false p (entry y) j)
  pub right : (side_sum p (entry y)) <ℤ (pos 0)

-- ---- a cost without bound
-- the point of the basis meets the rows, and from it the cost falls freely where the column rises; d has no common divisor but 1
pub record IsRay (p : Program) (basis : List ℕ) (column : ℕ) (z : Vals) (d : List ℤ) : Type 0 where
  pub is_basis : IsBasisList false p basis
  pub numbers : length z.num ≡ p.columns
  pub point : IsPoint (rows_of false p) (place basis) (entry z.num) z.den
  pub meets : MeetsRows (rows_of false p) (entry z.num) z.den
  pub moves : length d ≡ p.columns
  pub direction : IsDirection (rows_of false p) (place basis) column (entry d)
  pub falls : FallsFreely p (entry d)
  pub primitive : (g : ℕ) → ((j : ℕ) → j < p.columns → g ∣ unsigned_abs (entry d j)) → g ≡ 1

-- ---- answers
-- the answer is shown by a basis of the program, relaxed as said: that there is no point by one of the relaxed program, and a ray by one of the program itself
abbrev pub IsShownBy : Bool → Lp → Answer → Type 0
IsShownBy relaxed lp (Least basis z y) = IsLeast relaxed (program_of lp) basis z y
IsShownBy relaxed lp (Empty basis y) = (relaxed ≡ true) × IsEmpty (program_of lp) basis y
IsShownBy relaxed lp (Ray basis column z d) = (relaxed ≡ false) × IsRay (program_of lp) basis column z d

-- whether the answer's basis is one of the relaxed program, as it is where there is no point
abbrev pub is_of_relaxed : Answer → Bool
is_of_relaxed (Least basis z y) = false
is_of_relaxed (Empty basis y) = true
is_of_relaxed (Ray basis column z d) = false

-- what the program comes to: one of the three
abbrev pub Answers : Lp → Answer → Type 0
Answers lp a = IsShownBy (is_of_relaxed a) lp a

-- the answer of the program, relaxed as said, by a basis of that very program, which always has a point. A relaxed one has a point of least cost alone, since s is never negative
abbrev pub IsAnswer : Bool → Lp → Answer → Type 0
IsAnswer relaxed lp (Least basis z y) = IsShownBy relaxed lp (Least basis z y)
IsAnswer relaxed lp (Empty basis y) = ⊥
IsAnswer relaxed lp (Ray basis column z d) = IsShownBy relaxed lp (Ray basis column z d)

abbrev pub basis_of : Answer → List ℕ
basis_of (Least basis z y) = basis
basis_of (Empty basis y) = basis
basis_of (Ray basis column z d) = basis

-- the column along which the cost falls, where the answer is a ray
abbrev pub column_of : Answer → Option ℕ
column_of (Least basis z y) = None
column_of (Empty basis y) = None
column_of (Ray basis column z d) = Some column

-- the basis of the program, relaxed as said, gives this answer, with the named column where it is a ray
pub record GivesAnswer (relaxed : Bool) (column : Option ℕ) (lp : Lp) (basis : List ℕ) (a : Answer) : Type 0 where
  pub basis_is : basis_of a ≡ basis
  pub column_is : column_of a ≡ column
  pub answer : IsShownBy relaxed lp a

-- the column of a ray is the first along which its basis shows one
abbrev pub HasFirstColumn : Lp → Answer → Type 0
HasFirstColumn lp (Least basis z y) = Unit {0}
HasFirstColumn lp (Empty basis y) = Unit {0}
HasFirstColumn lp (Ray basis column z d) = IsRayColumn (program_of lp) (place basis) column

-- the answer of a basis
pub record IsAnswerOf (relaxed : Bool) (lp : Lp) (basis : List ℕ) (a : Answer) : Type 0 where
  pub basis_is : basis_of a ≡ basis
  pub answer : IsAnswer relaxed lp a
  pub first_column : HasFirstColumn lp a

-- the basis has an answer, however wide its numbers
pub record HasAnswer (relaxed : Bool) (lp : Lp) (basis : List ℕ) : Type 0 where
  pub answer : Answer
  pub is_answer : IsAnswerOf relaxed lp basis answer

-- no answer has this basis
abbrev pub HasNoAnswer : Bool → Lp → List ℕ → Type 0
HasNoAnswer relaxed lp basis = (a : Answer) → basis_of a ≡ basis → IsAnswer relaxed lp a → ⊥

-- the answer of a basis where it has one
abbrev pub AnswersBasis : Bool → Lp → List ℕ → Option Answer → Type 0
AnswersBasis relaxed lp basis None = HasNoAnswer relaxed lp basis
AnswersBasis relaxed lp basis (Some a) = IsAnswerOf relaxed lp basis a

-- a point of least cost
abbrev pub NamesLeast : Answer → Type 0
NamesLeast (Least basis z y) = Unit {0}
NamesLeast (Empty basis y) = ⊥
NamesLeast (Ray basis column z d) = ⊥
