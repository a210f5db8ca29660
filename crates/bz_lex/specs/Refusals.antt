-- What the refusal of an answer says: the first wide place of its basis.
use Rattle.std.specs.Prelude.{ℕ, ◌<◌, ◌≡◌, Bool, false, List, length, Option, None, Some}
use Rattle.bz_algebra.specs.Tableaus.{Program, rows_of}
use Rattle.bz_tableau.specs.Points.{IsRayColumn}
use Rattle.bz_tableau.specs.Laws.{place}
use Rattle.bz_tableau.specs.Programs.{program_of}
use Rattle.bz_tableau.specs.Stops.{IsTrueStop, IsTrueRelaxedStop}
use Rattle.bz_tableau.specs.WidePlaces.{HasAnswerSigns, IsWidePlace, IsTrueDen, IsRisingOrder}
use Rattle.bz_tableau.specs.declared.answers.Answer.{Answer}
use Rattle.bz_tableau.specs.declared.answers.LpStop.{LpStop}
use Rattle.bz_tableau.specs.declared.answers.LpStop.TheVariants.{Wide, OutOfMemory}
use Rattle.bz_tableau.specs.declared.answers.WideAt.{WideAt}
use Rattle.bz_tableau.specs.declared.answers.WideAt.TheVariants.{Build, Pivot, Den, Fold}
use Rattle.bz_tableau.specs.declared.programs.Lp.{Lp}

-- where no answer is given, the basis hasn't the signs of one
abbrev pub LacksSigns : Bool → Lp → List ℕ → Option Answer → Type 0
LacksSigns relaxed lp basis None = HasAnswerSigns relaxed (program_of lp) basis → ⊥
LacksSigns relaxed lp basis (Some a) = Unit {0}

-- ---- the first wide place
-- the program isn't relaxed, and this is the first column that makes the basis a ray
pub record IsFirstRay (relaxed : Bool) (p : Program) (basis : ℕ → ℕ) (column : ℕ) : Type 0 where
  pub unrelaxed : relaxed ≡ false
  pub ray : IsRayColumn p basis column

-- at place i a number goes wide that `answer_at` forms: of the point, or of the direction of the first ray
abbrev pub IsWideForFirst : Bool → Program → (ℕ → ℕ) → ℕ → Type 0
IsWideForFirst relaxed p basis i = IsWidePlace (rows_of relaxed p) (IsFirstRay relaxed p basis) basis i

-- the column at this number of the rising order, counted from 0, is the first where such a number goes wide
pub record IsFirstWidePlace (relaxed : Bool) (p : Program) (basis : ℕ → ℕ) (at : ℕ) : Type 0 where
  pub order : List ℕ
  pub is_order : IsRisingOrder p.rows (rows_of relaxed p).slack basis order
  pub inside : at < length order
  pub wide : IsWideForFirst relaxed p basis (place order at)
  pub first : (k : ℕ) → k < at → IsWideForFirst relaxed p basis (place order k) → ⊥

-- neither the common denominator is wide, nor over it a number of the point or of the first ray's direction
abbrev pub HasNoWidePlace : Bool → Lp → List ℕ → Type 0
HasNoWidePlace relaxed lp basis = (i : ℕ) → IsWideForFirst relaxed (program_of lp) (place basis) i → ⊥

-- where a stop names a wide number of an answer, it is by the first place
abbrev pub NamesFirstPlace : Lp → LpStop → Type 0
NamesFirstPlace lp (Wide (Build row)) = Unit {0}
NamesFirstPlace lp (Wide (Pivot relaxed basis goal row pivot_row column)) = Unit {0}
NamesFirstPlace lp (Wide (Den relaxed basis at)) = IsFirstWidePlace relaxed (program_of lp) (place basis) at
NamesFirstPlace lp (Wide (Fold relaxed basis column list at)) = Unit {0}
NamesFirstPlace lp OutOfMemory = Unit {0}

-- ---- refusals
-- the basis has an answer, and at this place of it a number goes wide
pub record NamesPlace (relaxed : Bool) (lp : Lp) (basis : List ℕ) (named_relaxed : Bool) (named_basis : List ℕ) (at : ℕ) : Type 0 where
  pub relaxed_is : named_relaxed ≡ relaxed
  pub basis_is : named_basis ≡ basis
  pub wide : IsTrueDen relaxed (program_of lp) basis at

abbrev pub IsWideAnswer : Bool → Lp → List ℕ → WideAt → Type 0
IsWideAnswer relaxed lp basis (Build row) = ⊥
IsWideAnswer relaxed lp basis (Pivot named_relaxed named_basis goal row pivot_row column) = ⊥
IsWideAnswer relaxed lp basis (Den named_relaxed named_basis at) = NamesPlace relaxed lp basis named_relaxed named_basis at
IsWideAnswer relaxed lp basis (Fold named_relaxed named_basis column list at) = ⊥

-- why the answer of the basis was refused: its common denominator or a number over it is wide, or memory was wanting
abbrev pub IsAnswerRefusal : Bool → Lp → List ℕ → LpStop → Type 0
IsAnswerRefusal relaxed lp basis (Wide at) = IsWideAnswer relaxed lp basis at
IsAnswerRefusal relaxed lp basis OutOfMemory = Unit {0}

-- why a program was not solved, by the first wide place where it is one of an answer
pub record IsFirstStop (lp : Lp) (stop : LpStop) : Type 0 where
  pub is_true : IsTrueStop lp stop
  pub first : NamesFirstPlace lp stop

-- why a relaxed program was not solved
pub record IsFirstRelaxedStop (lp : Lp) (stop : LpStop) : Type 0 where
  pub is_true : IsTrueRelaxedStop lp stop
  pub first : NamesFirstPlace lp stop
