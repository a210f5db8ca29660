-- Cuts and leaves in the making: their numbers before the division, and why one is not made.
use Rattle.std.specs.Prelude.{ℕ, ◌+◌, ◌<◌, ◌≡◌, ℤ, pos, ◌*ℤ◌, ◌≤ℤ◌, ◌<ℤ◌, List, [], length}
use Rattle.std.proofs.Common.{arith}
use Rattle.std.proofs.Math.IntN.{neg_ℤ}
use Rattle.bz_algebra.specs.Numbers.{IsNarrow}
use Rattle.bz_algebra.specs.Sums.{AllBelow, coef, dot}
use Rattle.bz_num.specs.Dense.{AreNarrow, entry}
use Rattle.bz_num.specs.Fold.{IsNarrowSum, pairs_at}
use Rattle.bz_num.specs.Row.{IsSparse}
use Rattle.bz_model.specs.declared.Ineq.{Ineq}
use Rattle.bz_model.specs.declared.Model.{Model}
use Rattle.bz_model.specs.Parting.{inequalities_of, width_of}
use Rattle.bz_cut.specs.declared.Cut.{Cut}
use Rattle.bz_cut.specs.declared.Mode.{Mode}
use Rattle.bz_cut.specs.Fits.{FitsCut}
use Rattle.bz_cut.specs.Rows.{master_at, rhs_at}
use Rattle.bz_tree.specs.declared.Leaf.{Leaf}
use Rattle.bz_tree.specs.Boxes.{Box}
use Rattle.bz_tree.specs.TreeFits.{FitsLeaf}
use Rattle.bz_tableau.specs.declared.programs.Lp.{Lp}
use Rattle.bz_std.specs.declared.making.MakeStop.{MakeStop}
use Rattle.bz_std.specs.declared.making.MakeStop.TheVariants as stop
use Rattle.bz_std.specs.CutsFrom.{AreEntries, IsLowestCut}
use Rattle.bz_std.specs.LeavesFrom.{IsLeafFrom}
use Rattle.bz_std.specs.Meanings.{right_at}
use Rattle.bz_std.specs.Posed.{IsProgramOf, Line, Posed}
use Rattle.bz_std.specs.Tasks.{node}

-- the first n numbers of y aren't negative
abbrev pub AreNonnegativeTo : ℕ → (ℕ → ℤ) → Type 0
AreNonnegativeTo n y = (i : ℕ) → i < n → (pos 0) ≤ℤ (y i)

-- none of the first numbers of y, which are multipliers of block b's inequalities, is negative
abbrev pub AreBlockMultipliers : Model → List ℕ → ℕ → (ℕ → ℤ) → Type 0
AreBlockMultipliers m part b y = AreNonnegativeTo (length (inequalities_of m part b)) y

-- ---- cuts
-- what the inequalities say of a position of the master, each times its multiplier
abbrev pub master_sum : List (ℕ × ℤ) → List Ineq → ℕ → ℤ
master_sum mu rows i = dot mu (λ n. coef (master_at rows n) i)

-- no sum on the first positions of the master is wide
abbrev pub AreNarrowBelow : ℕ → List Ineq → List (ℕ × ℤ) → Type 0
AreNarrowBelow width rows mu =
    (i : ℕ) → i < width → IsNarrowSum (pairs_at mu (λ n. coef (master_at rows n) i))

-- no sum is wide, of those on the master's positions and of the right sides
pub record HasNarrowSums (width : ℕ) (rows : List Ineq) (mu : List (ℕ × ℤ)) : Type 0 where
  pub master : AreNarrowBelow width rows mu
  pub rhs : IsNarrowSum (pairs_at mu (rhs_at rows))

-- the numbers of a cut before their division: those of the master's positions, then that of the eta and the right side
pub record AreRawNumbers (width : ℕ) (rows : List Ineq) (mu : List (ℕ × ℤ)) (raw : ℤ) (numbers : List ℤ) : Type 0 where
  pub count : length numbers ≡ width + 2
  pub master : (i : ℕ) → i < width → entry numbers i ≡ master_sum mu rows i
  pub eta : entry numbers width ≡ raw
  pub rhs : entry numbers (width + 1) ≡ dot mu (rhs_at rows)
  pub narrow : AreNarrow numbers

-- some number isn't 0
abbrev pub HasSome : List ℤ → Type 0
HasSome numbers = ¬ ((j : ℕ) → j < length numbers → entry numbers j ≡ pos 0)

-- the cut has the numbers, divided by their greatest common divisor
pub record IsCutOfNumbers (width : ℕ) (numbers : List ℤ) (cut : Cut) : Type 0 where
  pub gcd : (pos 0) <ℤ cut.gcd
  pub sparse : IsSparse cut.alpha
  pub alpha : AllBelow width cut.alpha
  pub master : (i : ℕ) → i < width → entry numbers i ≡ cut.gcd *ℤ coef cut.alpha i
  pub eta : entry numbers width ≡ cut.gcd *ℤ cut.p0
  pub rhs : entry numbers (width + 1) ≡ cut.gcd *ℤ cut.beta
  pub lowest : IsLowestCut cut

-- the numbers are not made for want of memory, or for a wide sum
abbrev pub StopsSums : ℕ → List Ineq → List (ℕ × ℤ) → MakeStop → Type 0
StopsSums width rows mu stop.OutOfMemory = Unit {0}
StopsSums width rows mu stop.Wide = ¬ HasNarrowSums width rows mu

-- the sums of the multipliers mu of block b's inequalities, on the master's positions and of the right sides
abbrev pub HasNarrowCutSums : Model → List ℕ → ℕ → List (ℕ × ℤ) → Type 0
HasNarrowCutSums m part b mu = HasNarrowSums (width_of part 0) (inequalities_of m part b) mu

-- a sum is wide that the numbers of the cut of y are divided from
pub record HasWideCutSum (m : Model) (part : List ℕ) (b : ℕ) (y : ℕ → ℤ) : Type 0 where
  pub mu : List (ℕ × ℤ)
  pub entries : AreEntries (length (inequalities_of m part b)) y mu
  pub wide : ¬ HasNarrowCutSums m part b mu

-- the cut of block b is not made for want of memory, or because of a wide sum
abbrev pub StopsCut : Model → List ℕ → ℕ → (ℕ → ℤ) → MakeStop → Type 0
StopsCut m part b y stop.OutOfMemory = Unit {0}
StopsCut m part b y stop.Wide = HasWideCutSum m part b y

-- The cut of block b with the multipliers mu and raw at its eta, not divided, and with nothing of the other sums: the
-- sums that tell whether it is valid are those of each cut with these multipliers.
abbrev pub bare : ℕ → List (ℕ × ℤ) → (raw : ℤ) → IsNarrow raw → Cut
bare b mu raw h = record {
  block = b;
  mu = mu;
  gcd = pos 1;
  alpha = [];
  p0 = raw;
  beta = pos 0;
  gcd_narrow = omega arith;
  p0_narrow = h;
  beta_narrow = omega arith;
}

-- Wide sums are those of each cut of the block with these multipliers: none of them fits, and so doesn't the bare one.
pub record WideCutsDoNotFit : Type 0 where
  pub of_cut : (m : Model) (part : List ℕ) (cut : Cut) → FitsCut m part cut →
      HasNarrowCutSums m part cut.block cut.mu
  pub of_bare : (m : Model) (part : List ℕ) (b : ℕ) (mu : List (ℕ × ℤ)) (raw : ℤ) (h : IsNarrow raw) →
      ¬ HasNarrowCutSums m part b mu → ¬ FitsCut m part (bare b mu raw h)

-- ---- leaves
-- the leaf has the multipliers y without zeros, `by` for its delta, and for its bound their sum of the right sides with
-- the other sign, in which nothing is wide
pub record IsLeafOfLines (lines : List Line) (y : ℕ → ℤ) (by : ℤ) (leaf : Leaf) : Type 0 where
  pub lambda : AreEntries (length lines) y leaf.lambda
  pub delta : leaf.delta ≡ by
  pub bound : leaf.bound ≡ neg_ℤ (dot leaf.lambda (right_at lines))
  pub narrow : IsNarrowSum (pairs_at leaf.lambda (right_at lines))

-- the sum of the right sides, each times its multiplier, is wide
pub record HasWideLines (lines : List Line) (y : ℕ → ℤ) : Type 0 where
  pub lambda : List (ℕ × ℤ)
  pub entries : AreEntries (length lines) y lambda
  pub wide : ¬ IsNarrowSum (pairs_at lambda (right_at lines))

-- no leaf is made for want of memory, or because that sum is wide
abbrev pub StopsLines : List Line → (ℕ → ℤ) → MakeStop → Type 0
StopsLines lines y stop.OutOfMemory = Unit {0}
StopsLines lines y stop.Wide = HasWideLines lines y

-- the leaf is the one that y and `by` make of the program that is posed, whichever this is
abbrev pub IsLeafOfProgram : Lp → (ℕ → ℤ) → ℤ → Leaf → Type 0
IsLeafOfProgram lp y by leaf = (q : Posed) → IsProgramOf q lp → IsLeafFrom q y by leaf

-- the sum of the right sides that makes a bound isn't wide
abbrev pub HasNarrowSide : Posed → List (ℕ × ℤ) → Type 0
HasNarrowSide q lambda = IsNarrowSum (pairs_at lambda (right_at q.rows))

-- it isn't, whichever program is posed
abbrev pub HasNarrowBound : Lp → List (ℕ × ℤ) → Type 0
HasNarrowBound lp lambda = (q : Posed) → IsProgramOf q lp → HasNarrowSide q lambda

-- the sum is wide that would make the bound of the leaf of y
pub record HasWideSide (q : Posed) (y : ℕ → ℤ) : Type 0 where
  pub lambda : List (ℕ × ℤ)
  pub entries : AreEntries (length q.rows) y lambda
  pub wide : ¬ HasNarrowSide q lambda

-- the leaf is not made for want of memory, or because the sum of its bound is wide
abbrev pub StopsLeaf : Lp → (ℕ → ℤ) → MakeStop → Type 0
StopsLeaf lp y stop.OutOfMemory = Unit {0}
StopsLeaf lp y stop.Wide = (q : Posed) → IsProgramOf q lp → HasWideSide q y

-- a leaf that fits over a node's box and cuts has a narrow bound
abbrev pub WideLeavesDoNotFit : Type 0
WideLeavesDoNotFit =
    (m : Model) (part : List ℕ) (box : Box) (cuts : List Cut) (way : Mode) (leaf : Leaf) →
    FitsLeaf m part box cuts leaf → HasNarrowSide (node m part box cuts way) leaf.lambda
