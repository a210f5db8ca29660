-- Cuts and leaves whose sums are wide, by the multipliers that they come from.
use Rattle.std.specs.Prelude.{ℕ, ℤ, pos, List, length}
use Rattle.std.proofs.Common.{arith}
use Rattle.bz_algebra.specs.Numbers.{IsNarrow}
use Rattle.bz_model.specs.declared.Model.{Model}
use Rattle.bz_model.specs.Parting.{inequalities_of}
use Rattle.bz_cut.specs.declared.Cut.{Cut}
use Rattle.bz_cut.specs.Cuts.{IsValid}
use Rattle.bz_cut.specs.Fits.{FitsCut}
use Rattle.bz_tree.specs.declared.Leaf.{Leaf}
use Rattle.bz_tree.specs.Boxes.{Box}
use Rattle.bz_tree.specs.Leaves.{sides_of}
use Rattle.bz_tree.specs.TreeFits.{FitsLeaf}
use Rattle.bz_std.specs.declared.making.MakeStop.{MakeStop}
use Rattle.bz_std.specs.declared.making.MakeStop.TheVariants as stop
use Rattle.bz_std.specs.CutsFrom.{AreEntries, IsCutFrom}
use Rattle.bz_std.specs.Making.{bare}

-- The sums of block b's inequalities with the multipliers y, and raw at the eta, are those of each cut of these
-- multipliers: one of them is wide, or a product of raw with the block's cost.
pub record IsWideCut (m : Model) (part : List ℕ) (b : ℕ) (y : ℕ → ℤ) (raw : ℤ) : Type 0 where
  pub mu : List (ℕ × ℤ)
  pub entries : AreEntries (length (inequalities_of m part b)) y mu
  pub narrow : IsNarrow raw
  pub wide : ¬ FitsCut m part (bare b mu raw narrow)

-- the cut of block b that the multipliers y make, with raw at its eta, is valid, with no sum or product wide that tells
-- so
pub record IsFittingCut (m : Model) (part : List ℕ) (b : ℕ) (y : ℕ → ℤ) (raw : ℤ) (cut : Cut) : Type 0 where
  pub made : IsCutFrom m part b y raw cut
  pub valid : IsValid m part cut
  pub fits : FitsCut m part cut

-- there is no such cut for want of memory, or because of a wide number
abbrev pub StopsFitting : Model → List ℕ → ℕ → (ℕ → ℤ) → ℤ → MakeStop → Type 0
StopsFitting m part b y raw stop.OutOfMemory = Unit {0}
StopsFitting m part b y raw stop.Wide = IsWideCut m part b y raw

-- a leaf with these multipliers and this delta, whose sums don't depend on its bound
abbrev pub unbounded_leaf : (lambda : List (ℕ × ℤ)) (delta : ℤ) → IsNarrow delta → Leaf
unbounded_leaf lambda delta h = record {
  lambda = lambda;
  delta = delta;
  bound = pos 0;
  delta_narrow = h;
  bound_narrow = omega arith;
}

-- a sum of the sides of the box and the cuts with the multipliers y is wide, or a product of delta with the cost
pub record IsWideLeaf (m : Model) (part : List ℕ) (box : Box) (cuts : List Cut) (y : ℕ → ℤ) (delta : ℤ)
    : Type 0 where
  pub lambda : List (ℕ × ℤ)
  pub entries : AreEntries (length (sides_of m part box cuts)) y lambda
  pub narrow : IsNarrow delta
  pub wide : ¬ FitsLeaf m part box cuts (unbounded_leaf lambda delta narrow)
