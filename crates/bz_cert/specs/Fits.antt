-- What it is for a certificate to fit: no sum or product that tells whether it passes is wide, by its verdict.
use Rattle.std.specs.Prelude.{ℕ, ℤ, List, Option, Some, None}
use Rattle.std.specs.List.{AllByRecursion, enumerate_from}
use Rattle.bz_num.specs.Fold.{IsNarrowSum}
use Rattle.bz_model.specs.declared.Model.{Model}
use Rattle.bz_model.specs.declared.Parts.{Parts}
use Rattle.bz_model.specs.Parting.{inner_cost, terms_in}
use Rattle.bz_cut.specs.Fits.{FitsCut}
use Rattle.bz_tree.specs.Boxes.{Box, IsRootBox}
use Rattle.bz_tree.specs.Trees.{IsTreeOf, Tree}
use Rattle.bz_cert.specs.declared.records.Certificate.{Certificate}
use Rattle.bz_cert.specs.declared.records.Verdict.{Verdict}
use Rattle.bz_cert.specs.declared.records.Verdict.TheVariants.{Optimal, Infeasible, Unbounded}
use Rattle.bz_model.specs.PointSums.{row_pairs, value_pairs}
use Rattle.bz_model.specs.PointFits.{FitsCost, FitsPoint, FitsStated}
use Rattle.bz_tree.specs.TreeFits.{FitsTree}

-- the cuts, and the tree of the nodes over the box of the whole model
pub record FitsBound (m : Model) (part : List ℕ) (c : Certificate) : Type 0 where
  pub cuts : AllByRecursion (FitsCut m part) c.cuts
  pub root : Box
  pub is_root : IsRootBox m root
  pub tree : Tree
  pub is_tree : IsTreeOf c.tree tree
  pub leaves : FitsTree m part c.cuts root tree

-- a certificate of an optimum: its point, the blocks' costs, its value, what that states, its cuts and its tree
pub record FitsOptimal (m : Model) (part : List ℕ) (parts : Parts) (c : Certificate) : Type 0 where
  pub point : FitsPoint m part parts
  pub costs : AllByRecursion (λ e. FitsCost m part parts.master e.0 e.1) (enumerate_from 1 parts.blocks)
  pub value : IsNarrowSum (value_pairs (terms_in part 0 (inner_cost m)) parts.master)
  pub stated : FitsStated m c.value parts.master.den
  pub bound : FitsBound m part c

-- a certificate of an unbounded model: its point, and the direction's sums by row and with the inner cost
pub record FitsUnbounded (m : Model) (part : List ℕ) (parts : Parts) (ray : List ℤ) : Type 0 where
  pub point : FitsPoint m part parts
  pub rows : AllByRecursion (λ row. IsNarrowSum (row_pairs row.terms ray)) m.rows
  pub cost : IsNarrowSum (row_pairs (inner_cost m) ray)

-- the certificate fits with these parts as its verdict asks
abbrev pub FitsAs : Model → List ℕ → Certificate → Verdict → Option Parts → Type 0
FitsAs m part c Optimal (Some parts) = FitsOptimal m part parts c
FitsAs m part c Optimal None = ⊥
FitsAs m part c Infeasible parts = FitsBound m part c
FitsAs m part c Unbounded (Some parts) = FitsUnbounded m part parts c.ray
FitsAs m part c Unbounded None = ⊥

-- the certificate fits
pub record Fits (m : Model) (part : List ℕ) (c : Certificate) : Type 0 where
  pub as_its_verdict : FitsAs m part c c.verdict c.parts
