-- What the tests of a certificate tell, and what a certificate that passes proves.
use Rattle.std.specs.Prelude.{ℕ, ℤ, ◌≡◌, ◌↔◌, ◌⊎◌, List, Some}
use Rattle.bz_algebra.specs.Fractions.{IsSameNumber}
use Rattle.bz_model.specs.declared.Model.{Model}
use Rattle.bz_model.specs.declared.Parts.{Parts}
use Rattle.bz_model.specs.Points.{objective, IsInfeasible, IsOptimal, IsUnbounded}
use Rattle.bz_first.specs.Tests.{AllHold}
use Rattle.bz_tree.specs.Boxes.{Box, IsRootBox}
use Rattle.bz_tree.specs.Trees.{Tree}
use Rattle.bz_model.specs.Decomposed.{IsDecomposed}
use Rattle.bz_model.specs.PartPoints.{IsPointOf}
use Rattle.bz_model.specs.Stated.{objective_of}
use Rattle.bz_cert.specs.declared.Certificate.{Certificate}
use Rattle.bz_cert.specs.declared.Verdict.TheVariants.{Optimal, Infeasible, Unbounded}
use Rattle.bz_judge.specs.declared.CheckFault.{CheckFault}
use Rattle.bz_check.specs.CheckTests.{check_tests, HasTree, IsCheckFault}
use Rattle.bz_cert.specs.Fits.{Fits}
use Rattle.bz_cert.specs.Passing.{Passes}

-- The tests of a certificate all hold exactly where it passes and fits: over the box of the whole model and the tree of
-- its nodes.
abbrev pub AllTestsTell : Type 0
AllTestsTell =
    (m : Model) (part : List ℕ) (root : Box) (tree : Tree) (c : Certificate) →
    IsDecomposed m part → IsRootBox m root → HasTree c c.verdict tree →
    AllHold (check_tests m part root tree c) ↔ (Passes m part c × Fits m part c)

-- A certificate has one fault at most, and none where it passes and fits; and it passes and fits or has one, over the box
-- of the whole model and the tree of its nodes.
pub record CheckFaultsAreUnique : Type 0 where
  pub unique : (m : Model) (part : List ℕ) (c : Certificate) (f g : CheckFault) →
      IsDecomposed m part → IsCheckFault m part c f → IsCheckFault m part c g → f ≡ g
  pub faulty : (m : Model) (part : List ℕ) (c : Certificate) (f : CheckFault) →
      IsDecomposed m part → IsCheckFault m part c f → ¬ (Passes m part c × Fits m part c)
  pub either : (m : Model) (part : List ℕ) (root : Box) (tree : Tree) (c : Certificate) →
      IsDecomposed m part → IsRootBox m root → HasTree c c.verdict tree →
      (Passes m part c × Fits m part c) ⊎ ((f : CheckFault) × IsCheckFault m part c f)

-- What a certificate that passes says is true of the model itself, which knows no parts: each point of an optimum's parts
-- is optimal and has the objective that is stated, and there is such a point; a model that is said to be infeasible has
-- no feasible point; and one that is said to be unbounded is.
pub record PassingIsTrue : Type 0 where
  pub optimal : (m : Model) (part : List ℕ) (c : Certificate) (parts : Parts) (p : List ℤ) (q : ℤ) →
      IsDecomposed m part → Passes m part c → c.verdict ≡ Optimal → c.parts ≡ Some parts → IsPointOf m part parts p q →
      IsOptimal m p q × IsSameNumber (objective m p q) (objective_of m c.value parts.master.den)
  pub point : (m : Model) (part : List ℕ) (c : Certificate) →
      IsDecomposed m part → Passes m part c → c.verdict ≡ Optimal →
      (parts : Parts) × (c.parts ≡ Some parts) × (p : List ℤ) × (q : ℤ) × IsPointOf m part parts p q
  pub infeasible : (m : Model) (part : List ℕ) (c : Certificate) →
      IsDecomposed m part → Passes m part c → c.verdict ≡ Infeasible → IsInfeasible m
  pub unbounded : (m : Model) (part : List ℕ) (c : Certificate) →
      IsDecomposed m part → Passes m part c → c.verdict ≡ Unbounded → IsUnbounded m
