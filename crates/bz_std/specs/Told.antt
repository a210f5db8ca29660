-- What a program tells of the task that it stands for.
use Rattle.std.specs.Prelude.{ℕ, ◌<◌, ◌≡◌, List}
use Rattle.std.specs.List.{AllByRecursion}
use Rattle.bz_model.specs.declared.Master.{Master}
use Rattle.bz_model.specs.declared.Model.{Model}
use Rattle.bz_model.specs.Decomposed.{IsDecomposed}
use Rattle.bz_model.specs.Parting.{blocks_of}
use Rattle.bz_cut.specs.declared.Cut.{Cut}
use Rattle.bz_cut.specs.declared.Mode.{Mode}
use Rattle.bz_tree.specs.declared.Leaf.{Leaf}
use Rattle.bz_tree.specs.Boxes.{Box}
use Rattle.bz_tree.specs.Leaves.{LeafHolds}
use Rattle.bz_tree.specs.TreeFits.{FitsLeaf}
use Rattle.bz_tableau.specs.declared.programs.Lp.{Lp}
use Rattle.bz_std.specs.LowestForms.{MeetsNode}
use Rattle.bz_std.specs.Posed.{IsProgramOf, Posed}
use Rattle.bz_std.specs.Tasks.{IsCutOfSplit, node}

-- a program stands for one posed program at most
abbrev pub OnePosed : Type 0
OnePosed = (p q : Posed) (lp : Lp) → IsProgramOf p lp → IsProgramOf q lp → p ≡ q

-- the program is that of the node of a box and cuts, and that of another box and other cuts as well
pub record IsOfBoth (m : Model) (part : List ℕ) (box other : Box) (cuts others : List Cut) (way kind : Mode) (lp : Lp)
    : Type 0 where
  pub decomposed : IsDecomposed m part
  pub cuts_of_split : AllByRecursion (IsCutOfSplit part) cuts
  pub others_of_split : AllByRecursion (IsCutOfSplit part) others
  pub program : IsProgramOf (node m part box cuts way) lp
  pub program_of_other : IsProgramOf (node m part other others kind) lp

-- The program of a node tells its variables, its rows and its cost; which leaves hold and fit over it; which points
-- meet it; and its mode, where there is a block.
pub record NodesAreTold : Type 0 where
  pub posed : (m : Model) (part : List ℕ) (box other : Box) (cuts others : List Cut) (way kind : Mode) (lp : Lp) →
      IsOfBoth m part box other cuts others way kind lp → node m part box cuts way ≡ node m part other others kind
  pub holds : (m : Model) (part : List ℕ) (box other : Box) (cuts others : List Cut) (way kind : Mode) (lp : Lp) →
      IsOfBoth m part box other cuts others way kind lp →
      (leaf : Leaf) → LeafHolds m part box cuts leaf → LeafHolds m part other others leaf
  pub fits : (m : Model) (part : List ℕ) (box other : Box) (cuts others : List Cut) (way kind : Mode) (lp : Lp) →
      IsOfBoth m part box other cuts others way kind lp →
      (leaf : Leaf) → FitsLeaf m part box cuts leaf → FitsLeaf m part other others leaf
  pub meets : (m : Model) (part : List ℕ) (box other : Box) (cuts others : List Cut) (way kind : Mode) (lp : Lp) →
      IsOfBoth m part box other cuts others way kind lp →
      (point : Master) → MeetsNode m part box cuts point → MeetsNode m part other others point
  pub mode : (m : Model) (part : List ℕ) (box other : Box) (cuts others : List Cut) (way kind : Mode) (lp : Lp) →
      IsOfBoth m part box other cuts others way kind lp → 0 < blocks_of part → way ≡ kind
