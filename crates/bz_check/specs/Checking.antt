-- What the check of a certificate answers, by its tests.
use Rattle.std.specs.Prelude.{ℕ, ◌≡◌, ◌⊎◌, List, Result, Ok, Err}
use Rattle.bz_model.specs.declared.Model.{Model}
use Rattle.bz_model.specs.Splits.{Decomposition, IsSplit}
use Rattle.bz_first.specs.Tests.{AllHold, JudgesUnless}
use Rattle.bz_tree.specs.declared.TreeNode.{TreeNode}
use Rattle.bz_tree.specs.Boxes.{Box, IsRootBox}
use Rattle.bz_tree.specs.Trees.{IsTreeOf, Tree}
use Rattle.bz_cert.specs.declared.Certificate.{Certificate}
use Rattle.bz_judge.specs.declared.CheckFault.{CheckFault}
use Rattle.bz_judge.specs.declared.CheckFault.TheVariants as fault
use Rattle.bz_judge.specs.PointTests.{Tests}
use Rattle.bz_check.specs.CheckTests.{HasTree, IsCheckFault, check_tests}

-- all tests of the certificate hold, over the box of the whole model and the tree of its nodes
pub record PassesTests (m : Model) (part : List ℕ) (c : Certificate) : Type 0 where
  pub root : Box
  pub is_root : IsRootBox m root
  pub tree : Tree
  pub is_tree : HasTree c c.verdict tree
  pub hold : AllHold (check_tests m part root tree c)

-- all tests hold, or the first fault is answered; want of memory is an answer of its own
abbrev pub Settles : Decomposition → Certificate → Result (Unit {0}) CheckFault → Type 0
Settles d c (Ok _) = IsSplit d × PassesTests d.model d.part c
Settles d c (Err f) = (f ≡ fault.OutOfMemory) ⊎ (IsSplit d × IsCheckFault d.model d.part c f)

-- the answer is the one that is due, or that there is no memory
abbrev pub IsDue : Result (Unit {0}) CheckFault → Result (Unit {0}) CheckFault → Type 0
IsDue due answer = (answer ≡ due) ⊎ (answer ≡ Err fault.OutOfMemory)

-- the tests judge, or there is no memory
abbrev pub JudgesInMemory : {T : Type 0} → Tests → Result T CheckFault → Type 0
JudgesInMemory tests result = JudgesUnless fault.OutOfMemory tests result

-- the tests of the tree that the nodes are those of judge, or there is no memory
abbrev pub JudgesTree : List TreeNode → (Tree → Tests) → Result (Unit {0}) CheckFault → Type 0
JudgesTree nodes tests result = (tree : Tree) → IsTreeOf nodes tree → JudgesInMemory (tests tree) result

-- the same of a certificate whose verdict may have no tree
abbrev pub JudgesCertificate : Certificate → (Tree → Tests) → Result (Unit {0}) CheckFault → Type 0
JudgesCertificate c tests result = (tree : Tree) → HasTree c c.verdict tree → JudgesInMemory (tests tree) result
