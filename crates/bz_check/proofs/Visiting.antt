-- What a visit of a node comes to.
use Rattle.std.proofs.Common.{ℕ, ℤ, List, [], ◌∷◌, inl, inr, Result, Ok, Err, IfOk}
use Rattle.bz_model.specs.declared.Model.{Model}
use Rattle.bz_cut.specs.declared.Cut.{Cut}
use Rattle.bz_first.specs.Tests.{JudgesUnless, test}
use Rattle.bz_tree.specs.declared.Leaf.{Leaf}
use Rattle.bz_tree.specs.declared.TreeNode.{TreeNode}
use Rattle.bz_tree.specs.Boxes.{Box}
use Rattle.bz_tree.specs.Leaves.{sides_of}
use Rattle.bz_tree.specs.Trees.{IsSplitOf, Tree}
use Rattle.bz_judge.specs.declared.CheckFault.{CheckFault}
use Rattle.bz_judge.specs.declared.CheckFault.TheVariants as fault
use Rattle.bz_check.specs.declared.open_splits.Walk.{Walk}
use Rattle.bz_tree.specs.Integers.{integer_at}
use Rattle.bz_check.specs.CheckTests.{tip_tests}
use Rattle.bz_check.specs.Walks.{Enters, GoesOn, Stands, Visits, box_in, open_in}
use Rattle.bz_check.proofs.Forests.{leaf_done, leaf_fault, split_done, split_fault}
use Rattle.bz_check.proofs.Walking.{entered}

pub split_visits : (m : Model) (part : List ℕ) (cuts : List Cut) (Bounds : Leaf → Type 0) (root : Box) (tree : Tree) (node : ℕ) (old new : Walk) (position : ℕ) (left right : ℤ) (rest : List TreeNode) (r : Result (Unit {0}) CheckFault) → Stands m part cuts Bounds root tree node (box_in old) (open_in old) (TreeNode.Split position left right ∷ rest) → JudgesUnless fault.OutOfMemory (test (fault.Cover node) (IsSplitOf m part (integer_at m part position) position left right) ∷ []) r → IfOk r (λ _. Enters (integer_at m part position) left right old new) → Visits m part cuts Bounds root tree node new rest r
split_visits m part cuts Bounds root tree node old new position left right rest (Ok u) s j e =
    split_done m part cuts Bounds root tree node (box_in old) (box_in new) (open_in old) (open_in new) position left right rest s j.0 e.at_most
    (entered old.frames.items new.frames.items (integer_at m part position) left right (box_in old) (box_in new) e.at_most e.opened)
split_visits m part cuts Bounds root tree node old new position left right rest (Err f) s (inl want) e = inl want
split_visits m part cuts Bounds root tree node old new position left right rest (Err f) s (inr h) e =
    inr (split_fault m part cuts Bounds root tree node (box_in old) (open_in old) position left right rest f s h)

pub leaf_visits : (m : Model) (part : List ℕ) (cuts : List Cut) (Bounds : Leaf → Type 0) (root : Box) (tree : Tree) (node : ℕ) (old new : Walk) (leaf : Leaf) (rest : List TreeNode) (r : Result (Unit {0}) CheckFault) → Stands m part cuts Bounds root tree node (box_in old) (open_in old) (TreeNode.Leaf leaf ∷ rest) → JudgesUnless fault.OutOfMemory (tip_tests m part Bounds (sides_of m part (box_in old) cuts) node leaf) r → IfOk r (λ _. GoesOn old new) → Visits m part cuts Bounds root tree node new rest r
leaf_visits m part cuts Bounds root tree node old new leaf rest (Ok u) s j e =
    leaf_done m part cuts Bounds root tree node (box_in old) (box_in new) (open_in old) (open_in new) leaf rest s j e
leaf_visits m part cuts Bounds root tree node old new leaf rest (Err f) s (inl want) e = inl want
leaf_visits m part cuts Bounds root tree node old new leaf rest (Err f) s (inr h) e =
    inr (leaf_fault m part cuts Bounds root tree node (box_in old) (open_in old) leaf rest f s h)
