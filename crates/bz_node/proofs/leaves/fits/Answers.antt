-- The sides that are told by number are those of the leaf.
use Rattle.std.proofs.Common.{◌∙◌, subst, List}
use Rattle.bz_model.specs.declared.Ineq.{Ineq}
use Rattle.bz_first.specs.Tests.{Judges}
use Rattle.bz_tree.specs.LeafSides.{sides_among}
use Rattle.bz_tree.specs.Leaves.{sides_of}
use Rattle.bz_tree.proofs.LeafSides.{sides_same}
use Rattle.bz_judge.specs.LeafTests.{leaf_tests}
use Rattle.bz_node.specs.NodePrograms.{cuts_of, model_of, part_of, region_of}
use Rattle.bz_node.proofs.LeafSteps.{fits_told}
use Rattle.bz_node.proofs.leaves.fits.Goals as goal

pub returns : goal.returns
returns c =
    let n = c.args.program.now in
    let leaf = c.args.leaf.now in
    let judged : Judges (leaf_tests (model_of n) (part_of n) (sides_of (model_of n) (part_of n) (region_of n) (cuts_of n)) 0 leaf) c.judge_leaf.result =
    subst (λ (sides : List Ineq). Judges (leaf_tests (model_of n) (part_of n) sides 0 leaf) c.judge_leaf.result)
    ((λ i. sides_among (c.inequalities.ensures.value i) (c.requires.program.positions_are i) (record { lower = c.as_slice.ensures i; upper = c.as_slice-2.ensures i }) (c.as_slice-3.ensures i))
    ∙ sides_same (model_of n) (part_of n) (region_of n) (cuts_of n))
    c.judge_leaf.ensures in
    rw c.is_ok.ensures.value (fits_told (model_of n) (part_of n) (region_of n) (cuts_of n) leaf c.judge_leaf.result c.requires.holds judged)
