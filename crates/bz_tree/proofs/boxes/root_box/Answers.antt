use Rattle.bz_tree.proofs.EndLists.{ends_are_narrow, ends_are_root}
use Rattle.bz_tree.specs.Ends.{AreEnds, IsLowerEnd, IsUpperEnd, integers_among}
use Rattle.bz_tree.proofs.boxes.root_box.Goals as goal

pub returns : goal.returns
returns c =
    let low : AreEnds IsLowerEnd (integers_among c.args.split.now.model.columns) c.in_ok-lower.lower.items = rw (c.as_slice-columns.ensures, c.model.ensures.value) at c.in_ok-lower.ensures in
    let up : AreEnds IsUpperEnd (integers_among c.args.split.now.model.columns) c.in_ok-upper.upper.items = rw (c.as_slice-columns.ensures, c.model.ensures.value) at c.in_ok-upper.ensures in
    rw (c.from_vec.ensures, c.from_vec-2.ensures) (ends_are_root c.args.split.now.model c.in_ok-lower.lower.items c.in_ok-upper.upper.items low up)

pub invariant_of-result : goal.invariant_of-result
invariant_of-result c =
    let both = ends_are_narrow _ c.in_ok-lower.lower.items c.in_ok-upper.upper.items c.in_ok-lower.ensures c.in_ok-upper.ensures in
    record { lower_narrow = rw c.from_vec.ensures both.0; upper_narrow = rw c.from_vec-2.ensures both.1 }
