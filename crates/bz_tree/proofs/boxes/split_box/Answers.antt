use Rattle.std.proofs.Common.{rules, ◌≡◌, pos, ◌+ℤ◌, FitsSigned, to_z-of_z}
use Rattle.std.specs.Int.{w128}
use Rattle.bz_tree.proofs.NarrowSides.{narrow_lower, narrow_upper}
use Rattle.bz_tree.proofs.boxes.split_box.Goals as goal

pub invariant_of-left : goal.invariant_of-left
invariant_of-left c = record {
  lower_narrow = rw c.in_ok-copy.ensures c.args.b.now.lower_narrow;
  upper_narrow = rw (c.in_ok-replaced.ensures, c.as_slice-upper.ensures, to_z-of_z c.ranges.value)
      (narrow_upper c.args.b.now c.args.place c.args.value c.requires.at_least c.requires.below);
}

pub invariant_of-right : goal.invariant_of-right
invariant_of-right c =
    let fits : FitsSigned w128 c.next_below-next.result = search rules in
    let next : c.next_below-next.result ≡ c.args.value +ℤ pos 1 = rw (to_z-of_z c.ranges.value) at c.next_below-next.ensures in
    record {
      lower_narrow = rw (c.in_ok-replaced-2.ensures, c.as_slice-lower.ensures, to_z-of_z fits, next)
          (narrow_lower c.args.b.now c.args.place c.args.value c.requires.at_least c.requires.below);
      upper_narrow = rw c.in_ok-copy-2.ensures c.args.b.now.upper_narrow;
    }
