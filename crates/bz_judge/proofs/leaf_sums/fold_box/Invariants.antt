-- The sides at the first places are taken.
use Rattle.std.proofs.Common.{◌≡◌, ◌+◌, ◌*◌, ◌≤◌, length}
use Rattle.bz_num.specs.SparseSums.{sum_left}
use Rattle.bz_judge.specs.SideNumbers.{master_number, numbers_from}
use Rattle.bz_judge.proofs.leaf_sums.fold_box.Given as goal

abbrev pub invariant-loop-k : goal.invariant-loop-k
invariant-loop-k l = record {
  inside : l.folding.count ≤ length l.multipliers;
  left : sum_left l.multipliers (numbers_from (length l.sides.rows.now + 2 * l.k) (master_number l.sides l.position)) l.folding
      ≡ sum_left l.multipliers (numbers_from (length l.sides.rows.now) (master_number l.sides l.position)) l.initial.folding;
}
