-- A sparse row divided is sparse.
use Rattle.std.proofs.Common.{◌≡◌, arith, to_z-of_z, take, drop, ◌++◌, length}
use Rattle.std.proofs.lemmas.Grind.{common_steps}
use Rattle.bz_num.proofs.Reduces.{sparse-divided}
use Rattle.bz_num.proofs.row.SparseRow.divide_by.Goals as goal

pub invariant_of-self : goal.invariant_of-self
invariant_of-self c =
    let now = c.divide_entries.new.entries in
    let old = c.self.inside.entries.items in
    let same : take c.self.inside.entries.len (now ++ drop (length now) old) ≡ now = grind (arith, common_steps) in
    let scaled = rw (to_z-of_z c.ranges.divisor, c.as_mut_slice.ensures.value) at c.divide_entries.ensures in
    rw same (sparse-divided c.args.divisor old now c.requires.positive c.self.invariant scaled)
