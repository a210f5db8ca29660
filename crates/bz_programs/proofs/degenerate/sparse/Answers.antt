-- A pair more.
use Rattle.std.proofs.Common.{rules, ◌<◌, ◌+◌, arith, ℕ, ℤ, pos, FitsSigned, to_z, of_z, unsigned_abs, get_or}
use Rattle.std.specs.Int.{w128}
use Rattle.std.proofs.lemmas.Int.{ints}
use Rattle.bz_algebra.specs.Numbers.{IsNarrow}
use Rattle.bz_num.specs.Row.{IsEntryFrom}
use Rattle.bz_programs.proofs.BuiltRows.{sparse_more, below_more, below_wider}
use Rattle.bz_programs.proofs.degenerate.sparse.Goals as goal

pub loop-j-preserved-then-number-eq0 : goal.loop-j-preserved-then-number-eq0
loop-j-preserved-then-number-eq0 g c = (c.loop-j.invariant.0, below_wider c.loop-j.j (c.loop-j.j + 1) c.loop-j.pairs.items c.loop-j.invariant.1 (omega arith))

pub loop-j-preserved : goal.loop-j-preserved
loop-j-preserved g c =
    let narrow : IsNarrow (to_z w128 (of_z w128 (get_or c.args.numbers.now c.loop-j.j (pos 0)))) = search rules in
    let some : 0 < unsigned_abs (to_z w128 (of_z w128 (get_or c.args.numbers.now c.loop-j.j (pos 0)))) = search rules in
    rw c.in_ok-push.ensures.items (
      sparse_more 0 c.loop-j.pairs.items (c.loop-j.j, to_z w128 (of_z w128 (get_or c.args.numbers.now c.loop-j.j (pos 0)))) c.loop-j.invariant.0 c.loop-j.invariant.1 (record { column = omega arith; some = some; narrow = narrow }),
      below_more (c.loop-j.j + 1) c.loop-j.pairs.items (c.loop-j.j, to_z w128 (of_z w128 (get_or c.args.numbers.now c.loop-j.j (pos 0)))) (below_wider c.loop-j.j (c.loop-j.j + 1) c.loop-j.pairs.items c.loop-j.invariant.1 (omega arith)) (omega arith),
    )
