use Rattle.std.proofs.Common.{arith}
use Rattle.bz_part.proofs.PartitionLemmas.{value_next}
use Rattle.bz_part.proofs.part_text.value.Goals as goal

pub loop-digit-preserved : goal.loop-digit-preserved
loop-digit-preserved c =
    let next = value_next c.args.digits.now c.loop-digit.digit-index c.loop-digit.value c.capped-value.result _ (omega arith) c.loop-digit.invariant.digits c.loop-digit.invariant.same c.capped-value.ensures in
    record { small = omega arith; digits = next.0; same = next.1 }
