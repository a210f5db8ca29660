use Rattle.bz_part.proofs.PartitionLemmas.{gap_more}
use Rattle.bz_part.proofs.part_text.first_gap.Goals as goal

pub loop-block-preserved : goal.loop-block-preserved
loop-block-preserved c = gap_more c.args.part.now c.loop-block.block c.loop-block.invariant (c.has.ensures.0 c.if-not-has.false)
