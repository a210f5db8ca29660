use Rattle.bz_cert.proofs.Written.{blocks_on}
use Rattle.bz_cert.proofs.writing.write_blocks.Goals as goal

pub lines-preserved : goal.lines-preserved
lines-preserved c =
    blocks_on _ _ _ c.args.blocks.now c.lines.place _ c.index-blocks-place.result c.lines-test.true c.index-blocks-place.is c.lines.invariant c.in_ok-write_block.ensures
