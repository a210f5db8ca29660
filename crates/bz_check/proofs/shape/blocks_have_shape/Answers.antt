use Rattle.std.proofs.Common.{rules, arith, refl, ◌+◌}
use Rattle.bz_model.specs.PartPoints.{HasBlockShape}
use Rattle.bz_first.proofs.Facts.{numbered_remains_end, numbered_remains_fail, numbered_remains_next}
use Rattle.bz_check.proofs.shape.blocks_have_shape.Goals as goal

pub returns-then-not-block_has_shape : goal.returns-then-not-block_has_shape
returns-then-not-block_has_shape c = (
  λ f. absurd cc,
  λ all. absurd (numbered_remains_fail (HasBlockShape c.args.split.now.part) 1 c.args.blocks.now c.loop-place.place (c.loop-place.place + 1) c.index-blocks-place.result _ c.loop-place-test.true (omega arith) c.index-blocks-place.is
      (λ here. let passes = c.block_has_shape.ensures.1 here in cc)
      c.loop-place.invariant all),
)

pub loop-place-preserved : goal.loop-place-preserved
loop-place-preserved c =
    numbered_remains_next (HasBlockShape c.args.split.now.part) 1 c.args.blocks.now c.loop-place.place (c.loop-place.place + 1) c.index-blocks-place.result _ c.loop-place-test.true (omega arith) c.index-blocks-place.is
    (c.block_has_shape.ensures.0 (search rules)) c.loop-place.invariant

pub returns : goal.returns
returns c = (
  λ t. numbered_remains_end (HasBlockShape c.args.split.now.part) 1 c.args.blocks.now c.loop-place.place _ c.loop-place-test.false c.loop-place.invariant,
  λ all. refl,
)
