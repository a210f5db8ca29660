use Rattle.std.proofs.Common.{◌∙◌, ap}
use Rattle.bz_report.specs.LowestTerms.{lowest}
use Rattle.bz_report.proofs.PartValues.{block_at}
use Rattle.bz_report.proofs.values.value_in.Goals as goal

pub in_block-requires-clause-times : goal.in_block-requires-clause-times
in_block-requires-clause-times c =
    (block_at c.args.split.now c.args.parts.now c.args.part c.args.position c.as_slice.result.now c.index-as_slice-part.result c.requires.values c.if-part-eq0.false c.requires.part c.requires.position c.as_slice.ensures c.index-as_slice-part.is).times

pub in_block-requires-clause-position : goal.in_block-requires-clause-position
in_block-requires-clause-position c =
    (block_at c.args.split.now c.args.parts.now c.args.part c.args.position c.as_slice.result.now c.index-as_slice-part.result c.requires.values c.if-part-eq0.false c.requires.part c.requires.position c.as_slice.ensures c.index-as_slice-part.is).within

pub returns : goal.returns
returns c =
    c.in_block.ensures
    ∙ ap lowest (block_at c.args.split.now c.args.parts.now c.args.part c.args.position c.as_slice.result.now c.index-as_slice-part.result c.requires.values c.if-part-eq0.false c.requires.part c.requires.position c.as_slice.ensures c.index-as_slice-part.is).value
