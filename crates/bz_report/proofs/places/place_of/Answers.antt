use Rattle.std.proofs.Common.{◌≤◌, arith}
use Rattle.bz_model.specs.Parting.{blocks_of, part_of}
use Rattle.bz_model.proofs.Positions.{part_within_blocks}
use Rattle.bz_report.proofs.places.place_of.Goals as goal

pub unreachable-requires : goal.unreachable-requires
unreachable-requires c =
    let most : part_of c.args.split.now.part c.args.column ≤ blocks_of c.args.split.now.part = part_within_blocks c.args.split.now.part c.args.column in
    let least : c.loop-part.part ≤ part_of c.args.split.now.part c.args.column = c.loop-part.invariant in
    omega (arith, most, least, c.loop-part-test.false, c.blocks-part-end.ensures.value)
