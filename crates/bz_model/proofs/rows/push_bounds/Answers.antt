use Rattle.std.proofs.Common.{◌≡◌, ◌≤◌, length, arith}
use Rattle.bz_model.specs.Parting.{part_of, blocks_of}
use Rattle.bz_model.proofs.Positions.{part_within_blocks}
use Rattle.bz_model.proofs.rows.push_bounds.Goals as goal

pub push_upper_bound-requires-clause-room : goal.push_upper_bound-requires-clause-room
push_upper_bound-requires-clause-room c =
    let l : part_of c.args.part.now c.args.number ≤ blocks_of c.args.part.now = part_within_blocks c.args.part.now c.args.number in
    omega (arith, c.requires.room)

pub push_lower_bound-requires-clause-room : goal.push_lower_bound-requires-clause-room
push_lower_bound-requires-clause-room c =
    let l : part_of c.args.part.now c.args.number ≤ blocks_of c.args.part.now = part_within_blocks c.args.part.now c.args.number in
    let n : length c.push_upper_bound.new.lists.items ≡ length c.args.lists.now.items = c.in_ok-push_upper_bound.ensures.count in
    omega (arith, c.requires.room)
