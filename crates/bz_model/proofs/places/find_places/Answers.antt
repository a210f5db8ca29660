use Rattle.std.proofs.Common.{◌≡◌, ◌≤◌, ◌<◌, length, arith, ◌∙◌, ap}
use Rattle.bz_model.specs.Parting.{part_of, position_of}
use Rattle.bz_model.proofs.Placing.{placed_length, placed_more, placed_room, position_small}
use Rattle.bz_model.proofs.places.find_places.Goals as goal

pub index-requires : goal.index-requires
index-requires c = let l : part_of c.args.part.now c.loop-column.column < length c.loop-column.columns.items = placed_room c.args.part.now c.loop-column.column c.loop-column.invariant in omega (arith, c.loop-column.columns.ok)

pub overflow_cast-as_slice : goal.overflow_cast-as_slice
overflow_cast-as_slice c =
    let is : length c.index.result.now ≡ position_of c.args.part.now c.loop-column.column = placed_length c.args.part.now c.loop-column.column c.loop-column.positions.items c.loop-column.columns.items c.index.result.now c.loop-column.invariant c.index.ensures in
    let small : position_of c.args.part.now c.loop-column.column ≤ c.loop-column.column = position_small c.args.part.now c.loop-column.column in
    rw c.as_slice.ensures (omega arith)

pub push_at-requires : goal.push_at-requires
push_at-requires c = placed_room c.args.part.now c.loop-column.column c.loop-column.invariant

pub loop-column-preserved : goal.loop-column-preserved
loop-column-preserved c =
    rw c.in_ok-push.ensures.items
    (placed_more c.args.part.now c.loop-column.column _ c.loop-column.positions.items c.loop-column.invariant c.loop-column-test.true
    (ap length c.as_slice.ensures ∙ placed_length c.args.part.now c.loop-column.column c.loop-column.positions.items c.loop-column.columns.items c.index.result.now c.loop-column.invariant c.index.ensures)
    c.in_ok-push_at.ensures)
