use Rattle.std.proofs.Common.{◌≡◌, ◌≤◌, ℕ, length, slice_index_or, subst, arith}
use Rattle.bz_model.specs.Parting.{blocks_of, home_of, sides_of_row}
use Rattle.bz_model.specs.PartLists.{AreJoined, only_at}
use Rattle.bz_model.proofs.Joins.{kept_home, rows_more}
use Rattle.bz_model.proofs.MeetingParts.{home_within}
use Rattle.bz_model.proofs.rows.push_rows.Goals as goal

pub push_row-requires-clause-room : goal.push_row-requires-clause-room
push_row-requires-clause-room c =
    let row = c.index-rows-i.result in
    let home : slice_index_or c.args.homes.now c.loop-i.i 0 ≡ home_of c.args.part.now row.terms = kept_home c.args.part.now c.args.homes.now c.args.rows.now c.loop-i.i row c.requires.homes c.loop-i-test.true c.index-rows-i.is in
    let within : home_of c.args.part.now row.terms ≤ blocks_of c.args.part.now = home_within c.args.part.now row.terms in
    let count : length c.loop-i.lists.items ≡ length c.args.lists.now.items = c.loop-i.invariant.count in
    omega (arith, home, within, count, c.requires.room)

pub loop-i-preserved : goal.loop-i-preserved
loop-i-preserved c =
    let row = c.index-rows-i.result in
    rows_more c.args.part.now c.args.rows.now c.loop-i.i row c.loop-i-test.true c.index-rows-i.is c.loop-i.invariant
    (subst (λ (b : ℕ). AreJoined c.loop-i.lists.items c.push_row.new.lists.items (only_at b (sides_of_row c.args.part.now b row)))
    (kept_home c.args.part.now c.args.homes.now c.args.rows.now c.loop-i.i row c.requires.homes c.loop-i-test.true c.index-rows-i.is)
    c.in_ok-push_row.ensures)
