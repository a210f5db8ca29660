use Rattle.std.proofs.Common.{rules, ◌∙◌, ◌≤◌, ◌<◌, ◌^◌, length, slice_index_or}
use Rattle.std.specs.Prelude.{All}
use Rattle.std.proofs.lemmas.List.{get_or_default}
use Rattle.bz_split.proofs.RowCounts.{all_counted, count_more, few_homes, has_room, stay_small}
use Rattle.bz_split.proofs.counts.rows_by_part.Goals as goal

pub index_mut-requires : goal.index_mut-requires
index_mut-requires c =
    let room : slice_index_or c.homes-home-items.result.now c.loop-home.home-index 0 < length c.loop-home.counts.items = has_room c.args.split.now.part c.loop-home.counts.items _ c.homes-home-items.result.now c.args.split.now.model.rows c.loop-home.home-index c.loop-home.invariant c.homes-home-items.ensures.value in
    search rules

pub overflow_add-index_mut : goal.overflow_add-index_mut
overflow_add-index_mut c =
    let few : length c.homes-home-items.result.now < 2 ^ 28 = few_homes c.args.split.now c.homes-home-items.result.now c.homes-home-items.ensures.value in
    let small : All (λ n. n ≤ length c.homes-home-items.result.now) c.loop-home.counts.items = stay_small c.args.split.now.part c.loop-home.counts.items _ _ c.loop-home.invariant in
    let room : slice_index_or c.homes-home-items.result.now c.loop-home.home-index 0 < length c.loop-home.counts.items = has_room c.args.split.now.part c.loop-home.counts.items _ c.homes-home-items.result.now c.args.split.now.model.rows c.loop-home.home-index c.loop-home.invariant c.homes-home-items.ensures.value in
    search rules

pub loop-home-preserved : goal.loop-home-preserved
loop-home-preserved c =
    let home = slice_index_or c.homes-home-items.result.now c.loop-home.home-index 0 in
    let room : home < length c.loop-home.counts.items = has_room c.args.split.now.part c.loop-home.counts.items _ c.homes-home-items.result.now c.args.split.now.model.rows c.loop-home.home-index c.loop-home.invariant c.homes-home-items.ensures.value in
    count_more c.args.split.now.part c.loop-home.counts.items c.homes-home-items.result.now c.loop-home.home-index c.index_mut.result.now
    c.loop-home.invariant c.loop-home-test.true room
    (c.index_mut.ensures.value ∙ get_or_default c.loop-home.counts.items home c.index_mut.result.now 0 room)

pub returns : goal.returns
returns c =
    all_counted c.args.split.now c.loop-home.counts.items c.homes-home-items.result.now c.loop-home.home-index c.loop-home.invariant
    c.loop-home-test.false c.homes-home-items.ensures.value
