use Rattle.std.proofs.Common.{rules, ◌≡◌, ◌↔◌, ◌<◌, IsTrue, List, length, drop, take, arith}
use Rattle.bz_model.specs.Limits.{list_limit}
use Rattle.bz_model.specs.Parting.{inequalities_of, width_of}
use Rattle.bz_std.specs.Compared.{AreRowsOfEach, IsOwnRow, Pairwise}
use Rattle.bz_std.specs.Tasks.{cost_lines}
use Rattle.bz_std.proofs.ListsCompared.{separation_costs, separation_made, separation_own}
use Rattle.bz_std.proofs.Tested.{told, told_not}
use Rattle.bz_std.proofs.Widths.{master_within, own_within, width_few}
use Rattle.bz_std.proofs.comparison.are_separation_rows.Goals as goal

pub are_own_rows-requires-clause-own : goal.are_own_rows-requires-clause-own
are_own_rows-requires-clause-own c =
    let few : width_of c.args.split.now.part c.args.block < list_limit = width_few c.args.split.now c.args.block c.inequalities-ineqs.ensures.split in
    own_within list_limit c.args.block c.args.split.now.part c.inequalities-ineqs.result.now (omega arith) c.inequalities-ineqs.ensures.fits

pub are_own_rows-requires-clause-master : goal.are_own_rows-requires-clause-master
are_own_rows-requires-clause-master c = rw c.requires.point.x (master_within c.args.block c.args.split.now.part c.inequalities-ineqs.result.now c.inequalities-ineqs.ensures.fits)

pub returns-then-are_own_rows : goal.returns-then-are_own_rows
returns-then-are_own_rows c =
    let split = c.args.split.now in
    let point = c.args.point.now in
    let b = c.args.block in
    let rows = c.args.rows.now in
    let is = inequalities_of split.model split.part b in
    let own : Pairwise (IsOwnRow point) is (take (length is) rows) = rw (c.split_at.ensures.front, c.inequalities-ineqs.ensures.value) at (c.are_own_rows.ensures.0 c.if-are_own_rows.true) in
    let costs : IsTrue c.are_cost_rows.result ↔ AreRowsOfEach (cost_lines split.model split.part point b c.args.mode) (drop (length is) rows) = rw (c.split_at.ensures.back, c.inequalities-ineqs.ensures.value) at c.are_cost_rows.ensures in
    told costs
    (separation_made split.model split.part point b c.args.mode rows own)
    (separation_costs split.model split.part point b c.args.mode rows)

pub returns-else-are_own_rows : goal.returns-else-are_own_rows
returns-else-are_own_rows c =
    let split = c.args.split.now in
    told_not c.are_own_rows.ensures c.if-are_own_rows.false (λ s. rw (c.split_at.ensures.front, c.inequalities-ineqs.ensures.value) (separation_own split.model split.part c.args.point.now c.args.block c.args.mode c.args.rows.now s))
