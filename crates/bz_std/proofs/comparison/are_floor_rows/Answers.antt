use Rattle.std.proofs.Common.{rules, ◌≡◌, ◌↔◌, ◌<◌, IsTrue, map, arith}
use Rattle.bz_model.specs.Limits.{list_limit}
use Rattle.bz_model.specs.Parting.{inequalities_of, width_of}
use Rattle.bz_std.specs.Compared.{Pairwise}
use Rattle.bz_std.specs.Posed.{IsRowOf}
use Rattle.bz_std.specs.Tasks.{falling_line}
use Rattle.bz_std.proofs.ListsCompared.{each_of_rows, pairwise_from_mapped, pairwise_mapped, rows_of_each}
use Rattle.bz_std.proofs.Tested.{told}
use Rattle.bz_std.proofs.Widths.{own_within, width_few}
use Rattle.bz_std.proofs.comparison.are_floor_rows.Goals as goal

pub are_falling_rows-requires : goal.are_falling_rows-requires
are_falling_rows-requires c =
    let few : width_of c.args.split.now.part c.args.block < list_limit = width_few c.args.split.now c.args.block c.inequalities.ensures.split in
    own_within list_limit c.args.block c.args.split.now.part c.inequalities.result.now (omega arith) c.inequalities.ensures.fits

pub returns : goal.returns
returns c =
    let is = inequalities_of c.args.split.now.model c.args.split.now.part c.args.block in
    let rows = c.args.rows.now in
    let each : IsTrue c.are_falling_rows.result ↔ Pairwise (λ i. IsRowOf (falling_line i)) is rows = rw c.inequalities.ensures.value at c.are_falling_rows.ensures in
    told each
    (λ h. rows_of_each (map falling_line is) rows (pairwise_mapped IsRowOf falling_line is rows h))
    (λ h. pairwise_from_mapped IsRowOf falling_line is rows (each_of_rows (map falling_line is) rows h))
