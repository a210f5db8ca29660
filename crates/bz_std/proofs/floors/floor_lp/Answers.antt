use Rattle.std.proofs.Common.{rules, ◌≡◌, ◌<◌, ◌≤◌, ap, ◌∙◌, ◌*◌, ℕ, length, map, arith}
use Rattle.std.proofs.lemmas.List.{length-map}
use Rattle.bz_model.specs.Limits.{list_limit}
use Rattle.bz_model.specs.Parting.{inequalities_of, width_of}
use Rattle.bz_model.proofs.InnerCosts.{decomposed}
use Rattle.bz_tableau.specs.declared.programs.Lp.{Lp}
use Rattle.bz_std.specs.Posed.{IsProgramOf, line_of, line_over_columns}
use Rattle.bz_std.specs.Tasks.{falling_line, floor}
use Rattle.bz_std.proofs.PosedLps.{is_lp}
use Rattle.bz_std.proofs.PosedTasks.{floor_posed}
use Rattle.bz_std.proofs.Widths.{inequalities_few, own_within, width_few}
use Rattle.bz_std.proofs.floors.floor_lp.Goals as goal

pub falling_rows-requires : goal.falling_rows-requires
falling_rows-requires c =
    let few : width_of c.args.split.now.part c.args.block < list_limit = width_few c.args.split.now c.args.block c.inequalities.ensures.split in
    own_within list_limit c.args.block c.args.split.now.part c.inequalities.result.now (omega arith) c.inequalities.ensures.fits

pub returns-clause-is_lp : goal.returns-clause-is_lp
returns-clause-is_lp c =
    let split = c.args.split.now in
    let b = c.args.block in
    let few : width_of split.part b < list_limit = width_few split b c.inequalities.ensures.split in
    let few_rows : length (inequalities_of split.model split.part b) < list_limit = inequalities_few split b c.inequalities.ensures.split c.requires.last in
    let lp : Lp = record { columns = 2 * c.width.result; rows = c.from_vec.result; cost = c.in_ok-cost.cost } in
    let program : IsProgramOf (floor split.model split.part b) lp = record {
      columns = ap (λ (n : ℕ). 2 * n) c.width.ensures;
      rows = ap (map line_of) c.from_vec.ensures ∙ c.in_ok-rows.ensures ∙ ap (λ (is : _). map line_over_columns (map falling_line is)) c.inequalities.ensures.value;
      cost = c.in_ok-cost.ensures.value;
    } in
    is_lp (floor split.model split.part b) lp (floor_posed split.model split.part (decomposed split c.inequalities.ensures.split) b) program (omega arith) (rw (length-map (inequalities_of split.model split.part b) falling_line) (omega arith))
