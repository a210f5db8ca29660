use Rattle.std.proofs.Common.{rules, ◌≡◌, ◌<◌, ◌≤◌, ap, refl, ◌∙◌, sym, ◌+◌, ◌*◌, ◌++◌, ℕ, List, length, map, arith}
use Rattle.std.proofs.lemmas.List.{length-map}
use Rattle.bz_model.specs.Limits.{list_limit}
use Rattle.bz_model.specs.Parting.{inequalities_of, width_of}
use Rattle.bz_model.proofs.InnerCosts.{decomposed}
use Rattle.bz_tableau.specs.declared.programs.Lp.{Lp}
use Rattle.bz_std.specs.Posed.{IsProgramOf, line_of, line_over_columns}
use Rattle.bz_std.specs.Tasks.{cost_lines, own_line, separation}
use Rattle.bz_std.proofs.PosedLps.{is_lp, rows_joined}
use Rattle.bz_std.proofs.PosedTasks.{separation_posed}
use Rattle.bz_std.proofs.Widths.{master_within, own_within, separation_rows_few, width_few}
use Rattle.bz_std.proofs.separation.separation_lp.Goals as goal

pub own_rows-requires-clause-own : goal.own_rows-requires-clause-own
own_rows-requires-clause-own c =
    let few : width_of c.args.split.now.part c.args.block < list_limit = width_few c.args.split.now c.args.block c.inequalities.ensures.split in
    own_within list_limit c.args.block c.args.split.now.part c.inequalities.result.now (omega arith) c.inequalities.ensures.fits

pub own_rows-requires-clause-master : goal.own_rows-requires-clause-master
own_rows-requires-clause-master c = rw c.requires.point.x (master_within c.args.block c.args.split.now.part c.inequalities.result.now c.inequalities.ensures.fits)

pub returns-clause-program : goal.returns-clause-program
returns-clause-program c =
    let split = c.args.split.now in
    let b = c.args.block in
    let point = c.args.point.now in
    let lines = inequalities_of split.model split.part b in
    let rows : map line_of c.in_ok-rows.rows.items ≡ map line_over_columns (map (own_line point) lines) = c.in_ok-rows.ensures.rows ∙ ap (λ (is : _). map line_over_columns (map (own_line point) is)) c.inequalities.ensures.value in
    record {
      program = record {
        columns = ap (λ (n : ℕ). 2 * n) c.width.ensures;
        rows = ap (map line_of) c.from_vec.ensures ∙ rows_joined c.in_ok-rows.rows.items c.push_cost_row.new.rows.items (map (own_line point) lines) (cost_lines split.model split.part point b c.args.mode) rows c.in_ok-push_cost_row.ensures;
        cost = c.from_vec-2.ensures ∙ c.new.ensures.items;
      };
      narrow = rw c.inequalities.ensures.value at c.in_ok-rows.ensures.narrow;
    }

pub returns-clause-is_lp : goal.returns-clause-is_lp
returns-clause-is_lp c =
    let split = c.args.split.now in
    let b = c.args.block in
    let point = c.args.point.now in
    let few : width_of split.part b < list_limit = width_few split b c.inequalities.ensures.split in
    let lp : Lp = record { columns = 2 * c.width.result; rows = c.from_vec.result; cost = c.from_vec-2.result } in
    let program : IsProgramOf (separation split.model split.part point b c.args.mode) lp = (returns-clause-program c).program in
    is_lp (separation split.model split.part point b c.args.mode) lp (separation_posed split.model split.part (decomposed split c.inequalities.ensures.split) b point c.args.mode) program (omega arith) (separation_rows_few split b point c.args.mode c.inequalities.ensures.split c.requires.last)
