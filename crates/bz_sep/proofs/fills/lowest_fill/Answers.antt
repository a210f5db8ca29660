use Rattle.std.proofs.Common.{rules, FitsSigned, to_z-of_z}
use Rattle.std.specs.Int.{w128}
use Rattle.bz_num.specs.Dense.{entry}
use Rattle.bz_model.specs.Parting.{width_of}
use Rattle.bz_std.specs.Meanings.{differences}
use Rattle.bz_std.specs.NumberLists.{HasNumbers}
use Rattle.bz_sep.proofs.FillAnswers.{all_narrow, lowest_of}
use Rattle.bz_sep.proofs.fills.lowest_fill.Goals as goal

pub invariant_of-result : goal.invariant_of-result
invariant_of-result c =
    let fits : FitsSigned w128 c.lowest-times.result.0 = search rules in
    record {
      times_narrow = rw (to_z-of_z fits) c.lowest-times.ensures.den_narrow;
      y_narrow = all_narrow c.lowest-times.result.1 c.lowest-times.ensures.narrow;
    }

pub returns : goal.returns
returns c =
    let fits : FitsSigned w128 c.lowest-times.result.0 = search rules in
    let fits_den : FitsSigned w128 c.args.z.now.den = search rules in
    let numbers : HasNumbers (width_of c.args.split.now.part c.args.block) (differences (entry c.args.z.now.num)) c.into_vec.result.items = rw c.into_vec.ensures (rw (c.width.ensures, c.as_slice.ensures) at c.in_ok-numbers.ensures) in
    rw (to_z-of_z fits) (lowest_of (width_of c.args.split.now.part c.args.block) (differences (entry c.args.z.now.num)) c.args.z.now.den c.into_vec.result.items c.lowest-times.result.0 c.lowest-times.result.1 numbers (rw (to_z-of_z fits_den) at c.lowest-times.ensures.lowest))
