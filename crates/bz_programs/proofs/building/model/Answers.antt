use Rattle.std.proofs.Common.{◌≡◌, length, pos, arith}
use Rattle.std.proofs.lemmas.Int.{ints}
use Rattle.bz_model.proofs.WorkedModel.{two_columns}
use Rattle.bz_cut.proofs.WorkedSplits.{one_row}
use Rattle.bz_programs.proofs.building.model.Goals as goal

pub invariant_of-result : goal.invariant_of-result
invariant_of-result c =
    let columns : length c.in_ok-columns.field-0 ≡ 2 = two_columns c.in_ok-columns.field-0 c.in_ok-columns.ensures in
    let rows : length c.in_ok-rows.field-0 ≡ 1 = one_row (pos 2) c.in_ok-rows.field-0 c.in_ok-rows.ensures in
    record {
      constant_narrow = omega arith;
      scale_positive = omega (arith, ints);
      few_columns = omega (arith, columns);
      few_rows = omega (arith, rows);
    }
