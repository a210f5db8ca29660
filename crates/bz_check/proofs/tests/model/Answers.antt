use Rattle.std.proofs.Common.{◌≡◌, length, arith}
use Rattle.bz_model.proofs.WorkedModel.{two_columns}
use Rattle.bz_cut.proofs.WorkedSplits.{one_row}
use Rattle.bz_check.proofs.tests.model.Goals as goal

pub invariant_of-result-clause-few_columns : goal.invariant_of-result-clause-few_columns
invariant_of-result-clause-few_columns c =
    let columns : length c.in_ok-columns.field-0 ≡ 2 = two_columns c.in_ok-columns.field-0 c.in_ok-columns.ensures in
    omega (arith, columns)

pub invariant_of-result-clause-few_rows : goal.invariant_of-result-clause-few_rows
invariant_of-result-clause-few_rows c =
    let rows : length c.in_ok-rows.field-0 ≡ 1 = one_row _ c.in_ok-rows.field-0 c.in_ok-rows.ensures in
    omega (arith, rows)
