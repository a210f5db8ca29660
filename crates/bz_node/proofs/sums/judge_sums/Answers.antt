use Rattle.bz_first.specs.Tests.{AllHold, IsFirstFault}
use Rattle.bz_first.proofs.TestLemmas.{judges_then}
use Rattle.bz_node.proofs.SumTests.{rows, rows_fault, values}
use Rattle.bz_node.proofs.sums.judge_sums.Goals as goal

pub returns-in_err-judge_master_rows : goal.returns-in_err-judge_master_rows
returns-in_err-judge_master_rows c =
    let split = c.args.split.now in
    let point = c.args.point.now in
    let f = c.in_err-judge_master_rows.field-0.0 in
    let fault : IsFirstFault (rows split.model split.part point) f = rw c.inequalities.ensures.value at c.in_err-judge_master_rows.ensures in
    rows_fault split.model split.part point c.args.mode f c.from_residual.result c.from_residual.ensures.1 fault

pub returns-in-Cost : goal.returns-in-Cost
returns-in-Cost c =
    let split = c.args.split.now in
    let point = c.args.point.now in
    let hold : AllHold (rows split.model split.part point) = rw c.inequalities.ensures.value at c.in_ok-judge_master_rows.ensures in
    rw c.in-Cost.is (judges_then (rows split.model split.part point) (values split.model split.part point) c.judge_own_value.result hold c.judge_own_value.ensures)
