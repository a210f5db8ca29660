use Rattle.bz_part.proofs.PartitionLemmas.{line_fails, line_read}
use Rattle.bz_part.proofs.part_text.read_columns.Goals as goal

pub returns-in_err-read_column : goal.returns-in_err-read_column
returns-in_err-read_column c =
    line_fails _ _ _ _ _ _ c.in-Some.line _ _ c.from_residual-in_err-read_column.ensures.1 c.loop-numbers.invariant
    (rw c.in-Some.is at c.in_ok-line.ensures.answer) c.in_err-read_column.ensures

pub loop-numbers-preserved-in_ok-read_column : goal.loop-numbers-preserved-in_ok-read_column
loop-numbers-preserved-in_ok-read_column c =
    line_read _ _ _ _ _ _ c.in-Some.line _ c.loop-numbers.invariant (rw c.in-Some.is at c.in_ok-line.ensures.answer) c.in_ok-read_column.ensures

pub loop-numbers-preserved : goal.loop-numbers-preserved
loop-numbers-preserved c =
    line_read _ _ _ _ _ _ c.in-Some.line _ c.loop-numbers.invariant (rw c.in-Some.is at c.in_ok-line.ensures.answer) c.in_ok-read_column.ensures
