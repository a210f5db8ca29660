use Rattle.bz_split.proofs.TheFaults.{column_found, columns_all, columns_more}
use Rattle.bz_split.proofs.columns.first_column_fault.Goals as goal

pub returns-in-Some : goal.returns-in-Some
returns-in-Some c =
    column_found c.args.model.now c.args.part.now c.as_slice-column-items.result.now c.loop-j.j c.column-item.result c.in-Some.fault
    c.requires.rows c.as_slice-column-items.ensures c.column-item.is c.loop-j-test.true c.loop-j.invariant c.in-Some.ensures

pub loop-j-preserved : goal.loop-j-preserved
loop-j-preserved c =
    columns_more c.args.part.now c.as_slice-column-items.result.now c.loop-j.j c.column-item.result c.column-item.is c.loop-j-test.true
    c.loop-j.invariant c.in_default.ensures

pub returns : goal.returns
returns c =
    columns_all c.args.model.now c.args.part.now c.as_slice-column-items.result.now c.loop-j.j c.as_slice-column-items.ensures
    c.loop-j-test.false c.loop-j.invariant
