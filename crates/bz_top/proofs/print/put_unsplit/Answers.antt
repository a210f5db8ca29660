use Rattle.std.proofs.Common.{ap, length, ◌<◌}
use Rattle.bz_split.specs.Places.{column_of, row_of}
use Rattle.bz_top.proofs.print.put_unsplit.Goals as goal

pub row_name-requires : goal.row_name-requires
row_name-requires g c = c.args.unsplit.now.row c.in-Joins.row (ap row_of c.in-Joins.is)

pub returns-in-Joins : goal.returns-in-Joins
returns-in-Joins g c = rw (c.in-Joins.is, ← c.row_name.ensures) c.put_numbered_twice.ensures

pub column_name-requires : goal.column_name-requires
column_name-requires g c = c.args.unsplit.now.column c.in-IntegerInBlock.column (ap column_of c.in-IntegerInBlock.is)

pub bounds-as_slice-column : goal.bounds-as_slice-column
bounds-as_slice-column g c =
    let column : c.in-IntegerInBlock.column < length c.args.unsplit.now.model.columns =
    c.args.unsplit.now.column c.in-IntegerInBlock.column (ap column_of c.in-IntegerInBlock.is) in
    rw (c.as_slice.ensures, c.args.unsplit.now.numbers) column

pub returns-in-IntegerInBlock : goal.returns-in-IntegerInBlock
returns-in-IntegerInBlock g c = rw (c.in-IntegerInBlock.is, ← c.column_name.ensures, ← c.as_slice.ensures) c.put_numbered.ensures

pub column_name-requires-in-IntegerOpen : goal.column_name-requires-in-IntegerOpen
column_name-requires-in-IntegerOpen g c = c.args.unsplit.now.column c.in-IntegerOpen.column (ap column_of c.in-IntegerOpen.is)

pub column_name-requires-in-OpenMaster : goal.column_name-requires-in-OpenMaster
column_name-requires-in-OpenMaster g c = c.args.unsplit.now.column c.in-OpenMaster.column (ap column_of c.in-OpenMaster.is)

pub returns-in-OpenMaster : goal.returns-in-OpenMaster
returns-in-OpenMaster g c = rw (c.in-OpenMaster.is, ← c.column_name-in-OpenMaster.ensures) c.put_line-in-OpenMaster.ensures

pub returns-in-TooLarge : goal.returns-in-TooLarge
returns-in-TooLarge g c = rw c.in-TooLarge.is c.put_numbered_twice-in-TooLarge.ensures

pub returns-in-OutOfMemory : goal.returns-in-OutOfMemory
returns-in-OutOfMemory g c = rw c.in-OutOfMemory.is c.put_line-in-OutOfMemory.ensures
