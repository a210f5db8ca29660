-- The row and the column that a fault names, where it names one.
use Rattle.std.specs.Prelude.{ℕ, Option, Some, None}
use Rattle.bz_split.specs.declared.faults.SplitFault.{SplitFault}
use Rattle.bz_split.specs.declared.faults.SplitFault.TheVariants.{Joins, IntegerInBlock, IntegerOpen, OpenMaster, TooLarge, OutOfMemory}

abbrev pub row_of : SplitFault → Option ℕ
row_of (Joins i a b) = Some i
row_of (IntegerInBlock j) = None
row_of (IntegerOpen j) = None
row_of (OpenMaster j) = None
row_of (TooLarge b size) = None
row_of OutOfMemory = None

abbrev pub column_of : SplitFault → Option ℕ
column_of (Joins i a b) = None
column_of (IntegerInBlock j) = Some j
column_of (IntegerOpen j) = Some j
column_of (OpenMaster j) = Some j
column_of (TooLarge b size) = None
column_of OutOfMemory = None
