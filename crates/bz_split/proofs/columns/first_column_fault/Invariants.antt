-- The columns so far may be where they are.
use Rattle.std.proofs.Common.{take}
use Rattle.std.specs.List.{AllByRecursion, enumerate_from}
use Rattle.bz_model.specs.Parting.{part_of}
use Rattle.bz_model.specs.Strict.{IsStrictColumn}
use Rattle.bz_split.proofs.columns.first_column_fault.Given as goal

abbrev pub invariant-loop-j : goal.invariant-loop-j
invariant-loop-j l = AllByRecursion (λ e. IsStrictColumn (part_of l.part e.0) e.1) (take l.j (enumerate_from 0 l.column-items))
