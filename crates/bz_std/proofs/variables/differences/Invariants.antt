-- The numbers so far are in the list.
use Rattle.bz_num.specs.Dense.{entry}
use Rattle.bz_std.specs.Meanings.{differences}
use Rattle.bz_std.specs.NumberLists.{HasNumbers}
use Rattle.bz_std.proofs.variables.differences.Given as goal

abbrev pub invariant-loop-variable : goal.invariant-loop-variable
invariant-loop-variable l = HasNumbers l.variable (differences (entry l.z)) l.values.items
