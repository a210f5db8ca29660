-- The blocks so far have their floors.
use Rattle.bz_std.specs.Floored.{AreFloored}
use Rattle.bz_cases.proofs.tasks.are_floored.Given as goal

abbrev pub invariant-loop-block : goal.invariant-loop-block
invariant-loop-block l = AreFloored l.block l.cuts
