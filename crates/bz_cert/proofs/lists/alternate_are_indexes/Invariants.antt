-- The indexes are in their range exactly where those to come are.
use Rattle.std.proofs.Common.{◌↔◌, length}
use Rattle.std.specs.List.{AllByRecursion}
use Rattle.bz_cert.specs.CertFaults.{IsIndex, alternate}
use Rattle.bz_cert.proofs.lists.alternate_are_indexes.Given as goal

abbrev pub invariant-pairs : goal.invariant-pairs
invariant-pairs l = AllByRecursion IsIndex (alternate l.rest) ↔ AllByRecursion IsIndex (alternate l.numbers)

abbrev pub decreases-pairs : goal.decreases-pairs
decreases-pairs l = length l.rest
