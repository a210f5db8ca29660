-- The copies so far and the cuts still to come are the cuts.
use Rattle.std.proofs.Common.{◌≡◌, ◌++◌}
use Rattle.std.specs.Prelude.{drop}
use Rattle.bz_certify.proofs.certificates.copies.Given as goal

abbrev pub invariant-loop-cut : goal.invariant-loop-cut
invariant-loop-cut l = l.list.items ++ drop l.cut-index l.fn.cuts ≡ l.fn.cuts
