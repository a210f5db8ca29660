-- The completions so far and those still to come are all.
use Rattle.std.proofs.Common.{◌≡◌, ◌++◌}
use Rattle.std.specs.Prelude.{drop}
use Rattle.bz_history.specs.Finished.{completions}
use Rattle.bz_certify.proofs.certificates.completions.Given as goal

abbrev pub invariant-loop-fill : goal.invariant-loop-fill
invariant-loop-fill l = l.list.items ++ completions (drop l.fill-index l.fn.fills) ≡ completions l.fn.fills
