-- What is still to come being new, all is.
use Rattle.std.proofs.Common.{◌≡◌, drop}
use Rattle.bz_pool.specs.Pools.{IsNew}
use Rattle.bz_pool.proofs.cuts.Pool.find.Given as goal

abbrev pub invariant-loop-number : goal.invariant-loop-number
invariant-loop-number l = IsNew (drop l.number l.self.cuts) l.cut → IsNew l.self.cuts l.cut
