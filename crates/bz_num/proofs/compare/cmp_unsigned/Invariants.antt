-- Each turn keeps the order of the cross products.
use Rattle.std.proofs.Common.{◌≡◌, ◌<◌, ◌+◌, ◌*◌}
use Rattle.std.specs.Ordering.{nat_cmp}
use Rattle.bz_num.proofs.compare.cmp_unsigned.Given as goal

abbrev pub invariant-loop-n : goal.invariant-loop-n
invariant-loop-n l = record {
  left : 0 < l.d;
  right : 0 < l.e;
  same : nat_cmp (l.n * l.e) (l.m * l.d) ≡ nat_cmp (l.fn.n * l.fn.e) (l.fn.m * l.fn.d);
}

abbrev pub decreases-loop-n : goal.decreases-loop-n
decreases-loop-n l = l.d + l.e
