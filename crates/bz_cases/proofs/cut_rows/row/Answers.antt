use Rattle.std.proofs.Common.{◌+◌, arith}
use Rattle.bz_num.proofs.Pushed.{below_pushed}
use Rattle.bz_std.proofs.OverColumns.{below_up}
use Rattle.bz_cases.proofs.cut_rows.row.Goals as goal

pub loop-place-preserved : goal.loop-place-preserved
loop-place-preserved c =
    rw c.in_ok-push.ensures.value (below_pushed (c.loop-place.place + 1) c.loop-place.place _ _ (omega arith) (below_up _ _ _ (omega arith) c.loop-place.invariant))
