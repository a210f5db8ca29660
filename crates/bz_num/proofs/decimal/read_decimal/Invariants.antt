-- The reading is that of the bytes passed.
use Rattle.std.proofs.Common.{take}
use Rattle.bz_num.proofs.DecimalReadings.{IsRead}
use Rattle.bz_num.proofs.decimal.read_decimal.Given as goal

abbrev pub invariant-loop-at : goal.invariant-loop-at
invariant-loop-at l = IsRead (take l.at l.text) l.reading
