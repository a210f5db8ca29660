-- The row begins with the terms exactly where what is left of it begins with what is left of them.
use Rattle.std.proofs.Common.{drop}
use Rattle.bz_std.proofs.RowsCompared.{StillBegins}
use Rattle.bz_std.proofs.row_comparison.begins_with.Given as goal

abbrev pub invariant-loop-k : goal.invariant-loop-k
invariant-loop-k l = StillBegins l.row l.terms l.k
