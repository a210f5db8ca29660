use Rattle.std.proofs.Common.{◌≡◌, fold, take}
use Rattle.bz_mps.specs.ColumnEnds.{bounded, starting}
use Rattle.bz_mps.specs.TestAnswers.{AreFinite}
use Rattle.bz_mps.proofs.column_ends.bounds_by.Given as goal

abbrev pub invariant-loop-line : goal.invariant-loop-line
invariant-loop-line l = record {
  ends : l.ends ≡ fold (λ e b. bounded b.kind b.number e) starting (take l.line-index l.lines);
  finite : AreFinite l.ends;
}
