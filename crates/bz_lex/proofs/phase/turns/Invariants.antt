use Rattle.std.specs.Prelude.{◌≡◌, ◌-◌, ◌^◌}
use Rattle.bz_tableau.specs.Tables.{factor_column}
use Rattle.bz_lex.proofs.PhaseTurns.{IsUnderWay}
use Rattle.bz_lex.proofs.phase.turns.Given as goal

abbrev pub invariant-loop-share : goal.invariant-loop-share
invariant-loop-share g l = record {
  part : l.share.parts ≡ 1;
  way : IsUnderWay l.fn.tableau l.first l.met.total l.tableau;
}

abbrev pub decreases-loop-share : goal.decreases-loop-share
decreases-loop-share g l = 2 ^ factor_column l.tableau - l.met.total
