-- The basis is that of the slacks.
use Rattle.std.specs.Prelude.{true}
use Rattle.bz_lex.proofs.TowardsTables.{slack_places}
use Rattle.bz_lex.proofs.relaxing.relaxed_start.Goals as goal

pub enter_s-requires-clause-slacks : goal.enter_s-requires-clause-slacks
enter_s-requires-clause-slacks c = slack_places true c.args.lp.now c.in_ok-tableau.tableau c.in_ok-tableau.ensures.tableau c.in_ok-tableau.ensures.basis
