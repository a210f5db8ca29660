-- The rows of the slacks are the tableau of the slacks.
use Rattle.std.proofs.Common.{refl}
use Rattle.bz_tableau.proofs.FirstRows.{first_made, first_sound}
use Rattle.bz_tableau.proofs.tableau.Tableau.new.Goals as goal

pub invariant_of-result : goal.invariant_of-result
invariant_of-result c = first_sound c.args.relaxed c.args.lp.now c.first_slack-slack.result c.in_ok-basis.basis.items c.in_ok-rows.rows.items c.requires c.first_slack-slack.ensures c.in_ok-basis.ensures c.in_ok-rows.ensures

pub returns-clause-tableau : goal.returns-clause-tableau
returns-clause-tableau c = record {
  relaxed_is = refl;
  table = first_made c.args.relaxed c.args.lp.now c.first_slack-slack.result c.in_ok-basis.basis.items c.in_ok-rows.rows.items c.first_slack-slack.ensures c.in_ok-basis.ensures c.in_ok-rows.ensures;
}
