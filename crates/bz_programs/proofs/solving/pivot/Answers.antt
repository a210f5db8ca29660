use Rattle.bz_lex.proofs.StaysTableau.{stays_tableau}
use Rattle.bz_programs.proofs.solving.pivot.Goals as goal

pub returns : goal.returns
returns g c = stays_tableau c.args.relaxed c.args.lp.now c.args.tableau.now c.pivot-done.new.self c.args.row c.args.column c.pivot-done.result c.pivot-done.ensures.pivoted c.pivot-done.ensures.unchanged c.requires.tableau
