use Rattle.bz_tableau.specs.Programs.{lp_equations}
use Rattle.bz_tableau.proofs.FirstRows.{first_lines-more}
use Rattle.bz_tableau.proofs.first.first_lines.Goals as goal

pub loop-i-preserved : goal.loop-i-preserved
loop-i-preserved c = rw c.in_ok-push_line.ensures (first_lines-more c.loop-i.i (lp_equations c.args.relaxed c.args.lp.now) c.loop-i.rows.items c.in_ok-first_line.field-0 c.loop-i.invariant c.in_ok-first_line.ensures)
