use Rattle.std.proofs.Common.{ap, None, sym}
use Rattle.bz_mps.specs.ColumnEnds.{number_of_line}
use Rattle.bz_mps.proofs.EndLemmas.{last_is}
use Rattle.bz_mps.proofs.column_ends.last_bound_line.Goals as goal

pub returns-in-Some : goal.returns-in-Some
returns-in-Some c = sym (ap number_of_line (last_is None c.args.lines.now c.in-Some.line.now (sym c.in-Some.ensures.value)))
