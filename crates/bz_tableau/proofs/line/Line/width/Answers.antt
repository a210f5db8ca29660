use Rattle.std.proofs.Common.{sym}
use Rattle.bz_tableau.proofs.SparseRows.{spread_width}
use Rattle.bz_tableau.proofs.line.Line.width.Goals as goal

pub returns : goal.returns
returns c = rw (← c.self.view_is) (sym (spread_width c.self.inside.width c.self.inside.terms))
