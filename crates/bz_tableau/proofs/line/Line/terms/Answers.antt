-- The kept numbers are those of all columns.
use Rattle.std.proofs.Common.{refl}
use Rattle.bz_tableau.proofs.SparseRows.{spread_width}
use Rattle.bz_tableau.proofs.line.Line.terms.Goals as goal

pub returns-clause-value : goal.returns-clause-value
returns-clause-value c = rw (← c.self.view_is, c.as_slice.ensures.value, spread_width c.self.inside.width c.self.inside.terms) refl

pub returns-clause-below : goal.returns-clause-below
returns-clause-below c = rw (← c.self.view_is, c.as_slice.ensures.value, spread_width c.self.inside.width c.self.inside.terms) c.self.invariant.1
