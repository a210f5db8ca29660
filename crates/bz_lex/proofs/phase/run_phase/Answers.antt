-- The phase begins at the basis that is copied.
use Rattle.std.proofs.Common.{refl, ◌∙◌}
use Rattle.bz_lex.proofs.PhaseTurns.{way_first, way_table, once_first}
use Rattle.bz_lex.proofs.phase.run_phase.Goals as goal

pub turns-requires-clause-phase : goal.turns-requires-clause-phase
turns-requires-clause-phase c = rw (c.as_slice.ensures.value ∙ c.in_ok-first.ensures.items ∙ c.basis.ensures) c.requires

pub returns-in_err-first-clause-once : goal.returns-in_err-first-clause-once
returns-in_err-first-clause-once c = once_first c.args.tableau.now

pub returns-in_err-first-clause-table : goal.returns-in_err-first-clause-table
returns-in_err-first-clause-table c = way_table c.args.tableau.now c.args.tableau.now.basis 0 c.args.tableau.now (way_first c.args.tableau.now c.args.tableau.now.basis refl c.requires) c.requires
