use Rattle.std.proofs.Common.{sym, ◌∙◌}
use Rattle.bz_facts.specs.LineTests.{is_free}
use Rattle.bz_mps.proofs.RowLemmas.{some_place}
use Rattle.bz_mps.proofs.rows_made.objective_place.Goals as goal

pub unreachable-requires : goal.unreachable-requires
unreachable-requires c = some_place is_free c.args.kinds.now (sym c.first_free.ensures ∙ c.in-None.is) c.requires
