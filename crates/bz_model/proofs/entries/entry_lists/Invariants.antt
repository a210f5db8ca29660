-- The first lists are those of the first parts.
use Rattle.bz_model.proofs.ByPosition.{AreListsTo}
use Rattle.bz_model.proofs.entries.entry_lists.Given as goal

abbrev pub invariant-loop-b : goal.invariant-loop-b
invariant-loop-b l = AreListsTo l.b l.columns l.inequalities l.lists
