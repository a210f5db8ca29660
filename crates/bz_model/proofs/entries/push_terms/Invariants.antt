-- The first terms are added.
use Rattle.std.proofs.Common.{take}
use Rattle.bz_algebra.specs.Sums.{coef}
use Rattle.bz_num.specs.Row.{entry_at}
use Rattle.bz_model.specs.PartLists.{AreJoined}
use Rattle.bz_model.proofs.entries.push_terms.Given as goal

abbrev pub invariant-loop-entry : goal.invariant-loop-entry
invariant-loop-entry l = AreJoined l.initial.rows.items l.rows.items (λ i. entry_at l.place (coef (take l.entry-index l.terms) i))
