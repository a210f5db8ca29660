use Rattle.std.proofs.Common.{◌≡◌, ◌++◌, drop}
use Rattle.bz_model.proofs.Sparse.{picked}
use Rattle.bz_model.proofs.sides.pick_terms.Given as goal

abbrev pub invariant-loop-entry : goal.invariant-loop-entry
invariant-loop-entry l =
    l.entries.items ++ picked l.part l.b l.negate (drop l.entry-index l.entry-items) ≡ picked l.part l.b l.negate l.entry-items
