-- The rows so far are each in one block.
use Rattle.std.proofs.Common.{take}
use Rattle.std.specs.List.{AllByRecursion}
use Rattle.bz_model.specs.Strict.{IsInOneBlock}
use Rattle.bz_split.proofs.rows.first_joined_row.Given as goal

abbrev pub invariant-loop-i : goal.invariant-loop-i
invariant-loop-i l = AllByRecursion (λ row. IsInOneBlock l.part row.terms) (take l.i l.row-items)
