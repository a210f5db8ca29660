use Rattle.std.proofs.Common.{take}
use Rattle.bz_model.specs.PartLists.{AreJoined, sides_of_rows}
use Rattle.bz_model.proofs.rows.push_rows.Given as goal

abbrev pub invariant-loop-i : goal.invariant-loop-i
invariant-loop-i l = AreJoined l.initial.lists.items l.lists.items (sides_of_rows l.part (take l.i l.rows))
