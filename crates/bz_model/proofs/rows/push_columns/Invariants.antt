use Rattle.std.proofs.Common.{take}
use Rattle.std.specs.List.{enumerate_from}
use Rattle.bz_model.specs.PartLists.{AreJoined, sides_of_columns}
use Rattle.bz_model.proofs.rows.push_columns.Given as goal

abbrev pub invariant-loop-number : goal.invariant-loop-number
invariant-loop-number l =
    AreJoined l.initial.lists.items l.lists.items (sides_of_columns l.part (enumerate_from 0 (take l.number l.columns)))
