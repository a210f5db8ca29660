-- The columns so far are in the master or in the row's block.
use Rattle.std.proofs.Common.{take}
use Rattle.std.specs.List.{AllByRecursion}
use Rattle.bz_model.specs.Parting.{part_of}
use Rattle.bz_split.proofs.TwoBlocks.{IsIn}
use Rattle.bz_split.proofs.rows.two_blocks_of.Given as goal

abbrev pub invariant-loop-entry : goal.invariant-loop-entry
invariant-loop-entry l = AllByRecursion (λ e. IsIn l.home (part_of l.part e.0)) (take l.entry-index l.entry-items)
