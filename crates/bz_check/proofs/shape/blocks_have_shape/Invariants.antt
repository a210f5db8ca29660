-- All that is left passes exactly where all pass.
use Rattle.std.proofs.Common.{drop}
use Rattle.std.specs.List.{enumerate_from}
use Rattle.bz_model.specs.PartPoints.{HasBlockShape}
use Rattle.bz_first.proofs.Facts.{Remains}
use Rattle.bz_check.proofs.shape.blocks_have_shape.Given as goal

abbrev pub invariant-loop-place : goal.invariant-loop-place
invariant-loop-place l = Remains (HasBlockShape l.split.part) (drop l.place (enumerate_from 1 l.blocks)) (enumerate_from 1 l.blocks)
