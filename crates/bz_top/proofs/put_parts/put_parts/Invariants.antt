-- What is left to put finishes the whole.
use Rattle.std.proofs.Common.{drop, ◌≡◌}
use Rattle.bz_text.proofs.PieceTexts.{Finishes}
use Rattle.bz_top.specs.Texts.{parts_from, parts_text}
use Rattle.bz_top.proofs.put_parts.put_parts.Given as goal

abbrev pub invariant-loop-part : goal.invariant-loop-part
invariant-loop-part g l =
    Finishes (parts_from l.split l.part (drop l.part l.rows)) (parts_text l.split l.rows) (g.O.Sink.taken l.initial.out) (g.O.Sink.taken l.out)
    × ((g.O.Sink.faults l.out).number ≡ (g.O.Sink.faults l.initial.out).number)
