-- What is left to put finishes the whole.
use Rattle.std.proofs.Common.{drop, ◌≡◌}
use Rattle.bz_text.specs.Pieces.{pieces_text}
use Rattle.bz_text.proofs.PieceTexts.{Finishes}
use Rattle.bz_text.proofs.pieces.put_pieces.Given as goal

abbrev pub invariant-loop-piece : goal.invariant-loop-piece
invariant-loop-piece g l =
    Finishes (pieces_text (drop l.piece-index l.pieces)) (pieces_text l.pieces) (g.O.Sink.taken l.initial.out) (g.O.Sink.taken l.out)
    × ((g.O.Sink.faults l.out).number ≡ (g.O.Sink.faults l.initial.out).number)
