use Rattle.std.proofs.Common.{refl, subst, List, ℕ}
use Rattle.bz_text.specs.Pieces.{pieces_text}
use Rattle.bz_text.proofs.PieceTexts.{Finishes, breaks, finished, goes_on, starts, text_next, text_none}
use Rattle.bz_text.proofs.pieces.put_pieces.Goals as goal

pub loop-piece-init : goal.loop-piece-init
loop-piece-init g c = (starts _ _, refl)

pub returns-in_err-put_piece : goal.returns-in_err-put_piece
returns-in_err-put_piece g c =
    breaks _ _ _ _ _ _ _ _ _ c.from_residual.ensures.0
    (subst (λ (t : List ℕ). Finishes t (pieces_text c.args.pieces.now) (g.O.Sink.taken c.args.out.now) (g.O.Sink.taken c.loop-piece.out))
    (text_next c.args.pieces.now c.loop-piece.piece-index _ c.loop-piece-test.true) c.loop-piece.invariant.0)
    c.loop-piece.invariant.1 c.in_err-put_piece.ensures.failed c.in_err-put_piece.ensures.count

pub loop-piece-preserved : goal.loop-piece-preserved
loop-piece-preserved g c = (
  goes_on _ _ _ _ _ _
      (subst (λ (t : List ℕ). Finishes t (pieces_text c.args.pieces.now) (g.O.Sink.taken c.args.out.now) (g.O.Sink.taken c.loop-piece.out))
      (text_next c.args.pieces.now c.loop-piece.piece-index _ c.loop-piece-test.true) c.loop-piece.invariant.0)
      c.in_ok-put_piece.ensures.ok,
  rw (← c.loop-piece.invariant.1) c.in_ok-put_piece.ensures.count,
)

pub returns : goal.returns
returns g c =
    finished _ _ _ _ _ _
    (subst (λ (t : List ℕ). Finishes t (pieces_text c.args.pieces.now) (g.O.Sink.taken c.args.out.now) (g.O.Sink.taken c.loop-piece.out))
    (text_none c.args.pieces.now c.loop-piece.piece-index c.loop-piece-test.false) c.loop-piece.invariant.0)
    c.loop-piece.invariant.1
