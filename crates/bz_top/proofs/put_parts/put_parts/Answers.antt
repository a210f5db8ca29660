use Rattle.std.proofs.Common.{refl, subst, List, ℕ}
use Rattle.bz_text.proofs.PieceTexts.{Finishes, breaks, finished, goes_on, starts}
use Rattle.bz_top.specs.Texts.{parts_text}
use Rattle.bz_top.proofs.PartTexts.{parts_next, parts_none}
use Rattle.bz_top.proofs.put_parts.put_parts.Goals as goal

pub loop-part-init : goal.loop-part-init
loop-part-init g c = (starts _ _, refl)

pub returns-in_err-put_part : goal.returns-in_err-put_part
returns-in_err-put_part g c =
    breaks _ _ _ _ _ _ _ _ _ c.from_residual.ensures.0
    (subst (λ (t : List ℕ). Finishes t (parts_text c.args.split.now c.args.rows.now) (g.O.Sink.taken c.args.out.now) (g.O.Sink.taken c.loop-part.out))
    (parts_next c.args.split.now c.args.rows.now c.loop-part.part _ c.loop-part-test.true) c.loop-part.invariant.0)
    c.loop-part.invariant.1 c.in_err-put_part.ensures.failed c.in_err-put_part.ensures.count

pub loop-part-preserved : goal.loop-part-preserved
loop-part-preserved g c = (
  goes_on _ _ _ _ _ _
      (subst (λ (t : List ℕ). Finishes t (parts_text c.args.split.now c.args.rows.now) (g.O.Sink.taken c.args.out.now) (g.O.Sink.taken c.loop-part.out))
      (parts_next c.args.split.now c.args.rows.now c.loop-part.part _ c.loop-part-test.true) c.loop-part.invariant.0)
      c.in_ok-put_part.ensures.ok,
  rw (← c.loop-part.invariant.1) c.in_ok-put_part.ensures.count,
)

pub returns : goal.returns
returns g c =
    finished _ _ _ _ _ _
    (subst (λ (t : List ℕ). Finishes t (parts_text c.args.split.now c.args.rows.now) (g.O.Sink.taken c.args.out.now) (g.O.Sink.taken c.loop-part.out))
    (parts_none c.args.split.now c.args.rows.now c.loop-part.part c.loop-part-test.false) c.loop-part.invariant.0)
    c.loop-part.invariant.1
