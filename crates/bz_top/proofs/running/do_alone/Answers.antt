use Rattle.std.proofs.Common.{◌∙◌, sym, subst}
use Rattle.bz_top.specs.declared.status.Status.{Status}
use Rattle.bz_top.specs.Claims.{EndsSettled}
use Rattle.bz_top.proofs.RefusalEnds.{refuses_breaks, refuses_settled}
use Rattle.bz_top.proofs.SaidEnds.{said_done, said_settled, said_written}
use Rattle.bz_top.proofs.running.do_alone.Goals as goal

pub returns-in-Ok-clause-done : goal.returns-in-Ok-clause-done
returns-in-Ok-clause-done g c = λ e.
    said_done c.put_said.result _ c.args.job.now c.in-Ok.said _ _ c.in-Ok.ensures.of_job c.in-Ok.ensures.shown c.put_said.ensures.ok (sym c.status_after.ensures ∙ e)

pub returns-in-Ok-clause-written : goal.returns-in-Ok-clause-written
returns-in-Ok-clause-written g c = λ e.
    said_written c.put_said.result _ c.args.job.now c.in-Ok.said _ _ _ _ c.in-Ok.ensures.of_job c.in-Ok.ensures.shown c.in-Ok.ensures.count c.put_said.ensures.failed (sym c.status_after.ensures ∙ e)

pub returns-in-Ok-clause-settled : goal.returns-in-Ok-clause-settled
returns-in-Ok-clause-settled g c =
    subst (λ (s : Status). EndsSettled (g.D.Desk.told c.args.desk.now) c.args.job.now s) (sym c.status_after.ensures)
    (said_settled c.put_said.result _ c.args.job.now c.in-Ok.said c.in-Ok.ensures.of_job c.in-Ok.ensures.decomposed c.in-Ok.ensures.shown)

pub returns-in-Err-clause-written : goal.returns-in-Err-clause-written
returns-in-Err-clause-written g c = λ e. refuses_breaks _ _ _ _ _ _ _ _ _ _ c.in-Err.ensures.cause c.in-Err.ensures.count c.refuse.ensures e

pub returns-in-Err-clause-settled : goal.returns-in-Err-clause-settled
returns-in-Err-clause-settled g c = refuses_settled _ _ _ _ _ _ _ _ c.in-Err.ensures.decomposed c.in-Err.ensures.cause c.refuse.ensures
