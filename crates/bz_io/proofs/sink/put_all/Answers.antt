use Rattle.std.proofs.Common.{arith, refl, ◌∙◌, length-drop}
use Rattle.std.proofs.lemmas.List.{take_rest}
use Rattle.bz_io.proofs.Takings.{takes_none, takes_more}
use Rattle.bz_io.proofs.sink.put_all.Goals as goal

pub loop-sent-init : goal.loop-sent-init
loop-sent-init g c = record { within = omega arith; taken = takes_none _ c.args.bytes.now; count = refl }

pub loop-sent-preserved : goal.loop-sent-preserved
loop-sent-preserved g c = record {
  within = omega (arith, simp (take_rest, length-drop) at c.in_ok-sent.ensures.within);
  taken = takes_more _ _ _ _ _ _ c.loop-sent.invariant.taken c.in_ok-sent.ensures.ok;
  count = c.in_ok-sent.ensures.count.0 ∙ c.loop-sent.invariant.count;
}
