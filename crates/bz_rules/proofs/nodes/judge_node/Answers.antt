use Rattle.std.proofs.Common.{sym}
use Rattle.std.specs.List.{slice_get}
use Rattle.bz_rules.specs.Rules.{waiting_rules}
use Rattle.bz_rules.proofs.Judged.{judged_there, nowhere}
use Rattle.bz_rules.proofs.nodes.judge_node.Goals as goal

pub box_of-requires-clause-lower : goal.box_of-requires-clause-lower
box_of-requires-clause-lower c = (c.requires.regions c.args.number c.in-Some.node.now (sym c.in-Some.ensures)).lower

pub box_of-requires-clause-upper : goal.box_of-requires-clause-upper
box_of-requires-clause-upper c = (c.requires.regions c.args.number c.in-Some.node.now (sym c.in-Some.ensures)).upper

pub judge_waiting-requires-clause-ends : goal.judge_waiting-requires-clause-ends
judge_waiting-requires-clause-ends c = rw c.in_ok-region-in-Some.ensures (c.requires.regions c.args.number c.in-Some.node.now (sym c.in-Some.ensures)).ends

pub returns-in-None : goal.returns-in-None
returns-in-None c = nowhere c.args.progress.now.state (slice_get c.args.progress.now.state.nodes c.args.number) (waiting_rules c.args.split.now c.args.progress.now.state c.args.front c.args.lp.now) c.in_default.ensures.0 (sym c.in-None.ensures)

pub returns-in_ok-region-in-Some : goal.returns-in_ok-region-in-Some
returns-in_ok-region-in-Some c = judged_there c.args.progress.now.state (slice_get c.args.progress.now.state.nodes c.args.number) c.in-Some.node.now (waiting_rules c.args.split.now c.args.progress.now.state c.args.front c.args.lp.now) c.judge_waiting.result c.in_default.ensures.0 (sym c.in-Some.ensures) c.judge_waiting.ensures
