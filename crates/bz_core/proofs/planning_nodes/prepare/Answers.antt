use Rattle.bz_core.proofs.NodesPlanned.{can_add}
use Rattle.bz_core.proofs.planning_nodes.prepare.Goals as goal

pub added_by-requires : goal.added_by-requires
added_by-requires c =
    can_add c.args.split.now c.args.progress.now.state c.args.node c.args.front c.args.answer.now c.in_ok-entered.entered c.requires c.in_ok-entered.ensures
