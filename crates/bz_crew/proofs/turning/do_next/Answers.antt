use Rattle.bz_crew.proofs.HandedTasks.{marked_node, marked_node_alone, marked_separation, marked_separation_alone, never_idle}
use Rattle.bz_core.specs.declared.roles.Role.TheVariants as role
use Rattle.bz_crew.proofs.turning.do_next.Goals as goal

pub do_node-requires-clause-task : goal.do_node-requires-clause-task
do_node-requires-clause-task c =
    marked_node c.args.search.now c.next_task.new.self role.Nodes c.in-Node.node c.in-Node.front c.in-Node.ensures.mark c.in-Node.ensures.chosen.1

pub do_node-requires-clause-alone : goal.do_node-requires-clause-alone
do_node-requires-clause-alone c =
    marked_node_alone c.args.search.now c.next_task.new.self c.in-Node.node c.in-Node.front c.in-Node.ensures.mark c.requires

pub do_separation-requires-clause-task : goal.do_separation-requires-clause-task
do_separation-requires-clause-task c =
    marked_separation c.args.search.now c.next_task.new.self role.Nodes c.in-Sep.post c.in-Sep.block c.in-Sep.ensures.mark c.in-Sep.ensures.chosen.1

pub do_separation-requires-clause-alone : goal.do_separation-requires-clause-alone
do_separation-requires-clause-alone c =
    marked_separation_alone c.args.search.now c.next_task.new.self c.in-Sep.post c.in-Sep.block c.in-Sep.ensures.mark c.requires

pub unreachable-requires : goal.unreachable-requires
unreachable-requires c =
    never_idle c.args.search.now c.history-history.ensures.kept c.requires.off c.in-Idle.ensures.chosen.0.running c.in-Idle.ensures.chosen.1
