use Rattle.bz_std.proofs.PosedTasks.{separation_posed, floor_posed, node_posed}
use Rattle.bz_std.proofs.laws.tasks_are_posed.Goals as goal

pub returns : goal.returns
returns c = record {
  of_separation = λ m part point b way d. separation_posed m part d b point way;
  of_floor = λ m part b d. floor_posed m part d b;
  of_node = λ m part box cuts way d k. node_posed m part d box cuts k way;
}
