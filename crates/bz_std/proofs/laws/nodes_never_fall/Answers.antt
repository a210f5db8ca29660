use Rattle.bz_std.proofs.NodeFloors.{node_never_falls, points_never_fall}
use Rattle.bz_std.proofs.laws.nodes_never_fall.Goals as goal

pub returns : goal.returns
returns c = record { cost = node_never_falls; point = points_never_fall }
