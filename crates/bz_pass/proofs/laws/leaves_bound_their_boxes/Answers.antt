use Rattle.bz_pass.proofs.LeavesHold.{leaf_bounds, leaf_empties}
use Rattle.bz_pass.proofs.laws.leaves_bound_their_boxes.Goals as goal

pub returns : goal.returns
returns c = record { bounds = leaf_bounds; empties = leaf_empties }
