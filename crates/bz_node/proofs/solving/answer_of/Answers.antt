use Rattle.bz_node.proofs.LeastSteps.{no_ray}
use Rattle.bz_node.proofs.solving.answer_of.Goals as goal

pub unreachable-requires : goal.unreachable-requires
unreachable-requires c =
    let told = rw c.in-Ray.is at c.in_ok-basis.ensures.answers in
    no_ray c.args.program.now c.requires.program c.in-Ray.basis c.in-Ray.column c.in-Ray.z c.in-Ray.d c.requires.ready told.1
