use Rattle.bz_tree.specs.Ends.{box_of}
use Rattle.bz_check.proofs.Told.{settles, some_tree}
use Rattle.bz_check.proofs.whole.judge_certificate.Goals as goal

pub returns : goal.returns
returns c =
    let some = some_tree c.args.c.now c.requires in
    settles c.args.split.now c.args.c.now (box_of c.in_ok-root.root) some.0 c.judge_over.result c.in_ok-positions.ensures.split c.in_ok-root.ensures some.1 (c.judge_over.ensures some.0 some.1)
