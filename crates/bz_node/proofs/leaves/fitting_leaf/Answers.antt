use Rattle.std.proofs.Common.{rules, to_z-of_z}
use Rattle.bz_algebra.specs.Numbers.{IsNarrow}
use Rattle.bz_num.specs.Dense.{entry}
use Rattle.bz_std.specs.LeavesFrom.{IsLeafFrom}
use Rattle.bz_std.proofs.LeafNumbers.{stops_passed}
use Rattle.bz_node.specs.NodePrograms.{StopsFitting, cuts_of, mode_of, model_of, part_of, posed_of, region_of}
use Rattle.bz_node.proofs.LeafSteps.{made_stops, unfit_is_wide}
use Rattle.bz_node.proofs.leaves.fitting_leaf.Goals as goal

pub returns-in_err-leaf-clause-stop : goal.returns-in_err-leaf-clause-stop
returns-in_err-leaf-clause-stop c =
    let n = c.args.program.now in
    let narrow : IsNarrow c.args.by = search rules in
    stops_passed (StopsFitting n (entry c.args.y.now) c.args.by) c.in_err-leaf.field-0.0 c.from_residual.result c.from_residual.ensures.1
    (made_stops n c.requires.program (entry c.args.y.now) c.args.by narrow c.in_err-leaf.field-0.0 c.in_err-leaf.ensures.stop)

pub fits-requires-clause-holds : goal.fits-requires-clause-holds
fits-requires-clause-holds c =
    let n = c.args.program.now in
    let made : IsLeafFrom (posed_of n) (entry c.args.y.now) c.args.by c.in_ok-leaf.leaf = rw (to_z-of_z c.ranges.by) at (c.in_ok-leaf.ensures.leaf (posed_of n) c.requires.program.program) in
    c.requires.numbers.holds c.in_ok-leaf.leaf made

pub returns-then-not-fits-clause-stop : goal.returns-then-not-fits-clause-stop
returns-then-not-fits-clause-stop c =
    let n = c.args.program.now in
    let narrow : IsNarrow c.args.by = search rules in
    let made : IsLeafFrom (posed_of n) (entry c.args.y.now) c.args.by c.in_ok-leaf.leaf = rw (to_z-of_z c.ranges.by) at (c.in_ok-leaf.ensures.leaf (posed_of n) c.requires.program.program) in
    unfit_is_wide (model_of n) (part_of n) (region_of n) (cuts_of n) (mode_of n) (entry c.args.y.now) c.args.by narrow c.in_ok-leaf.leaf made c.if-not-fits.ensures

pub returns-clause-leaf : goal.returns-clause-leaf
returns-clause-leaf c =
    let n = c.args.program.now in
    let made : IsLeafFrom (posed_of n) (entry c.args.y.now) c.args.by c.in_ok-leaf.leaf = rw (to_z-of_z c.ranges.by) at (c.in_ok-leaf.ensures.leaf (posed_of n) c.requires.program.program) in
    record { made = made; holds = c.requires.numbers.holds c.in_ok-leaf.leaf made; fits = c.if-not-fits.ensures }
