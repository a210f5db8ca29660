use Rattle.std.proofs.Common.{◌≡◌, arith, rules, true, to_z-of_z}
use Rattle.bz_algebra.specs.Numbers.{IsNarrow}
use Rattle.bz_num.specs.Dense.{entry}
use Rattle.bz_std.specs.CutsFrom.{IsCutFrom}
use Rattle.bz_std.specs.Fitting.{StopsFitting}
use Rattle.bz_std.proofs.FittingCuts.{fitting_stops, is_fitting, is_wide}
use Rattle.bz_std.proofs.LeafNumbers.{stops_passed}
use Rattle.bz_std.proofs.fitting.fitting_cut.Goals as goal

pub returns-in_err-cut-clause-stop : goal.returns-in_err-cut-clause-stop
returns-in_err-cut-clause-stop c =
    let narrow : IsNarrow c.args.raw = search rules in
    stops_passed (StopsFitting c.args.split.now.model c.args.split.now.part c.args.block (entry c.args.y.now) c.args.raw) c.in_err-cut.field-0.0 c.from_residual.result c.from_residual.ensures.1
    (fitting_stops c.args.split.now.model c.args.split.now.part c.args.block (entry c.args.y.now) c.args.raw narrow c.requires.first c.requires.last c.requires.balanced c.in_err-cut.field-0.0 c.in_err-cut.ensures.stop)

pub returns-then-not-fits_and_valid-clause-stop : goal.returns-then-not-fits_and_valid-clause-stop
returns-then-not-fits_and_valid-clause-stop c =
    let narrow : IsNarrow c.args.raw = search rules in
    let made : IsCutFrom c.args.split.now.model c.args.split.now.part c.args.block (entry c.args.y.now) c.args.raw c.in_ok-cut.cut = rw (to_z-of_z c.ranges.raw) at c.in_ok-cut.ensures.cut in
    is_wide c.args.split.now.model c.args.split.now.part c.args.block (entry c.args.y.now) c.args.raw narrow c.requires.first c.requires.last c.requires.balanced c.in_ok-cut.cut made
    (λ k. let e : c.fits_and_valid.result ≡ true = c.fits_and_valid.ensures.1 (k.valid, k.fits) in absurd cc)

pub returns-clause-cut : goal.returns-clause-cut
returns-clause-cut c =
    let narrow : IsNarrow c.args.raw = search rules in
    let e : c.fits_and_valid.result ≡ true = grind arith in
    let made : IsCutFrom c.args.split.now.model c.args.split.now.part c.args.block (entry c.args.y.now) c.args.raw c.in_ok-cut.cut = rw (to_z-of_z c.ranges.raw) at c.in_ok-cut.ensures.cut in
    is_fitting c.args.split.now.model c.args.split.now.part c.args.block (entry c.args.y.now) c.args.raw narrow c.requires.first c.requires.last c.requires.balanced c.in_ok-cut.cut made (c.fits_and_valid.ensures.0 e).1
