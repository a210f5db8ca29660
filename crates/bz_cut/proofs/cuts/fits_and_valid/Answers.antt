use Rattle.bz_cut.specs.CutTests.{cut_tests}
use Rattle.bz_cut.proofs.CutTold.{cut_told}
use Rattle.bz_first.proofs.TestLemmas.{judged}
use Rattle.bz_cut.proofs.cuts.fits_and_valid.Goals as goal

pub returns : goal.returns
returns c =
    let told = cut_told c.args.split.now.model c.args.split.now.part c.args.cut.now in
    let all = judged (cut_tests c.args.split.now.model c.args.split.now.part c.args.cut.now) c.judge_cut.result c.judge_cut.ensures in
    rw c.is_ok.ensures.value (λ h. told.0 (all.0 h), λ h. all.1 (told.1 h))
