use Rattle.std.proofs.Common.{List, subst, sym}
use Rattle.bz_cut.specs.declared.faults.CutFault.{CutFault}
use Rattle.bz_cut.specs.declared.CutFault.TheVariants.{Invalid, Wide}
use Rattle.bz_cut.specs.CutTests.{cut_tests}
use Rattle.bz_first.specs.Tests.{IsFirstFault, Test, answered}
use Rattle.bz_first.proofs.TestLemmas.{answered_fault, answered_hold}
use Rattle.bz_judge.specs.declared.CheckFault.{CheckFault}
use Rattle.bz_check.specs.CheckTests.{fault_of_cut}
use Rattle.bz_check.proofs.cut_list.CutsItemTestsCutCheckFault.judge.Goals as goal

pub returns-in-Ok : goal.returns-in-Ok
returns-in-Ok c = answered_hold (fault_of_cut c.args.i) (cut_tests c.args.self.now.split.now.model c.args.self.now.split.now.part c.args.cut.now) c.in-Ok.ensures

pub returns-in-Err-Invalid : goal.returns-in-Err-Invalid
returns-in-Err-Invalid c =
    answered_fault (fault_of_cut c.args.i) (cut_tests c.args.self.now.split.now.model c.args.self.now.split.now.part c.args.cut.now) Invalid (rw c.in-Err-Invalid.field-0-is at c.in-Err-Invalid.ensures)

pub returns-in-Err-Wide : goal.returns-in-Err-Wide
returns-in-Err-Wide c =
    let tests : List (Test CutFault) = cut_tests c.args.self.now.split.now.model c.args.self.now.split.now.part c.args.cut.now in
    subst
    (λ (f : CheckFault). IsFirstFault (answered (fault_of_cut c.args.i) tests) f)
    (sym c.wide_in.ensures)
    (answered_fault (fault_of_cut c.args.i) tests Wide (rw c.in-Err-Wide.field-0-is at c.in-Err-Wide.ensures))
