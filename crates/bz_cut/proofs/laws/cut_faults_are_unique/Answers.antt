use Rattle.bz_cut.specs.CutTests.{cut_tests}
use Rattle.bz_cut.proofs.CutDecided.{cut_either}
use Rattle.bz_cut.proofs.CutTold.{cut_told}
use Rattle.bz_first.proofs.TestLemmas.{none_where_all, one_fault}
use Rattle.bz_cut.proofs.laws.cut_faults_are_unique.Goals as goal

pub returns : goal.returns
returns c = record {
  unique = λ m part cut f g h k. one_fault (cut_tests m part cut) f g h k;
  faulty = λ m part cut f h v. none_where_all (cut_tests m part cut) f ((cut_told m part cut).1 v) h;
  either = cut_either;
}
