use Rattle.bz_std.proofs.CutsOfBases.{cut_of_answer, one_cut_of, one_cut_of_basis, one_mode, one_program_mode}
use Rattle.bz_std.proofs.laws.cuts_are_of_bases.Goals as goal

pub returns : goal.returns
returns c = record {
  of_answer = λ m part point b. cut_of_answer point m part b;
  one = one_cut_of_basis;
  of_columns = one_cut_of;
  one_mode = one_mode;
  one_program_mode = one_program_mode;
}
