use Rattle.bz_std.proofs.CutsMade.{makes_cut, cuts_off_point}
use Rattle.bz_std.proofs.laws.separations_cut_off.Goals as goal

pub returns : goal.returns
returns c = record {
  makes = λ m part point b way v s den y by d r l. makes_cut m part d point b y way v s den by r l;
  cuts_off = λ m part point b way v s den y by cut d r l k. cuts_off_point m part d point b y way v s den by cut r l k;
}
