-- Each answer of a program is given by its basis.
use Rattle.std.specs.Prelude.{Bool}
use Rattle.std.proofs.Common.{refl}
use Rattle.bz_tableau.specs.Answers.{Answers, GivesAnswer, IsAnswer, basis_of, column_of, is_of_relaxed}
use Rattle.bz_tableau.specs.declared.answers.Answer.{Answer}
use Rattle.bz_tableau.specs.declared.answers.Answer.TheVariants.{Least, Empty, Ray}
use Rattle.bz_tableau.specs.declared.programs.Lp.{Lp}

pub solved_given : (lp : Lp) (a : Answer) → Answers lp a → GivesAnswer (is_of_relaxed a) (column_of a) lp (basis_of a) a
solved_given lp a h = record { basis_is = refl; column_is = refl; answer = h }

pub answer_given : (relaxed : Bool) (lp : Lp) (a : Answer) → IsAnswer relaxed lp a → GivesAnswer relaxed (column_of a) lp (basis_of a) a
answer_given relaxed lp (Least basis z y) h = record { basis_is = refl; column_is = refl; answer = h }
answer_given relaxed lp (Empty basis y) h = absurd h
answer_given relaxed lp (Ray basis column z d) h = record { basis_is = refl; column_is = refl; answer = h }
