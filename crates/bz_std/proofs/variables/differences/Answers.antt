use Rattle.std.proofs.Common.{rules, ◌≡◌, ◌++◌, ◌∷◌, [], FitsSigned, to_z-of_z}
use Rattle.std.specs.Int.{w128}
use Rattle.bz_num.specs.Dense.{entry}
use Rattle.bz_std.specs.Meanings.{differences}
use Rattle.bz_std.proofs.NumberListsMade.{numbers_next}
use Rattle.bz_std.proofs.variables.differences.Goals as goal

pub loop-variable-preserved : goal.loop-variable-preserved
loop-variable-preserved c =
    let fits : FitsSigned w128 c.difference.result = search rules in
    let pushed : c.push_number.new.numbers.items ≡ c.loop-variable.values.items ++ c.difference.result ∷ [] = rw (to_z-of_z fits) at c.in_ok-push_number.ensures in
    rw pushed (numbers_next c.loop-variable.variable (differences (entry c.args.z.now)) c.loop-variable.values.items c.difference.result c.difference.ensures.value c.difference.ensures.narrow c.loop-variable.invariant)
