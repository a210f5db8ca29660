use Rattle.std.proofs.Common.{rules, FitsSigned, to_z-of_z}
use Rattle.std.specs.Int.{w128}
use Rattle.bz_lex.proofs.least.least_answer.Goals as goal

pub values-requires-clause-divides : goal.values-requires-clause-divides
values-requires-clause-divides c =
    let fits : FitsSigned w128 c.in-Ok.den = search rules in
    let least = rw (c.in-Ok.is, c.as_slice.ensures.value) at c.common_multiple.ensures in
    rw (to_z-of_z fits, c.as_slice-2.ensures.value) least.is_least.multiple
