use Rattle.std.proofs.Common.{rules, ◌≡◌, ◌↔◌, IsTrue, ◌+ℤ◌, ◌*ℤ◌, ◌<ℤ◌, ℤ, pos, FitsSigned, to_z-of_z}
use Rattle.std.specs.Int.{w128}
use Rattle.bz_node.proofs.Fractions.{no_rest, rest_of_whole}
use Rattle.bz_node.proofs.fractional.is_whole.Goals as goal

pub returns : goal.returns
returns c =
    let q : ℤ = c.divide.result.0 in
    let r : ℤ = c.divide.result.1 in
    let fits : FitsSigned w128 r = search rules in
    let divided : (q *ℤ c.args.den) +ℤ r ≡ c.args.number = rw (to_z-of_z c.ranges.number, to_z-of_z c.ranges.den) at c.divide.ensures.whole in
    let high : r <ℤ c.args.den = rw (to_z-of_z c.ranges.den) at c.divide.ensures.below in
    let told : IsTrue c.is_zero.result ↔ (r ≡ pos 0) = rw (to_z-of_z fits) at c.is_zero.ensures in (
      (λ t. no_rest c.args.number c.args.den q r c.requires divided c.divide.ensures.at_least high (told.0 t)),
      (λ w. told.1 (rest_of_whole c.args.number c.args.den q r c.requires divided c.divide.ensures.at_least high w)),
    )
