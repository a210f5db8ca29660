use Rattle.std.proofs.Common.{arith, ◌≡◌, ◌∙◌, ◌<◌, ℤ, pos, ◌+ℤ◌, ◌*ℤ◌, ◌<ℤ◌, ◌≤ℤ◌, to_z-of_z}
use Rattle.std.proofs.lemmas.Int.{ints}
use Rattle.std.specs.Int.RustNames.{unsigned_abs}
use Rattle.bz_judge.proofs.WholeQuotients.{whole_rest}
use Rattle.bz_judge.proofs.integers.whole_quotient.Goals as goal

pub returns-then-rest-ne0 : goal.returns-then-rest-ne0
returns-then-rest-ne0 c h =
    let q : ℤ = c.divide-quotient.result.0 in
    let r : ℤ = c.divide-quotient.result.1 in
    let whole : (q *ℤ c.args.den) +ℤ r ≡ c.args.num = rw (to_z-of_z c.ranges.num, to_z-of_z c.ranges.den) at c.divide-quotient.ensures.whole in
    let low : pos 0 ≤ℤ r = c.divide-quotient.ensures.at_least in
    let high : r <ℤ c.args.den = rw (to_z-of_z c.ranges.den) at c.divide-quotient.ensures.below in
    let small : unsigned_abs r < unsigned_abs c.args.den = omega (arith, ints) in
    let none : r ≡ pos 0 = whole_rest h.0 q r c.args.den c.requires (whole ∙ h.1) small in
    grind (arith, ints)
