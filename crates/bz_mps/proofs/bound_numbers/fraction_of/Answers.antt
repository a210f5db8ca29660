use Rattle.std.proofs.Common.{arith, rules, ap, ◌∙◌, pos, ◌<◌, ◌<ℤ◌, ◌≤ℤ◌, FitsSigned, to_z-of_z, ◌≡◌, ◌*ℤ◌, ◌≤◌, ◌^◌}
use Rattle.std.proofs.lemmas.Int.{ints}
use Rattle.std.specs.Int.{w128, w32}
use Rattle.std.specs.Int.RustNames.{unsigned_abs}
use Rattle.bz_num.specs.Lowest.{IsLowest}
use Rattle.bz_mps.proofs.BoundNumbers.{finite_without_point, fraction_with_point, fraction_without_point, power_some}
use Rattle.bz_mps.proofs.bound_numbers.fraction_of.Goals as goal

pub reduced-requires-clause-positive : goal.reduced-requires-clause-positive
reduced-requires-clause-positive c =
    let power : FitsSigned w128 c.power_of_ten-power.result = search rules in
    let value = c.power_of_ten-power.ensures in
    let some : 1 ≤ 10 ^ c.unsigned_abs.result = power_some c.unsigned_abs.result in
    rw (to_z-of_z power, value) (omega (arith, ints))

pub returns-then-number-lt0 : goal.returns-then-number-lt0
returns-then-number-lt0 c =
    let exp : FitsSigned w32 c.args.number.exp = search rules in
    let mant : FitsSigned w128 c.args.number.mant = search rules in
    let power : FitsSigned w128 c.power_of_ten-power.result = search rules in
    let lowest : IsLowest c.args.number.mant c.power_of_ten-power.result c.reduced.result = rw (to_z-of_z mant, to_z-of_z power) at c.reduced.ensures in
    let size : c.unsigned_abs.result ≡ unsigned_abs c.args.number.exp = search rules in
    let below : c.args.number.exp <ℤ pos 0 = grind (arith, ints) in
    fraction_with_point c.args.number c.reduced.result c.power_of_ten-power.result below c.requires.within (c.power_of_ten-power.ensures ∙ ap (λ e. pos (10 ^ e)) size) lowest

pub overflow_mul-number : goal.overflow_mul-number
overflow_mul-number c =
    let exp : FitsSigned w32 c.args.number.exp = search rules in
    let mant : FitsSigned w128 c.args.number.mant = search rules in
    let power : FitsSigned w128 c.power_of_ten-power.result = search rules in
    let size : c.unsigned_abs.result ≡ unsigned_abs c.args.number.exp = search rules in
    let above : pos 0 ≤ℤ c.args.number.exp = grind (arith, ints) in
    let less : unsigned_abs (c.args.number.mant *ℤ c.power_of_ten-power.result) < 10 ^ 20 =
    finite_without_point c.args.number c.power_of_ten-power.result above (c.power_of_ten-power.ensures ∙ ap (λ e. pos (10 ^ e)) size) c.requires.finite in
    rw (to_z-of_z mant, to_z-of_z power) (omega (arith, ints))

pub reduced-requires-2-clause-num : goal.reduced-requires-2-clause-num
reduced-requires-2-clause-num c =
    let exp : FitsSigned w32 c.args.number.exp = search rules in
    let mant : FitsSigned w128 c.args.number.mant = search rules in
    let power : FitsSigned w128 c.power_of_ten-power.result = search rules in
    let size : c.unsigned_abs.result ≡ unsigned_abs c.args.number.exp = search rules in
    let above : pos 0 ≤ℤ c.args.number.exp = grind (arith, ints) in
    let less : unsigned_abs (c.args.number.mant *ℤ c.power_of_ten-power.result) < 10 ^ 20 =
    finite_without_point c.args.number c.power_of_ten-power.result above (c.power_of_ten-power.ensures ∙ ap (λ e. pos (10 ^ e)) size) c.requires.finite in
    let product : FitsSigned w128 (c.args.number.mant *ℤ c.power_of_ten-power.result) = omega (arith, ints) in
    rw (to_z-of_z mant, to_z-of_z power, to_z-of_z product) (omega arith)

pub returns : goal.returns
returns c =
    let exp : FitsSigned w32 c.args.number.exp = search rules in
    let mant : FitsSigned w128 c.args.number.mant = search rules in
    let power : FitsSigned w128 c.power_of_ten-power.result = search rules in
    let size : c.unsigned_abs.result ≡ unsigned_abs c.args.number.exp = search rules in
    let above : pos 0 ≤ℤ c.args.number.exp = grind (arith, ints) in
    let value : c.power_of_ten-power.result ≡ pos (10 ^ unsigned_abs c.args.number.exp) = c.power_of_ten-power.ensures ∙ ap (λ e. pos (10 ^ e)) size in
    let less : unsigned_abs (c.args.number.mant *ℤ c.power_of_ten-power.result) < 10 ^ 20 =
    finite_without_point c.args.number c.power_of_ten-power.result above value c.requires.finite in
    let product : FitsSigned w128 (c.args.number.mant *ℤ c.power_of_ten-power.result) = omega (arith, ints) in
    let lowest : IsLowest (c.args.number.mant *ℤ c.power_of_ten-power.result) (pos 1) c.reduced-2.result =
    rw (to_z-of_z mant, to_z-of_z power, to_z-of_z product) at c.reduced-2.ensures in
    fraction_without_point c.args.number c.reduced-2.result c.power_of_ten-power.result above value lowest
