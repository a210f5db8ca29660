use Rattle.std.proofs.Common.{arith, rules, pos, ◌<◌, ◌≤◌, ◌^◌, ◌*◌, ◌≡◌, ◌+ℤ◌, ◌≤ℤ◌, FitsSigned}
use Rattle.std.proofs.lemmas.Int.{ints}
use Rattle.std.specs.Int.{w32}
use Rattle.std.specs.Int.RustNames.{unsigned_abs}
use Rattle.bz_mps.specs.ScaledRows.{scaled}
use Rattle.bz_mps.proofs.ScaledNumbers.{digits_enough, large_power, scaled_size_is}
use Rattle.bz_mps.proofs.scaling.scaled_size.Goals as goal

pub returns-then-power-gt38 : goal.returns-then-power-gt38
returns-then-power-gt38 c = λ below.
    let enough : pos 0 ≤ℤ (c.args.number.exp +ℤ pos c.args.digits) = digits_enough c.args.number c.args.digits c.requires.behind in
    let exp : FitsSigned w32 c.args.number.exp = search rules in
    let size : unsigned_abs (scaled c.args.digits c.args.number) ≡ unsigned_abs c.args.number.mant * 10 ^ unsigned_abs (c.args.number.exp +ℤ pos c.args.digits) = scaled_size_is c.args.number c.args.digits in
    let large : 38 < unsigned_abs (c.args.number.exp +ℤ pos c.args.digits) = omega (arith, ints, c.if-power-gt38.true) in
    let some : 0 < unsigned_abs c.args.number.mant = omega (arith, ints) in
    let wide : 2 ^ 128 ≤ unsigned_abs c.args.number.mant * 10 ^ unsigned_abs (c.args.number.exp +ℤ pos c.args.digits) = large_power (unsigned_abs c.args.number.mant) _ some large in
    omega arith
