-- A power of ten past the limit is too large, and one up to it fits.
use Rattle.std.proofs.Common.{◌+◌, ◌*◌, ◌^◌, ◌≤◌, arith}
use Rattle.std.proofs.Math.Nat.{pow-le-pow_right, mul-le-mul_right}
use Rattle.bz_num.proofs.digits.shifted.Goals as goal

pub returns-then-zeros-ge30 : goal.returns-then-zeros-ge30
returns-then-zeros-ge30 c =
    let large : 10 ^ 31 ≤ 10 ^ (c.args.zeros + 1) = pow-le-pow_right {n = 10} (omega arith) {i = 31} {j = c.args.zeros + 1} (omega arith) in
    let once : 1 * 10 ^ (c.args.zeros + 1) ≤ c.args.number * 10 ^ (c.args.zeros + 1) =
    mul-le-mul_right (10 ^ (c.args.zeros + 1)) (omega arith) in
    λ below. omega arith

pub pow-power-requires : goal.pow-power-requires
pow-power-requires c =
    let fits : 10 ^ (c.args.zeros + 1) ≤ 10 ^ 30 =
    pow-le-pow_right {n = 10} (omega arith) {i = c.args.zeros + 1} {j = 30} (omega arith) in
    omega arith
