-- Decimals as whole numbers, a power of ten as large.
use Rattle.std.proofs.Common.{ℕ, suc, ◌^◌, ◌*◌, ◌<◌, ◌≤◌, ℤ, pos, negsuc, ◌+ℤ◌, ◌≤ℤ◌, ◌≡◌, refl, arith}
use Rattle.std.specs.Int.RustNames.{unsigned_abs}
use Rattle.std.proofs.Math.Nat.{mul-le-mul_right, pow-le-pow_right}
use Rattle.std.proofs.lemmas.Int.{ints, unsigned_abs-mul}
use Rattle.bz_num.specs.declared.Dec.{Dec}
use Rattle.bz_mps.specs.ScaledRows.{digits_behind_point, scaled}

-- the exponent and the digits together are not negative
pub digits_enough : (d : Dec) (k : ℕ) → digits_behind_point d ≤ k → (pos 0) ≤ℤ (d.exp +ℤ pos k)
digits_enough d k h = by d.exp refl
  where
    by : (z : ℤ) → d.exp ≡ z → (pos 0) ≤ℤ (d.exp +ℤ pos k)
    by (pos n) same = rw same (omega (arith, ints))
    by (negsuc n) same = let few : suc n ≤ k = rw same at h in rw same (omega (arith, ints))

pub scaled_size_is : (d : Dec) (k : ℕ) → unsigned_abs (scaled k d) ≡ unsigned_abs d.mant * 10 ^ unsigned_abs (d.exp +ℤ pos k)
scaled_size_is d k = unsigned_abs-mul d.mant (pos (10 ^ unsigned_abs (d.exp +ℤ pos k)))

-- a number that is not zero, times a large power of ten, is large
pub large_power : (m p : ℕ) → 0 < m → 38 < p → 2 ^ 128 ≤ m * 10 ^ p
large_power m p some h =
    let large : 10 ^ 39 ≤ 10 ^ p = pow-le-pow_right {n = 10} (omega arith) {i = 39} {j = p} (omega arith) in
    let once : 1 * 10 ^ p ≤ m * 10 ^ p = mul-le-mul_right (10 ^ p) (omega arith) in
    omega arith
