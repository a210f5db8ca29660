-- A fraction in lowest terms is reduced.
use Rattle.std.proofs.Common.{ℤ}
use Rattle.std.specs.Int.{◌∣◌}
use Rattle.std.specs.Int.RustNames.{unsigned_abs}
use Rattle.std.proofs.Math.Nat.{dvd-mul_right}
use Rattle.bz_num.specs.declared.Frac.{Frac}
use Rattle.bz_num.specs.Lowest.{IsLowest}
use Rattle.bz_model.specs.Stated.{IsReduced}

pub reduced : (num den : ℤ) (f : Frac) → IsLowest num den f → IsReduced (record { num = f.num; den = f.den })
reduced num den f l = record {
  positive = f.positive;
  coprime = λ k i j p q.
      let first : k ∣ unsigned_abs f.num = rw p (dvd-mul_right k i) in
      let second : k ∣ unsigned_abs f.den = rw q (dvd-mul_right k j) in
      l.lowest k first second;
}
