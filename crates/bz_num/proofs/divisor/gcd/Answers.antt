-- Euclid's steps keep the common divisors, and the last one is the greatest.
use Rattle.std.proofs.Common.{rules, ap, to_z-of_z}
use Rattle.std.proofs.lemmas.Int.{to_z_pos}
use Rattle.std.proofs.lemmas.Nat.Gcd.{IsGcd-from_zero, IsGcd-from_mod}
use Rattle.std.specs.Int.{IsGcd, w128}
use Rattle.std.specs.Int.RustNames.{unsigned_abs}
use Rattle.bz_num.proofs.Divisors.{IsGcd-along}
use Rattle.bz_num.proofs.divisor.gcd.Goals as goal

pub loop-y-init : goal.loop-y-init
loop-y-init c = record {
  kept = λ g h. IsGcd-along c.unsigned_abs-x.result c.unsigned_abs-y.result _ _ g (search rules) (search rules) h;
  narrow_x = search rules;
  narrow_y = search rules;
}

pub loop-y-preserved : goal.loop-y-preserved
loop-y-preserved c = record {
  kept = λ g h. c.loop-y.invariant.kept g (IsGcd-from_mod _ _ g h);
  narrow_x = search rules;
  narrow_y = search rules;
}

pub returns-clause-divides : goal.returns-clause-divides
returns-clause-divides c =
    let divides : IsGcd (unsigned_abs c.args.a) (unsigned_abs c.args.b) c.loop-y.x =
    IsGcd-along _ _ _ _ _ (ap unsigned_abs (to_z-of_z c.ranges.a)) (ap unsigned_abs (to_z-of_z c.ranges.b)) (c.loop-y.invariant.kept c.loop-y.x (IsGcd-from_zero _ _ c.loop-y-test.false)) in
    rw (to_z_pos w128 c.loop-y.x c.loop-y.invariant.narrow_x) divides
