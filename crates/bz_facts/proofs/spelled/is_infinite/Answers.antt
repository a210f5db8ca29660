-- The size is a number times a power of ten.
use Rattle.std.proofs.Common.{◌∙◌, ◌-◌, ◌^◌, ◌≤◌, ◌+ℤ◌, pos, ap, arith, rules, nat_lt, nat_le, FitsSigned, to_z-of_z, w32}
use Rattle.std.specs.Int.{w128}
use Rattle.std.specs.Int.RustNames.{unsigned_abs}
use Rattle.std.proofs.Math.Nat.{pow-le-pow_right}
use Rattle.bz_facts.proofs.SizeLemmas.{between, infinite-by, large, small}
use Rattle.bz_facts.proofs.spelled.is_infinite.Goals as goal

pub returns-then-shift-ge50 : goal.returns-then-shift-ge50
returns-then-shift-ge50 c =
    let f : FitsSigned w32 c.args.number.exp = search rules in
    let same = ap (λ z. unsigned_abs (z +ℤ pos 30)) (to_z-of_z f) in
    let g : FitsSigned w128 c.args.number.mant = search rules in
    let same_mant = ap unsigned_abs (to_z-of_z g) in
    infinite-by c.args.number c.shift_of-shift.result c.unsigned_abs-size.result (nat_lt 0 c.unsigned_abs-size.result) (c.shift_of-shift.ensures ∙ same) (c.unsigned_abs-size.ensures.value ∙ same_mant)
    (large c.unsigned_abs-size.result c.shift_of-shift.result (omega arith))

pub returns-then-shift-le20 : goal.returns-then-shift-le20
returns-then-shift-le20 c =
    let f : FitsSigned w32 c.args.number.exp = search rules in
    let same = ap (λ z. unsigned_abs (z +ℤ pos 30)) (to_z-of_z f) in
    let g : FitsSigned w128 c.args.number.mant = search rules in
    let same_mant = ap unsigned_abs (to_z-of_z g) in
    infinite-by c.args.number c.shift_of-shift.result c.unsigned_abs-size.result _ (c.shift_of-shift.ensures ∙ same) (c.unsigned_abs-size.ensures.value ∙ same_mant)
    (small c.unsigned_abs-size.result c.shift_of-shift.result (omega (arith, c.unsigned_abs-size.ensures.value ∙ same_mant, c.requires.mant)) (omega arith))

pub pow-requires : goal.pow-requires
pow-requires c =
    let fits : 10 ^ (50 - c.shift_of-shift.result) ≤ 10 ^ 30 =
    pow-le-pow_right {n = 10} (omega arith) {i = 50 - c.shift_of-shift.result} {j = 30} (omega arith) in
    omega arith

pub returns : goal.returns
returns c =
    let f : FitsSigned w32 c.args.number.exp = search rules in
    let same = ap (λ z. unsigned_abs (z +ℤ pos 30)) (to_z-of_z f) in
    let g : FitsSigned w128 c.args.number.mant = search rules in
    let same_mant = ap unsigned_abs (to_z-of_z g) in
    infinite-by c.args.number c.shift_of-shift.result c.unsigned_abs-size.result _ (c.shift_of-shift.ensures ∙ same) (c.unsigned_abs-size.ensures.value ∙ same_mant)
    (ap (λ p. nat_le p c.unsigned_abs-size.result) c.pow.ensures ∙ between c.unsigned_abs-size.result c.shift_of-shift.result (50 - c.shift_of-shift.result) (omega arith))
