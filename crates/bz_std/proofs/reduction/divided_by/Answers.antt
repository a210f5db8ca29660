use Rattle.std.proofs.Common.{◌≡◌, rules, sym, subst, ap, ◌∙◌, ℤ, List, length, to_z-of_z}
use Rattle.bz_num.specs.Dense.{DividesRow, IsDivided}
use Rattle.std.specs.Int.RustNames.{unsigned_abs}
use Rattle.bz_std.proofs.LowestMade.{written_back}
use Rattle.bz_std.proofs.reduction.divided_by.Goals as goal

pub divide_all-requires-clause-divides : goal.divide_all-requires-clause-divides
divide_all-requires-clause-divides c = rw (to_z-of_z c.ranges.divisor) (subst (λ (l : List ℤ). DividesRow (unsigned_abs c.args.divisor) l) (sym c.as_mut_slice.ensures.value) c.requires.divides)

pub returns : goal.returns
returns c =
    let length_is : c.args.numbers.len ≡ length c.args.numbers.items = search rules in
    let divided = rw (to_z-of_z c.ranges.divisor) at c.divide_all.ensures in
    let same = written_back c.args.numbers.len c.divide_all.new.row c.args.numbers.items length_is (divided.width ∙ ap (length {A = ℤ}) c.as_mut_slice.ensures.value) in
    subst (λ (l : List ℤ). IsDivided c.args.divisor c.args.numbers.items l) (sym (c.from_vec.ensures ∙ same)) (subst (λ (l : List ℤ). IsDivided c.args.divisor l c.divide_all.new.row) c.as_mut_slice.ensures.value divided)
