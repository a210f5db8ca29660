-- The values over minus the denominator, the column at the denominator, and all of it divided.
use Rattle.std.proofs.Common.{rules, arith, FitsSigned, to_z-of_z, ◌≡◌, ap, sym, subst, ◌∙◌, pos, ◌-ℤ◌, ℤ, List, length}
use Rattle.std.specs.Int.{w128}
use Rattle.bz_lex.proofs.RaySigns.{size_negated, written_back}
use Rattle.bz_lex.specs.Shown.{IsShownMove}
use Rattle.bz_lex.proofs.Moves.{move_of, minus}
use Rattle.bz_lex.proofs.ray.direction.Goals as goal

pub values-requires-clause-divides : goal.values-requires-clause-divides
values-requires-clause-divides c =
    let den_fits : FitsSigned w128 c.args.den = c.ranges.den in
    let neg_fits : FitsSigned w128 (pos 0 -ℤ c.args.den) = search rules in
    rw (to_z-of_z den_fits, to_z-of_z neg_fits, size_negated c.args.den) c.requires.den.is_least.multiple

pub returns-in-Ok : goal.returns-in-Ok
returns-in-Ok c =
    let den_fits : FitsSigned w128 c.args.den = c.ranges.den in
    let neg_fits : FitsSigned w128 (pos 0 -ℤ c.args.den) = search rules in
    let moves = rw (to_z-of_z den_fits, to_z-of_z neg_fits, minus c.args.den) at (rw c.in-Ok.is at c.in_ok-moves.ensures) in
    let width : length c.raise-d.result.items ≡ c.args.tableau.now.slack = c.raise-d.ensures.width ∙ moves.width in
    let own = rw (to_z-of_z den_fits) at c.raise-d.ensures.own in
    let part = rw c.as_mut_slice.ensures.value at c.make_primitive.ensures.part in
    let lengths : length c.make_primitive.new.numbers ≡ length c.raise-d.result.items = c.make_primitive.ensures.width ∙ ap (length {A = ℤ}) c.as_mut_slice.ensures.value in
    let length_is : c.raise-d.result.len ≡ length c.raise-d.result.items = search rules in
    let same = written_back c.raise-d.result.len c.make_primitive.new.numbers c.raise-d.result.items length_is lengths in
    subst (λ (l : List ℤ). IsShownMove c.args.tableau.now c.args.order.now c.args.den c.args.column l) (sym same)
    (move_of c.args.tableau.now c.args.order.now c.args.den c.args.column c.in-Ok.moves.items c.raise-d.result.items c.make_primitive.new.numbers c.requires.order moves width (λ b. own (omega (arith, b, moves.width))) c.raise-d.ensures.other part lengths)

pub returns-in-Err : goal.returns-in-Err
returns-in-Err c =
    let den_fits : FitsSigned w128 c.args.den = c.ranges.den in
    let neg_fits : FitsSigned w128 (pos 0 -ℤ c.args.den) = search rules in
    rw (to_z-of_z den_fits, to_z-of_z neg_fits, minus c.args.den) at (rw c.in-Err.is at c.in_ok-moves.ensures)
