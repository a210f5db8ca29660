-- Each turn divides one entry more.
use Rattle.std.proofs.Common.{◌≡◌, rules, sym, ◌∙◌, refl, arith, FitsSigned, to_z, of_z, to_z-of_z, get_or, ℕ, ℤ, pos}
use Rattle.std.specs.Int.{w128, ◌∣◌}
use Rattle.std.specs.Int.RustNames.{unsigned_abs, int_div}
use Rattle.bz_num.proofs.Divisors.{divided_z, quotient_fits}
use Rattle.bz_num.proofs.Reduces.{times_first-none, times_first-all, times_first-set, divides-at}
use Rattle.bz_num.proofs.row.divide_entries.Goals as goal

pub loop-entry-init : goal.loop-entry-init
loop-entry-init c = record { whole = sym (times_first-none _ c.args.entries.now) }

pub loop-entry-preserved : goal.loop-entry-preserved
loop-entry-preserved c =
    let divisor_is : to_z w128 (of_z w128 c.args.divisor) ≡ c.args.divisor = to_z-of_z c.ranges.divisor in
    let whole = rw divisor_is at c.loop-entry.invariant.whole in
    let entry : ℕ × ℤ = get_or c.loop-entry.entries c.loop-entry.entry-index (0, pos 0) in
    let entry_fits : FitsSigned w128 entry.1 = search rules in
    let divides : unsigned_abs c.args.divisor ∣ unsigned_abs entry.1 = divides-at c.loop-entry.entry-index (unsigned_abs c.args.divisor) c.args.divisor c.loop-entry.entries (0, pos 0) (omega arith) (rw whole at c.requires.common) in
    let quotient_fits : FitsSigned w128 (int_div entry.1 c.args.divisor) = quotient_fits c.args.divisor entry.1 c.requires.positive entry_fits in
    record { whole = rw (divisor_is, to_z-of_z entry_fits, to_z-of_z quotient_fits) (whole ∙ sym (times_first-set c.loop-entry.entry-index c.args.divisor c.loop-entry.entries (0, pos 0) (entry.0, int_div entry.1 c.args.divisor) (omega arith) refl (divided_z c.args.divisor entry.1 c.requires.positive divides))) }

pub returns : goal.returns
returns c =
    let divisor_is : to_z w128 (of_z w128 c.args.divisor) ≡ c.args.divisor = to_z-of_z c.ranges.divisor in
    let whole = rw divisor_is at c.loop-entry.invariant.whole in
    whole ∙ times_first-all c.loop-entry.entry-index c.args.divisor c.loop-entry.entries (omega arith)
