use Rattle.std.proofs.Common.{None, ◌≤◌, arith}
use Rattle.bz_mps.proofs.DigitLemmas.{row_scalable}
use Rattle.bz_mps.proofs.rows_made.objective_with.Goals as goal

pub terms_of-requires-clause-scalable : goal.terms_of-requires-clause-scalable
terms_of-requires-clause-scalable c = (row_scalable c.digits_of_row-digits.result c.args.entries.now c.args.rhs None c.digits_of_row-digits.ensures c.requires.within).entries_are

pub scaled_number-requires : goal.scaled_number-requires
scaled_number-requires c = (row_scalable c.digits_of_row-digits.result c.args.entries.now c.args.rhs None c.digits_of_row-digits.ensures c.requires.within).rhs_is

pub power_of_ten-requires : goal.power_of_ten-requires
power_of_ten-requires c =
    let few : c.digits_of_row-digits.result ≤ 30 = (row_scalable c.digits_of_row-digits.result c.args.entries.now c.args.rhs None c.digits_of_row-digits.ensures c.requires.within).few in
    omega arith
