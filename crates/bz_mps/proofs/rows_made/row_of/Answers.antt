use Rattle.bz_mps.proofs.DigitLemmas.{row_scalable}
use Rattle.bz_mps.proofs.rows_made.row_of.Goals as goal

pub terms_of-requires-clause-scalable : goal.terms_of-requires-clause-scalable
terms_of-requires-clause-scalable c = (row_scalable c.digits_of_row-digits.result c.args.entries.now c.args.rhs c.args.range c.digits_of_row-digits.ensures c.requires.facts.within).entries_are

pub sides_of-requires-clause-rhs : goal.sides_of-requires-clause-rhs
sides_of-requires-clause-rhs c = (row_scalable c.digits_of_row-digits.result c.args.entries.now c.args.rhs c.args.range c.digits_of_row-digits.ensures c.requires.facts.within).rhs_is

pub sides_of-requires-clause-range : goal.sides_of-requires-clause-range
sides_of-requires-clause-range c = (row_scalable c.digits_of_row-digits.result c.args.entries.now c.args.rhs c.args.range c.digits_of_row-digits.ensures c.requires.facts.within).range_is
