use Rattle.bz_num.proofs.Quotients.{quotient_value}
use Rattle.bz_num.proofs.division.exact_quotient.Goals as goal

pub returns-clause-value : goal.returns-clause-value
returns-clause-value c = quotient_value c.args.divisor c.args.number c.requires.nonzero c.requires.divides c.requires.number_narrow c.ranges.divisor c.ranges.number
