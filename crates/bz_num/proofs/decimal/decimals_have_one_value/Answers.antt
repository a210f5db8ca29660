-- A text has one spelling, and that one value; what stands before the beginning of a decimal is one too.
use Rattle.bz_num.proofs.DecimalLaws.{same_stop, value_of_text}
use Rattle.bz_num.proofs.DecimalValues.{same_decimal}
use Rattle.bz_num.proofs.decimal.decimals_have_one_value.Goals as goal

pub returns-clause-some : goal.returns-clause-some
returns-clause-some c = value_of_text

pub returns-clause-same : goal.returns-clause-same
returns-clause-same c = same_decimal

pub returns-clause-stop : goal.returns-clause-stop
returns-clause-stop c = same_stop
