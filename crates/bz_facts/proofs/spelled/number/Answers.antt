use Rattle.std.proofs.Common.{arith, subst}
use Rattle.bz_num.specs.Decimals.{IsNumFault}
use Rattle.bz_facts.proofs.NumberLemmas.{number-none, number-spelled, number-wide}
use Rattle.bz_facts.proofs.spelled.number.Goals as goal

pub returns-in-Ok-clause-spelled : goal.returns-in-Ok-clause-spelled
returns-in-Ok-clause-spelled c = number-spelled c.args.digits.now c.in-Ok.number (omega arith) c.in-Ok.ensures.spelled c.in-Ok.ensures.within

pub returns-in-Err-Form-clause-spelled : goal.returns-in-Err-Form-clause-spelled
returns-in-Err-Form-clause-spelled c = number-none c.args.digits.now (omega arith) (subst (IsNumFault c.args.digits.now) c.in-Err-Form.field-0-is c.in-Err-Form.ensures.fault).none

pub returns-in-Err-TooWide-clause-spelled : goal.returns-in-Err-TooWide-clause-spelled
returns-in-Err-TooWide-clause-spelled c = number-wide c.args.digits.now (omega arith) (subst (IsNumFault c.args.digits.now) c.in-Err-TooWide.field-0-is c.in-Err-TooWide.ensures.fault)
