-- What is answered where a rule doesn't hold.
use Rattle.bz_rules.specs.declared.refused.Refused.{Refused}
use Rattle.bz_rules.specs.declared.refused.Refused.TheVariants as refused
use Rattle.bz_core.specs.declared.answering.Taken.{Taken}
use Rattle.bz_core.specs.declared.answering.Taken.TheVariants as taken

abbrev pub taken_as : Refused → Taken
taken_as (refused.Late ended_by) = taken.Late ended_by
taken_as refused.Unfit = taken.Unfit
