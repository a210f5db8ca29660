-- What a maker of models answers to end tests.
use Rattle.std.specs.Prelude.{Bool, List, Result, Ok, Err}
use Rattle.std.specs.Option.{ForSome}
use Rattle.bz_lines.specs.FirstFault.{IsFirstFailing, NoneFails}
use Rattle.bz_facts.specs.declared.MpsFault.{MpsFault}
use Rattle.bz_facts.specs.declared.MpsStop.{MpsStop}
use Rattle.bz_facts.specs.FactTexts.{StopsBy}
use Rattle.bz_facts.specs.SoundFacts.{IsFinite}
use Rattle.bz_mps.specs.declared.column_ends.Ends.{Ends}
use Rattle.bz_mps.specs.FactModel.{fault}

-- the stop is the fault of the first test that fails; want of memory says nothing of the tests
abbrev pub StopsAtFirst : List (Bool × MpsFault) → MpsStop → Type 0
StopsAtFirst tests stop = StopsBy (λ line kind. IsFirstFailing tests (fault line kind)) stop

-- the maker goes on where no test fails, and stops at the first that fails
abbrev pub Tests : {X : Type 0} → List (Bool × MpsFault) → Result X MpsStop → Type 0
Tests tests (Ok x) = NoneFails tests
Tests tests (Err stop) = StopsAtFirst tests stop

-- the bounds are finite, where they are there
pub record AreFinite (e : Ends) : Type 0 where
  pub lower : ForSome e.lower IsFinite
  pub upper : ForSome e.upper IsFinite
