-- What putting a text does.
use Rattle.std.specs.Prelude.{ℕ, List, Option, Result, OnErr, OnOk}
use Rattle.bz_io.specs.declared.faults.FaultCount.{FaultCount}
use Rattle.bz_io.specs.Faults.{CountsFault}
use Rattle.bz_io.specs.Sink.{Takes, TakesPrefix}
use Rattle.bz_io.specs.Told.{WhereTold}

-- A sink tells what it has taken and its faults. From the first state to the last it took the text, or a prefix of it and
-- then had one fault, after which nothing was put.
pub record Puts {S T E : Type 0} (taken : S → Option (List ℕ)) (faults : S → FaultCount) (first last : S) (text : List ℕ) (result : Result T E) : Type 0 where
  pub ok : OnOk result (WhereTold (Takes text) (taken first) (taken last))
  pub failed : OnErr result (WhereTold (TakesPrefix text) (taken first) (taken last))
  pub count : CountsFault result (faults first) (faults last)
