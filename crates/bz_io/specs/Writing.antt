-- What writing all of a text into a file that was to be made answers.
use Rattle.std.specs.Prelude.{◌≡◌, ℕ, List, Option, Result, Ok, Err, is_err}
use Rattle.std.specs.declared.io.Error.{Error}
use Rattle.bz_io.specs.declared.desk.SaveError.{SaveError}
use Rattle.bz_io.specs.declared.desk.SaveError.TheVariants.{Failed}
use Rattle.bz_io.specs.declared.faults.FaultCount.{FaultCount}
use Rattle.bz_io.specs.declared.host_sink.HostSink.{HostSink}
use Rattle.bz_io.specs.Faults.{HasRisen, faults_after}
use Rattle.bz_io.specs.Sink.{Takes, TakesPrefix}
use Rattle.bz_io.specs.Told.{WhereTold}

-- Where it couldn't be made, it fails. Else it took all the bytes, or, with one fault, a prefix of them.
abbrev pub WritesMade : {W E : Type 0} → (W → Option (List ℕ)) → Result (HostSink W) E → Result (HostSink W) E → List ℕ → Result (Unit {0}) SaveError → Type 0
WritesMade contents (Err _) after bytes result = result ≡ Err Failed
WritesMade contents (Ok before) (Err _) bytes result = ⊥
WritesMade contents (Ok before) (Ok after) bytes (Ok _) = WhereTold (Takes bytes) (contents before.to) (contents after.to)
WritesMade contents (Ok before) (Ok after) bytes (Err _) = WhereTold (TakesPrefix bytes) (contents before.to) (contents after.to) × HasRisen before.faults after.faults

-- The same, with the faults counted before and after.
pub record SavesMade {W E : Type 0} (contents : W → Option (List ℕ)) (before after : Result (HostSink W) E) (bytes : List ℕ) (result : Result (Unit {0}) SaveError) (faults now : FaultCount) : Type 0 where
  pub writes : WritesMade contents before after bytes result
  pub counted : now ≡ faults_after faults (is_err result)

-- The same of something that was made, or couldn't be.
pub record SavesSome {W : Type 0} (contents : W → Option (List ℕ)) (bytes : List ℕ) (result : Result (Unit {0}) SaveError) (faults now : FaultCount) : Type 0 where
  pub before : Result (HostSink W) Error
  pub after : Result (HostSink W) Error
  pub saves : SavesMade contents before after bytes result faults now
