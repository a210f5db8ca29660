-- What reading all that a reader has left answers.
use Rattle.std.specs.Prelude.{◌≡◌, ◌↔◌, ℕ, ◌+◌, ◌<◌, ◌≤◌, List, length, Option, IsTrue, Bool, Result, Ok, Err, Vec}
use Rattle.std.specs.Io.KnownBytes.{Consumes}
use Rattle.std.specs.declared.alloc.Global.{Global}
use Rattle.std.specs.declared.io.Error.{Error}
use Rattle.bz_io.specs.declared.faults.FaultCount.{FaultCount}
use Rattle.bz_io.specs.Desk.{is_failed}
use Rattle.bz_io.specs.Faults.{faults_after}
use Rattle.bz_io.specs.Told.{IfTold}
use Rattle.bz_io.specs.declared.source.Source.{Source}
use Rattle.bz_io.specs.declared.desk.LoadError.{LoadError}
use Rattle.bz_io.specs.declared.desk.LoadError.TheVariants.{Failed, TooLong, OutOfMemory}

-- Of what the reader had left: all of it, or `TooLong` only where that is more than the limit, or want of memory only
-- where it isn't empty.
abbrev pub ReadsText : List ℕ → ℕ → Result (Vec ℕ Global) LoadError → Type 0
ReadsText left limit (Ok bytes) = bytes.items ≡ left
ReadsText left limit (Err Failed) = Unit {0}
ReadsText left limit (Err TooLong) = limit < length left
ReadsText left limit (Err OutOfMemory) = 0 < length left

-- Reading all of a text within a limit, by what the reader tells that it had and has left, and by whether a read failed.
pub record ReadsAll (before after : Option (List ℕ)) (failed : Bool) (limit : ℕ) (result : Result (Vec ℕ Global) LoadError) : Type 0 where
  pub text : IfTold before (λ left. ReadsText left limit result)
  pub cause : (result ≡ Err Failed) ↔ IsTrue failed
  pub most : (bytes : List ℕ) × Consumes before after bytes × (length bytes ≤ limit + 1)

-- The same of what was opened: where it couldn't be, it fails.
abbrev pub ReadsOpened : {R E : Type 0} → (R → Option (List ℕ)) → Result (Source R) E → Result (Source R) E → ℕ → Result (Vec ℕ Global) LoadError → Type 0
ReadsOpened remaining (Err _) after limit result = result ≡ Err Failed
ReadsOpened remaining (Ok before) (Err _) limit result = ⊥
ReadsOpened remaining (Ok before) (Ok after) limit result = ReadsAll (remaining before.from) (remaining after.from) after.failed limit result

-- The same, with the faults counted before and after.
pub record LoadsOpened {R E : Type 0} (remaining : R → Option (List ℕ)) (before after : Result (Source R) E) (limit : ℕ) (result : Result (Vec ℕ Global) LoadError) (faults now : FaultCount) : Type 0 where
  pub reads : ReadsOpened remaining before after limit result
  pub counted : now ≡ faults_after faults (is_failed result)

-- The same of something that was opened, or couldn't be.
pub record LoadsSome {R : Type 0} (remaining : R → Option (List ℕ)) (limit : ℕ) (result : Result (Vec ℕ Global) LoadError) (faults now : FaultCount) : Type 0 where
  pub before : Result (Source R) Error
  pub after : Result (Source R) Error
  pub loads : LoadsOpened remaining before after limit result faults now
