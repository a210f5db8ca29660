-- What putting a refusal's text does.
use Rattle.std.specs.Prelude.{ℕ, ◌≡◌, ◌⊎◌, List, Option}
use Rattle.bz_io.specs.declared.faults.FaultCount.{FaultCount}
use Rattle.bz_io.specs.Faults.{HasRisen}
use Rattle.bz_io.specs.Sink.{Takes, TakesPrefix}
use Rattle.bz_io.specs.Told.{WhereTold}
use Rattle.bz_top.specs.declared.job.Job.{Job}
use Rattle.bz_top.specs.declared.status.Refusal.{Refusal}
use Rattle.bz_top.specs.declared.status.Status.{Status}
use Rattle.bz_top.specs.declared.status.Status.TheVariants as status
use Rattle.bz_top.specs.Ends.{refusal_text, status_of}

-- the text was put whole, and the status is the refusal's
pub record PutsWhole (j : Job) (r : Refusal) (before after : Option (List ℕ)) (faults now : FaultCount) (ends : Status) : Type 0 where
  pub status_is : ends ≡ status_of r
  pub printed : WhereTold (Takes (refusal_text j r)) before after
  pub no_fault : now.number ≡ faults.number

-- a prefix of it was put, and the status is that of a failed write
pub record PutsPrefix (j : Job) (r : Refusal) (before after : Option (List ℕ)) (faults now : FaultCount) (ends : Status) : Type 0 where
  pub status_is : ends ≡ status.Write
  pub printed : WhereTold (TakesPrefix (refusal_text j r)) before after
  pub risen : HasRisen faults now

abbrev pub Refuses : Job → Refusal → Option (List ℕ) → Option (List ℕ) → FaultCount → FaultCount → Status → Type 0
Refuses j r before after faults now ends = PutsWhole j r before after faults now ends ⊎ PutsPrefix j r before after faults now ends
