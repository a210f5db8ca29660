-- How the program ends, and what it prints then.
use Rattle.std.specs.Prelude.{ℕ, List, [], ◌++◌, codes, Result, Ok, Err}
use Rattle.bz_top.specs.declared.status.File.{File}
use Rattle.bz_top.specs.declared.status.File.TheVariants.{Model as ModelFile, Part as PartFile, Cert as CertFile}
use Rattle.bz_top.specs.declared.status.Refusal.{Refusal}
use Rattle.bz_top.specs.declared.status.Refusal.TheVariants as refusal
use Rattle.bz_top.specs.declared.status.Status.{Status}
use Rattle.bz_top.specs.declared.status.Status.TheVariants as status
use Rattle.bz_top.specs.declared.job.Job.{Job}
use Rattle.bz_top.specs.declared.job.Job.TheVariants.{Check, Split}
use Rattle.bz_text.specs.Texts.{line}
use Rattle.bz_top.specs.Texts.{cert_fault, check_fault, check_word, memory_text, mps_fault, part_fault, split_fault}

-- the number of a status
abbrev pub number_of : Status → ℕ
number_of status.Done = 0
number_of status.Unresolved = 1
number_of status.Usage = 2
number_of status.Model = 3
number_of status.Part = 4
number_of status.Read = 5
number_of status.Write = 6
number_of status.Memory = 7
number_of status.Cert = 8
number_of status.TooLong = 9

-- the name of a file of the job, empty where it has no such file
abbrev pub name_of : Job → File → List ℕ
name_of (Check model part cert) ModelFile = model
name_of (Check model part cert) PartFile = part
name_of (Check model part cert) CertFile = cert
name_of (Split model part) ModelFile = model
name_of (Split model part) PartFile = part
name_of (Split model part) CertFile = []

-- the status of a refusal
abbrev pub status_of : Refusal → Status
status_of (refusal.Model fault) = status.Model
status_of (refusal.Part fault) = status.Part
status_of (refusal.Split unsplit) = status.Part
status_of (refusal.Cert fault) = status.Cert
status_of (refusal.Check fault) = status.Cert
status_of (refusal.Read file) = status.Read
status_of (refusal.TooLong file) = status.TooLong
status_of refusal.Memory = status.Memory

-- what is printed of a refusal of the job
abbrev pub refusal_text : Job → Refusal → List ℕ
refusal_text j (refusal.Model fault) = line (mps_fault fault)
refusal_text j (refusal.Part fault) = line (part_fault fault)
refusal_text j (refusal.Split u) = line (codes "split: " ++ split_fault u.model u.part u.fault)
refusal_text j (refusal.Cert fault) = line (cert_fault fault)
refusal_text j (refusal.Check fault) = line (check_word (check_fault fault))
refusal_text j (refusal.Read file) = line (codes "read fault: " ++ name_of j file)
refusal_text j (refusal.TooLong file) = line (codes "too long: " ++ name_of j file)
refusal_text j refusal.Memory = memory_text

-- the status after the last text: that of a write where the text could not be put whole
abbrev pub status_after : {T E : Type 0} → Result T E → Status → Status
status_after (Ok _) s = s
status_after (Err _) s = status.Write

-- a status with a refusal's text
abbrev pub IsRefused : Status → Type 0
IsRefused status.Done = ⊥
IsRefused status.Unresolved = ⊥
IsRefused status.Usage = ⊥
IsRefused status.Model = Unit {0}
IsRefused status.Part = Unit {0}
IsRefused status.Read = Unit {0}
IsRefused status.Write = ⊥
IsRefused status.Memory = Unit {0}
IsRefused status.Cert = Unit {0}
IsRefused status.TooLong = Unit {0}
