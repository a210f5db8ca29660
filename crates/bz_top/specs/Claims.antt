-- What the program claims of a job.
use Rattle.std.specs.Prelude.{ℕ, ℤ, ◌≡◌, ◌⊎◌, ◌<◌, ◌≤◌, ◌*◌, List, length, Option, Some, None, true, false, Result, Ok, Err}
use Rattle.bz_algebra.specs.Fractions.{IsSameNumber}
use Rattle.bz_io.specs.declared.faults.FaultCount.{FaultCount}
use Rattle.bz_io.specs.Desk.{Telling}
use Rattle.bz_io.specs.Faults.{HasRisen}
use Rattle.bz_io.specs.Sink.{Takes, TakesPrefix}
use Rattle.bz_io.specs.Told.{WhereTold}
use Rattle.bz_model.specs.declared.Model.{Model}
use Rattle.bz_model.specs.declared.Parts.{Parts}
use Rattle.bz_model.specs.Splits.{Decomposition}
use Rattle.bz_model.specs.Points.{objective, IsOptimal, IsInfeasible, IsUnbounded}
use Rattle.bz_model.specs.Strict.{IsStrict}
use Rattle.bz_facts.specs.declared.MpsFault.{MpsFault}
use Rattle.bz_mps.specs.FactModel.{ModelOf, MpsFaultOf}
use Rattle.bz_part.specs.declared.PartFault.{PartFault as FaultOfPart}
use Rattle.bz_part.specs.Partition.{PartFault, PartOf}
use Rattle.bz_split.specs.declared.Unsplit.{Unsplit}
use Rattle.bz_split.specs.Counts.{AreRowCounts}
use Rattle.bz_split.specs.SplitFaults.{IsSplitFault}
use Rattle.bz_cert.specs.declared.CertFault.{CertFault}
use Rattle.bz_cert.specs.declared.Certificate.{Certificate}
use Rattle.bz_cert.specs.declared.Verdict.TheVariants as verdict
use Rattle.bz_cert.specs.CertFaults.{IsCertFault}
use Rattle.bz_cert.specs.CertText.{IsCertText}
use Rattle.bz_judge.specs.declared.CheckFault.{CheckFault}
use Rattle.bz_model.specs.declared.Stated.{Stated}
use Rattle.bz_check.specs.CheckTests.{IsCheckFault}
use Rattle.bz_cert.specs.Fits.{Fits}
use Rattle.bz_cert.specs.Passing.{Passes}
use Rattle.bz_model.specs.Stated.{IsReduced, stated_fraction}
use Rattle.bz_model.specs.PartPoints.{IsPointOf}
use Rattle.bz_top.specs.declared.job.Job.{Job}
use Rattle.bz_top.specs.declared.job.Job.TheVariants as job
use Rattle.bz_top.specs.declared.said.Holding.{Holding}
use Rattle.bz_top.specs.declared.said.Holding.TheVariants.{Optimal, Infeasible, Unbounded}
use Rattle.bz_top.specs.declared.said.Said.{Said}
use Rattle.bz_top.specs.declared.status.File.{File}
use Rattle.bz_top.specs.declared.status.File.TheVariants.{Model as ModelFile, Part as PartFile, Cert as CertFile}
use Rattle.bz_top.specs.declared.status.Refusal.{Refusal}
use Rattle.bz_top.specs.declared.status.Refusal.TheVariants as refusal
use Rattle.bz_top.specs.declared.status.Status.{Status}
use Rattle.bz_top.specs.declared.status.Status.TheVariants as status
use Rattle.bz_top.specs.Ends.{name_of, status_of, refusal_text}
use Rattle.bz_top.specs.Jobs.{JobOf, IsJobless}
use Rattle.bz_top.specs.Texts.{said_text, usage_text}

-- the most bytes that a file may have: 16 MiB for a model and a partition, 64 MiB for a certificate
abbrev pub limit_of : File → ℕ
limit_of ModelFile = 16 * 1024 * 1024
limit_of PartFile = 16 * 1024 * 1024
limit_of CertFile = 64 * 1024 * 1024

-- the job has a certificate, to be checked
abbrev pub HasCert : Job → Type 0
HasCert (job.Check model part cert) = Unit {0}
HasCert (job.Split model part) = ⊥

-- the job is to print the parts of a split
abbrev pub HasNoCert : Job → Type 0
HasNoCert (job.Check model part cert) = ⊥
HasNoCert (job.Split model part) = Unit {0}

-- ---- what the files give
-- the number of the file's load among the desk's calls: each file is loaded once, where the ones before it are accepted
abbrev pub load_of : File → ℕ
load_of ModelFile = 0
load_of PartFile = 1
load_of CertFile = 2

-- the file's load doesn't fail, and its name holds the text
pub record IsLoaded (desk : Telling) (j : Job) (file : File) (text : List ℕ) : Type 0 where
  pub well : desk.fails (load_of file) ≡ false
  pub held : desk.contents (name_of j file) ≡ Some text

-- the file's load fails: its call is one of those that fail, or its name holds nothing
abbrev pub LoadFails : Telling → Job → File → Type 0
LoadFails desk j file = (desk.fails (load_of file) ≡ true) ⊎ (desk.contents (name_of j file) ≡ None)

-- the file's load doesn't fail, and its text is longer than the limit
pub record IsLonger (desk : Telling) (j : Job) (file : File) : Type 0 where
  pub text : List ℕ
  pub loaded : IsLoaded desk j file text
  pub longer : limit_of file < length text

-- the file's load gives the text, which is within the limit
pub record LoadsFile (desk : Telling) (j : Job) (file : File) (text : List ℕ) : Type 0 where
  pub loaded : IsLoaded desk j file text
  pub within : length text ≤ limit_of file

-- the file holds the model's text, and m is its model
pub record ReadsModel (desk : Telling) (j : Job) (m : Model) : Type 0 where
  pub text : List ℕ
  pub held : LoadsFile desk j ModelFile text
  pub reads : ModelOf text m

-- the files hold the texts of a model and of a partition of it
pub record ReadsPart (desk : Telling) (j : Job) (d : Decomposition) : Type 0 where
  pub model : ReadsModel desk j d.model
  pub text : List ℕ
  pub held : LoadsFile desk j PartFile text
  pub reads : PartOf text d.model d.part

-- what the files of an accepted job give: a model and a strict partition of it
pub record IsAccepted (desk : Telling) (j : Job) (d : Decomposition) : Type 0 where
  pub part : ReadsPart desk j d
  pub strict : IsStrict d.model d.part

-- the file holds the certificate's text, and c is its certificate
pub record ReadsCertificate (desk : Telling) (j : Job) (c : Certificate) : Type 0 where
  pub asked : HasCert j
  pub text : List ℕ
  pub held : LoadsFile desk j CertFile text
  pub reads : IsCertText text c

-- ---- what is said
-- The certificate says optimal: its parts have a point, that point is optimal in the model, and the stated fraction is its
-- objective in lowest terms.
pub record ShowsOptimum (m : Model) (part : List ℕ) (c : Certificate) (stated : Stated) : Type 0 where
  pub says : c.verdict ≡ verdict.Optimal
  pub parts : Parts
  pub parts_are : c.parts ≡ Some parts
  pub p : List ℤ
  pub q : ℤ
  pub point : IsPointOf m part parts p q
  pub optimal : IsOptimal m p q
  pub reduced : IsReduced (stated_fraction stated)
  pub objective_is : IsSameNumber (stated_fraction stated) (objective m p q)

-- what the certificate says is true of the model itself, which knows no parts
abbrev pub Shows : Model → List ℕ → Certificate → Holding → Type 0
Shows m part c (Optimal stated) = ShowsOptimum m part c stated
Shows m part c Infeasible = (c.verdict ≡ verdict.Infeasible) × IsInfeasible m
Shows m part c Unbounded = (c.verdict ≡ verdict.Unbounded) × IsUnbounded m

-- The files are accepted and hold a certificate that passes and fits. What it says is true.
pub record ShowsVerdict (desk : Telling) (j : Job) (holding : Holding) : Type 0 where
  pub split : Decomposition
  pub accepted : IsAccepted desk j split
  pub certificate : Certificate
  pub reads : ReadsCertificate desk j certificate
  pub passes : Passes split.model split.part certificate
  pub fits : Fits split.model split.part certificate
  pub shows : Shows split.model split.part certificate holding

-- the files are accepted and give the split
pub record ShowsParts (desk : Telling) (j : Job) (d : Decomposition) : Type 0 where
  pub asked : HasNoCert j
  pub accepted : IsAccepted desk j d

-- what the job comes to is what its files show
abbrev pub ShownIn : Telling → Job → Said → Type 0
ShownIn desk j (Said.Holds holding) = ShowsVerdict desk j holding
ShownIn desk j (Said.Parts d rows) = ShowsParts desk j d

abbrev pub Shown : Option Telling → Job → Said → Type 0
Shown None j said = Unit {0}
Shown (Some desk) j said = ShownIn desk j said

-- what the job comes to is of its kind, and rows are counted as they are
abbrev pub IsOfJob : Job → Said → Type 0
IsOfJob j (Said.Holds holding) = HasCert j
IsOfJob j (Said.Parts d rows) = HasNoCert j × AreRowCounts d rows

-- ---- why a job is refused
-- The file's turn comes: the files before it are accepted. The model comes first, then the partition, then the
-- certificate, where the job has one.
abbrev pub IsReached : Telling → Job → File → Type 0
IsReached desk j ModelFile = Unit {0}
IsReached desk j PartFile = (m : Model) × ReadsModel desk j m
IsReached desk j CertFile = HasCert j × ((d : Decomposition) × IsAccepted desk j d)

-- the model's text has the fault
pub record IsModelRefused (desk : Telling) (j : Job) (fault : MpsFault) : Type 0 where
  pub text : List ℕ
  pub held : LoadsFile desk j ModelFile text
  pub is_fault : MpsFaultOf text fault.line fault.kind

-- the partition's turn comes, and its text has the fault
pub record IsPartRefused (desk : Telling) (j : Job) (fault : FaultOfPart) : Type 0 where
  pub model : Model
  pub reached : ReadsModel desk j model
  pub text : List ℕ
  pub held : LoadsFile desk j PartFile text
  pub is_fault : PartFault text model fault.line fault.kind

-- the texts give a model and a partition of it, by which it may not be solved for this reason
pub record IsSplitRefused (desk : Telling) (j : Job) (u : Unsplit) : Type 0 where
  pub reads : ReadsPart desk j (record { model = u.model; part = u.part })
  pub is_fault : IsSplitFault u.model u.part u.fault

-- the certificate's turn comes, and its text has the fault
pub record IsCertRefused (desk : Telling) (j : Job) (fault : CertFault) : Type 0 where
  pub reached : IsReached desk j CertFile
  pub text : List ℕ
  pub held : LoadsFile desk j CertFile text
  pub is_fault : IsCertFault text fault.line fault.kind

-- the three texts are read, and the certificate has the fault
pub record IsCheckRefused (desk : Telling) (j : Job) (fault : CheckFault) : Type 0 where
  pub split : Decomposition
  pub accepted : IsAccepted desk j split
  pub certificate : Certificate
  pub reads : ReadsCertificate desk j certificate
  pub is_fault : IsCheckFault split.model split.part certificate fault

-- the file's turn comes, and its load fails
pub record IsUnread (desk : Telling) (j : Job) (file : File) : Type 0 where
  pub reached : IsReached desk j file
  pub fails : LoadFails desk j file

-- the file's turn comes, and it is longer than its limit
pub record IsTooLong (desk : Telling) (j : Job) (file : File) : Type 0 where
  pub reached : IsReached desk j file
  pub longer : IsLonger desk j file

-- what a refusal says of the desk
abbrev pub IsCauseIn : Telling → Job → Refusal → Type 0
IsCauseIn desk j (refusal.Model fault) = IsModelRefused desk j fault
IsCauseIn desk j (refusal.Part fault) = IsPartRefused desk j fault
IsCauseIn desk j (refusal.Split unsplit) = IsSplitRefused desk j unsplit
IsCauseIn desk j (refusal.Cert fault) = IsCertRefused desk j fault
IsCauseIn desk j (refusal.Check fault) = IsCheckRefused desk j fault
IsCauseIn desk j (refusal.Read file) = IsUnread desk j file
IsCauseIn desk j (refusal.TooLong file) = IsTooLong desk j file
IsCauseIn desk j refusal.Memory = Unit {0}

-- a refusal has its cause, where the desk tells what it holds and which calls fail
abbrev pub IsCause : Option Telling → Job → Refusal → Type 0
IsCause None j r = Unit {0}
IsCause (Some desk) j r = IsCauseIn desk j r

-- ---- how a job ends
-- a load that failed, the last one, raised the desk's count of faults, and any other end leaves it as it was
abbrev pub CountsFiles : {T : Type 0} → Result T Refusal → FaultCount → FaultCount → Type 0
CountsFiles (Ok _) before after = after.number ≡ before.number
CountsFiles (Err (refusal.Read _)) before after = HasRisen before after
CountsFiles (Err _) before after = after.number ≡ before.number

-- the same of a job that was refused
abbrev pub CountsRefused : Refusal → FaultCount → FaultCount → Type 0
CountsRefused r before after = CountsFiles {T = Said} (Err r) before after

-- The job comes to what its files show, and the text of that was taken, where the desk and the sink tell that.
pub record ShowsOf (told : Option Telling) (j : Job) (before after : Option (List ℕ)) : Type 0 where
  pub said : Said
  pub of_job : IsOfJob j said
  pub shown : Shown told j said
  pub printed : WhereTold (Takes (said_text said)) before after

-- The status is that of a refusal with its cause, and its text was taken, where the desk and the sink tell that.
pub record RefusesJob (told : Option Telling) (j : Job) (ends : Status) (before after : Option (List ℕ)) : Type 0 where
  pub refusal : Refusal
  pub status_is : ends ≡ status_of refusal
  pub cause : IsCause told j refusal
  pub printed : WhereTold (Takes (refusal_text j refusal)) before after

-- the text is that of what the files show, and no load failed
pub record SaysShown (told : Option Telling) (j : Job) (text : List ℕ) (faults now : FaultCount) : Type 0 where
  pub said : Said
  pub of_job : IsOfJob j said
  pub shown : Shown told j said
  pub text_is : text ≡ said_text said
  pub loads : now.number ≡ faults.number

-- the text is that of a refusal with its cause, and no load failed but the one that it tells of
pub record SaysRefusal (told : Option Telling) (j : Job) (text : List ℕ) (faults now : FaultCount) : Type 0 where
  pub refusal : Refusal
  pub cause : IsCause told j refusal
  pub text_is : text ≡ refusal_text j refusal
  pub loads : CountsRefused refusal faults now

-- the text is one that the job may end with, and the desk's count of faults is that of its loads
abbrev pub IsSaid : Option Telling → Job → List ℕ → FaultCount → FaultCount → Type 0
IsSaid told j text faults now = SaysShown told j text faults now ⊎ SaysRefusal told j text faults now

-- a prefix of the text that the job ends with was taken, where the sink tells that
pub record BreaksOff (told : Option Telling) (j : Job) (before after : Option (List ℕ)) (faults now : FaultCount) : Type 0 where
  pub text : List ℕ
  pub said : IsSaid told j text faults now
  pub printed : WhereTold (TakesPrefix text) before after

-- ---- what the desk settles
-- the three texts are read, and the certificate passes and fits
pub record IsProven (desk : Telling) (j : Job) : Type 0 where
  pub split : Decomposition
  pub accepted : IsAccepted desk j split
  pub certificate : Certificate
  pub reads : ReadsCertificate desk j certificate
  pub passes : Passes split.model split.part certificate
  pub fits : Fits split.model split.part certificate

-- all that the job asks for is there: a certificate that passes and fits, or a split
abbrev pub IsGranted : Telling → Job → Type 0
IsGranted desk (job.Check model part cert) = IsProven desk (job.Check model part cert)
IsGranted desk (job.Split model part) = (d : Decomposition) × IsAccepted desk (job.Split model part) d

-- The desk settles the status: the job's files give what it asks for, or the first of them that can't be read, is too long
-- or has a fault, or else the split or the check, gives a refusal. A status that depends on the sink or on memory is not
-- settled by it.
abbrev pub Settles : Telling → Job → Status → Type 0
Settles desk j status.Done = IsGranted desk j
Settles desk j status.Unresolved = ⊥
Settles desk j status.Usage = ⊥
Settles desk j status.Model = (f : MpsFault) × IsModelRefused desk j f
Settles desk j status.Part = ((f : FaultOfPart) × IsPartRefused desk j f) ⊎ ((u : Unsplit) × IsSplitRefused desk j u)
Settles desk j status.Read = (file : File) × IsUnread desk j file
Settles desk j status.Write = ⊥
Settles desk j status.Memory = ⊥
Settles desk j status.Cert = ((f : CertFault) × IsCertRefused desk j f) ⊎ ((f : CheckFault) × IsCheckRefused desk j f)
Settles desk j status.TooLong = (file : File) × IsTooLong desk j file

-- a status that no desk settles: a write failed, or there is no memory
abbrev pub IsCutShort : Status → Type 0
IsCutShort s = (s ≡ status.Write) ⊎ (s ≡ status.Memory)

-- where the desk tells what it holds and which calls fail, a job ends with the status that this settles, unless a write
-- failed or there is no memory
abbrev pub EndsSettled : Option Telling → Job → Status → Type 0
EndsSettled None j ends = Unit {0}
EndsSettled (Some desk) j ends = (settled : Status) → Settles desk j settled → (ends ≡ settled) ⊎ IsCutShort ends

-- ---- The same of the job that the words ask for.
pub record ShowsAsked (words : List (List ℕ)) (told : Option Telling) (before after : Option (List ℕ)) : Type 0 where
  pub job : Job
  pub asked : JobOf words job
  pub shows : ShowsOf told job before after

pub record RefusesAsked (words : List (List ℕ)) (told : Option Telling) (ends : Status) (before after : Option (List ℕ)) : Type 0 where
  pub job : Job
  pub asked : JobOf words job
  pub refuses : RefusesJob told job ends before after

pub record BreaksOffAsked (words : List (List ℕ)) (told : Option Telling) (before after : Option (List ℕ)) (faults now : FaultCount) : Type 0 where
  pub job : Job
  pub asked : JobOf words job
  pub breaks : BreaksOff told job before after faults now

-- the status is the one that the desk settles for the job of the words
abbrev pub EndsSettledAsked : List (List ℕ) → Option Telling → Status → Type 0
EndsSettledAsked words told ends = (j : Job) → JobOf words j → EndsSettled told j ends

-- a prefix of the usage line was taken, for words without a job
pub record BreaksOffUsage (words : List (List ℕ)) (before after : Option (List ℕ)) : Type 0 where
  pub jobless : IsJobless words
  pub printed : WhereTold (TakesPrefix usage_text) before after
