-- What the parts of a job answer: its loads, its split and its check.
use Rattle.std.specs.Prelude.{ℕ, ◌≡◌, ◌⊎◌, ◌+◌, length, Option, Some, None, Result, Ok, Err, Vec}
use Rattle.std.specs.declared.alloc.Global.{Global}
use Rattle.bz_algebra.specs.Fractions.{IsSameNumber}
use Rattle.bz_io.specs.Desk.{IsAfterLoads, Telling}
use Rattle.bz_io.specs.Told.{IfTold, WhereTold}
use Rattle.bz_model.specs.declared.Model.{Model}
use Rattle.bz_model.specs.declared.Parts.{Parts}
use Rattle.bz_model.specs.Parting.{blocks_of}
use Rattle.bz_model.specs.Splits.{Decomposition, IsSplit}
use Rattle.bz_split.specs.SplitFaults.{IsSplitFault}
use Rattle.bz_cert.specs.declared.Certificate.{Certificate}
use Rattle.bz_cert.specs.declared.Verdict.TheVariants as verdict
use Rattle.bz_check.specs.CheckTests.{IsCheckFault}
use Rattle.bz_model.specs.Stated.{IsReduced, stated_fraction, objective_of}
use Rattle.bz_model.specs.Decomposed.{IsDecomposed}
use Rattle.bz_top.specs.declared.job.Job.{Job}
use Rattle.bz_top.specs.declared.said.Holding.{Holding}
use Rattle.bz_top.specs.declared.said.Holding.TheVariants.{Optimal, Infeasible, Unbounded}
use Rattle.bz_top.specs.declared.said.Said.{Said}
use Rattle.bz_top.specs.declared.status.File.{File}
use Rattle.bz_top.specs.declared.status.File.TheVariants.{Model as ModelFile, Part as PartFile, Cert as CertFile}
use Rattle.bz_top.specs.declared.status.Refusal.{Refusal}
use Rattle.bz_top.specs.declared.status.Refusal.TheVariants as refusal
use Rattle.bz_top.specs.Claims.{IsAccepted, IsLonger, LoadFails, LoadsFile, IsReached, ReadsCertificate, ReadsModel, ReadsPart, ShowsParts, ShowsVerdict}

-- so it is for what the desk told at first, so many loads ago
abbrev pub SinceFirst : ℕ → Option Telling → (Option Telling → Type 0) → Type 0
SinceFirst loads now P = (told : Option Telling) → WhereTold (IsAfterLoads loads) told now → P told

-- what the files give, where the desk tells what it holds

abbrev pub Modelled : Option Telling → Job → Model → Type 0
Modelled None j m = Unit {0}
Modelled (Some desk) j m = ReadsModel desk j m

abbrev pub Parted : Option Telling → Job → Decomposition → Type 0
Parted None j d = Unit {0}
Parted (Some desk) j d = ReadsPart desk j d

abbrev pub Accepted : Option Telling → Job → Decomposition → Type 0
Accepted None j d = Unit {0}
Accepted (Some desk) j d = IsAccepted desk j d

abbrev pub Certified : Option Telling → Job → Certificate → Type 0
Certified None j c = Unit {0}
Certified (Some desk) j c = ReadsCertificate desk j c

-- the file's turn comes
abbrev pub Reached : Option Telling → Job → File → Type 0
Reached None j file = Unit {0}
Reached (Some desk) j file = IsReached desk j file

-- a load of the file may end with the refusal: it fails, or the file is longer than its limit, where that is said
abbrev pub RefusesFile : Option Telling → Job → File → Refusal → Type 0
RefusesFile told j file (refusal.Read f) = (f ≡ file) × IfTold told (λ desk. LoadFails desk j file)
RefusesFile told j file (refusal.TooLong f) = (f ≡ file) × IfTold told (λ desk. IsLonger desk j file)
RefusesFile told j file refusal.Memory = Unit {0}
RefusesFile told j file _ = ⊥

-- a load of the file gives its text, or is refused
abbrev pub AnswersFile : Option Telling → Job → File → Result (Vec ℕ Global) Refusal → Type 0
AnswersFile told j file (Ok bytes) = IfTold told (λ desk. LoadsFile desk j file bytes.items)
AnswersFile told j file (Err r) = RefusesFile told j file r

-- a check of the certificate may end with the refusal: the fault that it tells is the first one
abbrev pub RefusesCheck : Decomposition → Certificate → Refusal → Type 0
RefusesCheck d c (refusal.Check fault) = IsCheckFault d.model d.part c fault
RefusesCheck d c refusal.Memory = Unit {0}
RefusesCheck d c _ = ⊥

-- what a certificate that passes and fits says, with the objective that it states in lowest terms
abbrev pub Says : Decomposition → Certificate → Holding → Type 0
Says d c (Optimal stated) = (c.verdict ≡ verdict.Optimal) × ((parts : Parts) × (c.parts ≡ Some parts)
    × IsSameNumber (stated_fraction stated) (objective_of d.model c.value parts.master.den) × IsReduced (stated_fraction stated))
Says d c Infeasible = c.verdict ≡ verdict.Infeasible
Says d c Unbounded = c.verdict ≡ verdict.Unbounded

-- every partition that the job's files give fits the model: the columns of its rows are there, and so are the blocks
abbrev pub Decomposes : Option Telling → Job → Type 0
Decomposes None j = Unit {0}
Decomposes (Some desk) j = (d : Decomposition) → IsAccepted desk j d → IsDecomposed d.model d.part

-- a refusal before the model and the partition are accepted
abbrev pub IsEarly : Refusal → Type 0
IsEarly (refusal.Model _) = Unit {0}
IsEarly (refusal.Part _) = Unit {0}
IsEarly (refusal.Split _) = Unit {0}
IsEarly (refusal.Cert _) = ⊥
IsEarly (refusal.Check _) = ⊥
IsEarly (refusal.Read ModelFile) = Unit {0}
IsEarly (refusal.Read PartFile) = Unit {0}
IsEarly (refusal.Read CertFile) = ⊥
IsEarly (refusal.TooLong ModelFile) = Unit {0}
IsEarly (refusal.TooLong PartFile) = Unit {0}
IsEarly (refusal.TooLong CertFile) = ⊥
IsEarly refusal.Memory = Unit {0}

-- the end is a refusal before the model and the partition are accepted, or what was accepted is a decomposition
abbrev pub EndsDecomposed : {T : Type 0} → Option Telling → Job → Result T Refusal → Type 0
EndsDecomposed told j (Ok _) = Decomposes told j
EndsDecomposed told j (Err r) = IsEarly r ⊎ Decomposes told j

-- the split of a model by a partition that is strict, or why there is none
abbrev pub Splits : Decomposition → Result Decomposition Refusal → Type 0
Splits d (Ok s) = (s ≡ d) × IsSplit s
Splits d (Err (refusal.Split u)) = (u.model ≡ d.model) × (u.part ≡ d.part) × IsSplitFault d.model d.part u.fault
Splits d (Err refusal.Memory) = Unit {0}
Splits d (Err _) = ⊥

-- what the certificate says is what the files show, where the desk tells what it holds
abbrev pub ShownHolding : Option Telling → Job → Holding → Type 0
ShownHolding None j holding = Unit {0}
ShownHolding (Some desk) j holding = ShowsVerdict desk j holding

-- the same of the parts of a split
abbrev pub ShownParts : Option Telling → Job → Decomposition → Type 0
ShownParts None j d = Unit {0}
ShownParts (Some desk) j d = ShowsParts desk j d

-- the parts are those of a split, and there is a number of rows for each
abbrev pub IsWhole : Said → Type 0
IsWhole (Said.Holds holding) = Unit {0}
IsWhole (Said.Parts d rows) = IsSplit d × (length rows ≡ blocks_of d.part + 1)
