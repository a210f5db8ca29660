-- What the desk settles is the one end of a job that nothing breaks.
--
-- A job passes stages, one after another, and ends at the first that fails, or behind the last. So two ends of the same
-- desk are at the same stage.
use Rattle.std.proofs.Common.{◌≡◌, ◌⊎◌, inl, inr, ℕ, zero, suc, ◌<◌, List, length, Option, Some, None, refl, sym, subst, ap, ◌∙◌, arith}
use Rattle.std.specs.Prelude.{Bool, true, false, Result, Ok, Err}
use Rattle.std.specs.Option.{unwrap_or}
use Rattle.bz_algebra.proofs.Bounded.{by_lt, by_order}
use Rattle.bz_io.specs.Desk.{Telling}
use Rattle.bz_model.specs.declared.Model.{Model}
use Rattle.bz_model.specs.Splits.{Decomposition}
use Rattle.bz_model.specs.Strict.{IsStrict}
use Rattle.bz_facts.specs.declared.MpsFault.{MpsFault}
use Rattle.bz_mps.specs.FactModel.{ModelOf, MpsFaultOf}
use Rattle.bz_part.specs.declared.PartFault.{PartFault as FaultOfPart}
use Rattle.bz_part.specs.Partition.{PartFault, PartOf}
use Rattle.bz_split.specs.declared.SplitFault.{SplitFault}
use Rattle.bz_split.specs.declared.Unsplit.{Unsplit}
use Rattle.bz_split.specs.SplitFaults.{IsSplitFault}
use Rattle.bz_cert.specs.declared.CertFault.{CertFault}
use Rattle.bz_cert.specs.declared.Certificate.{Certificate}
use Rattle.bz_cert.specs.CertFaults.{IsCertFault}
use Rattle.bz_cert.specs.CertText.{IsCertText}
use Rattle.bz_judge.specs.declared.CheckFault.{CheckFault}
use Rattle.bz_check.specs.CheckTests.{IsCheckFault}
use Rattle.bz_cert.specs.Fits.{Fits}
use Rattle.bz_cert.specs.Passing.{Passes}
use Rattle.bz_model.specs.Decomposed.{IsDecomposed}
use Rattle.bz_top.specs.declared.job.Job.{Job}
use Rattle.bz_top.specs.declared.job.Job.TheVariants as job
use Rattle.bz_top.specs.declared.said.Holding.{Holding}
use Rattle.bz_top.specs.declared.status.File.{File}
use Rattle.bz_top.specs.declared.status.File.TheVariants.{Model as ModelFile, Part as PartFile, Cert as CertFile}
use Rattle.bz_top.specs.declared.status.Refusal.{Refusal}
use Rattle.bz_top.specs.declared.status.Refusal.TheVariants as refusal
use Rattle.bz_top.specs.declared.status.Status.{Status}
use Rattle.bz_top.specs.declared.status.Status.TheVariants as status
use Rattle.bz_top.specs.Claims.{EndsSettled, HasCert, HasNoCert, LoadFails, LoadsFile, IsAccepted, IsCause, IsCertRefused, IsCheckRefused, IsCutShort, IsGranted, IsLonger, IsModelRefused, IsPartRefused, IsProven, IsSplitRefused, IsReached, IsTooLong, IsUnread, ReadsCertificate, ReadsModel, ReadsPart, Settles, limit_of, load_of}
use Rattle.bz_top.specs.Ends.{name_of, status_after, status_of}
use Rattle.bz_top.specs.Loads.{Accepted, Decomposes, IsEarly, ShownHolding, ShownParts}

-- what a name holds is one text
one_text : (desk : Telling) (j : Job) (file : File) (t u : List ℕ) → LoadsFile desk j file t → LoadsFile desk j file u → t ≡ u
one_text desk j file t u h k = ap (λ (o : Option (List ℕ)). unwrap_or o t) (sym h.loaded.held ∙ k.loaded.held)

-- A text says one thing at most, and has no fault where it says something; a partition that is strict has no fault, nor has
-- a certificate that passes and fits.
pub record AreExclusive : Type 0 where
  pub model : (text : List ℕ) (m n : Model) → ModelOf text m → ModelOf text n → m ≡ n
  pub model_fault : (text : List ℕ) (m : Model) (f : MpsFault) → ModelOf text m → MpsFaultOf text f.line f.kind → ⊥
  pub part : (text : List ℕ) (m : Model) (p q : List ℕ) → PartOf text m p → PartOf text m q → p ≡ q
  pub part_fault : (text : List ℕ) (m : Model) (p : List ℕ) (f : FaultOfPart) → PartOf text m p → PartFault text m f.line f.kind → ⊥
  pub split : (m : Model) (p : List ℕ) (f : SplitFault) → IsStrict m p → IsSplitFault m p f → ⊥
  pub certificate : (text : List ℕ) (c d : Certificate) → IsCertText text c → IsCertText text d → c ≡ d
  pub text : (text : List ℕ) (c : Certificate) (f : CertFault) → IsCertText text c → IsCertFault text f.line f.kind → ⊥
  pub check : (d : Decomposition) (c : Certificate) (f : CheckFault) → IsDecomposed d.model d.part → IsCheckFault d.model d.part c f → Passes d.model d.part c → Fits d.model d.part c → ⊥

-- the load of the file gives a text within its limit
abbrev IsHeld : Telling → Job → File → Type 0
IsHeld desk j file = (text : List ℕ) × LoadsFile desk j file text

-- the stages of a certificate, behind those of the model and the partition; a split has none
abbrev PassedCert : Telling → Job → ℕ → Type 0
PassedCert desk (job.Split model part) k = ⊥
PassedCert desk (job.Check model part cert) zero = IsHeld desk (job.Check model part cert) CertFile
PassedCert desk (job.Check model part cert) (suc zero) = (c : Certificate) × ReadsCertificate desk (job.Check model part cert) c
PassedCert desk (job.Check model part cert) (suc (suc zero)) = IsProven desk (job.Check model part cert)
PassedCert desk (job.Check model part cert) (suc (suc (suc k))) = ⊥

-- the stage is passed
abbrev Passed : Telling → Job → ℕ → Type 0
Passed desk j zero = IsHeld desk j ModelFile
Passed desk j (suc zero) = (m : Model) × ReadsModel desk j m
Passed desk j (suc (suc zero)) = IsHeld desk j PartFile
Passed desk j (suc (suc (suc zero))) = (d : Decomposition) × ReadsPart desk j d
Passed desk j (suc (suc (suc (suc zero)))) = (d : Decomposition) × IsAccepted desk j d
Passed desk j (suc (suc (suc (suc (suc k))))) = PassedCert desk j k

-- the stage fails and those before it are passed
record EndsAt (desk : Telling) (j : Job) (k : ℕ) : Type 0 where
  before : (i : ℕ) → i < k → Passed desk j i
  fails : Passed desk j k → ⊥

-- the status of a file whose load doesn't give a text within its limit, by whether its call is one of those that fail, and
-- by what its name holds
abbrev load_status : Bool → Option (List ℕ) → Status
load_status true told = status.Read
load_status false None = status.Read
load_status false (Some text) = status.TooLong

abbrev file_status : Telling → Job → File → Status
file_status desk j file = load_status (desk.fails (load_of file)) (desk.contents (name_of j file))

-- the status of an end at a stage
abbrev cert_status : Telling → Job → ℕ → Status
cert_status desk (job.Split model part) k = status.Done
cert_status desk (job.Check model part cert) zero = file_status desk (job.Check model part cert) CertFile
cert_status desk (job.Check model part cert) (suc zero) = status.Cert
cert_status desk (job.Check model part cert) (suc (suc zero)) = status.Cert
cert_status desk (job.Check model part cert) (suc (suc (suc k))) = status.Done

abbrev status_at : Telling → Job → ℕ → Status
status_at desk j zero = file_status desk j ModelFile
status_at desk j (suc zero) = status.Model
status_at desk j (suc (suc zero)) = file_status desk j PartFile
status_at desk j (suc (suc (suc zero))) = status.Part
status_at desk j (suc (suc (suc (suc zero)))) = status.Part
status_at desk j (suc (suc (suc (suc (suc k))))) = cert_status desk j k

-- two ends are at one stage
same_stage : (desk : Telling) (j : Job) (i k : ℕ) → EndsAt desk j i → EndsAt desk j k → i ≡ k
same_stage desk j i k p q = by_order i k (λ b. absurd (p.fails (q.before i b))) (λ e. e) (λ b. absurd (q.fails (p.before k b)))

-- a file that is too long gives no text within its limit
not_held : (desk : Telling) (j : Job) (file : File) → IsLonger desk j file → IsHeld desk j file → ⊥
not_held desk j file long held =
    let same : Some long.text ≡ Some held.0 = sym long.loaded.held ∙ held.1.loaded.held in
    let more : limit_of file < length held.0 = subst (λ (o : Option (List ℕ)). limit_of file < length (unwrap_or o held.0)) same long.longer in
    let within = held.1.within in
    absurd (omega (arith, more, within))

longer_status : (desk : Telling) (j : Job) (file : File) → IsLonger desk j file → status.TooLong ≡ file_status desk j file
longer_status desk j file long = rw (long.loaded.well, long.loaded.held) refl

-- nor does one whose load fails
not_loaded : (desk : Telling) (j : Job) (file : File) → LoadFails desk j file → IsHeld desk j file → ⊥
not_loaded desk j file (inl fails) held = absurd (let e : true ≡ false = sym fails ∙ held.1.loaded.well in cc)
not_loaded desk j file (inr none) held = absurd (let e : None ≡ Some held.0 = sym none ∙ held.1.loaded.held in cc)

unread_status : (desk : Telling) (j : Job) (file : File) → LoadFails desk j file → status.Read ≡ file_status desk j file
unread_status desk j file (inl fails) = rw fails refl
unread_status desk j file (inr none) = rw none (either (desk.fails (load_of file)))
  where
    either : (b : Bool) → status.Read ≡ load_status b None
    either true = refl
    either false = refl

-- the stages before the turn of each file, and before the split
before_part : (desk : Telling) (j : Job) → (m : Model) × ReadsModel desk j m → (i : ℕ) → i < 2 → Passed desk j i
before_part desk j r zero b = (r.1.text, r.1.held)
before_part desk j r (suc zero) b = r
before_part desk j r (suc (suc i)) b = absurd (omega arith)

before_split : (desk : Telling) (j : Job) → (d : Decomposition) × ReadsPart desk j d → (i : ℕ) → i < 4 → Passed desk j i
before_split desk j a zero b = (a.1.model.text, a.1.model.held)
before_split desk j a (suc zero) b = (a.0.model, a.1.model)
before_split desk j a (suc (suc zero)) b = (a.1.text, a.1.held)
before_split desk j a (suc (suc (suc zero))) b = a
before_split desk j a (suc (suc (suc (suc i)))) b = absurd (omega arith)

before_cert : (desk : Telling) (j : Job) → (d : Decomposition) × IsAccepted desk j d → (i : ℕ) → i < 5 → Passed desk j i
before_cert desk j a i b = by_lt i 4 (before_split desk j (a.0, a.1.part) i) (λ l. let e : i ≡ 4 = omega (arith, l, b) in subst (λ (n : ℕ). Passed desk j n) (sym e) a)

-- one stage more
with_one : (desk : Telling) (j : Job) (k : ℕ) → ((i : ℕ) → i < k → Passed desk j i) → Passed desk j k → (i : ℕ) → i < suc k → Passed desk j i
with_one desk j k before here i b = by_lt i k (before i) (λ l. let e : i ≡ k = omega (arith, l, b) in subst (λ (n : ℕ). Passed desk j n) (sym e) here)

-- an end with its stage and its status
record HasStage (desk : Telling) (j : Job) (s : Status) : Type 0 where
  stage : ℕ
  ends : EndsAt desk j stage
  status_is : s ≡ status_at desk j stage

one_status : (desk : Telling) (j : Job) (s t : Status) → HasStage desk j s → HasStage desk j t → s ≡ t
one_status desk j s t p q = p.status_is ∙ ap (status_at desk j) (same_stage desk j p.stage q.stage p.ends q.ends) ∙ sym q.status_is

none_before : (desk : Telling) (j : Job) (i : ℕ) → i < 0 → Passed desk j i
none_before desk j i b = absurd (omega (arith, b))

-- the stage at which a file's load gives no text within its limit
abbrev load_stage : (desk : Telling) (j : Job) (file : File) (s : Status) → IsReached desk j file → (IsHeld desk j file → ⊥) → s ≡ file_status desk j file → HasStage desk j s
load_stage desk j ModelFile s reached fails is = record { stage = 0; ends = record { before = none_before desk j; fails = fails }; status_is = is }
load_stage desk j PartFile s reached fails is = record { stage = 2; ends = record { before = before_part desk j reached; fails = fails }; status_is = is }
load_stage desk (job.Split model part) CertFile s reached fails is = absurd reached.0
load_stage desk (job.Check model part cert) CertFile s reached fails is = record { stage = 5; ends = record { before = before_cert desk (job.Check model part cert) reached.1; fails = fails }; status_is = is }

abbrev too_long_stage : (desk : Telling) (j : Job) (file : File) → IsTooLong desk j file → HasStage desk j status.TooLong
too_long_stage desk j file out = load_stage desk j file status.TooLong out.reached (not_held desk j file out.longer) (longer_status desk j file out.longer)

abbrev unread_stage : (desk : Telling) (j : Job) (file : File) → IsUnread desk j file → HasStage desk j status.Read
unread_stage desk j file out = load_stage desk j file status.Read out.reached (not_loaded desk j file out.fails) (unread_status desk j file out.fails)

module _ (laws : AreExclusive) where
  -- the files give one thing
  one_model : (desk : Telling) (j : Job) (m n : Model) → ReadsModel desk j m → ReadsModel desk j n → m ≡ n
  one_model desk j m n h k =
      laws.model k.text m n (subst (λ (t : List ℕ). ModelOf t m) (one_text desk j ModelFile _ _ h.held k.held) h.reads) k.reads

  one_parting : (desk : Telling) (j : Job) (d e : Decomposition) → ReadsPart desk j d → ReadsPart desk j e → d ≡ e
  one_parting desk j d e h k =
      let same : d.model ≡ e.model = one_model desk j d.model e.model h.model k.model in
      let text : h.text ≡ k.text = one_text desk j PartFile _ _ h.held k.held in
      let moved : PartOf k.text e.model d.part =
      subst (λ (n : Model). PartOf k.text n d.part) same (subst (λ (t : List ℕ). PartOf t d.model d.part) text h.reads) in
      let part : d.part ≡ e.part = laws.part k.text e.model d.part e.part moved k.reads in
      ap (λ (m : Model). record { model = m; part = d.part }) same ∙ ap (λ (p : List ℕ). record { model = e.model; part = p }) part

  one_certificate : (desk : Telling) (j : Job) (c d : Certificate) → ReadsCertificate desk j c → ReadsCertificate desk j d → c ≡ d
  one_certificate desk j c d h k =
      laws.certificate k.text c d (subst (λ (t : List ℕ). IsCertText t c) (one_text desk j CertFile _ _ h.held k.held) h.reads) k.reads

  -- every accepted decomposition is the one that was made a split
  pub all_decomposed : (told : Option Telling) (j : Job) (s : Decomposition) → Accepted told j s → IsDecomposed s.model s.part → Decomposes told j
  all_decomposed None j s h decomposed = tt
  all_decomposed (Some desk) j s h decomposed = λ d also.
      subst (λ (e : Decomposition). IsDecomposed e.model e.part) (one_parting desk j s d h.part also.part) decomposed

  abbrev model_stage : (desk : Telling) (j : Job) (f : MpsFault) → IsModelRefused desk j f → HasStage desk j status.Model
  model_stage desk j f out = record {
    stage = 1;
    ends = record {
      before = with_one desk j 0 (none_before desk j) (out.text, out.held);
      fails = λ r. laws.model_fault out.text r.0 f (subst (λ (t : List ℕ). ModelOf t r.0) (one_text desk j ModelFile _ _ r.1.held out.held) r.1.reads) out.is_fault;
    };
    status_is = refl;
  }

  abbrev part_stage : (desk : Telling) (j : Job) (f : FaultOfPart) → IsPartRefused desk j f → HasStage desk j status.Part
  part_stage desk j f out = record {
    stage = 3;
    ends = record {
      before = with_one desk j 2 (before_part desk j (out.model, out.reached)) (out.text, out.held);
      fails = λ a.
          let same : a.0.model ≡ out.model = one_model desk j a.0.model out.model a.1.model out.reached in
          let text : PartOf out.text a.0.model a.0.part = subst (λ (t : List ℕ). PartOf t a.0.model a.0.part) (one_text desk j PartFile _ _ a.1.held out.held) a.1.reads in
          laws.part_fault out.text out.model a.0.part f (subst (λ (m : Model). PartOf out.text m a.0.part) same text) out.is_fault;
    };
    status_is = refl;
  }

  abbrev split_stage : (desk : Telling) (j : Job) (u : Unsplit) → IsSplitRefused desk j u → HasStage desk j status.Part
  split_stage desk j u out = record {
    stage = 4;
    ends = record {
      before = before_split desk j (_, out.reads);
      fails = λ a.
          let same : a.0 ≡ record { model = u.model; part = u.part } = one_parting desk j a.0 _ a.1.part out.reads in
          laws.split u.model u.part u.fault (subst (λ (d : Decomposition). IsStrict d.model d.part) same a.1.strict) out.is_fault;
    };
    status_is = refl;
  }

  cert_stage : (desk : Telling) (j : Job) (f : CertFault) → IsCertRefused desk j f → HasStage desk j status.Cert
  cert_stage desk (job.Split model part) f out = absurd out.reached.0
  cert_stage desk (job.Check model part cert) f out = record {
    stage = 6;
    ends = record {
      before = with_one desk (job.Check model part cert) 5 (before_cert desk (job.Check model part cert) out.reached.1) (out.text, out.held);
      fails = λ r. laws.text out.text r.0 f (subst (λ (t : List ℕ). IsCertText t r.0) (one_text desk (job.Check model part cert) CertFile _ _ r.1.held out.held) r.1.reads) out.is_fault;
    };
    status_is = refl;
  }

  refused_stage : (desk : Telling) (j : Job) (f : CheckFault) → Decomposes (Some desk) j → IsCheckRefused desk j f → HasStage desk j status.Cert
  refused_stage desk (job.Split model part) f decomposed r = absurd r.reads.asked
  refused_stage desk (job.Check model part cert) f decomposed r = record {
    stage = 7;
    ends = record {
      before = with_one desk (job.Check model part cert) 6
          (with_one desk (job.Check model part cert) 5 (before_cert desk (job.Check model part cert) (r.split, r.accepted)) (r.reads.text, r.reads.held))
          (r.certificate, r.reads);
      fails = λ p.
          let same : p.split ≡ r.split = one_parting desk (job.Check model part cert) p.split r.split p.accepted.part r.accepted.part in
          let same_cert : p.certificate ≡ r.certificate = one_certificate desk (job.Check model part cert) p.certificate r.certificate p.reads r.reads in
          let passes : Passes r.split.model r.split.part p.certificate = subst (λ (d : Decomposition). Passes d.model d.part p.certificate) same p.passes in
          let fits : Fits r.split.model r.split.part p.certificate = subst (λ (d : Decomposition). Fits d.model d.part p.certificate) same p.fits in
          laws.check r.split r.certificate f (decomposed r.split r.accepted) r.is_fault
          (subst (λ (c : Certificate). Passes r.split.model r.split.part c) same_cert passes)
          (subst (λ (c : Certificate). Fits r.split.model r.split.part c) same_cert fits);
    };
    status_is = refl;
  }

  granted_stage : (desk : Telling) (j : Job) → IsGranted desk j → HasStage desk j status.Done
  granted_stage desk (job.Split model part) a = record {
    stage = 5;
    ends = record { before = before_cert desk (job.Split model part) a; fails = λ bad. bad };
    status_is = refl;
  }
  granted_stage desk (job.Check model part cert) p = record {
    stage = 8;
    ends = record {
      before = with_one desk (job.Check model part cert) 7
          (with_one desk (job.Check model part cert) 6
          (with_one desk (job.Check model part cert) 5 (before_cert desk (job.Check model part cert) (p.split, p.accepted)) (p.reads.text, p.reads.held))
          (p.certificate, p.reads))
          p;
      fails = λ bad. bad;
    };
    status_is = refl;
  }

  settled_stage : (desk : Telling) (j : Job) (s : Status) → Decomposes (Some desk) j → Settles desk j s → HasStage desk j s
  settled_stage desk j status.Done decomposed h = granted_stage desk j h
  settled_stage desk j status.Unresolved decomposed h = absurd h
  settled_stage desk j status.Usage decomposed h = absurd h
  settled_stage desk j status.Model decomposed h = model_stage desk j h.0 h.1
  settled_stage desk j status.Part decomposed h = elim h [ inl out ↦ part_stage desk j out.0 out.1 | inr out ↦ split_stage desk j out.0 out.1 ]
  settled_stage desk j status.Read decomposed h = unread_stage desk j h.0 h.1
  settled_stage desk j status.Write decomposed h = absurd h
  settled_stage desk j status.Memory decomposed h = absurd h
  settled_stage desk j status.Cert decomposed h = elim h [ inl out ↦ cert_stage desk j out.0 out.1 | inr r ↦ refused_stage desk j r.0 decomposed r.1 ]
  settled_stage desk j status.TooLong decomposed h = too_long_stage desk j h.0 h.1

  -- an end with its stage: so no other status is settled
  at_stage : (desk : Telling) (j : Job) (t : Status) → Decomposes (Some desk) j → HasStage desk j t → EndsSettled (Some desk) j t
  at_stage desk j t decomposed stage = λ s h. inl (one_status desk j t s stage (settled_stage desk j s decomposed h))

  -- an end before the model and the partition are accepted: nothing is accepted
  early_stage : (desk : Telling) (j : Job) (t : Status) (stage : HasStage desk j t) → stage.stage < 5 → EndsSettled (Some desk) j t
  early_stage desk j t stage early = at_stage desk j t (λ d a. absurd (stage.ends.fails (before_cert desk j (d, a) stage.stage early))) stage

  -- the files show a verdict, or a split: so no other status is settled
  pub holding_settled : (told : Option Telling) (j : Job) (holding : Holding) → HasCert j → Decomposes told j → ShownHolding told j holding → EndsSettled told j status.Done
  holding_settled None j holding asked decomposed shown = tt
  holding_settled (Some desk) (job.Split model part) holding asked decomposed shown = absurd asked
  holding_settled (Some desk) (job.Check model part cert) holding asked decomposed shown = at_stage desk (job.Check model part cert) status.Done decomposed
      (granted_stage desk (job.Check model part cert) (record {
        split = shown.split;
        accepted = shown.accepted;
        certificate = shown.certificate;
        reads = shown.reads;
        passes = shown.passes;
        fits = shown.fits;
      }))

  pub parts_settled : (told : Option Telling) (j : Job) (d : Decomposition) → HasNoCert j → Decomposes told j → ShownParts told j d → EndsSettled told j status.Done
  parts_settled None j d asked decomposed shown = tt
  parts_settled (Some desk) (job.Check model part cert) d asked decomposed shown = absurd asked
  parts_settled (Some desk) (job.Split model part) d asked decomposed shown = at_stage desk (job.Split model part) status.Done decomposed
      (granted_stage desk (job.Split model part) (d, shown.accepted))

  -- a refusal with its cause: so no other status is settled
  pub refusal_settled : (told : Option Telling) (j : Job) (r : Refusal) → IsEarly r ⊎ Decomposes told j → IsCause told j r → EndsSettled told j (status_of r)
  refusal_settled None j r end cause = tt
  refusal_settled (Some desk) j (refusal.Model f) end cause = early_stage desk j status.Model (model_stage desk j f cause) (omega arith)
  refusal_settled (Some desk) j (refusal.Part f) end cause = early_stage desk j status.Part (part_stage desk j f cause) (omega arith)
  refusal_settled (Some desk) j (refusal.Split u) end cause = early_stage desk j status.Part (split_stage desk j u cause) (omega arith)
  refusal_settled (Some desk) j (refusal.Cert f) (inl early) cause = absurd early
  refusal_settled (Some desk) j (refusal.Cert f) (inr decomposed) cause = at_stage desk j status.Cert decomposed (cert_stage desk j f cause)
  refusal_settled (Some desk) j (refusal.Check f) (inl early) cause = absurd early
  refusal_settled (Some desk) j (refusal.Check f) (inr decomposed) cause = at_stage desk j status.Cert decomposed (refused_stage desk j f decomposed cause)
  refusal_settled (Some desk) j (refusal.Read ModelFile) end cause = early_stage desk j status.Read (unread_stage desk j ModelFile cause) (omega arith)
  refusal_settled (Some desk) j (refusal.Read PartFile) end cause = early_stage desk j status.Read (unread_stage desk j PartFile cause) (omega arith)
  refusal_settled (Some desk) j (refusal.Read CertFile) (inl early) cause = absurd early
  refusal_settled (Some desk) j (refusal.Read CertFile) (inr decomposed) cause = at_stage desk j status.Read decomposed (unread_stage desk j CertFile cause)
  refusal_settled (Some desk) j (refusal.TooLong ModelFile) end cause = early_stage desk j status.TooLong (too_long_stage desk j ModelFile cause) (omega arith)
  refusal_settled (Some desk) j (refusal.TooLong PartFile) end cause = early_stage desk j status.TooLong (too_long_stage desk j PartFile cause) (omega arith)
  refusal_settled (Some desk) j (refusal.TooLong CertFile) (inl early) cause = absurd early
  refusal_settled (Some desk) j (refusal.TooLong CertFile) (inr decomposed) cause = at_stage desk j status.TooLong decomposed (too_long_stage desk j CertFile cause)
  refusal_settled (Some desk) j refusal.Memory end cause = λ s h. inr (inr refl)

broken_of : (told : Option Telling) (j : Job) (ends : Status) → IsCutShort ends → EndsSettled told j ends
broken_of None j ends b = tt
broken_of (Some desk) j ends b = λ s h. inr b

-- a write that failed settles nothing, nor does want of memory
pub write_settled : (told : Option Telling) (j : Job) → EndsSettled told j status.Write
write_settled told j = broken_of told j status.Write (inl refl)

pub memory_settled : (told : Option Telling) (j : Job) → EndsSettled told j status.Memory
memory_settled told j = broken_of told j status.Memory (inr refl)

-- the status after the last text settles no more than it did before
pub after_settled : {T E : Type 0} (put : Result T E) (told : Option Telling) (j : Job) (s : Status) → EndsSettled told j s → EndsSettled told j (status_after put s)
after_settled (Ok _) told j s h = h
after_settled (Err _) told j s h = write_settled told j
