-- What loads give and why they refuse, in terms of the contents of the desk.
use Rattle.std.proofs.Common.{◌≡◌, ◌⊎◌, inl, inr, ℕ, ◌<◌, ◌≤◌, Bool, true, false, List, length, Option, Some, None, Vec, Global, ap, refl, subst, sym, ◌∙◌, arith}
use Rattle.std.specs.Prelude.{Result, Ok, Err, IsErrAnd, IfErr, IfOk, OnOk, ◌+◌}
use Rattle.bz_io.specs.declared.desk.LoadError.{LoadError}
use Rattle.bz_io.specs.declared.desk.LoadError.TheVariants.{Failed, TooLong}
use Rattle.bz_io.specs.Desk.{IsAfterLoads, IsSame, Loads, LoadsText, Telling}
use Rattle.bz_io.specs.Told.{IfTold, KeepsTelling, WhereTold}
use Rattle.bz_model.specs.declared.Model.{Model}
use Rattle.bz_model.specs.Splits.{Decomposition, IsSplit}
use Rattle.bz_model.specs.Strict.{IsStrict}
use Rattle.bz_facts.specs.declared.MpsFault.{MpsFault}
use Rattle.bz_mps.specs.FactModel.{ModelOf, MpsFaultOf}
use Rattle.bz_part.specs.declared.PartFault.{PartFault as FaultOfPart}
use Rattle.bz_part.specs.Partition.{PartFault, PartOf}
use Rattle.bz_split.specs.declared.Unsplit.{Unsplit}
use Rattle.bz_split.specs.SplitFaults.{IsSplitFault}
use Rattle.bz_cert.specs.declared.CertFault.{CertFault}
use Rattle.bz_cert.specs.declared.Certificate.{Certificate}
use Rattle.bz_cert.specs.CertFaults.{IsCertFault}
use Rattle.bz_cert.specs.CertText.{IsCertText}
use Rattle.bz_top.specs.declared.job.Job.{Job}
use Rattle.bz_top.specs.declared.status.File.{File}
use Rattle.bz_top.specs.declared.status.File.TheVariants.{Model as ModelFile, Part as PartFile, Cert as CertFile}
use Rattle.bz_top.specs.declared.status.Refusal.{Refusal}
use Rattle.bz_top.specs.declared.status.Refusal.TheVariants as refusal
use Rattle.bz_top.specs.Claims.{HasCert, HasNoCert, LoadsFile, IsCause, IsTooLong, IsUnread, ReadsPart, limit_of, load_of}
use Rattle.bz_top.specs.Ends.{name_of}
use Rattle.bz_top.specs.Loads.{Accepted, AnswersFile, Certified, IsEarly, Modelled, Parted, Reached, RefusesCheck, RefusesFile, ShownParts, Splits}

-- ---- what the desk told at first, and tells after some loads
pub at_first : (told : Option Telling) → WhereTold (IsAfterLoads 0) told told
at_first None = tt
at_first (Some desk) = record { same = λ name. refl; later = λ n. ap desk.fails (omega arith) }

pub after_both : (k n : ℕ) (a b c : Option Telling) → KeepsTelling (IsAfterLoads k) a b → KeepsTelling (IsAfterLoads n) b c → KeepsTelling (IsAfterLoads (k + n)) a c
after_both k n None None None p q = tt
after_both k n None None (Some z) p q = absurd q
after_both k n None (Some y) c p q = absurd p
after_both k n (Some x) None c p q = absurd p
after_both k n (Some x) (Some y) None p q = absurd q
after_both k n (Some x) (Some y) (Some z) p q = record {
  same = λ name. q.same name ∙ p.same name;
  later = λ i. q.later i ∙ p.later (n + i) ∙ ap x.fails (omega arith);
}

-- what a desk told at first, that it goes on telling
pub where_told : (n : ℕ) (a b : Option Telling) → KeepsTelling (IsAfterLoads n) a b → WhereTold (IsAfterLoads n) a b
where_told n None b p = tt
where_told n (Some x) None p = absurd p
where_told n (Some x) (Some y) p = p

-- names that stay
pub same_after : (n : ℕ) (a b : Option Telling) → KeepsTelling (IsAfterLoads n) a b → KeepsTelling IsSame a b
same_after n None None p = tt
same_after n None (Some y) p = absurd p
same_after n (Some x) None p = absurd p
same_after n (Some x) (Some y) p = p.same

pub same_then : (a b c : Option Telling) → KeepsTelling IsSame a b → KeepsTelling IsSame b c → KeepsTelling IsSame a c
same_then None None None p q = tt
same_then None None (Some z) p q = absurd q
same_then None (Some y) c p q = absurd p
same_then (Some x) None c p q = absurd p
same_then (Some x) (Some y) None p q = absurd q
same_then (Some x) (Some y) (Some z) p q = λ name. q name ∙ p name

-- what a load answers, in terms of what the desk told at first
loads_first : (k : ℕ) (told now : Option Telling) (name : List ℕ) (limit : ℕ) (answer : Result (Vec ℕ Global) LoadError) → WhereTold (IsAfterLoads k) told now → IfTold now (λ desk. Loads desk name limit answer)
    → IfTold told (λ desk. LoadsText (desk.fails k) (desk.contents name) limit answer)
loads_first k None now name limit answer p loads = tt
loads_first k (Some desk) None name limit answer p loads = absurd p
loads_first k (Some desk) (Some now) name limit answer p loads =
    let call : now.fails 0 ≡ desk.fails k = p.later 0 ∙ ap desk.fails (omega arith) in
    subst (λ (b : Bool). LoadsText b (desk.contents name) limit answer) call
    (subst (λ (o : Option (List ℕ)). LoadsText (now.fails 0) o limit answer) (p.same name) loads)

-- what each answer says of the call and of the text
text_ok : (fails : Bool) (held : Option (List ℕ)) (limit : ℕ) (bytes : Vec ℕ Global) → LoadsText fails held limit (Ok bytes) → (fails ≡ false) × (held ≡ Some bytes.items) × (length bytes.items ≤ limit)
text_ok true held limit bytes h = absurd cc
text_ok false None limit bytes h = absurd cc
text_ok false (Some text) limit bytes h = (refl, ap Some (sym h.0), rw h.0 h.1)

text_failed : (fails : Bool) (held : Option (List ℕ)) (limit : ℕ) → LoadsText fails held limit (Err Failed) → (fails ≡ true) ⊎ (held ≡ None)
text_failed true held limit h = inl refl
text_failed false None limit h = inr refl
text_failed false (Some text) limit h = absurd h

text_longer : (fails : Bool) (held : Option (List ℕ)) (limit : ℕ) → LoadsText fails held limit (Err TooLong) → (text : List ℕ) × (fails ≡ false) × (held ≡ Some text) × (limit < length text)
text_longer true held limit h = absurd cc
text_longer false None limit h = absurd cc
text_longer false (Some text) limit h = (text, refl, refl, h)

-- what a load of the file answers
pub file_given : (told now : Option Telling) (j : Job) (file : File) (bytes : Vec ℕ Global) → WhereTold (IsAfterLoads (load_of file)) told now → IfTold now (λ desk. Loads desk (name_of j file) (limit_of file) (Ok bytes)) → AnswersFile told j file (Ok bytes)
file_given None now j file bytes p loads = tt
file_given (Some desk) now j file bytes p loads =
    let h = text_ok _ _ _ _ (loads_first (load_of file) (Some desk) now (name_of j file) (limit_of file) (Ok bytes) p loads) in
    record { loaded = record { well = h.0; held = h.1 }; within = h.2 }

pub file_unread : (told now : Option Telling) (j : Job) (file : File) → WhereTold (IsAfterLoads (load_of file)) told now → IfTold now (λ desk. Loads desk (name_of j file) (limit_of file) (Err Failed)) → AnswersFile told j file (Err (refusal.Read file))
file_unread None now j file p loads = (refl, tt)
file_unread (Some desk) now j file p loads = (refl, text_failed _ _ _ (loads_first (load_of file) (Some desk) now (name_of j file) (limit_of file) (Err Failed) p loads))

pub file_longer : (told now : Option Telling) (j : Job) (file : File) → WhereTold (IsAfterLoads (load_of file)) told now → IfTold now (λ desk. Loads desk (name_of j file) (limit_of file) (Err TooLong)) → AnswersFile told j file (Err (refusal.TooLong file))
file_longer None now j file p loads = (refl, tt)
file_longer (Some desk) now j file p loads =
    let h = text_longer _ _ _ (loads_first (load_of file) (Some desk) now (name_of j file) (limit_of file) (Err TooLong) p loads) in
    (refl, record { text = h.0; loaded = record { well = h.1; held = h.2 }; longer = h.3 })

-- ---- why a load refuses
-- want of memory needs no cause
pub memory_cause : (told : Option Telling) (j : Job) → IsCause told j refusal.Memory
memory_cause None j = tt
memory_cause (Some desk) j = tt

-- a load's refusal has its cause
pub load_cause : (told : Option Telling) (j : Job) (file : File) (r : Refusal) → Reached told j file → RefusesFile told j file r → IsCause told j r
load_cause None j file r reached h = tt
load_cause (Some desk) j file (refusal.Model _) reached h = absurd h
load_cause (Some desk) j file (refusal.Part _) reached h = absurd h
load_cause (Some desk) j file (refusal.Split _) reached h = absurd h
load_cause (Some desk) j file (refusal.Cert _) reached h = absurd h
load_cause (Some desk) j file (refusal.Check _) reached h = absurd h
load_cause (Some desk) j file (refusal.Read f) reached h = subst (λ (g : File). IsUnread desk j g) (sym h.0) (record { reached = reached; fails = h.1 })
load_cause (Some desk) j file (refusal.TooLong f) reached h = subst (λ (g : File). IsTooLong desk j g) (sym h.0) (record { reached = reached; longer = h.1 })
load_cause (Some desk) j file refusal.Memory reached h = tt

-- a refusal of the model's or the partition's load comes early
pub model_early : (told : Option Telling) (j : Job) (r : Refusal) → RefusesFile told j ModelFile r → IsEarly r
model_early told j (refusal.Model _) h = tt
model_early told j (refusal.Part _) h = tt
model_early told j (refusal.Split _) h = tt
model_early told j (refusal.Cert _) h = absurd h
model_early told j (refusal.Check _) h = absurd h
model_early told j (refusal.Read f) h = subst (λ (g : File). IsEarly (refusal.Read g)) (sym h.0) tt
model_early told j (refusal.TooLong f) h = subst (λ (g : File). IsEarly (refusal.TooLong g)) (sym h.0) tt
model_early told j refusal.Memory h = tt

pub part_early : (told : Option Telling) (j : Job) (r : Refusal) → RefusesFile told j PartFile r → IsEarly r
part_early told j (refusal.Model _) h = tt
part_early told j (refusal.Part _) h = tt
part_early told j (refusal.Split _) h = tt
part_early told j (refusal.Cert _) h = absurd h
part_early told j (refusal.Check _) h = absurd h
part_early told j (refusal.Read f) h = subst (λ (g : File). IsEarly (refusal.Read g)) (sym h.0) tt
part_early told j (refusal.TooLong f) h = subst (λ (g : File). IsEarly (refusal.TooLong g)) (sym h.0) tt
part_early told j refusal.Memory h = tt

-- ---- what a text gives
pub model_reached : (told : Option Telling) (j : Job) → Reached told j ModelFile
model_reached None j = tt
model_reached (Some desk) j = tt

pub part_reached : (told : Option Telling) (j : Job) (m : Model) → Modelled told j m → Reached told j PartFile
part_reached None j m h = tt
part_reached (Some desk) j m h = (m, h)

pub cert_reached : (told : Option Telling) (j : Job) (d : Decomposition) → HasCert j → Accepted told j d → Reached told j CertFile
cert_reached None j d asked h = tt
cert_reached (Some desk) j d asked h = (asked, (d, h))

pub modelled : (told : Option Telling) (j : Job) (text : List ℕ) (m : Model) → IfTold told (λ desk. LoadsFile desk j ModelFile text) → ModelOf text m → Modelled told j m
modelled None j text m holds reads = tt
modelled (Some desk) j text m holds reads = record { text = text; held = holds; reads = reads }

pub model_refused : (told : Option Telling) (j : Job) (text : List ℕ) (f : MpsFault) → IfTold told (λ desk. LoadsFile desk j ModelFile text) → MpsFaultOf text f.line f.kind → IsCause told j (refusal.Model f)
model_refused None j text f holds is = tt
model_refused (Some desk) j text f holds is = record { text = text; held = holds; is_fault = is }

pub parted : (told : Option Telling) (j : Job) (text : List ℕ) (m : Model) (part : List ℕ) → Modelled told j m → IfTold told (λ desk. LoadsFile desk j PartFile text) → PartOf text m part → Parted told j (record { model = m; part = part })
parted None j text m part model holds reads = tt
parted (Some desk) j text m part model holds reads = record { model = model; text = text; held = holds; reads = reads }

pub part_refused : (told : Option Telling) (j : Job) (text : List ℕ) (m : Model) (f : FaultOfPart) → Modelled told j m → IfTold told (λ desk. LoadsFile desk j PartFile text) → PartFault text m f.line f.kind → IsCause told j (refusal.Part f)
part_refused None j text m f model holds is = tt
part_refused (Some desk) j text m f model holds is = record { model = m; reached = model; text = text; held = holds; is_fault = is }

pub certified : (told : Option Telling) (j : Job) (text : List ℕ) (c : Certificate) → HasCert j → IfTold told (λ desk. LoadsFile desk j CertFile text) → IsCertText text c → Certified told j c
certified None j text c asked holds reads = tt
certified (Some desk) j text c asked holds reads = record { asked = asked; text = text; held = holds; reads = reads }

pub cert_refused : (told : Option Telling) (j : Job) (text : List ℕ) (f : CertFault) → Reached told j CertFile → IfTold told (λ desk. LoadsFile desk j CertFile text) → IsCertFault text f.line f.kind → IsCause told j (refusal.Cert f)
cert_refused None j text f reached holds is = tt
cert_refused (Some desk) j text f reached holds is = record { reached = reached; text = text; held = holds; is_fault = is }

-- ---- the split
pub accepted : (told : Option Telling) (j : Job) (d : Decomposition) → Parted told j d → IsStrict d.model d.part → Accepted told j d
accepted None j d h strict = tt
accepted (Some desk) j d h strict = record { part = h; strict = strict }

same_parts : (u : Unsplit) (d : Decomposition) → u.model ≡ d.model → u.part ≡ d.part → record { model = u.model; part = u.part } ≡ d
same_parts u d em ep = ap (λ (m : Model). record { model = m; part = u.part }) em ∙ ap (λ (p : List ℕ). record { model = d.model; part = p }) ep

pub split_refused : (told : Option Telling) (j : Job) (d : Decomposition) (r : Refusal) → Parted told j d → Splits d (Err r) → IsCause told j r
split_refused None j d r h s = tt
split_refused (Some desk) j d (refusal.Model _) h s = absurd s
split_refused (Some desk) j d (refusal.Part _) h s = absurd s
split_refused (Some desk) j d (refusal.Split u) h s = record {
  reads = subst (λ (e : Decomposition). ReadsPart desk j e) (sym (same_parts u d s.0 s.1)) h;
  is_fault = subst (λ (m : Model). IsSplitFault m u.part u.fault) (sym s.0) (subst (λ (p : List ℕ). IsSplitFault d.model p u.fault) (sym s.1) s.2);
}
split_refused (Some desk) j d (refusal.Cert _) h s = absurd s
split_refused (Some desk) j d (refusal.Check _) h s = absurd s
split_refused (Some desk) j d (refusal.Read _) h s = absurd s
split_refused (Some desk) j d (refusal.TooLong _) h s = absurd s
split_refused (Some desk) j d refusal.Memory h s = tt

pub split_early : (d : Decomposition) (r : Refusal) → Splits d (Err r) → IsEarly r
split_early d (refusal.Model _) s = tt
split_early d (refusal.Part _) s = tt
split_early d (refusal.Split u) s = tt
split_early d (refusal.Cert _) s = absurd s
split_early d (refusal.Check _) s = absurd s
split_early d (refusal.Read _) s = absurd s
split_early d (refusal.TooLong f) s = absurd s
split_early d refusal.Memory s = tt

-- the refusal of a check has its cause
pub check_refused : (told : Option Telling) (j : Job) (d : Decomposition) (c : Certificate) (r : Refusal) → Accepted told j d → Certified told j c → RefusesCheck d c r → IsCause told j r
check_refused None j d c r agreed read h = tt
check_refused (Some desk) j d c (refusal.Model _) agreed read h = absurd h
check_refused (Some desk) j d c (refusal.Part _) agreed read h = absurd h
check_refused (Some desk) j d c (refusal.Split _) agreed read h = absurd h
check_refused (Some desk) j d c (refusal.Cert _) agreed read h = absurd h
check_refused (Some desk) j d c (refusal.Check f) agreed read h = record { split = d; accepted = agreed; certificate = c; reads = read; is_fault = h }
check_refused (Some desk) j d c (refusal.Read _) agreed read h = absurd h
check_refused (Some desk) j d c (refusal.TooLong _) agreed read h = absurd h
check_refused (Some desk) j d c refusal.Memory agreed read h = tt

-- a split that was made of what the files give
pub split_accepted : (told : Option Telling) (j : Job) (d s : Decomposition) → Parted told j d → s ≡ d → IsSplit s → Accepted told j s
split_accepted None j d s h e split = tt
split_accepted (Some desk) j d s h e split = record { part = subst (λ (a : Decomposition). ReadsPart desk j a) (sym e) h; strict = split.strict }

pub parts_shown : (told : Option Telling) (j : Job) (s : Decomposition) → HasNoCert j → Accepted told j s → ShownParts told j s
parts_shown None j s asked h = tt
parts_shown (Some desk) j s asked h = record { asked = asked; accepted = h }

-- ---- results
-- what holds of the one error of a call holds of its error
pub if_err_and : {T E : Type 0} {P Q : E → Type 0} (r : Result T E) → IsErrAnd r P → ((e : E) → P e → Q e) → IfErr r Q
if_err_and (Ok _) h f = tt
if_err_and (Err e) h f = f e h

-- what follows of each error of a call
pub if_err_then : {T E : Type 0} {P Q : E → Type 0} (r : Result T E) → ((e : E) → P e → Q e) → IfErr r P → IfErr r Q
if_err_then (Ok _) f h = tt
if_err_then (Err e) f h = f e h

-- what follows of each value of a call from four facts
pub if_ok_then : {T E : Type 0} {P1 P2 P3 P4 Q : T → Type 0} (r : Result T E) → ((x : T) → P1 x → P2 x → P3 x → P4 x → Q x) → IfOk r P1 → IfOk r P2 → IfOk r P3 → IfOk r P4 → IfOk r Q
if_ok_then (Ok x) f h1 h2 h3 h4 = f x h1 h2 h3 h4
if_ok_then (Err _) f h1 h2 h3 h4 = tt

-- a fact that holds anyway
pub if_ok_too : {T E : Type 0} {P : Type 0} (r : Result T E) → P → OnOk r P
if_ok_too (Ok _) p = p
if_ok_too (Err _) p = tt
