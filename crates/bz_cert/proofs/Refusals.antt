-- What is refused because a part of it is refused.
use Rattle.std.proofs.Common.{◌≡◌, ℕ, Result, Ok, Err, sym, subst}
use Rattle.std.specs.Prelude.{IsErrAnd}
use Rattle.bz_cert.specs.CertReading.{Answers, StopsAs}
use Rattle.bz_cert.specs.declared.faults.CertKind.{CertKind}
use Rattle.bz_cert.specs.declared.faults.CertStop.{CertStop}

-- a stop that names a line and a kind
pub faulted : (Fails : ℕ → CertKind → Type 0) (stop : CertStop) (line : ℕ) (kind : CertKind) →
    stop ≡ CertStop.Fault (record { line = line; kind = kind }) → Fails line kind → StopsAs Fails stop
faulted Fails stop line kind e h = subst (StopsAs Fails) (sym e) h

pub stops_also : (Lets Fails : ℕ → CertKind → Type 0) (stop : CertStop) → StopsAs Lets stop →
    ((line : ℕ) (kind : CertKind) → Lets line kind → Fails line kind) → StopsAs Fails stop
stops_also Lets Fails (CertStop.Fault fault) s f = f fault.line fault.kind s
stops_also Lets Fails CertStop.OutOfMemory s f = tt

-- what a call answers that hands on a refusal
pub handed_on : {X : Type 0} (P : X → Type 0) (Lets Fails : ℕ → CertKind → Type 0) (r : Result X CertStop) (stop : CertStop) →
    IsErrAnd r (λ e. e ≡ stop) → StopsAs Lets stop → ((line : ℕ) (kind : CertKind) → Lets line kind → Fails line kind) → Answers P Fails r
handed_on P Lets Fails (Ok x) stop is s f = absurd is
handed_on P Lets Fails (Err e) stop is s f = subst (StopsAs Fails) (sym is) (stops_also Lets Fails stop s f)

-- want of memory tells nothing
pub without_memory : {X : Type 0} (P : X → Type 0) (Fails : ℕ → CertKind → Type 0) (r : Result X CertStop) →
    IsErrAnd r (λ e. e ≡ CertStop.OutOfMemory) → Answers P Fails r
without_memory P Fails (Ok x) is = absurd is
without_memory P Fails (Err e) is = subst (StopsAs Fails) (sym is) tt

-- an answer that tells more
pub answers_also : {X : Type 0} (P Q : X → Type 0) (Lets Fails : ℕ → CertKind → Type 0) (r : Result X CertStop) → Answers P Lets r →
    ((x : X) → P x → Q x) → ((line : ℕ) (kind : CertKind) → Lets line kind → Fails line kind) → Answers Q Fails r
answers_also P Q Lets Fails (Ok x) h p f = p x h
answers_also P Q Lets Fails (Err e) h p f = stops_also Lets Fails e h f
