-- A certificate's text is read as that certificate.
use Rattle.std.proofs.Common.{ℕ, List, ◌≡◌, ◌⊎◌, inl, inr, ap, refl, Result, Ok, Err}
use Rattle.bz_cert.specs.declared.faults.CertStop.{CertStop}
use Rattle.bz_cert.specs.declared.records.Certificate.{Certificate}
use Rattle.bz_cert.specs.CertFaults.{IsCertFault}
use Rattle.bz_cert.specs.CertReading.{Answers}
use Rattle.bz_cert.specs.CertText.{IsCertText}
use Rattle.bz_cert.proofs.TextFaults.{no_fault}
use Rattle.bz_cert.proofs.TextsOnce.{one_certificate}

pub read_back : (text : List ℕ) (c : Certificate) (r : Result Certificate CertStop) → IsCertText text c →
    Answers (IsCertText text) (IsCertFault text) r → (r ≡ Ok c) ⊎ (r ≡ Err CertStop.OutOfMemory)
read_back text c (Ok d) own is = inl (ap Ok (one_certificate text d c is own))
read_back text c (Err (CertStop.Fault fault)) own is = absurd (no_fault text c fault.line fault.kind own is)
read_back text c (Err CertStop.OutOfMemory) own is = inr refl
