-- The number and the name of each kind of fault of a certificate's text.
use Rattle.std.specs.Prelude.{ℕ, List, codes}
use Rattle.bz_cert.specs.declared.faults.CertKind.{CertKind}
use Rattle.bz_cert.specs.declared.faults.CertKind.TheVariants as kind

abbrev pub cert_number : CertKind → ℕ
cert_number kind.Head = 1
cert_number kind.Verdict = 2
cert_number kind.Line = 3
cert_number kind.Number = 4
cert_number kind.Order = 5
cert_number kind.Tree = 6
cert_number kind.End = 7
cert_number kind.Limit = 8

abbrev pub cert_name : CertKind → List ℕ
cert_name kind.Head = codes "Head"
cert_name kind.Verdict = codes "Verdict"
cert_name kind.Line = codes "Line"
cert_name kind.Number = codes "Number"
cert_name kind.Order = codes "Order"
cert_name kind.Tree = codes "Tree"
cert_name kind.End = codes "End"
cert_name kind.Limit = codes "Limit"
