-- The certificate of a search.
use Rattle.bz_model.specs.Splits.{Decomposition}
use Rattle.bz_cert.specs.declared.records.Certificate.{Certificate}
use Rattle.bz_history.specs.States.{State}
use Rattle.bz_certify.specs.Finished.{IsRightCertificate}

-- the certificate is the one of the state; it passes, fits, and has what its verdict needs and nothing else
abbrev pub IsCertified : Decomposition → State → Certificate → Type 0
IsCertified d t c = IsRightCertificate d t.cuts t.nodes t.posts t.best t.ray c
