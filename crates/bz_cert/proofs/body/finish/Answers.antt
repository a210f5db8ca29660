use Rattle.std.proofs.Common.{rules}
use Rattle.bz_cert.proofs.Bounds.{goes_on}
use Rattle.bz_cert.proofs.Refusals.{faulted}
use Rattle.bz_cert.proofs.body.finish.Goals as goal

pub returns-else-is_empty : goal.returns-else-is_empty
returns-else-is_empty c = faulted _ _ _ _ c.fault.ensures (λ verdict before last. goes_on verdict before _ _ (search rules) last)
