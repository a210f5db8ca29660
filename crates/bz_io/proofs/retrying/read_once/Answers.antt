use Rattle.bz_io.proofs.Tries.{reads_again}
use Rattle.bz_io.proofs.retrying.read_once.Goals as goal

pub returns-clause-bytes : goal.returns-clause-bytes
returns-clause-bytes g c = reads_again _ (λ s. g.R.Read.remaining s.0) (λ s. s.1) (λ before after answer step. step.1) _ _ _ c.read_again.ensures
