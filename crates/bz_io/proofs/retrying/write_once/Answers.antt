use Rattle.bz_io.proofs.Tries.{writes_again}
use Rattle.bz_io.proofs.retrying.write_once.Goals as goal

pub returns-clause-bytes : goal.returns-clause-bytes
returns-clause-bytes g c = writes_again _ g.W.Write.contents c.args.bytes.now (λ before after answer step. step.1) _ _ _ c.write_again.ensures
