use Rattle.std.proofs.Common.{arith}
use Rattle.bz_model.proofs.Positions.{length-columns_of}
use Rattle.bz_model.proofs.PartCosts.{width_small}
use Rattle.bz_model.proofs.splitting.Split.width.Goals as goal

pub overflow_cast-result : goal.overflow_cast-result
overflow_cast-result c = rw c.columns_of.ensures.value (record { fits = omega (arith, width_small c.args.self.now c.args.part c.columns_of.ensures.split) })

pub returns : goal.returns
returns c = rw c.columns_of.ensures.value (length-columns_of c.args.self.now.part c.args.part)
