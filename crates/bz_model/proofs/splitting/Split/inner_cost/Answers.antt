use Rattle.std.proofs.Common.{rules, FitsSigned, to_z-of_z}
use Rattle.std.specs.Int.{w128}
use Rattle.bz_model.proofs.Positions.{length-columns_of}
use Rattle.bz_model.proofs.PartCosts.{cost_at}
use Rattle.bz_model.proofs.splitting.Split.inner_cost.Goals as goal

pub bounds-columns_of-position : goal.bounds-columns_of-position
bounds-columns_of-position c = rw (c.columns_of.ensures.value, length-columns_of c.args.self.now.part c.args.part) c.requires.position

pub returns-clause-value : goal.returns-clause-value
returns-clause-value c =
    let fits : FitsSigned w128 c.column_cost.result = search rules in
    rw (to_z-of_z fits, cost_at c.args.self.now c.args.part c.args.position c.model-model.ensures.split c.requires.position) (rw (c.model-model.ensures.value, c.columns_of.ensures.value) at c.column_cost.ensures.value)
