use Rattle.std.proofs.Common.{sym}
use Rattle.bz_tree.proofs.LeafSides.{length-sides}
use Rattle.bz_tree.proofs.leaf_sides.Sides.count.Goals as goal

pub returns : goal.returns
returns c = sym (length-sides c.args.self.now.rows.now c.args.self.now.positions.now (record { lower = c.args.self.now.lower.now; upper = c.args.self.now.upper.now }) c.args.self.now.cuts.now)
