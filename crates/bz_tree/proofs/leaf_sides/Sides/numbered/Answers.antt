use Rattle.bz_tree.proofs.LeafSides.{length-sides}
use Rattle.bz_tree.proofs.leaf_sides.Sides.numbered.Goals as goal

pub side_of-requires : goal.side_of-requires
side_of-requires c =
    rw (← length-sides c.args.self.now.rows.now c.args.self.now.positions.now (record { lower = c.args.self.now.lower.now; upper = c.args.self.now.upper.now }) c.args.self.now.cuts.now) c.requires
