use Rattle.bz_mps.proofs.row_sides.lower_of.Goals as goal

pub below-requires-clause-range : goal.below-requires-clause-range
below-requires-clause-range c = c.requires.range c.in-AtMost-Some.range c.in-AtMost-Some.is-1

pub below-requires-then-reaches_below-clause-range : goal.below-requires-then-reaches_below-clause-range
below-requires-then-reaches_below-clause-range c = c.requires.range c.in-Equal-Some.range c.in-Equal-Some.is-1
