use Rattle.bz_mps.proofs.row_sides.upper_of.Goals as goal

pub above-requires-clause-range : goal.above-requires-clause-range
above-requires-clause-range c = c.requires.range c.in-AtLeast-Some.range c.in-AtLeast-Some.is-1

pub above-requires-else-reaches_below-clause-range : goal.above-requires-else-reaches_below-clause-range
above-requires-else-reaches_below-clause-range c = c.requires.range c.in-Equal-Some.range c.in-Equal-Some.is-1
