-- The lists of sums that a check may find wide, by their numbers.
use Rattle.std.specs.Prelude.{ℕ}

-- the master's inner cost with the etas
abbrev pub value_sum : ℕ
value_sum = 1

-- the numerator of the stated objective (place 0) and its denominator (place 1)
abbrev pub stated_numbers : ℕ
stated_numbers = 2

-- the sums of the master's inequalities
abbrev pub master_sums : ℕ
master_sums = 3

-- the denominators of the blocks' points
abbrev pub block_denominator : ℕ
block_denominator = 4

-- the sums of the blocks' inequalities
abbrev pub block_sums : ℕ
block_sums = 5

-- the blocks' inner costs and their etas
abbrev pub cost_sums : ℕ
cost_sums = 6

-- the sums of the cuts
abbrev pub cut_sums : ℕ
cut_sums = 7

-- the sums of the leaves
abbrev pub leaf_sums : ℕ
leaf_sums = 8

-- the sums along the direction: of the rows, and behind them of the inner cost
abbrev pub ray_sums : ℕ
ray_sums = 9
