-- What the leaves of a tree are to show, as the tests say it.
use Rattle.std.specs.Prelude.{pos, ◌<ℤ◌}
use Rattle.bz_tree.specs.declared.Leaf.{Leaf}
use Rattle.bz_tree.specs.Trees.{IsEmpty, Reaches}
use Rattle.bz_check.specs.declared.tree_goals.Goal.{Goal}
use Rattle.bz_check.specs.declared.tree_goals.Goal.TheVariants as of_goal

-- what the goal asks of a leaf
abbrev pub bounds_of : Goal → Leaf → Type 0
bounds_of (of_goal.Reaches value den) = Reaches value den
bounds_of of_goal.Empty = IsEmpty

-- the denominator of a goal with a value is positive
abbrev pub HasPositiveDen : Goal → Type 0
HasPositiveDen (of_goal.Reaches value den) = pos 0 <ℤ den
HasPositiveDen of_goal.Empty = Unit {0}
