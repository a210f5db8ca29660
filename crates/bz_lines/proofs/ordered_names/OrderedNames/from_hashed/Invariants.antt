use Rattle.std.proofs.Common.{◌≡◌, ◌++◌, drop}
use Rattle.bz_lines.proofs.ordered_names.OrderedNames.from_hashed.Given as goal

-- what is held, with what is still to come, is the whole
abbrev pub invariant-loop-place : goal.invariant-loop-place
invariant-loop-place l = l.ordered ++ drop l.place l.fn.names ≡ l.fn.names
