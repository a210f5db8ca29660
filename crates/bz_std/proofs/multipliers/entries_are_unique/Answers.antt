use Rattle.bz_std.proofs.OneRowLists.{entries_unique}
use Rattle.bz_std.proofs.multipliers.entries_are_unique.Goals as goal

pub returns : goal.returns
returns c = entries_unique
