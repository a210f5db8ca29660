use Rattle.bz_tree.proofs.EndLists.{all_ends}
use Rattle.bz_tree.proofs.rounding.lower_ends.Goals as goal

pub returns : goal.returns
returns c = all_ends _ c.args.columns.now c.loop-column.column-index c.loop-column.ends.items c.loop-column-test.false c.loop-column.invariant
