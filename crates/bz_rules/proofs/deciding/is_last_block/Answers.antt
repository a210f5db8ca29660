use Rattle.bz_rules.proofs.Decided.{last_found}
use Rattle.bz_rules.proofs.deciding.is_last_block.Goals as goal

pub returns : goal.returns
returns c = last_found c.args.post.now c.args.block c.are_others_filled.result c.requires.first c.requires.last (rw c.as_slice-fills.ensures at c.are_others_filled.ensures)
