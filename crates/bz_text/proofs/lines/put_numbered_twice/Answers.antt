use Rattle.bz_text.proofs.PieceTexts.{two_numbers}
use Rattle.bz_text.proofs.Puts.{puts_as}
use Rattle.bz_text.proofs.lines.put_numbered_twice.Goals as goal

pub returns : goal.returns
returns g c = puts_as (two_numbers c.args.front.now c.args.name.now _ _) c.put_pieces.ensures
