use Rattle.bz_text.proofs.PieceTexts.{two_pieces}
use Rattle.bz_text.proofs.Puts.{puts_as}
use Rattle.bz_text.proofs.lines.put_line.Goals as goal

pub returns : goal.returns
returns g c = puts_as (two_pieces c.args.front.now c.args.name.now) c.put_pieces.ensures
