use Rattle.bz_text.proofs.PieceTexts.{with_number}
use Rattle.bz_text.proofs.Puts.{puts_as}
use Rattle.bz_text.proofs.lines.put_numbered.Goals as goal

pub returns : goal.returns
returns g c = puts_as (with_number c.args.front.now c.args.name.now _) c.put_pieces.ensures
