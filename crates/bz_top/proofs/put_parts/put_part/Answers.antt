use Rattle.std.proofs.Common.{length, ap, ◌∙◌}
use Rattle.bz_model.proofs.Positions.{length-columns_of}
use Rattle.bz_text.proofs.Puts.{puts_as}
use Rattle.bz_top.proofs.PartTexts.{part_text}
use Rattle.bz_top.proofs.put_parts.put_part.Goals as goal

pub returns : goal.returns
returns g c =
    puts_as (part_text c.args.split.now c.args.part _ c.args.rows _ (ap length c.columns_of.ensures.value ∙ length-columns_of c.args.split.now.part c.args.part) c.size.ensures) c.put_pieces.ensures
