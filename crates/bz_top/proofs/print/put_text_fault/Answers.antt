use Rattle.std.specs.Prelude.{codes}
use Rattle.bz_text.proofs.Puts.{puts_as}
use Rattle.bz_top.proofs.LineTexts.{fault_pieces}
use Rattle.bz_top.proofs.print.put_text_fault.Goals as goal

pub returns : goal.returns
returns g c = puts_as (fault_pieces c.args.file.now (codes " line ") _ (codes ": ") _ c.args.name.now) c.put_pieces.ensures
