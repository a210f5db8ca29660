use Rattle.std.proofs.Common.{◌∙◌, ap, sym, of_z, to_z, to_z-of_z}
use Rattle.std.specs.Int.{w128}
use Rattle.std.specs.Int.RustNames.{unsigned_abs}
use Rattle.bz_text.proofs.PieceTexts.{is_one, with_fraction, with_whole}
use Rattle.bz_text.proofs.Puts.{puts_as}
use Rattle.bz_text.proofs.lines.put_fraction.Goals as goal

pub returns-then-den-eq1 : goal.returns-then-den-eq1
returns-then-den-eq1 g c =
    puts_as (with_whole c.args.name.now c.args.num c.args.den _ (to_z-of_z c.ranges.num)
    (ap unsigned_abs (sym (to_z-of_z c.ranges.den) ∙ ap (to_z w128) c.if-den-eq1.true))) c.put_pieces.ensures

pub returns : goal.returns
returns g c =
    puts_as (with_fraction c.args.name.now c.args.num c.args.den _ _ (to_z-of_z c.ranges.num) (to_z-of_z c.ranges.den)
    (λ size. c.if-den-eq1.false (ap (of_z w128) (is_one c.args.den c.requires size)))) c.put_pieces-2.ensures
