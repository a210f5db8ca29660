use Rattle.std.proofs.Common.{rules, ◌≡◌, ◌≢◌, pos, to_z-of_z}
use Rattle.std.proofs.lemmas.Bool.{eq-eqb, eqb-true, iff_false}
use Rattle.bz_std.proofs.RowsCompared.{ends_none, none_ends, one_long}
use Rattle.bz_std.proofs.row_comparison.ends_with.Goals as goal

pub returns-then-are_equal : goal.returns-then-are_equal
returns-then-are_equal c =
    let none : c.args.number ≡ pos 0 = rw (to_z-of_z c.ranges.number) at (c.are_equal.ensures.0 c.if-are_equal.true) in (
      λ t. ends_none c.args.row.now c.args.at c.args.variable c.args.number c.requires.inside none (eqb-true _ _ t),
      λ h. eq-eqb _ _ (none_ends c.args.row.now c.args.at c.args.variable c.args.number c.requires.inside none h),
    )

pub returns-else-row-at : goal.returns-else-row-at
returns-else-row-at c =
    let some : c.args.number ≢ pos 0 = λ e. iff_false c.are_equal.ensures c.if-are_equal.false (rw (to_z-of_z c.ranges.number) e) in (
      λ t. absurd (c.if-row-at.false (eqb-true _ _ t)),
      λ h. eq-eqb _ _ (one_long c.args.row.now c.args.at c.args.variable c.args.number c.requires.inside some h),
    )
