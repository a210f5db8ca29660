use Rattle.std.proofs.Common.{rules, ◌≡◌, arith, ap, length}
use Rattle.std.proofs.lemmas.Bool.{eq-eqb, eqb-true}
use Rattle.bz_std.proofs.RowsCompared.{length-over}
use Rattle.bz_std.proofs.row_comparison.is_over_columns.Goals as goal

pub returns-else-row-as_slice : goal.returns-else-row-as_slice
returns-else-row-as_slice c = (
  λ t. absurd (c.if-row-as_slice.false (eqb-true _ _ t)),
  λ h. eq-eqb _ _ (omega (arith, ap length c.as_slice-row.ensures.value, ap length h, length-over c.args.terms.now, ap length c.as_slice.ensures.value)),
)
