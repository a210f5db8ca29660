use Rattle.std.proofs.Common.{sym, subst, ◌∙◌}
use Rattle.bz_lines.specs.FirstFault.{IsFirstFailing}
use Rattle.bz_facts.specs.declared.MpsKind.TheVariants.{NegativeUpper, Crossed}
use Rattle.bz_mps.specs.FactModel.{end_tests_of_column, fault}
use Rattle.bz_mps.proofs.EndLemmas.{fails_first, fails_later}
use Rattle.bz_mps.proofs.column_ends.test_ends.Goals as goal

pub returns-then-has_negative_upper : goal.returns-then-has_negative_upper
returns-then-has_negative_upper c =
    subst (λ n. IsFirstFailing (end_tests_of_column c.args.ends c.args.lines.now) (fault n NegativeUpper)) (sym c.last_bound_line-line.ensures)
    (fails_first _ _ _ (sym c.has_negative_upper.ensures ∙ c.if-has_negative_upper.true))

pub returns-then-is_above : goal.returns-then-is_above
returns-then-is_above c =
    subst (λ n. IsFirstFailing (end_tests_of_column c.args.ends c.args.lines.now) (fault n Crossed)) (sym c.last_bound_line-line.ensures)
    (fails_later _ _ _ _ (sym c.has_negative_upper.ensures ∙ c.if-has_negative_upper.false)
    (fails_first _ _ _ (sym c.is_above.ensures ∙ c.if-is_above.true)))
