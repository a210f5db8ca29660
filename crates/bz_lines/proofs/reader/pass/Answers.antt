use Rattle.std.proofs.Common.{◌∙◌, sym, arith}
use Rattle.std.proofs.lemmas.Bool.{eqb-true}
use Rattle.bz_lines.proofs.LineLemmas.{count_next, kept_next, nothing_after, passed_next}
use Rattle.bz_lines.proofs.reader.pass.Goals as goal

pub returns-then-is_kept-clause-line : goal.returns-then-is_kept-clause-line
returns-then-is_kept-clause-line c = c.loop-first.invariant.same
    ∙ kept_next c.loop-first.read _ _ _ c.cut_line-first.ensures.lines (sym c.is_kept.ensures ∙ c.if-is_kept.true)

pub loop-first-preserved : goal.loop-first-preserved
loop-first-preserved c = record {
  same = c.loop-first.invariant.same ∙ passed_next c.loop-first.read c.loop-first.rest.now c.cut_line-first.result.line.now c.cut_line-first.result.rest.now c.cut_line-first.ensures.lines (sym c.is_kept.ensures ∙ c.if-is_kept.false);
  count = omega (arith, count_next c.loop-first.rest.now c.cut_line-first.result.line.now c.cut_line-first.result.rest.now c.cut_line-first.ensures.lines);
  fits = omega arith;
}

pub returns-clause-none : goal.returns-clause-none
returns-clause-none c = c.loop-first.invariant.same ∙ nothing_after c.loop-first.read _ (eqb-true _ _ (sym c.is_empty.ensures ∙ c.loop-first-test.false))
