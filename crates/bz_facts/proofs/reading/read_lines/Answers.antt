use Rattle.std.proofs.Common.{◌∙◌, sym, subst}
use Rattle.std.proofs.lemmas.Result.{err_from_is_err_and}
use Rattle.bz_lines.specs.LineReader.{to_come}
use Rattle.bz_lines.specs.LineReading.{read_line}
use Rattle.bz_facts.proofs.BetweenLines.{IsReading, few-column_names, few-rows, line-stops, next-ends, next-line, next-passes, next-stops, no-line, reading-starts}
use Rattle.bz_facts.proofs.reading.read_lines.Goals as goal

pub lines-init : goal.lines-init
lines-init c =
    subst (λ r. IsReading c.args.text.now r c.args.tables.now) (sym c.new-lines.ensures) (reading-starts c.args.text.now c.args.tables.now c.requires.empty)

pub returns-in_err-line : goal.returns-in_err-line
returns-in_err-line c =
    let p = err_from_is_err_and c.from_residual.result c.from_residual.ensures.1 in
    rw (p.1, p.2) (next-stops c.args.text.now c.lines.lines c.next.new.self c.lines.tables _ c.lines.invariant c.in_err-line.ensures.answer)

pub pass_line-requires-clause-rows : goal.pass_line-requires-clause-rows
pass_line-requires-clause-rows c =
    few-rows c.args.text.now c.lines.lines c.lines.tables (read_line c.in-Some.line) (to_come c.next.new.self) c.requires.few c.lines.invariant
    (next-line c.lines.lines c.next.new.self c.in_ok-line.field-0 c.in-Some.line c.in-Some.is c.in_ok-line.ensures.answer)

pub pass_line-requires-clause-columns : goal.pass_line-requires-clause-columns
pass_line-requires-clause-columns c =
    few-column_names c.args.text.now c.lines.lines c.lines.tables (read_line c.in-Some.line) (to_come c.next.new.self) c.requires.few c.lines.invariant
    (next-line c.lines.lines c.next.new.self c.in_ok-line.field-0 c.in-Some.line c.in-Some.is c.in_ok-line.ensures.answer)

pub returns-in_err-last : goal.returns-in_err-last
returns-in_err-last c =
    let p = err_from_is_err_and c.from_residual-in_err-last.result c.from_residual-in_err-last.ensures.1 in
    rw (p.1, p.2) (line-stops c.args.text.now c.lines.lines c.lines.tables c.pass_line.new.tables (read_line c.in-Some.line) (to_come c.next.new.self) _ c.lines.invariant
    (next-line c.lines.lines c.next.new.self c.in_ok-line.field-0 c.in-Some.line c.in-Some.is c.in_ok-line.ensures.answer) c.in_err-last.ensures)

pub returns-then-last : goal.returns-then-last
returns-then-last c f a =
    let p = c.in_ok-last.ensures in
    next-ends c.args.text.now c.lines.lines c.lines.tables c.pass_line.new.tables (read_line c.in-Some.line) (to_come c.next.new.self) f c.requires.few c.lines.invariant
    (next-line c.lines.lines c.next.new.self c.in_ok-line.field-0 c.in-Some.line c.in-Some.is c.in_ok-line.ensures.answer) p.0 p.1 (sym p.2 ∙ c.if-last.true) a

pub lines-preserved-else-last : goal.lines-preserved-else-last
lines-preserved-else-last c =
    let p = c.in_ok-last.ensures in
    next-passes c.args.text.now c.lines.lines c.next.new.self c.lines.tables c.pass_line.new.tables (read_line c.in-Some.line) c.requires.few c.lines.invariant
    (next-line c.lines.lines c.next.new.self c.in_ok-line.field-0 c.in-Some.line c.in-Some.is c.in_ok-line.ensures.answer) c.next.ensures.count p.0 p.1 (sym p.2 ∙ c.if-last.false)

pub lines-preserved : goal.lines-preserved
lines-preserved c =
    let p = c.in_ok-last.ensures in
    next-passes c.args.text.now c.lines.lines c.next.new.self c.lines.tables c.pass_line.new.tables (read_line c.in-Some.line) c.requires.few c.lines.invariant
    (next-line c.lines.lines c.next.new.self c.in_ok-line.field-0 c.in-Some.line c.in-Some.is c.in_ok-line.ensures.answer) c.next.ensures.count p.0 p.1 (sym p.2 ∙ c.if-last.false)

pub returns : goal.returns
returns c =
    no-line c.args.text.now c.lines.lines c.next.new.self c.lines.tables c.in_ok-line.field-0 c.number.result c.lines.invariant c.in_default.is c.in_ok-line.ensures.answer c.next.ensures.count c.number.ensures
