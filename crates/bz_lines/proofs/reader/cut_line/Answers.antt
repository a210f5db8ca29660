use Rattle.std.proofs.Common.{◌∙◌, sym}
use Rattle.bz_lines.proofs.LineLemmas.{lines_cut, lines_uncut}
use Rattle.bz_lines.proofs.reader.cut_line.Goals as goal

pub returns-in-Some-clause-lines : goal.returns-in-Some-clause-lines
returns-in-Some-clause-lines c = lines_cut c.args.text.now _ c.in-Some.at (sym c.line_feed.ensures ∙ c.in-Some.is) c.without_return.ensures

pub returns-in-None-clause-lines : goal.returns-in-None-clause-lines
returns-in-None-clause-lines c = lines_uncut c.args.text.now c.requires (sym c.line_feed.ensures ∙ c.in-None.is)
