use Rattle.std.proofs.Common.{◌∙◌, ap, sym}
use Rattle.std.specs.Prelude.{◌&&◌, not, nat_lt, length}
use Rattle.bz_lines.specs.Lines.{fields_of}
use Rattle.bz_lines.proofs.LineLemmas.{kept_is}
use Rattle.bz_lines.proofs.reader.is_kept.Goals as goal

pub returns-then-not-is_comment : goal.returns-then-not-is_comment
returns-then-not-is_comment c =
    ap not c.is_empty.ensures ∙ kept_is c.args.line.now
    ∙ ap (λ b. not b && nat_lt 0 (length (fields_of c.args.line.now))) (sym c.if-not-is_comment.true ∙ c.is_comment.ensures)
