use Rattle.std.proofs.Common.{◌∙◌, ap, arith, take, map}
use Rattle.bz_lines.specs.NameLists.{is_among}
use Rattle.bz_part.proofs.PartLemmas.{among_pushed, names_taken}
use Rattle.bz_part.proofs.part_text.column_names.Goals as goal

pub loop-column-preserved : goal.loop-column-preserved
loop-column-preserved c =
    rw (c.in_ok-add.ensures.names, c.as_slice.ensures)
    (λ q. among_pushed c.loop-column.names (map (λ k. k.name) (take c.loop-column.column-index c.args.columns.now)) c.column-item.result.name c.loop-column.invariant q
    ∙ ap (λ ns. is_among ns q) (names_taken c.args.columns.now c.loop-column.column-index c.column-item.result (omega arith) c.column-item.is))
