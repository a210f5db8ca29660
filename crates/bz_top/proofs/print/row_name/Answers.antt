use Rattle.std.proofs.Common.{◌∙◌, ap, sym, List, [], get_or}
use Rattle.std.proofs.lemmas.List.{get_or-map}
use Rattle.bz_model.specs.declared.Row.{Row}
use Rattle.bz_top.proofs.print.row_name.Goals as goal

pub returns : goal.returns
returns c =
    let item = c.index-as_slice-row.result in
    c.as_slice-2.ensures ∙ ap (λ (xs : List Row). (get_or xs c.args.row item).name) c.as_slice.ensures
    ∙ sym (get_or-map (λ (x : Row). x.name) c.args.model.now.rows c.args.row item [] c.requires)
