use Rattle.std.proofs.Common.{◌∙◌, ap, sym, List, [], get_or}
use Rattle.std.proofs.lemmas.List.{get_or-map}
use Rattle.bz_model.specs.declared.Column.{Column}
use Rattle.bz_top.proofs.print.column_name.Goals as goal

pub returns : goal.returns
returns c =
    let item = c.index-as_slice-column.result in
    c.as_slice-2.ensures ∙ ap (λ (xs : List Column). (get_or xs c.args.column item).name) c.as_slice.ensures
    ∙ sym (get_or-map (λ (x : Column). x.name) c.args.model.now.columns c.args.column item [] c.requires)
