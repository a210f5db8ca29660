use Rattle.std.proofs.Common.{◌∙◌, ◌∷◌, [], ap, sym, map}
use Rattle.bz_lines.specs.FieldLists.{field}
use Rattle.bz_facts.specs.LineFacts.{behind_bound_set}
use Rattle.bz_facts.proofs.LineLemmas.{behind-named, behind-unnamed, own-bound, two-behind_one, two-behind_two}
use Rattle.bz_facts.proofs.bound_lines.on_own_line.Goals as goal

pub returns-then-names_bound_set : goal.returns-then-names_bound_set
returns-then-names_bound_set c =
    let fs = map (λ f. f.now) c.args.fields.now in
    let behind = sym (behind-named c.args.kind fs (sym c.names_bound_set.ensures ∙ c.if-names_bound_set.true)) in
    let two = two-behind_two fs in
    own-bound c.args.columns.now c.args.kind c.args.line (c.field.result.now ∷ c.field-then-names_bound_set.result.now ∷ []) (behind_bound_set c.args.kind fs) _
    (c.field.ensures ∙ two.0 ∙ ap (field 0) behind) (c.field-then-names_bound_set.ensures ∙ two.1 ∙ ap (field 1) behind) c.read_bound.ensures

pub returns-else-names_bound_set : goal.returns-else-names_bound_set
returns-else-names_bound_set c =
    let fs = map (λ f. f.now) c.args.fields.now in
    let behind = sym (behind-unnamed c.args.kind fs (sym c.names_bound_set.ensures ∙ c.if-names_bound_set.false)) in
    let two = two-behind_one fs in
    own-bound c.args.columns.now c.args.kind c.args.line (c.field-else-names_bound_set.result.now ∷ c.field-else-names_bound_set-2.result.now ∷ []) (behind_bound_set c.args.kind fs) _
    (c.field-else-names_bound_set.ensures ∙ two.0 ∙ ap (field 0) behind) (c.field-else-names_bound_set-2.ensures ∙ two.1 ∙ ap (field 1) behind) c.read_bound-else-names_bound_set.ensures
