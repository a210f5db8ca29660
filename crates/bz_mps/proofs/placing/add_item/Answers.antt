use Rattle.std.proofs.Common.{rules, ◌<◌, ◌≡◌, ◌∙◌, ◌++◌, ◌∷◌, [], ap, get_or, length}
use Rattle.std.proofs.lemmas.Result.{IfOk-weaker}
use Rattle.bz_mps.proofs.PlacedItems.{item_added}
use Rattle.bz_mps.proofs.placing.add_item.Goals as goal

pub returns-in-Some : goal.returns-in-Some
returns-in-Some g c =
    let within : c.place.result < length c.args.lists.now.items = search rules in
    let at : c.in-Some.items.now ≡ get_or c.args.lists.now.items c.place.result c.in-Some.items.now = search rules in
    IfOk-weaker c.push_item.result _ _
    (λ _ e. item_added g.T.Placed.place (λ v. v.items) c.args.lists.now.items c.args.item c.place.result c.in-Some.items.now c.push_item.new.items c.place.ensures within
    (e ∙ ap (λ v. v.items ++ c.args.item ∷ []) at)) c.push_item.ensures
