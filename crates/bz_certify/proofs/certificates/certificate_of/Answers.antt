use Rattle.std.proofs.Common.{◌≡◌, ap}
use Rattle.std.specs.Option.{option_copied}
use Rattle.std.specs.List.{list_any}
use Rattle.std.specs.Prelude.{false}
use Rattle.std.proofs.lemmas.Result.{IfOk-weaker}
use Rattle.bz_history.specs.States.{is_open}
use Rattle.bz_history.specs.Steps.{IsAt}
use Rattle.bz_certify.proofs.Certified.{IsLawful, best_at, best_inside, lawful, right_infeasible, right_optimal, right_unbounded, without_best, without_ray}
use Rattle.bz_certify.proofs.certificates.certificate_of.Goals as goal

pub infeasible-requires : goal.infeasible-requires
infeasible-requires c =
    (lawful c.args.split.now c.args.cuts.now c.args.nodes.now c.args.posts.now c.args.best (option_copied c.args.ray) c.decomposed.ensures c.requires).closed
    (without_best c.args.split.now c.args.cuts.now c.args.nodes.now c.args.posts.now c.args.best (option_copied c.args.ray) c.requires c.in_default.is)

pub returns-in_default : goal.returns-in_default
returns-in_default c =
    let l : IsLawful c.args.split.now c.args.cuts.now c.args.nodes.now c.args.posts.now c.args.best (option_copied c.args.ray) = lawful _ _ _ _ _ _ c.decomposed.ensures c.requires in
    let none : list_any is_open c.args.nodes.now ≡ false = without_best _ _ _ _ _ _ c.requires c.in_default.is in
    IfOk-weaker c.infeasible.result _ _ (λ x h. right_infeasible _ _ _ _ _ _ l none c.in_default.is x h) c.infeasible.ensures

pub bounds-posts-number : goal.bounds-posts-number
bounds-posts-number c =
    let l : IsLawful c.args.split.now c.args.cuts.now c.args.nodes.now c.args.posts.now c.args.best (option_copied c.args.ray) = lawful _ _ _ _ _ _ c.decomposed.ensures c.requires in
    best_inside _ _ _ _ _ _ l c.in-Some.number c.in-Some.is

pub unbounded-requires : goal.unbounded-requires
unbounded-requires c =
    let l : IsLawful c.args.split.now c.args.cuts.now c.args.nodes.now c.args.posts.now c.args.best (option_copied c.args.ray) = lawful _ _ _ _ _ _ c.decomposed.ensures c.requires in
    l.has_places c.in-Some-ray.ray.now (ap option_copied c.in-Some-ray.is)

pub optimal-requires-clause-closed : goal.optimal-requires-clause-closed
optimal-requires-clause-closed c =
    (lawful c.args.split.now c.args.cuts.now c.args.nodes.now c.args.posts.now c.args.best (option_copied c.args.ray) c.decomposed.ensures c.requires).closed
    (without_ray c.args.split.now c.args.cuts.now c.args.nodes.now c.args.posts.now c.args.best (option_copied c.args.ray) c.requires (ap option_copied c.in-None.is))

pub optimal-requires-clause-value : goal.optimal-requires-clause-value
optimal-requires-clause-value c =
    let l : IsLawful c.args.split.now c.args.cuts.now c.args.nodes.now c.args.posts.now c.args.best (option_copied c.args.ray) = lawful _ _ _ _ _ _ c.decomposed.ensures c.requires in
    let at : IsAt c.args.posts.now c.in-Some.number c.index-posts-number.result = best_at _ _ _ _ _ _ l c.in-Some.number c.in-Some.is c.index-posts-number.result c.index-posts-number.is in
    l.has_value (ap option_copied c.in-None.is) c.in-Some.number c.index-posts-number.result at

pub returns-in-Some-ray : goal.returns-in-Some-ray
returns-in-Some-ray c =
    let l : IsLawful c.args.split.now c.args.cuts.now c.args.nodes.now c.args.posts.now c.args.best (option_copied c.args.ray) = lawful _ _ _ _ _ _ c.decomposed.ensures c.requires in
    let at : IsAt c.args.posts.now c.in-Some.number c.index-posts-number.result = best_at _ _ _ _ _ _ l c.in-Some.number c.in-Some.is c.index-posts-number.result c.index-posts-number.is in
    IfOk-weaker c.unbounded.result _ _ (λ x h. right_unbounded _ _ _ _ _ _ l c.in-Some.number c.in-Some.is c.index-posts-number.result at c.in-Some-ray.ray.now (ap option_copied c.in-Some-ray.is) x h) c.unbounded.ensures

pub returns-in-None : goal.returns-in-None
returns-in-None c =
    let l : IsLawful c.args.split.now c.args.cuts.now c.args.nodes.now c.args.posts.now c.args.best (option_copied c.args.ray) = lawful _ _ _ _ _ _ c.decomposed.ensures c.requires in
    let at : IsAt c.args.posts.now c.in-Some.number c.index-posts-number.result = best_at _ _ _ _ _ _ l c.in-Some.number c.in-Some.is c.index-posts-number.result c.index-posts-number.is in
    let none : list_any is_open c.args.nodes.now ≡ false = without_ray _ _ _ _ _ _ c.requires (ap option_copied c.in-None.is) in
    IfOk-weaker c.optimal.result _ _ (λ x h. right_optimal _ _ _ _ _ _ l none c.in-Some.number c.in-Some.is (ap option_copied c.in-None.is) c.index-posts-number.result at x h) c.optimal.ensures
