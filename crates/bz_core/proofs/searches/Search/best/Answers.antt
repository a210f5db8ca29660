use Rattle.std.proofs.Common.{◌≡◌, ◌<◌, List, Some, length, refl, rules, subst, sym}
use Rattle.std.proofs.lemmas.Option.{slice_get_read, slice_get_within}
use Rattle.bz_history.specs.declared.state.Post.{Post}
use Rattle.bz_history.specs.Finished.{parts_of}
use Rattle.bz_history.specs.States.{State}
use Rattle.bz_history.specs.Steps.{IsAt}
use Rattle.bz_history.proofs.BestSteps.{best_is_filled}
use Rattle.bz_core.specs.Bests.{IsBestParts}
use Rattle.bz_core.specs.Searches.{now}
use Rattle.bz_core.proofs.searches.Search.best.Goals as goal

pub bounds-posts-number : goal.bounds-posts-number
bounds-posts-number c =
    let t : State = c.self.inside.progress.state in
    let best : t.best ≡ Some c.in-Some.number = search rules in
    let filled = best_is_filled c.self.inside.split.now c.self.inside.budget c.self.inside.root c.self.inside.history.items t c.self.invariant.replayed c.in-Some.number best in
    subst (λ (ps : List Post). c.in-Some.number < length ps) (sym c.posts.ensures.posts) (slice_get_within t.posts c.in-Some.number filled.0 filled.1)

pub returns : goal.returns
returns c =
    let t : State = c.self.inside.progress.state in
    let best : t.best ≡ Some c.in-Some.number = search rules in
    let is : now c.args.self.now ≡ t = search rules in
    let filled = best_is_filled c.self.inside.split.now c.self.inside.budget c.self.inside.root c.self.inside.history.items t c.self.invariant.replayed c.in-Some.number best in
    let x : Post = c.index-posts-number.result in
    let within : c.in-Some.number < length c.posts.result.now =
    subst (λ (ps : List Post). c.in-Some.number < length ps) (sym c.posts.ensures.posts) (slice_get_within t.posts c.in-Some.number filled.0 filled.1) in
    let at : IsAt t.posts c.in-Some.number x = subst (λ (ps : List Post). IsAt ps c.in-Some.number x) c.posts.ensures.posts
    (slice_get_read c.posts.result.now (length c.posts.result.now) c.in-Some.number x refl within c.index-posts-number.is) in
    let parts : c.in_ok-parts.parts ≡ parts_of x = c.in_ok-parts.ensures in
    subst (λ (u : State). IsBestParts u (Some c.in_ok-parts.parts)) (sym is) (x, (c.in-Some.number, best, at), parts)
