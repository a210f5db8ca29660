use Rattle.std.proofs.Common.{◌≡◌, ◌<◌, List, length, refl, subst, sym}
use Rattle.std.proofs.lemmas.Option.{slice_get_read, slice_get_within}
use Rattle.bz_history.specs.declared.state.Post.{Post}
use Rattle.bz_history.specs.States.{State}
use Rattle.bz_history.specs.Steps.{IsAt}
use Rattle.bz_core.proofs.SeparationsAnswered.{IsAnswered, answered}
use Rattle.bz_core.proofs.planning_separations.plan_separation.Goals as goal

pub bounds-posts-number : goal.bounds-posts-number
bounds-posts-number c =
    let t : State = c.args.progress.now.state in
    let at : IsAnswered c.args.split.now t c.args.number c.args.block = answered c.args.split.now t c.args.s.now c.args.number c.args.block c.requires.task c.requires.rules in
    subst (λ (ps : List Post). c.args.number < length ps) (sym c.posts.ensures.posts) (slice_get_within t.posts c.args.number at.post at.is_post)

pub plan_at_post-requires-clause-block : goal.plan_at_post-requires-clause-block
plan_at_post-requires-clause-block c =
    (answered c.args.split.now c.args.progress.now.state c.args.s.now c.args.number c.args.block c.requires.task c.requires.rules).is_block

pub plan_at_post-requires-clause-post : goal.plan_at_post-requires-clause-post
plan_at_post-requires-clause-post c =
    let t : State = c.args.progress.now.state in
    let x : Post = c.index-posts-number.result in
    let at : IsAnswered c.args.split.now t c.args.number c.args.block = answered c.args.split.now t c.args.s.now c.args.number c.args.block c.requires.task c.requires.rules in
    let within : c.args.number < length c.posts.result.now =
    subst (λ (ps : List Post). c.args.number < length ps) (sym c.posts.ensures.posts) (slice_get_within t.posts c.args.number at.post at.is_post) in
    subst (λ (ps : List Post). IsAt ps c.args.number x) c.posts.ensures.posts
    (slice_get_read c.posts.result.now (length c.posts.result.now) c.args.number x refl within c.index-posts-number.is)
