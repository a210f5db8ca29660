use Rattle.std.proofs.Common.{◌≡◌, ◌<◌, List, length, refl, rules, subst, sym}
use Rattle.std.proofs.lemmas.Option.{slice_get_read}
use Rattle.bz_event.specs.declared.tasks.SepTask.{SepTask}
use Rattle.bz_std.specs.Tasks.{IsMasterOf}
use Rattle.bz_history.specs.declared.state.Post.{Post}
use Rattle.bz_history.specs.States.{State}
use Rattle.bz_history.specs.Steps.{IsAt}
use Rattle.bz_rules.proofs.FittingStates.{states_fit}
use Rattle.bz_core.specs.Copies.{IsCopiedSeparation}
use Rattle.bz_core.specs.Searches.{Seen, now}
use Rattle.bz_core.proofs.searches.Search.copy_sep.Goals as goal

pub returns-clause-copied : goal.returns-clause-copied
returns-clause-copied c =
    let d = c.self.inside.split.now in
    let t : State = c.self.inside.progress.state in
    let x : Post = c.index-posts-post.result in
    let is : now c.args.self.now ≡ t = search rules in
    let within : c.args.post < length c.posts.result.now = search rules in
    let at : IsAt t.posts c.args.post x = subst (λ (ps : List Post). IsAt ps c.args.post x) c.posts.ensures.posts
    (slice_get_read c.posts.result.now (length c.posts.result.now) c.args.post x refl within c.index-posts-post.is) in
    let point : c.in_ok-copy.field-0 ≡ x.point = subst (λ (y : Post). c.in_ok-copy.field-0 ≡ y.point) (sym c.index-posts-post.is) c.in_ok-copy.ensures in
    let task : SepTask = record { post = c.args.post; block = c.args.block; point = c.in_ok-copy.field-0; mode = c.mode.result } in
    subst (λ (u : State). IsCopiedSeparation u c.args.post c.args.block task) (sym is) (record {
      number_is = refl;
      block_is = refl;
      post = x;
      is_post = at;
      point_is = point;
      mode_is = c.mode.ensures;
    })

pub returns-clause-point : goal.returns-clause-point
returns-clause-point c =
    let d = c.self.inside.split.now in
    let t : State = c.self.inside.progress.state in
    let x : Post = c.index-posts-post.result in
    let is : now c.args.self.now ≡ t = search rules in
    let within : c.args.post < length c.posts.result.now = search rules in
    let at : IsAt t.posts c.args.post x = subst (λ (ps : List Post). IsAt ps c.args.post x) c.posts.ensures.posts
    (slice_get_read c.posts.result.now (length c.posts.result.now) c.args.post x refl within c.index-posts-post.is) in
    let point : c.in_ok-copy.field-0 ≡ x.point = subst (λ (y : Post). c.in_ok-copy.field-0 ≡ y.point) (sym c.index-posts-post.is) c.in_ok-copy.ensures in
    let fits : IsMasterOf d.part x.point = ((states_fit d c.self.inside.budget c.self.inside.root c.self.inside.history.items t c.self.invariant.replayed).posts c.args.post x at).point in
    subst (λ (v : Seen). IsMasterOf v.split.part c.in_ok-copy.field-0) c.self.view_is (subst (IsMasterOf d.part) (sym point) fits)
