use Rattle.std.proofs.Common.{◌≡◌, ◌<◌, ◌≤◌, ◌∙◌, Some, ap, get_or, length, rules}
use Rattle.bz_history.specs.States.{end_of, ended_by}
use Rattle.bz_state.proofs.Changes.{first_end, none_changed, write_changed}
use Rattle.bz_state.proofs.lists.end_post.Goals as goal

pub returns-in-Some-clause-items : goal.returns-in-Some-clause-items
returns-in-Some-clause-items c =
    let within : c.args.post < length c.args.posts.now.items = search rules in
    let at : c.in-Some.post.now ≡ get_or c.args.posts.now.items c.args.post c.in-Some.post.now = search rules in
    let first : Some c.unwrap_or.result ≡ end_of c.args.at c.in-Some.post.now.ended = ap Some c.unwrap_or.ensures ∙ first_end c.args.at c.in-Some.post.now.ended in
    rw first (write_changed (ended_by c.args.at) c.args.posts.now.items c.args.post c.in-Some.post.now within at)

pub returns-in_default-clause-items : goal.returns-in_default-clause-items
returns-in_default-clause-items c =
    let past : length c.args.posts.now.items ≤ c.args.post = search rules in
    none_changed (ended_by c.args.at) c.args.posts.now.items c.args.post past
