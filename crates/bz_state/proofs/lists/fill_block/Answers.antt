use Rattle.std.proofs.Common.{◌≡◌, ◌<◌, ◌≤◌, get_or, length, rules}
use Rattle.bz_history.specs.States.{filled_by}
use Rattle.bz_state.proofs.Changes.{none_changed, write_changed}
use Rattle.bz_state.proofs.lists.fill_block.Goals as goal

pub returns-in-Some-clause-items : goal.returns-in-Some-clause-items
returns-in-Some-clause-items c =
    let within : c.args.post < length c.args.posts.now.items = search rules in
    let at : c.in-Some.post.now ≡ get_or c.args.posts.now.items c.args.post c.in-Some.post.now = search rules in
    rw c.put.ensures (write_changed (filled_by c.args.filled.at c.args.block c.args.filled.y) c.args.posts.now.items c.args.post c.in-Some.post.now within at)

pub returns-in_default-clause-items : goal.returns-in_default-clause-items
returns-in_default-clause-items c =
    let past : length c.args.posts.now.items ≤ c.args.post = search rules in
    none_changed (filled_by c.args.filled.at c.args.block c.args.filled.y) c.args.posts.now.items c.args.post past
