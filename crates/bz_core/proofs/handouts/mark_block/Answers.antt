use Rattle.std.proofs.Common.{◌≡◌, ◌<◌, ◌≤◌, ◌-◌, get_or, length, rules, set}
use Rattle.bz_state.proofs.Changes.{none_changed, write_changed}
use Rattle.bz_core.proofs.handouts.mark_block.Goals as goal

pub returns-in-Some : goal.returns-in-Some
returns-in-Some c =
    let within : c.args.post < length c.args.blocks.now.items = search rules in
    let at : c.in-Some.of_post.now ≡ get_or c.args.blocks.now.items c.args.post c.in-Some.of_post.now = search rules in
    let place : c.saturating_sub.result ≡ c.args.block - 1 = search rules in
    rw (c.put.ensures, place) (write_changed (λ of_post. set of_post (c.args.block - 1) c.args.mark) c.args.blocks.now.items c.args.post c.in-Some.of_post.now within at)

pub returns-in_default : goal.returns-in_default
returns-in_default c =
    let past : length c.args.blocks.now.items ≤ c.args.post = search rules in
    none_changed (λ of_post. set of_post (c.args.block - 1) c.args.mark) c.args.blocks.now.items c.args.post past
