use Rattle.std.proofs.Common.{◌≡◌, ◌∙◌, ap, length, rules}
use Rattle.bz_rules.specs.Entries.{after, is_spent}
use Rattle.bz_core.specs.Separations.{planned_events}
use Rattle.bz_core.proofs.NodesEntered.{appended_events}
use Rattle.bz_core.proofs.entering_nodes.enter_plan.Goals as goal

pub returns-clause-entries : goal.returns-clause-entries
returns-clause-entries c =
    let d = c.args.split.now in
    let t = c.args.progress.now.state in
    let spent : c.enter_node_answer-spent.result ≡ is_spent c.args.budget (after d t (planned_events (length t.posts) c.args.plan.entered)) = search rules in
    c.count_events-count.ensures c.args.plan.appended.first (length t.posts)
    ∙ ap length (appended_events d c.args.budget t (length t.posts) c.args.plan.entered c.args.plan.appended c.enter_node_answer-spent.result c.requires.plan.same spent)
