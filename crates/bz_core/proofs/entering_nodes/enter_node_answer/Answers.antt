use Rattle.std.proofs.Common.{◌∙◌, ap, arith}
use Rattle.bz_history.specs.States.{State}
use Rattle.bz_rules.specs.Entries.{is_spent}
use Rattle.bz_core.specs.Separations.{planned_events}
use Rattle.bz_core.proofs.AnswersEntered.{a_unit_at_most, best_entries, best_units, closing_entries, entered, entered_all, one_more}
use Rattle.bz_core.proofs.entering_nodes.enter_node_answer.Goals as goal

pub enter_node-requires : goal.enter_node-requires
enter_node-requires c = record {
  adds = c.requires.first;
  nodes = c.requires.nodes;
  posts = c.requires.posts;
  place = omega (arith, c.requires.place);
  units = omega (arith, c.requires.units);
}

pub enter_best-requires : goal.enter_best-requires
enter_best-requires c =
    let first = ap (λ (u : State). u.entries) c.enter_node.ensures ∙ one_more c.args.split.now c.args.progress.now.state c.args.entered.first in
    omega (arith, first, c.requires.place)

pub enter_closing-requires-clause-place : goal.enter_closing-requires-clause-place
enter_closing-requires-clause-place c =
    let first = ap (λ (u : State). u.entries) c.enter_node.ensures ∙ one_more c.args.split.now c.args.progress.now.state c.args.entered.first in
    let second = ap (λ (u : State). u.entries) (c.enter_best.ensures c.args.split.now) in
    let least = best_entries c.args.split.now c.enter_node.new.progress.state c.args.number c.args.entered.completion.better in
    omega (arith, first, second, least, c.requires.place)

pub enter_closing-requires-clause-units : goal.enter_closing-requires-clause-units
enter_closing-requires-clause-units c =
    let first = ap (λ (u : State). u.units) c.enter_node.ensures in
    let most = a_unit_at_most c.args.split.now c.args.progress.now.state c.args.entered.first in
    let second = ap (λ (u : State). u.units) (c.enter_best.ensures c.args.split.now) ∙ best_units c.args.split.now c.enter_node.new.progress.state c.args.number c.args.entered.completion.better in
    omega (arith, first, most, second, c.requires.units)

pub enter_stop-requires : goal.enter_stop-requires
enter_stop-requires c =
    let first = ap (λ (u : State). u.entries) c.enter_node.ensures ∙ one_more c.args.split.now c.args.progress.now.state c.args.entered.first in
    let second = ap (λ (u : State). u.entries) (c.enter_best.ensures c.args.split.now) in
    let least = best_entries c.args.split.now c.enter_node.new.progress.state c.args.number c.args.entered.completion.better in
    let third = ap (λ (u : State). u.entries) (c.enter_closing.ensures c.args.split.now) in
    let last = closing_entries c.args.split.now c.enter_best.new.progress.state c.args.entered.completion.node c.args.entered.completion.front c.args.entered.completion.leaf in
    omega (arith, first, second, least, third, last, c.requires.place)

pub returns-clause-state : goal.returns-clause-state
returns-clause-state c =
    let before = entered c.args.split.now c.args.progress.now.state c.enter_node.new.progress.state c.enter_best.new.progress.state c.enter_closing.new.progress.state c.args.number c.args.entered
    c.enter_node.ensures (c.enter_best.ensures c.args.split.now) (c.enter_closing.ensures c.args.split.now) in
    entered_all c.args.split.now c.args.budget c.args.progress.now.state c.enter_closing.new.progress.state c.enter_stop.new.progress.state (planned_events c.args.number c.args.entered) c.is_spent-spent.result
    before c.is_spent-spent.ensures (c.enter_stop.ensures c.args.split.now)

pub returns-clause-spent : goal.returns-clause-spent
returns-clause-spent c =
    let before = entered c.args.split.now c.args.progress.now.state c.enter_node.new.progress.state c.enter_best.new.progress.state c.enter_closing.new.progress.state c.args.number c.args.entered
    c.enter_node.ensures (c.enter_best.ensures c.args.split.now) (c.enter_closing.ensures c.args.split.now) in
    c.is_spent-spent.ensures ∙ ap (is_spent c.args.budget) before
