use native.Mathlib.Numerals.{unary_clauses}
use Rattle.std.proofs.Common.{◌≡◌, ◌<◌, ◌≤◌, get_or, length, rules}
use Rattle.bz_history.specs.States.{freed_by}
use Rattle.bz_state.proofs.Changes.{none_changed, write_changed}
use Rattle.bz_state.proofs.lists.free.Goals as goal

pub returns-in-Some-clause-items : goal.returns-in-Some-clause-items
returns-in-Some-clause-items c =
    let within : c.args.node < length c.args.nodes.now.items = search rules in
    let at : c.in-Some.node.now ≡ get_or c.args.nodes.now.items c.args.node c.in-Some.node.now = search rules in
    simp unary_clauses (write_changed (freed_by c.args.number) c.args.nodes.now.items c.args.node c.in-Some.node.now within at)

pub returns-in_default-clause-items : goal.returns-in_default-clause-items
returns-in_default-clause-items c =
    let past : length c.args.nodes.now.items ≤ c.args.node = search rules in
    none_changed (freed_by c.args.number) c.args.nodes.now.items c.args.node past
