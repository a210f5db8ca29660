use Rattle.std.proofs.Common.{◌∙◌, ◌≡◌, ◌+◌, ◌<◌, ◌≤◌, List, length, refl, rules, subst, sym, take}
use Rattle.std.specs.List.{AllByRecursion}
use Rattle.std.proofs.lemmas.Option.{slice_get_read}
use Rattle.bz_algebra.specs.Numbers.{IsNarrow}
use Rattle.bz_model.specs.Limits.{list_limit}
use Rattle.bz_cut.specs.declared.Mode.{Mode}
use Rattle.bz_event.specs.declared.tasks.NodeTask.{NodeTask}
use Rattle.bz_event.specs.Nodes.{IsReady}
use Rattle.bz_cut.specs.declared.Cut.{Cut}
use Rattle.bz_tree.specs.Boxes.{Box}
use Rattle.bz_tree.specs.Ends.{box_of as box_held}
use Rattle.bz_std.specs.Tasks.{IsBoxOf, IsCutOfSplit}
use Rattle.bz_history.specs.declared.state.Node.{Node}
use Rattle.bz_history.specs.States.{State, box_of}
use Rattle.bz_history.specs.Steps.{AreFloorsReady, IsAt}
use Rattle.bz_rules.specs.Shapes.{IsRegionOf}
use Rattle.bz_rules.proofs.FittingStates.{states_fit}
use Rattle.bz_rules.proofs.Tasks.{cuts_of_split}
use Rattle.bz_core.specs.Copies.{CanBeSolved, IsCopiedNode}
use Rattle.bz_core.specs.Searches.{Seen, now}
use Rattle.bz_core.proofs.CopiedTasks.{cuts_are_few, node_is_ready}
use Rattle.bz_core.proofs.searches.Search.copy_node.Goals as goal

pub box_of-requires-clause-lower : goal.box_of-requires-clause-lower
box_of-requires-clause-lower c =
    let d = c.self.inside.split.now in
    let t : State = c.self.inside.progress.state in
    let x : Node = c.index-nodes-node.result in
    let is : now c.args.self.now ≡ t = search rules in
    let within : c.args.node < length c.nodes.result.now = search rules in
    let at : IsAt t.nodes c.args.node x = subst (λ (ns : List Node). IsAt ns c.args.node x) c.nodes.ensures.nodes
    (slice_get_read c.nodes.result.now (length c.nodes.result.now) c.args.node x refl within c.index-nodes-node.is) in
    let region : IsRegionOf d x.region = (states_fit d c.self.inside.budget c.self.inside.root c.self.inside.history.items t c.self.invariant.replayed).regions c.args.node x at in
    subst (λ (y : Node). AllByRecursion IsNarrow y.region.lower) c.index-nodes-node.is region.lower

pub box_of-requires-clause-upper : goal.box_of-requires-clause-upper
box_of-requires-clause-upper c =
    let d = c.self.inside.split.now in
    let t : State = c.self.inside.progress.state in
    let x : Node = c.index-nodes-node.result in
    let is : now c.args.self.now ≡ t = search rules in
    let within : c.args.node < length c.nodes.result.now = search rules in
    let at : IsAt t.nodes c.args.node x = subst (λ (ns : List Node). IsAt ns c.args.node x) c.nodes.ensures.nodes
    (slice_get_read c.nodes.result.now (length c.nodes.result.now) c.args.node x refl within c.index-nodes-node.is) in
    let region : IsRegionOf d x.region = (states_fit d c.self.inside.budget c.self.inside.root c.self.inside.history.items t c.self.invariant.replayed).regions c.args.node x at in
    subst (λ (y : Node). AllByRecursion IsNarrow y.region.upper) c.index-nodes-node.is region.upper

pub returns-clause-copied : goal.returns-clause-copied
returns-clause-copied c =
    let d = c.self.inside.split.now in
    let t : State = c.self.inside.progress.state in
    let x : Node = c.index-nodes-node.result in
    let is : now c.args.self.now ≡ t = search rules in
    let within : c.args.node < length c.nodes.result.now = search rules in
    let at : IsAt t.nodes c.args.node x = subst (λ (ns : List Node). IsAt ns c.args.node x) c.nodes.ensures.nodes
    (slice_get_read c.nodes.result.now (length c.nodes.result.now) c.args.node x refl within c.index-nodes-node.is) in
    let region : IsRegionOf d x.region = (states_fit d c.self.inside.budget c.self.inside.root c.self.inside.history.items t c.self.invariant.replayed).regions c.args.node x at in
    let held : box_held c.in_ok-box_of.field-0 ≡ box_of x.region =
    subst (λ (y : Node). box_held c.in_ok-box_of.field-0 ≡ box_of y.region) (sym c.index-nodes-node.is) c.in_ok-box_of.ensures in
    let cuts : c.in_ok-copies.field-0 ≡ take c.args.front t.cuts = search rules in
    let task : NodeTask = record { node = c.args.node; front = c.args.front; region = c.in_ok-box_of.field-0; cuts = c.in_ok-copies.field-0; mode = c.mode.result } in
    subst (λ (u : State). IsCopiedNode u c.args.node c.args.front task) (sym is) (record {
      number_is = refl;
      front_is = refl;
      node = x;
      is_node = at;
      region_is = held;
      cuts_are = cuts;
      mode_is = c.mode.ensures;
    })

pub returns-clause-solvable : goal.returns-clause-solvable
returns-clause-solvable c =
    let d = c.self.inside.split.now in
    let t : State = c.self.inside.progress.state in
    let x : Node = c.index-nodes-node.result in
    let is : now c.args.self.now ≡ t = search rules in
    let within : c.args.node < length c.nodes.result.now = search rules in
    let at : IsAt t.nodes c.args.node x = subst (λ (ns : List Node). IsAt ns c.args.node x) c.nodes.ensures.nodes
    (slice_get_read c.nodes.result.now (length c.nodes.result.now) c.args.node x refl within c.index-nodes-node.is) in
    let region : IsRegionOf d x.region = (states_fit d c.self.inside.budget c.self.inside.root c.self.inside.history.items t c.self.invariant.replayed).regions c.args.node x at in
    let es = c.self.inside.history.items in
    let held : box_held c.in_ok-box_of.field-0 ≡ box_of x.region =
    subst (λ (y : Node). box_held c.in_ok-box_of.field-0 ≡ box_of y.region) (sym c.index-nodes-node.is) c.in_ok-box_of.ensures in
    let cuts : c.in_ok-copies.field-0 ≡ take c.args.front t.cuts = search rules in
    let front : c.args.front ≤ length t.cuts = search rules in
    let task : NodeTask = record { node = c.args.node; front = c.args.front; region = c.in_ok-box_of.field-0; cuts = c.in_ok-copies.field-0; mode = c.mode.result } in
    subst (λ (v : Seen). CanBeSolved v task) c.self.view_is (record {
      region = subst (λ (b : Box). IsBoxOf d.model b) (sym held) region.ends;
      cuts = subst (λ (cs : List Cut). AllByRecursion (IsCutOfSplit d.part) cs) (sym cuts) (cuts_of_split d c.self.inside.budget c.self.inside.root es t c.args.front c.self.invariant.replayed);
      few = subst (λ (cs : List Cut). length cs + 1024 < list_limit) (sym cuts) (cuts_are_few d c.self.inside.budget c.self.inside.root es t c.args.front c.self.invariant.replayed c.self.invariant.decomposed c.self.invariant.at_most front);
      ready = λ ready over. subst (λ (cs : List Cut). IsReady d.part cs c.mode.result) (sym cuts)
          (subst (λ (way : Mode). IsReady d.part (take c.args.front t.cuts) way) (sym c.mode.ensures)
          (node_is_ready d c.self.inside.budget c.self.inside.root es t c.args.front c.self.invariant.replayed
          (subst (AreFloorsReady d) c.self.invariant.replayed.state ready) (λ way. over (c.mode.ensures ∙ way))));
    })
