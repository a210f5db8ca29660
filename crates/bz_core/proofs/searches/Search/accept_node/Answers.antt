use Rattle.std.proofs.Common.{◌≡◌, ◌≤◌, ◌<◌, ◌+◌, ◌^◌, ℕ, List, length, rules, subst, sym, vec_capacity}
use Rattle.bz_model.specs.Parting.{blocks_of}
use Rattle.bz_event.specs.declared.events.Entry.{Entry}
use Rattle.bz_history.specs.States.{State}
use Rattle.bz_state.specs.Views.{number_limit}
use Rattle.bz_core.specs.Marking.{with_added}
use Rattle.bz_core.specs.Nodes.{FitsPlan, IsNodePlan}
use Rattle.bz_core.specs.Searches.{Seen}
use Rattle.bz_core.proofs.NodesAccepted.{HasNumbers, IsAnswered, IsAsked, IsEntered, answered, asked, has_numbers, in_any_error, same_search, unchanged}
use Rattle.bz_core.proofs.NodesPlanned.{can_be_planned}
use Rattle.bz_core.proofs.searches.Search.accept_node.Goals as goal

pub plan_with_room-requires : goal.plan_with_room-requires
plan_with_room-requires c =
    let w : Seen = record {
      split = c.self.inside.split.now;
      budget = c.self.inside.budget;
      root = c.self.inside.root;
      history = c.self.inside.history.items;
      marks = c.self.inside.marks;
      quit = c.self.inside.quit;
    } in
    let t : State = c.self.inside.progress.state in
    let ask : IsAsked w.split w.history t c.args.s.now c.args.node c.args.front c.args.stamp =
    asked c.args.self.now w t c.args.s.now c.args.node c.args.front c.args.stamp c.self.view_is c.self.invariant.replayed.state c.requires.stamp c.requires.promise c.requires.rules in
    can_be_planned w.split w.budget w.root w.history t w.marks c.args.s.now c.args.node c.args.front c.self.invariant ask.promise ask.rules

pub invariant_of-self : goal.invariant_of-self
invariant_of-self c =
    let w : Seen = record {
      split = c.self.inside.split.now;
      budget = c.self.inside.budget;
      root = c.self.inside.root;
      history = c.self.inside.history.items;
      marks = c.self.inside.marks;
      quit = c.self.inside.quit;
    } in
    let t : State = c.self.inside.progress.state in
    let refused : c.plan_with_room.new.marks ≡ w.marks = search rules in
    same_search w.split w.budget w.root w.history c.plan_with_room.new.history.items t c.plan_with_room.new.progress.state w.marks c.plan_with_room.new.marks
    c.plan_with_room.ensures.items c.plan_with_room.ensures.state refused c.self.invariant

pub enter_plan-requires-clause-count : goal.enter_plan-requires-clause-count
enter_plan-requires-clause-count c =
    let w : Seen = record {
      split = c.self.inside.split.now;
      budget = c.self.inside.budget;
      root = c.self.inside.root;
      history = c.self.inside.history.items;
      marks = c.self.inside.marks;
      quit = c.self.inside.quit;
    } in
    let t : State = c.self.inside.progress.state in
    let ask : IsAsked w.split w.history t c.args.s.now c.args.node c.args.front c.args.stamp =
    asked c.args.self.now w t c.args.s.now c.args.node c.args.front c.args.stamp c.self.view_is c.self.invariant.replayed.state c.requires.stamp c.requires.promise c.requires.rules in
    let room : length c.plan_with_room.new.history.items + 4 ≤ vec_capacity c.plan_with_room.new.history = search rules in
    let all : length w.history + 4 < 2 ^ 64 = subst (λ (es : List Entry). length es + 4 < 2 ^ 64) c.plan_with_room.ensures.items (search rules) in
    let numbers : HasNumbers w.history t c.args.stamp.worker = has_numbers w.split w.budget w.root w.history t w.marks c.args.stamp.worker c.self.invariant all in
    subst (λ (n : ℕ). n + 4 < 2 ^ 64) (sym ask.count) numbers.count

pub enter_plan-requires-clause-place : goal.enter_plan-requires-clause-place
enter_plan-requires-clause-place c =
    let w : Seen = record {
      split = c.self.inside.split.now;
      budget = c.self.inside.budget;
      root = c.self.inside.root;
      history = c.self.inside.history.items;
      marks = c.self.inside.marks;
      quit = c.self.inside.quit;
    } in
    let t : State = c.self.inside.progress.state in
    let room : length c.plan_with_room.new.history.items + 4 ≤ vec_capacity c.plan_with_room.new.history = search rules in
    let all : length w.history + 4 < 2 ^ 64 = subst (λ (es : List Entry). length es + 4 < 2 ^ 64) c.plan_with_room.ensures.items (search rules) in
    let numbers : HasNumbers w.history t c.args.stamp.worker = has_numbers w.split w.budget w.root w.history t w.marks c.args.stamp.worker c.self.invariant all in
    subst (λ (u : State). u.entries + 4 < 2 ^ 64) (sym c.plan_with_room.ensures.state) numbers.place

pub enter_plan-requires-clause-units : goal.enter_plan-requires-clause-units
enter_plan-requires-clause-units c =
    let w : Seen = record {
      split = c.self.inside.split.now;
      budget = c.self.inside.budget;
      root = c.self.inside.root;
      history = c.self.inside.history.items;
      marks = c.self.inside.marks;
      quit = c.self.inside.quit;
    } in
    let t : State = c.self.inside.progress.state in
    let room : length c.plan_with_room.new.history.items + 4 ≤ vec_capacity c.plan_with_room.new.history = search rules in
    let all : length w.history + 4 < 2 ^ 64 = subst (λ (es : List Entry). length es + 4 < 2 ^ 64) c.plan_with_room.ensures.items (search rules) in
    let numbers : HasNumbers w.history t c.args.stamp.worker = has_numbers w.split w.budget w.root w.history t w.marks c.args.stamp.worker c.self.invariant all in
    subst (λ (u : State). u.units + 1 < number_limit) (sym c.plan_with_room.ensures.state) numbers.units

pub enter_plan-requires-clause-plan : goal.enter_plan-requires-clause-plan
enter_plan-requires-clause-plan c =
    let w : Seen = record {
      split = c.self.inside.split.now;
      budget = c.self.inside.budget;
      root = c.self.inside.root;
      history = c.self.inside.history.items;
      marks = c.self.inside.marks;
      quit = c.self.inside.quit;
    } in
    let t : State = c.self.inside.progress.state in
    let plan = c.in_ok-plan.plan in
    let made : IsNodePlan w.split t c.args.node c.args.front c.args.s.now.answer plan = search rules in
    subst (λ (u : State). FitsPlan w.split u plan) (sym c.plan_with_room.ensures.state) made.fits

pub invariant_of-self-2 : goal.invariant_of-self-2
invariant_of-self-2 c =
    let w : Seen = record {
      split = c.self.inside.split.now;
      budget = c.self.inside.budget;
      root = c.self.inside.root;
      history = c.self.inside.history.items;
      marks = c.self.inside.marks;
      quit = c.self.inside.quit;
    } in
    let t : State = c.self.inside.progress.state in
    let ask : IsAsked w.split w.history t c.args.s.now c.args.node c.args.front c.args.stamp =
    asked c.args.self.now w t c.args.s.now c.args.node c.args.front c.args.stamp c.self.view_is c.self.invariant.replayed.state c.requires.stamp c.requires.promise c.requires.rules in
    let plan = c.in_ok-plan.plan in
    let made : IsNodePlan w.split t c.args.node c.args.front c.args.s.now.answer plan = search rules in
    let marked : c.plan_with_room.new.marks ≡ with_added (blocks_of w.split.part) plan.entered.first w.marks = search rules in
    let entered : IsEntered w.split w.budget w.history t w.marks c.args.s.now c.args.stamp plan c.plan_with_room.new.progress.state c.enter_plan.new.progress.state
    c.plan_with_room.new.history.items c.enter_plan.new.history.items c.plan_with_room.new.marks c.take_off.new.self c.enter_plan.result = record {
      same_state = c.plan_with_room.ensures.state;
      same_items = c.plan_with_room.ensures.items;
      room_is = marked;
      left_is = c.take_off.ensures;
      state = c.enter_plan.ensures.state;
      items = c.enter_plan.ensures.items;
      entries = c.enter_plan.ensures.entries;
    } in
    let all : IsAnswered c.args.self.now w c.args.s.now c.args.stamp c.enter_plan.new.progress.state c.enter_plan.new.history.items c.take_off.new.self c.enter_plan.result =
    answered c.args.self.now w t c.args.s.now c.args.node c.args.front c.args.stamp plan c.plan_with_room.new.progress.state c.enter_plan.new.progress.state
    c.plan_with_room.new.history.items c.enter_plan.new.history.items c.plan_with_room.new.marks c.take_off.new.self c.enter_plan.result
    c.self.view_is c.self.invariant ask c.requires.task made entered in
    all.search

pub returns-in_err-plan-clause-refused : goal.returns-in_err-plan-clause-refused
returns-in_err-plan-clause-refused c =
    let w : Seen = record {
      split = c.self.inside.split.now;
      budget = c.self.inside.budget;
      root = c.self.inside.root;
      history = c.self.inside.history.items;
      marks = c.self.inside.marks;
      quit = c.self.inside.quit;
    } in
    let t : State = c.self.inside.progress.state in
    let refused : c.plan_with_room.new.marks ≡ w.marks = search rules in
    in_any_error c.from_residual.result _ (unchanged c.args.self.now w c.plan_with_room.new.history.items c.plan_with_room.new.marks c.self.view_is c.plan_with_room.ensures.items refused)

pub returns-clause-entries : goal.returns-clause-entries
returns-clause-entries c =
    let w : Seen = record {
      split = c.self.inside.split.now;
      budget = c.self.inside.budget;
      root = c.self.inside.root;
      history = c.self.inside.history.items;
      marks = c.self.inside.marks;
      quit = c.self.inside.quit;
    } in
    let t : State = c.self.inside.progress.state in
    let ask : IsAsked w.split w.history t c.args.s.now c.args.node c.args.front c.args.stamp =
    asked c.args.self.now w t c.args.s.now c.args.node c.args.front c.args.stamp c.self.view_is c.self.invariant.replayed.state c.requires.stamp c.requires.promise c.requires.rules in
    let plan = c.in_ok-plan.plan in
    let made : IsNodePlan w.split t c.args.node c.args.front c.args.s.now.answer plan = search rules in
    let marked : c.plan_with_room.new.marks ≡ with_added (blocks_of w.split.part) plan.entered.first w.marks = search rules in
    let entered : IsEntered w.split w.budget w.history t w.marks c.args.s.now c.args.stamp plan c.plan_with_room.new.progress.state c.enter_plan.new.progress.state
    c.plan_with_room.new.history.items c.enter_plan.new.history.items c.plan_with_room.new.marks c.take_off.new.self c.enter_plan.result = record {
      same_state = c.plan_with_room.ensures.state;
      same_items = c.plan_with_room.ensures.items;
      room_is = marked;
      left_is = c.take_off.ensures;
      state = c.enter_plan.ensures.state;
      items = c.enter_plan.ensures.items;
      entries = c.enter_plan.ensures.entries;
    } in
    let all : IsAnswered c.args.self.now w c.args.s.now c.args.stamp c.enter_plan.new.progress.state c.enter_plan.new.history.items c.take_off.new.self c.enter_plan.result =
    answered c.args.self.now w t c.args.s.now c.args.node c.args.front c.args.stamp plan c.plan_with_room.new.progress.state c.enter_plan.new.progress.state
    c.plan_with_room.new.history.items c.enter_plan.new.history.items c.plan_with_room.new.marks c.take_off.new.self c.enter_plan.result
    c.self.view_is c.self.invariant ask c.requires.task made entered in
    all.entries

pub returns-clause-search : goal.returns-clause-search
returns-clause-search c =
    let w : Seen = record {
      split = c.self.inside.split.now;
      budget = c.self.inside.budget;
      root = c.self.inside.root;
      history = c.self.inside.history.items;
      marks = c.self.inside.marks;
      quit = c.self.inside.quit;
    } in
    let t : State = c.self.inside.progress.state in
    let ask : IsAsked w.split w.history t c.args.s.now c.args.node c.args.front c.args.stamp =
    asked c.args.self.now w t c.args.s.now c.args.node c.args.front c.args.stamp c.self.view_is c.self.invariant.replayed.state c.requires.stamp c.requires.promise c.requires.rules in
    let plan = c.in_ok-plan.plan in
    let made : IsNodePlan w.split t c.args.node c.args.front c.args.s.now.answer plan = search rules in
    let marked : c.plan_with_room.new.marks ≡ with_added (blocks_of w.split.part) plan.entered.first w.marks = search rules in
    let entered : IsEntered w.split w.budget w.history t w.marks c.args.s.now c.args.stamp plan c.plan_with_room.new.progress.state c.enter_plan.new.progress.state
    c.plan_with_room.new.history.items c.enter_plan.new.history.items c.plan_with_room.new.marks c.take_off.new.self c.enter_plan.result = record {
      same_state = c.plan_with_room.ensures.state;
      same_items = c.plan_with_room.ensures.items;
      room_is = marked;
      left_is = c.take_off.ensures;
      state = c.enter_plan.ensures.state;
      items = c.enter_plan.ensures.items;
      entries = c.enter_plan.ensures.entries;
    } in
    let all : IsAnswered c.args.self.now w c.args.s.now c.args.stamp c.enter_plan.new.progress.state c.enter_plan.new.history.items c.take_off.new.self c.enter_plan.result =
    answered c.args.self.now w t c.args.s.now c.args.node c.args.front c.args.stamp plan c.plan_with_room.new.progress.state c.enter_plan.new.progress.state
    c.plan_with_room.new.history.items c.enter_plan.new.history.items c.plan_with_room.new.marks c.take_off.new.self c.enter_plan.result
    c.self.view_is c.self.invariant ask c.requires.task made entered in
    all.seen
