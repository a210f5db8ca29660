use Rattle.std.proofs.Common.{◌≡◌, ◌≤◌, ◌<◌, ◌-◌, ◌^◌, List, [], ◌∷◌, ◌++◌, length, rules, subst, sym}
use Rattle.bz_first.specs.Tests.{AllHold}
use Rattle.bz_event.specs.declared.events.Entry.{Entry}
use Rattle.bz_event.specs.Floors.{SolvesSomeFloor}
use Rattle.bz_history.specs.Histories.{count_of}
use Rattle.bz_history.specs.States.{State, effect}
use Rattle.bz_history.proofs.SizeSteps.{sizes_are_right}
use Rattle.bz_rules.specs.Entries.{floor_events}
use Rattle.bz_rules.specs.Following.{stamped}
use Rattle.bz_rules.specs.Rules.{floor_rules}
use Rattle.bz_state.specs.Views.{HasPlace}
use Rattle.bz_core.specs.Searches.{IsSearch, Marks, now}
use Rattle.bz_core.proofs.FloorsGiven.{IsFloorGiven, enters_floor, floor_given}
use Rattle.bz_core.proofs.searches.Search.accept_floor.Goals as goal

pub enter_floor-requires : goal.enter_floor-requires
enter_floor-requires c =
    let d = c.self.inside.split.now in
    let t : State = c.self.inside.progress.state in
    let es : List Entry = c.self.inside.history.items in
    let e = c.in_ok-entered.entered in
    let is : now c.args.self.now ≡ t = search rules in
    let promise : SolvesSomeFloor d.model d.part c.args.s.now = search rules in
    let all : AllHold (floor_rules d t c.args.block c.args.s.now.lp) = search rules in
    let entered : e ∷ [] ≡ floor_events c.args.block c.args.s.now.answer = search rules in
    let given : IsFloorGiven d c.self.inside.budget c.self.inside.root es t c.self.inside.marks c.args.s.now c.args.stamp.worker e =
    floor_given d c.self.inside.budget c.self.inside.root es t c.self.inside.marks c.args.s.now c.args.block c.args.stamp.worker e
    c.self.invariant promise c.requires.task all entered in
    let state : c.reserve.new.self.state ≡ t = search rules in
    let cuts : 1 ≤ c.reserve.new.self.room.cuts = search rules in
    let floors : 1 ≤ c.reserve.new.self.room.floors = search rules in
    let sizes = sizes_are_right d c.self.inside.budget c.self.inside.root es t c.self.invariant.replayed in
    let few : length es < 2 ^ 64 - 1 = search rules in
    let place : HasPlace t = subst (λ n. n < 2 ^ 64 - 1) (sym sizes.entries) few in
    enters_floor d c.self.inside.budget c.self.inside.root _ t c.reserve.new.self c.args.block c.args.s.now.answer e entered state cuts floors place given.search.replayed

pub invariant_of-self-2 : goal.invariant_of-self-2
invariant_of-self-2 c =
    let d = c.self.inside.split.now in
    let t : State = c.self.inside.progress.state in
    let es : List Entry = c.self.inside.history.items in
    let e = c.in_ok-entered.entered in
    let is : now c.args.self.now ≡ t = search rules in
    let promise : SolvesSomeFloor d.model d.part c.args.s.now = search rules in
    let all : AllHold (floor_rules d t c.args.block c.args.s.now.lp) = search rules in
    let entered : e ∷ [] ≡ floor_events c.args.block c.args.s.now.answer = search rules in
    let given : IsFloorGiven d c.self.inside.budget c.self.inside.root es t c.self.inside.marks c.args.s.now c.args.stamp.worker e =
    floor_given d c.self.inside.budget c.self.inside.root es t c.self.inside.marks c.args.s.now c.args.block c.args.stamp.worker e
    c.self.invariant promise c.requires.task all entered in
    let written : c.enter_floor.new.progress.state ≡ effect d t e = subst (λ (u : State). c.enter_floor.new.progress.state ≡ effect d u e) c.reserve.ensures.state (c.enter_floor.ensures d) in
    let also : c.in_ok-appended.appended ∷ [] ≡ floor_events c.args.block c.args.s.now.answer = search rules in
    let same : c.in_ok-appended.appended ≡ e = cc in
    let count : c.args.stamp.count ≡ count_of c.args.stamp.worker es = search rules in
    let before : c.reserve-2.new.self.items ≡ es = search rules in
    let longer : c.push_entry.new.history.items ≡ es ++ stamped c.args.stamp.worker (count_of c.args.stamp.worker es) (e ∷ []) = rw (sym count, sym same, sym before) c.push_entry.ensures in
    subst (λ (all : List Entry). IsSearch d c.self.inside.budget c.self.inside.root all c.enter_floor.new.progress.state c.set_floor.new.self) (sym longer)
    (subst (λ (u : State). IsSearch d c.self.inside.budget c.self.inside.root (es ++ stamped c.args.stamp.worker (count_of c.args.stamp.worker es) (e ∷ [])) u c.set_floor.new.self) (sym written)
    (subst (λ (m : Marks). IsSearch d c.self.inside.budget c.self.inside.root (es ++ stamped c.args.stamp.worker (count_of c.args.stamp.worker es) (e ∷ [])) (effect d t e) m) (sym c.set_floor.ensures)
    given.search))
