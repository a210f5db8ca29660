use Rattle.std.proofs.Common.{◌≡◌, ◌<◌, ◌^◌, ◌-◌, List, [], ◌∷◌, ◌++◌, length, rules, subst, sym}
use Rattle.bz_first.specs.Tests.{AllHold}
use Rattle.bz_event.specs.declared.answers.Solved.{Solved}
use Rattle.bz_event.specs.declared.events.Entry.{Entry}
use Rattle.bz_event.specs.declared.events.Event.TheVariants as event
use Rattle.bz_event.specs.declared.events.Why.TheVariants as why
use Rattle.bz_event.specs.Stops.{StopsSomeTask}
use Rattle.bz_tableau.specs.declared.answers.WideAt.{WideAt}
use Rattle.bz_history.specs.Histories.{count_of}
use Rattle.bz_history.specs.States.{State, effect}
use Rattle.bz_rules.specs.Following.{stamped}
use Rattle.bz_rules.specs.Rules.{stop_answer_rules}
use Rattle.bz_core.specs.Searches.{IsSearch, Marks, now}
use Rattle.bz_core.proofs.StopsGiven.{IsStopGiven, has_place, stop_given}
use Rattle.bz_core.proofs.searches.Search.accept_stop.Goals as goal

pub stop-requires : goal.stop-requires
stop-requires c =
    let few : length c.self.inside.history.items < 2 ^ 64 - 1 = search rules in
    has_place c.self.inside.split.now c.self.inside.budget c.self.inside.root c.self.inside.history.items c.self.inside.progress.state c.self.invariant.replayed few

pub invariant_of-self-2 : goal.invariant_of-self-2
invariant_of-self-2 c =
    let d = c.self.inside.split.now in
    let t : State = c.self.inside.progress.state in
    let es : List Entry = c.self.inside.history.items in
    let s : Solved WideAt = c.args.s.now in
    let w = c.args.stamp.worker in
    let is : now c.args.self.now ≡ t = search rules in
    let promise : StopsSomeTask d.model d.part s = search rules in
    let all : AllHold (stop_answer_rules d t s) = search rules in
    let given : IsStopGiven d c.self.inside.budget c.self.inside.root es t c.self.inside.marks s w =
    stop_given d c.self.inside.budget c.self.inside.root es t c.self.inside.marks s w c.self.invariant promise all in
    let copied : c.in_ok-copy_stop.field-0 ≡ s = search rules in
    let count : c.args.stamp.count ≡ count_of w es = search rules in
    let before : c.reserve.new.self.items ≡ es = search rules in
    let written : c.stop.new.self.state ≡ effect d t (event.Stop (why.Wide s)) =
    subst (λ (x : Solved WideAt). c.stop.new.self.state ≡ effect d t (event.Stop (why.Wide x))) copied (c.stop.ensures d) in
    let longer : c.push_entry.new.history.items ≡ es ++ stamped w (count_of w es) (event.Stop (why.Wide s) ∷ []) =
    rw (sym count, sym copied, sym before) c.push_entry.ensures in
    let longer_history : List Entry = es ++ stamped w (count_of w es) (event.Stop (why.Wide s) ∷ []) in
    subst (λ (all : List Entry). IsSearch d c.self.inside.budget c.self.inside.root all c.stop.new.self.state c.take_off.new.self) (sym longer)
    (subst (λ (u : State). IsSearch d c.self.inside.budget c.self.inside.root longer_history u c.take_off.new.self) (sym written)
    (subst (λ (m : Marks). IsSearch d c.self.inside.budget c.self.inside.root longer_history (effect d t (event.Stop (why.Wide s))) m) (sym c.take_off.ensures)
    given.search))
