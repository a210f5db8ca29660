use Rattle.std.proofs.Common.{◌≡◌, ◌≤◌, ◌<◌, ◌+◌, ◌^◌, ◌∙◌, List, ◌++◌, ap, arith, length, rules, subst, sym}
use Rattle.bz_first.specs.Tests.{AllHold}
use Rattle.bz_event.specs.declared.answers.SepAnswer.{SepAnswer}
use Rattle.bz_event.specs.declared.answers.Solved.{Solved}
use Rattle.bz_event.specs.declared.events.Entry.{Entry}
use Rattle.bz_event.specs.declared.events.Event.{Event}
use Rattle.bz_event.specs.Separations.{SolvesSomeSeparation}
use Rattle.bz_history.specs.Histories.{count_of}
use Rattle.bz_history.specs.States.{State}
use Rattle.bz_rules.specs.Entries.{IsKnownAnswer, after, and_stop, is_spent, separation_entries, separation_events}
use Rattle.bz_rules.specs.Following.{stamped}
use Rattle.bz_rules.specs.Rules.{separation_answer_rules}
use Rattle.bz_rules.proofs.FittingStates.{states_fit}
use Rattle.bz_core.specs.declared.entering.Planned.{Planned}
use Rattle.bz_core.specs.Handing.{unmarked}
use Rattle.bz_core.specs.Searches.{Seen, now}
use Rattle.bz_core.specs.Separations.{answer_events, planned_events}
use Rattle.bz_core.proofs.SeparationsAnswered.{answered}
use Rattle.bz_core.proofs.SeparationsEntered.{HasNumbers, count_at_most, enters_first, entries_are, has_numbers, search_entered, state_is}
use Rattle.bz_core.proofs.searches.Search.accept_separation.Goals as goal

pub plan_separation-requires-clause-fits : goal.plan_separation-requires-clause-fits
plan_separation-requires-clause-fits c =
    states_fit c.self.inside.split.now c.self.inside.budget c.self.inside.root c.self.inside.history.items c.self.inside.progress.state c.self.invariant.replayed

pub plan_separation-requires-2-clause-fits : goal.plan_separation-requires-2-clause-fits
plan_separation-requires-2-clause-fits c =
    states_fit c.self.inside.split.now c.self.inside.budget c.self.inside.root c.self.inside.history.items c.self.inside.progress.state c.self.invariant.replayed

pub enter_answer-spent-requires-clause-first : goal.enter_answer-spent-requires-clause-first
enter_answer-spent-requires-clause-first c =
    let d = c.self.inside.split.now in
    let t : State = c.self.inside.progress.state in
    let es : List Entry = c.self.inside.history.items in
    let s : Solved SepAnswer = c.args.s.now in
    let is : now c.args.self.now ≡ t = search rules in
    let all : AllHold (separation_answer_rules d t s) = search rules in
    let known : IsKnownAnswer t.cuts c.args.known s.answer = search rules in
    let planned : planned_events c.args.number c.in_ok-entered.entered ≡ separation_events d t c.args.number c.args.block c.args.known s.answer = search rules in
    let state : c.reserve.new.self.state ≡ t = search rules in
    let room : 1 ≤ c.reserve.new.self.room.cuts = search rules in
    let few : length es + 4 < 2 ^ 64 = search rules in
    enters_first d c.reserve.new.self t c.args.number c.args.block c.args.known s.answer c.in_ok-entered.entered state planned known
    (answered d t s c.args.number c.args.block c.requires.task all) room
    (has_numbers d c.self.inside.budget c.self.inside.root es t c.self.inside.marks c.self.invariant few)

pub enter_answer-spent-requires-clause-place : goal.enter_answer-spent-requires-clause-place
enter_answer-spent-requires-clause-place c =
    let t : State = c.self.inside.progress.state in
    let es : List Entry = c.self.inside.history.items in
    let few : length es + 4 < 2 ^ 64 = search rules in
    let state : c.reserve.new.self.state ≡ t = search rules in
    let n : HasNumbers t = has_numbers c.self.inside.split.now c.self.inside.budget c.self.inside.root es t c.self.inside.marks c.self.invariant few in
    (subst HasNumbers (sym state) n).entries

pub enter_answer-spent-requires-clause-units : goal.enter_answer-spent-requires-clause-units
enter_answer-spent-requires-clause-units c =
    let t : State = c.self.inside.progress.state in
    let es : List Entry = c.self.inside.history.items in
    let few : length es + 4 < 2 ^ 64 = search rules in
    let state : c.reserve.new.self.state ≡ t = search rules in
    let n : HasNumbers t = has_numbers c.self.inside.split.now c.self.inside.budget c.self.inside.root es t c.self.inside.marks c.self.invariant few in
    (subst HasNumbers (sym state) n).units

pub push_events-requires-clause-count : goal.push_events-requires-clause-count
push_events-requires-clause-count c =
    let es : List Entry = c.self.inside.history.items in
    let few : length es + 4 < 2 ^ 64 = search rules in
    let count : c.args.stamp.count ≡ count_of c.args.stamp.worker es = search rules in
    let most : count_of c.args.stamp.worker es ≤ length es = count_at_most c.args.stamp.worker es in
    omega (arith, few, count, most)

pub invariant_of-self-2 : goal.invariant_of-self-2
invariant_of-self-2 c =
    let d = c.self.inside.split.now in
    let t : State = c.self.inside.progress.state in
    let es : List Entry = c.self.inside.history.items in
    let s : Solved SepAnswer = c.args.s.now in
    let w = c.args.stamp.worker in
    let entries : List Event = separation_entries d c.self.inside.budget t c.args.known s in
    let is : now c.args.self.now ≡ t = search rules in
    let promise : SolvesSomeSeparation d.model d.part s = search rules in
    let all : AllHold (separation_answer_rules d t s) = search rules in
    let known : IsKnownAnswer t.cuts c.args.known s.answer = search rules in
    let first : planned_events c.args.number c.in_ok-entered.entered ≡ separation_events d t c.args.number c.args.block c.args.known s.answer = search rules in
    let second : planned_events c.args.number c.in_ok-appended.appended ≡ separation_events d t c.args.number c.args.block c.args.known s.answer = search rules in
    let state : c.reserve.new.self.state ≡ t = search rules in
    let spent : c.enter_answer-spent.result ≡ is_spent c.self.inside.budget (after d t (planned_events c.args.number c.in_ok-entered.entered)) = search rules in
    let events : answer_events c.in_ok-appended.appended.first c.args.number c.in_ok-appended.appended.completion c.enter_answer-spent.result ≡ entries =
    entries_are d c.self.inside.budget t s c.args.number c.args.block c.args.known c.requires.task c.in_ok-entered.entered c.in_ok-appended.appended c.enter_answer-spent.result first second spent in
    let count : c.args.stamp.count ≡ count_of w es = search rules in
    let before : c.reserve-2.new.self.items ≡ es = search rules in
    let longer : c.push_events.new.history.items ≡ es ++ stamped w (count_of w es) entries = rw (sym count, sym events, sym before) c.push_events.ensures in
    let entered : c.enter_answer-spent.new.progress.state ≡ after d t (and_stop d c.self.inside.budget t (planned_events c.args.number c.in_ok-entered.entered)) =
    subst (λ (u : State). c.enter_answer-spent.new.progress.state ≡ after d u (and_stop d c.self.inside.budget u (planned_events c.args.number c.in_ok-entered.entered))) state c.enter_answer-spent.ensures.state in
    search_entered d c.self.inside.budget c.self.inside.root es t c.self.inside.marks s c.args.number c.args.block w c.args.known c.self.invariant promise c.requires.task all known
    c.push_events.new.history.items c.enter_answer-spent.new.progress.state c.take_off.new.self longer
    (state_is d c.self.inside.budget t s c.args.number c.args.block c.args.known c.requires.task c.in_ok-entered.entered c.enter_answer-spent.new.progress.state first entered)
    c.take_off.ensures

pub returns-clause-entries : goal.returns-clause-entries
returns-clause-entries c =
    let d = c.self.inside.split.now in
    let t : State = c.self.inside.progress.state in
    let s : Solved SepAnswer = c.args.s.now in
    let appended : Planned = c.in_ok-appended.appended in
    let first : planned_events c.args.number c.in_ok-entered.entered ≡ separation_events d t c.args.number c.args.block c.args.known s.answer = search rules in
    let second : planned_events c.args.number appended ≡ separation_events d t c.args.number c.args.block c.args.known s.answer = search rules in
    let spent : c.enter_answer-spent.result ≡ is_spent c.self.inside.budget (after d t (planned_events c.args.number c.in_ok-entered.entered)) = search rules in
    let events : answer_events appended.first c.args.number appended.completion c.enter_answer-spent.result ≡ separation_entries d c.self.inside.budget t c.args.known s =
    entries_are d c.self.inside.budget t s c.args.number c.args.block c.args.known c.requires.task c.in_ok-entered.entered appended c.enter_answer-spent.result first second spent in
    subst (λ (v : Seen). c.count_events-entries.result ≡ length (separation_entries v.split v.budget (now v) c.args.known s)) c.self.view_is
    (subst (λ (u : State). c.count_events-entries.result ≡ length (separation_entries d c.self.inside.budget u c.args.known s)) (sym c.self.invariant.replayed.state)
    (c.count_events-entries.ensures appended.first c.args.number ∙ ap length events))
