-- What an answer to a task makes of a search.
use Rattle.std.specs.Prelude.{ℕ, ◌≡◌, List, ◌++◌, length, Option}
use Rattle.bz_first.specs.Tests.{AllHold, IsFirstFault}
use Rattle.bz_event.specs.declared.answers.SepAnswer.{SepAnswer}
use Rattle.bz_event.specs.declared.answers.Solved.{Solved}
use Rattle.bz_event.specs.declared.events.Event.{Event}
use Rattle.bz_event.specs.declared.events.Stamp.{Stamp}
use Rattle.bz_rules.specs.declared.refused.Refused.TheVariants as refused
use Rattle.bz_rules.specs.Entries.{IsKnownAnswer, separation_entries}
use Rattle.bz_rules.specs.Following.{stamped}
use Rattle.bz_rules.specs.Rules.{Rules, separation_answer_rules}
use Rattle.bz_core.specs.declared.answering.Taken.{Taken}
use Rattle.bz_core.specs.declared.answering.Taken.TheVariants as taken
use Rattle.bz_core.specs.Handing.{unmarked}
use Rattle.bz_core.specs.Searches.{Marks, Seen, now}

-- the history has these further entries, stamped by the worker from the given count up, and the mark of the task is off
abbrev pub with_entries : Seen → Stamp → List Event → Marks → Seen
with_entries v stamp events marks =
    record v { history = v.history ++ stamped stamp.worker stamp.count events; marks = marks }

-- Where all rules hold, the events are appended. Else the first that doesn't hold answers, and nothing is changed.
abbrev pub Gives : Seen → Seen → Stamp → Rules → List Event → Marks → Taken → Type 0
Gives old new stamp rules events marks (taken.Done entries) =
    AllHold rules × (new ≡ with_entries old stamp events marks) × (entries ≡ length events)
Gives old new stamp rules events marks (taken.Late ended_by) = IsFirstFault rules (refused.Late ended_by) × (new ≡ old)
Gives old new stamp rules events marks taken.Unfit = IsFirstFault rules refused.Unfit × (new ≡ old)

-- an answer of a separation, whose cut has this number in the pool, or is new
pub record GivesSeparation (old new : Seen) (stamp : Stamp) (s : Solved SepAnswer) (taken : Taken) : Type 0 where
  pub known : Option ℕ
  pub is_known : IsKnownAnswer (now old).cuts known s.answer
  pub gives : Gives old new stamp (separation_answer_rules old.split (now old) s)
      (separation_entries old.split old.budget (now old) known s) (unmarked s.task old.marks) taken
