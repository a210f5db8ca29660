-- What an accepted stop makes of a search.
use Rattle.std.proofs.Common.{◌≡◌, ◌<◌, ◌^◌, ◌-◌, ℕ, false, true, Bool, List, [], ◌∷◌, ◌++◌, length, refl, sym, subst}
use Rattle.std.specs.Prelude.{◌&&◌, ◌==◌}
use Rattle.bz_first.specs.Tests.{AllHold}
use Rattle.bz_model.specs.Splits.{Decomposition}
use Rattle.bz_event.specs.declared.answers.Solved.{Solved}
use Rattle.bz_event.specs.declared.events.Entry.{Entry}
use Rattle.bz_event.specs.declared.events.Event.TheVariants as event
use Rattle.bz_event.specs.declared.events.Why.TheVariants as why
use Rattle.bz_event.specs.Stops.{StopsSomeTask}
use Rattle.bz_tableau.specs.declared.answers.WideAt.{WideAt}
use Rattle.bz_history.specs.declared.state.Region.{Region}
use Rattle.bz_history.specs.Histories.{IsReplay, count_of}
use Rattle.bz_history.specs.States.{State, effect}
use Rattle.bz_history.proofs.SizeSteps.{sizes_are_right}
use Rattle.bz_rules.specs.Entries.{stop_entries}
use Rattle.bz_rules.specs.Following.{FollowInTurn, stamped}
use Rattle.bz_rules.specs.Rules.{stop_answer_rules}
use Rattle.bz_rules.proofs.GoingOn.{histories_go_on}
use Rattle.bz_rules.proofs.StopsFollow.{stops_follow}
use Rattle.bz_state.specs.Views.{HasPlace}
use Rattle.bz_core.specs.Handing.{unmarked}
use Rattle.bz_core.specs.Searches.{AreMarks, IsSearch, Marks}
use Rattle.bz_core.proofs.Marking.{unmarked_kept}

and_false : (b : Bool) → (b && false) ≡ false
and_false true = refl
and_false false = refl

-- there is a number for one more entry
pub has_place : (d : Decomposition) (budget : ℕ) (root : Region) (es : List Entry) (t : State) → IsReplay d budget root es t → length es < 2 ^ 64 - 1 → HasPlace t
has_place d budget root es t r few = subst (λ (n : ℕ). n < 2 ^ 64 - 1) (sym (sizes_are_right d budget root es t r).entries) few

pub record IsStopGiven (d : Decomposition) (budget : ℕ) (root : Region) (es : List Entry) (t : State) (marks : Marks)
    (s : Solved WideAt) (worker : ℕ) : Type 0 where
  pub entries : stop_entries d budget t s ≡ event.Stop (why.Wide s) ∷ []
  pub search : IsSearch d budget root (es ++ stamped worker (count_of worker es) (event.Stop (why.Wide s) ∷ []))
      (effect d t (event.Stop (why.Wide s))) (unmarked s.task marks)

pub stop_given : (d : Decomposition) (budget : ℕ) (root : Region) (es : List Entry) (t : State) (marks : Marks) (s : Solved WideAt) (worker : ℕ)
    → IsSearch d budget root es t marks → StopsSomeTask d.model d.part s → AllHold (stop_answer_rules d t s)
    → IsStopGiven d budget root es t marks s worker
stop_given d budget root es t marks s worker is promise rules =
    let entries : stop_entries d budget t s ≡ event.Stop (why.Wide s) ∷ [] = rw (and_false (t.units == budget)) refl in
    let follow : FollowInTurn d budget t (event.Stop (why.Wide s) ∷ []) =
    subst (FollowInTurn d budget t) entries
    (stops_follow d budget root es t s (record { decomposed = is.decomposed; replayed = is.replayed; units = is.left }) promise rules) in
    let kept : AreMarks d t (unmarked s.task marks) = unmarked_kept d t marks s.task is.marks_are in
    record {
      entries = entries;
      search = record {
        decomposed = is.decomposed;
        positive = is.positive;
        at_most = is.at_most;
        replayed = histories_go_on.legal d budget root es t worker (event.Stop (why.Wide s) ∷ []) is.replayed follow;
        marks_are = record { nodes = kept.nodes; posts = kept.posts; blocks = kept.blocks };
        gaps = λ still i post at live. absurd (cc);
        left = λ still. absurd (cc);
      };
    }
