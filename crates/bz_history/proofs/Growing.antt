-- Histories with one more entry.
use Rattle.std.proofs.Common.{◌≡◌, refl, sym, ◌∙◌, ap, subst, ℕ, ◌+◌, List, [], ◌∷◌, ◌++◌, arith, append_assoc, append-nil}
use Rattle.std.specs.Prelude.{◌==◌, cond}
use Rattle.bz_model.specs.Splits.{Decomposition}
use Rattle.bz_event.specs.declared.events.Entry.{Entry}
use Rattle.bz_history.specs.declared.state.Region.{Region}
use Rattle.bz_history.specs.Histories.{IsReplay, count_of, no_entries}
use Rattle.bz_history.specs.States.{State, effect, opening, replay}
use Rattle.bz_history.specs.Steps.{IsLegalFrom, IsStep, counted}

-- the numbers of entries after all of these
abbrev counts_after : (ℕ → ℕ) → List Entry → ℕ → ℕ
counts_after counts [] = counts
counts_after counts (e ∷ es) = counts_after (counted counts e) es

-- each worker has as many entries as the numbers say
abbrev AreCounts : (ℕ → ℕ) → List Entry → Type 0
AreCounts counts es = (worker : ℕ) → counts worker ≡ count_of worker es

-- ---- one more entry
count_more : (worker : ℕ) (es : List Entry) (e : Entry) → count_of worker (es ++ e ∷ []) ≡ count_of worker es + cond (e.stamp.worker == worker) 1 0
count_more worker [] e = omega arith
count_more worker (x ∷ es) e =
    let rest : count_of worker (es ++ e ∷ []) ≡ count_of worker es + cond (e.stamp.worker == worker) 1 0 = count_more worker es e in
    omega arith

counts_more : (counts : ℕ → ℕ) (es : List Entry) (e : Entry) → AreCounts counts es → AreCounts (counted counts e) (es ++ e ∷ [])
counts_more counts es e h worker =
    ap (λ n. n + cond (e.stamp.worker == worker) 1 0) (h worker) ∙ sym (count_more worker es e)

step_with : (d : Decomposition) (budget : ℕ) (counts others : ℕ → ℕ) (t : State) (e : Entry) → ((worker : ℕ) → counts worker ≡ others worker) → IsStep d budget counts t e → IsStep d budget others t e
step_with d budget counts others t e h s = record { running = s.running; stamp = s.stamp ∙ h e.stamp.worker; may = s.may }

replay_more : (d : Decomposition) (t : State) (es : List Entry) (e : Entry) → replay d t (es ++ e ∷ []) ≡ effect d (replay d t es) e.event
replay_more d t [] e = refl
replay_more d t (x ∷ es) e = replay_more d (effect d t x.event) es e

legal_more : (d : Decomposition) (budget : ℕ) (counts : ℕ → ℕ) (t : State) (es : List Entry) (e : Entry) → IsLegalFrom d budget counts t es → IsStep d budget (counts_after counts es) (replay d t es) e → IsLegalFrom d budget counts t (es ++ e ∷ [])
legal_more d budget counts t [] e h s = (s, tt)
legal_more d budget counts t (x ∷ es) e h s = (h.0, legal_more d budget (counted counts x) (effect d t x.event) es e h.1 s)

counts_after_is : (counts : ℕ → ℕ) (before es : List Entry) → AreCounts counts before → AreCounts (counts_after counts es) (before ++ es)
counts_after_is counts before [] h = subst (AreCounts counts) (sym (append-nil before)) h
counts_after_is counts before (e ∷ es) h = subst (AreCounts (counts_after (counted counts e) es)) (append_assoc before (e ∷ []) es) (counts_after_is (counted counts e) (before ++ e ∷ []) es (counts_more counts before e h))

-- after a legal history the counts are those of its entries
end_counts : (d : Decomposition) (budget : ℕ) (root : Region) (es : List Entry) (t : State) (e : Entry) → IsReplay d budget root es t → IsStep d budget (λ worker. count_of worker es) t e → IsStep d budget (counts_after no_entries es) (replay d (opening root) es) e
end_counts d budget root es t e r s =
    step_with d budget (λ worker. count_of worker es) (counts_after no_entries es) (replay d (opening root) es) e
    (λ worker. sym (counts_after_is no_entries [] es (λ w. refl) worker))
    (subst (λ u. IsStep d budget (λ worker. count_of worker es) u e) (sym r.state) s)

-- the history with one more entry that may follow
pub step_more : (d : Decomposition) (budget : ℕ) (root : Region) (es : List Entry) (t : State) (e : Entry) → IsReplay d budget root es t → IsStep d budget (λ worker. count_of worker es) t e → IsReplay d budget root (es ++ e ∷ []) (effect d t e.event)
step_more d budget root es t e r s = record {
  root_is = r.root_is;
  legal = legal_more d budget no_entries (opening root) es e r.legal (end_counts d budget root es t e r s);
  state = replay_more d (opening root) es e ∙ ap (λ u. effect d u e.event) r.state;
}

-- ---- what holds of all
-- the entries before these, with what holds of them
record IsPrefix (d : Decomposition) (budget : ℕ) (root : Region) (Holds : List Entry → State → Type 0) (counts : ℕ → ℕ) (before : List Entry) (t : State) : Type 0 where
  replayed : IsReplay d budget root before t
  counts_are : AreCounts counts before
  holds : Holds before t

-- the step that keeps it
abbrev pub Keeps : Decomposition → ℕ → Region → (List Entry → State → Type 0) → Type 0
Keeps d budget root Holds = (es : List Entry) (t : State) (e : Entry) → IsReplay d budget root es t → IsStep d budget (λ worker. count_of worker es) t e → Holds es t → Holds (es ++ e ∷ []) (effect d t e.event)

prefix_more : (d : Decomposition) (budget : ℕ) (root : Region) (Holds : List Entry → State → Type 0) (counts : ℕ → ℕ) (before : List Entry) (t : State) (e : Entry) → Keeps d budget root Holds → IsStep d budget counts t e → IsPrefix d budget root Holds counts before t → IsPrefix d budget root Holds (counted counts e) (before ++ e ∷ []) (effect d t e.event)
prefix_more d budget root Holds counts before t e keeps s p =
    let here : IsStep d budget (λ worker. count_of worker before) t e = step_with d budget counts (λ worker. count_of worker before) t e p.counts_are s in
    record {
      replayed = step_more d budget root before t e p.replayed here;
      counts_are = counts_more counts before e p.counts_are;
      holds = keeps before t e p.replayed here p.holds;
    }

grow : (d : Decomposition) (budget : ℕ) (root : Region) (Holds : List Entry → State → Type 0) (counts : ℕ → ℕ) (before : List Entry) (t : State) (es : List Entry) → Keeps d budget root Holds → IsPrefix d budget root Holds counts before t → IsLegalFrom d budget counts t es → Holds (before ++ es) (replay d t es)
grow d budget root Holds counts before t [] keeps p h = subst (λ es. Holds es t) (sym (append-nil before)) p.holds
grow d budget root Holds counts before t (e ∷ es) keeps p h =
    subst (λ all. Holds all (replay d (effect d t e.event) es)) (append_assoc before (e ∷ []) es)
    (grow d budget root Holds (counted counts e) (before ++ e ∷ []) (effect d t e.event) es keeps (prefix_more d budget root Holds counts before t e keeps h.0 p) h.1)

-- what holds of a search that has just begun, and with any further entry, holds of every legal history
pub histories_grow : (d : Decomposition) (budget : ℕ) (root : Region) (Holds : List Entry → State → Type 0) → Holds [] (opening root) → Keeps d budget root Holds → (es : List Entry) (t : State) → IsReplay d budget root es t → Holds es t
histories_grow d budget root Holds begins keeps es t r =
    subst (Holds es) r.state (grow d budget root Holds no_entries [] (opening root) es keeps
    (record { replayed = record { root_is = r.root_is; legal = tt; state = refl }; counts_are = λ worker. refl; holds = begins }) r.legal)
