-- Histories with more entries that follow in turn.
use Rattle.std.proofs.Common.{◌≡◌, refl, sym, ◌∙◌, ap, subst, ℕ, suc, ◌+◌, ◌≤◌, List, [], ◌∷◌, ◌++◌, arith, append_assoc, append-nil, true, false, inl, inr}
use Rattle.std.proofs.lemmas.Bool.{cases_Bool, eqb-true, eqb-false, eq-eqb}
use Rattle.std.specs.Prelude.{Bool, ◌==◌, ◌&&◌, ◌||◌, not, cond, is_some}
use Rattle.std.specs.List.{list_any}
use Rattle.bz_model.specs.Splits.{Decomposition}
use Rattle.bz_event.specs.declared.events.Entry.{Entry}
use Rattle.bz_event.specs.declared.events.Event.{Event}
use Rattle.bz_event.specs.declared.events.Event.TheVariants as event
use Rattle.bz_event.specs.declared.events.Why.TheVariants as why
use Rattle.bz_history.specs.declared.state.Node.{Node}
use Rattle.bz_history.specs.declared.state.Region.{Region}
use Rattle.bz_history.specs.Histories.{IsReplay, count_of}
use Rattle.bz_history.specs.States.{State, effect, is_done, is_open}
use Rattle.bz_history.specs.Steps.{IsAt}
use Rattle.bz_history.proofs.Growing.{step_more}
use Rattle.bz_history.proofs.SizeSteps.{sizes_are_right}
use Rattle.bz_rules.specs.Entries.{after, and_stop, is_spent}
use Rattle.bz_rules.specs.Following.{FollowInTurn, HasUnits, stamped}
use Rattle.bz_rules.specs.Laws.{HistoriesGoOn}

-- ---- lists of events
pub after_more : (d : Decomposition) (t : State) (xs ys : List Event) → after d t (xs ++ ys) ≡ after d (after d t xs) ys
after_more d t [] ys = refl
after_more d t (x ∷ xs) ys = after_more d (effect d t x) xs ys

pub follow_more : (d : Decomposition) (budget : ℕ) (t : State) (xs ys : List Event) → FollowInTurn d budget t xs → FollowInTurn d budget (after d t xs) ys → FollowInTurn d budget t (xs ++ ys)
follow_more d budget t [] ys h g = g
follow_more d budget t (x ∷ xs) ys h g = (h.0, h.1, follow_more d budget (effect d t x) xs ys h.2 g)

-- ---- the stop for the budget
pub some_open : (nodes : List Node) → list_any is_open nodes ≡ true → (n : ℕ) × (x : Node) × IsAt nodes n x × (is_open x ≡ true)
some_open [] h = absurd (cc)
some_open (x ∷ xs) h = elim (cases_Bool (is_open x)) [ inl t ↦ (0, x, refl, t) | inr f ↦ later (some_open xs (rw f at h)) ]
  where
    later : ((n : ℕ) × (y : Node) × IsAt xs n y × (is_open y ≡ true)) → (n : ℕ) × (y : Node) × IsAt (x ∷ xs) n y × (is_open y ≡ true)
    later (n, y, at, stands) = (suc n, y, at, stands)

any_while_running : (stopped any complete : Bool) → (stopped || not any || complete) ≡ false → any ≡ true
any_while_running stopped true complete h = refl
any_while_running true false complete h = absurd (cc)
any_while_running false false complete h = absurd (cc)

pub open_while_running : (t : State) → is_done t ≡ false → (n : ℕ) × (x : Node) × IsAt t.nodes n x × (is_open x ≡ true)
open_while_running t h = some_open t.nodes (any_while_running (is_some t.stop) (list_any is_open t.nodes) _ h)

spent_parts : (a b : Bool) → (a && not b) ≡ true → (a ≡ true) × (b ≡ false)
spent_parts true false h = (refl, refl)
spent_parts true true h = absurd (cc)
spent_parts false b h = absurd (cc)

pub stop_follows : (d : Decomposition) (budget : ℕ) (t : State) (events : List Event) → FollowInTurn d budget t events → FollowInTurn d budget t (and_stop d budget t events)
stop_follows d budget t events h = follow_more d budget t events _ h (by (is_spent budget (after d t events)) refl)
  where
    by : (b : Bool) → is_spent budget (after d t events) ≡ b → FollowInTurn d budget (after d t events) (cond b (event.Stop why.Budget ∷ []) [])
    by false is = tt
    by true is =
        let parts : ((after d t events).units == budget ≡ true) × (is_done (after d t events) ≡ false) = spent_parts ((after d t events).units == budget) (is_done (after d t events)) is in
        (parts.1, (eqb-true _ _ parts.0, open_while_running (after d t events) parts.1), tt)

-- ---- stamps
count_more : (worker : ℕ) (es : List Entry) (e : Entry) → count_of worker (es ++ e ∷ []) ≡ count_of worker es + cond (e.stamp.worker == worker) 1 0
count_more worker [] e = omega arith
count_more worker (x ∷ es) e =
    let rest : count_of worker (es ++ e ∷ []) ≡ count_of worker es + cond (e.stamp.worker == worker) 1 0 = count_more worker es e in
    omega arith

count_own : (worker count : ℕ) (es : List Entry) (e : Event) → count_of worker (es ++ record { stamp = record { worker = worker; count = count }; event = e } ∷ []) ≡ suc (count_of worker es)
count_own worker count es e =
    let more : count_of worker (es ++ record { stamp = record { worker = worker; count = count }; event = e } ∷ []) ≡ count_of worker es + cond (worker == worker) 1 0 = count_more worker es (record { stamp = record { worker = worker; count = count }; event = e }) in
    let same : (worker == worker) ≡ true = eq-eqb worker worker refl in
    more ∙ rw same (omega arith)

legal : (d : Decomposition) (budget : ℕ) (root : Region) (events : List Event) (es : List Entry) (t : State) (worker count : ℕ) → count ≡ count_of worker es → IsReplay d budget root es t → FollowInTurn d budget t events → IsReplay d budget root (es ++ stamped worker count events) (after d t events)
legal d budget root [] es t worker count is r h = subst (λ all. IsReplay d budget root all t) (sym (append-nil es)) r
legal d budget root (e ∷ events) es t worker count is r h =
    subst (λ all. IsReplay d budget root all (after d (effect d t e) events)) (append_assoc es (entry ∷ []) (stamped worker (suc count) events))
    (legal d budget root events (es ++ entry ∷ []) (effect d t e) worker (suc count) (ap suc is ∙ sym (count_own worker count es e)) one h.2)
  where
    entry : Entry
    entry = record { stamp = record { worker = worker; count = count }; event = e }

    one : IsReplay d budget root (es ++ entry ∷ []) (effect d t e)
    one = step_more d budget root es t entry r (record { running = h.0; stamp = is; may = h.1 })

-- ---- units
not_spent : (a b : Bool) → (a && not b) ≡ false → b ≡ false → a ≡ false
not_spent false b h g = refl
not_spent true false h g = absurd (cc)
not_spent true true h g = absurd (cc)

unspent : (d : Decomposition) (budget : ℕ) (u : State) → u.units ≤ budget → HasUnits budget (after d u (cond (is_spent budget u) (event.Stop why.Budget ∷ []) []))
unspent d budget u within = by (is_spent budget u) refl
  where
    by : (b : Bool) → is_spent budget u ≡ b → HasUnits budget (after d u (cond b (event.Stop why.Budget ∷ []) []))
    by true is running = absurd (cc)
    by false is running =
        let other : (u.units == budget) ≡ false = not_spent (u.units == budget) (is_done u) is running in
        let differs : u.units ≡ budget → ⊥ = eqb-false _ _ other in
        omega (arith, differs)

pub histories_go_on : HistoriesGoOn
histories_go_on = record {
  legal = λ d budget root es t worker events r h. legal d budget root events es t worker (count_of worker es) refl r h;
  units = λ d budget root es t events r h.
      subst (HasUnits budget) (sym (after_more d t events _)) (unspent d budget (after d t events) ((sizes_are_right d budget root _ (after d t events) (legal d budget root events es t 0 (count_of 0 es) refl r h)).spent));
}
