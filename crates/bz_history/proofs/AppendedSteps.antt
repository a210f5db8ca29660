-- The cuts after the floors are those of bases.
use Rattle.std.proofs.Common.{◌≡◌, ◌∙◌, subst, ℕ, suc, ◌<◌, ◌≤◌, List, [], ◌∷◌, ◌++◌, length, inl, inr, arith}
use Rattle.std.specs.Prelude.{◌⊎◌, Some}
use Rattle.std.specs.List.{slice_get}
use Rattle.std.proofs.lemmas.List.{length-append}
use Rattle.std.proofs.lemmas.Option.{slice_get_within}
use Rattle.bz_model.specs.Splits.{Decomposition}
use Rattle.bz_cut.specs.declared.Cut.{Cut}
use Rattle.bz_event.specs.declared.events.Event.{Event}
use Rattle.bz_event.specs.declared.events.Event.TheVariants as event
use Rattle.bz_history.specs.Pools.{AppendedCutsAreOfBases, IsBasisCut}
use Rattle.bz_history.specs.States.{State, effect, mode_of}
use Rattle.bz_history.specs.Steps.{IsAppendStep, IsAt, IsFloorStep, IsNextFloor, MayFollow}
use Rattle.bz_history.proofs.Growing.{histories_grow}
use Rattle.bz_history.proofs.Lists.{at_more}
use Rattle.bz_history.proofs.PoolSteps.{IsEarly, IsPooled, early_of_next, pooled}

-- each cut after the floors is that of a basis
abbrev AreBasisCuts : Decomposition → State → Type 0
AreBasisCuts d t = (k : ℕ) (cut : Cut) → length t.floors ≤ k → IsAt t.cuts k cut → IsBasisCut d (mode_of t) cut

-- while a floor is next, no cut comes after the floors
none_after : (d : Decomposition) (cs : List Cut) (t : State) (block k : ℕ) (cut : Cut) → IsNextFloor d t block → IsPooled d cs t → length t.floors ≤ k → IsAt t.cuts k cut → ⊥
none_after d cs t block k cut next pool after at =
    let early : IsEarly t = early_of_next d cs t block next pool in
    let alone : length t.cuts ≡ length t.floors = early.floors_alone in
    let inside : k < length t.cuts = slice_get_within t.cuts k cut at in
    omega arith

floor_step : (d : Decomposition) (cs : List Cut) (t : State) (block : ℕ) (basis : List ℕ) (cut : Cut) → IsFloorStep d t block basis cut → IsPooled d cs t → AreBasisCuts d (effect d t (event.Floor block basis cut))
floor_step d cs t block basis cut may pool k other after at =
    let early : IsEarly t = early_of_next d cs t block may.next pool in
    let alone : length t.cuts ≡ length t.floors = early.floors_alone in
    let inside : k < length (t.cuts ++ cut ∷ []) = slice_get_within (t.cuts ++ cut ∷ []) k other at in
    let cuts : length (t.cuts ++ cut ∷ []) ≡ suc (length t.cuts) = length-append t.cuts (cut ∷ []) ∙ omega arith in
    let floors : length (t.floors ++ t.entries ∷ []) ≡ suc (length t.floors) = length-append t.floors (t.entries ∷ []) ∙ omega arith in
    absurd (omega arith)

append_step : (d : Decomposition) (budget : ℕ) (t : State) (post : ℕ) (basis : List ℕ) (cut : Cut) → IsAppendStep d budget t post basis cut → AreBasisCuts d t → AreBasisCuts d (effect d t (event.Append post basis cut))
append_step d budget t post basis cut may h k other after at = by (at_more t.cuts cut k other at)
  where
    by : (slice_get t.cuts k ≡ Some other) ⊎ ((cut ≡ other) × (k ≡ length t.cuts)) → IsBasisCut d (mode_of t) other
    by (inl g) = h k other after g
    by (inr g) = subst (IsBasisCut d (mode_of t)) g.0 (record { basis = basis; of_basis = may.of_point.of_basis })

-- ---- each event
appended_step : (d : Decomposition) (budget : ℕ) (cs : List Cut) (t : State) (e : Event) → MayFollow d budget t e → IsPooled d cs t → AreBasisCuts d t → AreBasisCuts d (effect d t e)
appended_step d budget cs t (event.Floor block basis cut) may pool h = floor_step d cs t block basis cut may pool
appended_step d budget cs t (event.Ray block direction) may pool h = λ k cut after at. absurd (none_after d cs t block k cut may.next pool after at)
appended_step d budget cs t (event.Post node front point leaf) may pool h = h
appended_step d budget cs t (event.Append post basis cut) may pool h = append_step d budget t post basis cut may h
appended_step d budget cs t (event.Again post basis place) may pool h = h
appended_step d budget cs t (event.Fill post block y) may pool h = h
appended_step d budget cs t (event.Incumbent post) may pool h = h
appended_step d budget cs t (event.Close node how) may pool h = h
appended_step d budget cs t (event.Stop reason) may pool h = h

pub appended_cuts_are_of_bases : AppendedCutsAreOfBases
appended_cuts_are_of_bases d budget root es t r = histories_grow d budget root (λ es u. AreBasisCuts d u) (λ k cut after at. absurd (cc))
    (λ before u x replayed step old. appended_step d budget _ u x.event step.may (pooled d budget root before u replayed) old) es t r
