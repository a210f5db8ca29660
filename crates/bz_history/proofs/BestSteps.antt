-- The best post stays completed.
use Rattle.std.proofs.Common.{◌≡◌, refl, sym, ◌∙◌, subst, ℕ, zero, suc, ◌-◌, List, [], ◌∷◌, ◌++◌, inl, inr}
use Rattle.std.specs.Prelude.{◌⊎◌, Option, Some, None, is_some, set, true}
use Rattle.std.specs.List.{AllByRecursion, slice_get}
use Rattle.bz_model.specs.Splits.{Decomposition}
use Rattle.bz_event.specs.declared.events.Entry.{Entry}
use Rattle.bz_event.specs.declared.events.Event.{Event}
use Rattle.bz_event.specs.declared.events.Event.TheVariants as event
use Rattle.bz_history.specs.declared.state.Filled.{Filled}
use Rattle.bz_history.specs.declared.state.Post.{Post}
use Rattle.bz_history.specs.declared.state.Region.{Region}
use Rattle.bz_history.specs.Finished.{BestIsFilled}
use Rattle.bz_history.specs.Histories.{IsReplay}
use Rattle.bz_history.specs.States.{State, changed, changed_at, effect, ended_by, filled_by, live_of, posted_point}
use Rattle.bz_history.specs.Steps.{IsAt, IsFilled, MayFollow}
use Rattle.bz_history.proofs.Growing.{histories_grow}
use Rattle.bz_history.proofs.Lists.{at_kept, changed_item}

-- completed posts stay so
abbrev AreFilledKept : List Post → List Post → Type 0
AreFilledKept posts later = (i : ℕ) (x : Post) → IsAt posts i x → IsFilled x → (y : Post) × IsAt later i y × IsFilled y

filled_same : (posts : List Post) → AreFilledKept posts posts
filled_same posts i x is h = (x, is, h)

filled_changed : (f : Post → Post) (posts : List Post) (n : ℕ) → ((x : Post) → IsFilled x → IsFilled (f x)) → AreFilledKept posts (changed f posts n)
filled_changed f posts n keeps i x is h = by (changed_item f posts n i x is)
  where
    by : ((y : Post) × (slice_get (changed f posts n) i ≡ Some y) × ((y ≡ x) ⊎ ((i ≡ n) × (y ≡ f x)))) → (y : Post) × IsAt (changed f posts n) i y × IsFilled y
    by (y, at, inl e) = (y, at, subst IsFilled (sym e) h)
    by (y, at, inr e) = (y, at, subst IsFilled (sym e.1) (keeps x h))

filled_ended : (at : ℕ) (posts : List Post) (o : Option ℕ) → AreFilledKept posts (changed_at (ended_by at) posts o)
filled_ended at posts None = filled_same posts
filled_ended at posts (Some i) = filled_changed (ended_by at) posts i (λ x h. h)

filled_with : (posts more : List Post) → AreFilledKept posts (posts ++ more)
filled_with posts more i x is h = (x, at_kept posts more i x is, h)

set_filled : (fills : List (Option Filled)) (k : ℕ) (fill : Filled) → AllByRecursion (λ f. is_some f ≡ true) fills → AllByRecursion (λ f. is_some f ≡ true) (set fills k (Some fill))
set_filled [] k fill h = tt
set_filled (f ∷ fs) zero fill h = (refl, h.1)
set_filled (f ∷ fs) (suc k) fill h = (h.0, set_filled fs k fill h.1)

best_kept : (t u : State) → u.best ≡ t.best → AreFilledKept t.posts u.posts → BestIsFilled t → BestIsFilled u
best_kept t u best posts h i is =
    let b : (post : Post) × IsAt t.posts i post × IsFilled post = h i (sym best ∙ is) in
    posts i b.0 b.1 b.2

best_step : (d : Decomposition) (budget : ℕ) (t : State) (e : Event) → MayFollow d budget t e → BestIsFilled t → BestIsFilled (effect d t e)
best_step d budget t (event.Floor block basis cut) may h = h
best_step d budget t (event.Ray block direction) may h = h
best_step d budget t (event.Post node front point leaf) may h = best_kept t (effect d t (event.Post node front point leaf)) refl (filled_with t.posts (posted_point d t.entries node front point leaf ∷ [])) h
best_step d budget t (event.Append post basis cut) may h = best_kept t (effect d t (event.Append post basis cut)) refl (filled_changed (ended_by t.entries) t.posts post (λ x f. f)) h
best_step d budget t (event.Again post basis place) may h = best_kept t (effect d t (event.Again post basis place)) refl (filled_changed (ended_by t.entries) t.posts post (λ x f. f)) h
best_step d budget t (event.Fill post block y) may h = best_kept t (effect d t (event.Fill post block y)) refl (filled_changed (filled_by t.entries block y) t.posts post (λ x f. set_filled x.fills (block - 1) (record { y = y; at = t.entries }) f)) h
best_step d budget t (event.Incumbent post) may h = new
  where
    new : (i : ℕ) → Some post ≡ Some i → (x : Post) × IsAt t.posts i x × IsFilled x
    new i is =
        let same : post ≡ i = cc in
        (may.post, subst (λ (k : ℕ). IsAt t.posts k may.post) same may.is_post, may.filled)
best_step d budget t (event.Close number h') may h = best_kept t (effect d t (event.Close number h')) refl (filled_ended t.entries t.posts (live_of (slice_get t.nodes number))) h
best_step d budget t (event.Stop reason) may h = h

pub best_is_filled : (d : Decomposition) (budget : ℕ) (root : Region) (es : List Entry) (t : State) → IsReplay d budget root es t → BestIsFilled t
best_is_filled d budget root es t r = histories_grow d budget root (λ es u. BestIsFilled u) (λ i is. absurd (cc))
    (λ before u x replayed step old. best_step d budget u x.event step.may old) es t r
