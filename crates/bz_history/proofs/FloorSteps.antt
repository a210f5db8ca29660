-- The floors are the first cuts after each event.
use Rattle.std.proofs.Common.{◌≡◌, refl, sym, ◌∙◌, ap, subst, ℕ, suc, ◌+◌, ◌<◌, ◌≤◌, List, [], ◌∷◌, ◌++◌, length, arith, inl, inr}
use Rattle.std.specs.Prelude.{◌⊎◌, Option, Some, None}
use Rattle.std.specs.List.{slice_get}
use Rattle.std.proofs.lemmas.List.{length-append}
use Rattle.std.proofs.lemmas.Option.{slice_get_within}
use Rattle.bz_model.specs.Parting.{blocks_of}
use Rattle.bz_model.specs.Splits.{Decomposition}
use Rattle.bz_cut.specs.declared.Cut.{Cut}
use Rattle.bz_event.specs.declared.events.Event.{Event}
use Rattle.bz_event.specs.declared.events.Event.TheVariants as event
use Rattle.bz_history.specs.declared.state.FallingRay.{FallingRay}
use Rattle.bz_history.specs.declared.state.Node.{Node}
use Rattle.bz_history.specs.declared.state.Post.{Post}
use Rattle.bz_history.specs.Floors.{AreAlone, AreFloorsFirst, FloorsComeFirst, IsFloorAt}
use Rattle.bz_history.specs.States.{State, changed_at, effect, ended_by, filled_by, least_front, live_of, mode_for, opening}
use Rattle.bz_history.specs.Steps.{MayFollow}
use Rattle.bz_history.proofs.Growing.{histories_grow}
use Rattle.bz_history.proofs.Lists.{at_end, at_kept, below_next, length-changed}

-- ---- one more cut
floor_kept : (cuts : List Cut) (more : Cut) (k : ℕ) → IsFloorAt cuts k → IsFloorAt (cuts ++ more ∷ []) k
floor_kept cuts more k h = record { cut = h.cut; is_cut = at_kept cuts (more ∷ []) k h.cut h.is_cut; block = h.block; eta = h.eta }

-- an event that adds no floor and no cut
same_floors : (d : Decomposition) (t u : State) → u.cuts ≡ t.cuts → u.floors ≡ t.floors → u.ray ≡ t.ray → length u.posts ≡ length t.posts
    → AreFloorsFirst d t → AreFloorsFirst d u
same_floors d t u cuts floors ray posts h = record {
  floors = λ k less. subst (λ (cs : List Cut). IsFloorAt cs k) (sym cuts) (h.floors k (subst (λ (fs : List ℕ). k < length fs) floors less));
  alone = λ none less.
      let old : AreAlone t = h.alone (sym ray ∙ none) (subst (λ (fs : List ℕ). length fs < blocks_of d.part) floors less) in
      record { cuts = ap length cuts ∙ old.cuts ∙ sym (ap length floors); posts = posts ∙ old.posts };
}

length-changed_at : (f : Post → Post) (posts : List Post) (o : Option ℕ) → length (changed_at f posts o) ≡ length posts
length-changed_at f posts None = refl
length-changed_at f posts (Some i) = length-changed f posts i

-- a node's front is over a floor for each block, while no cost falls
front_over_floors : (d : Decomposition) (ray : Option FallingRay) (node : Node) (front : ℕ) → ray ≡ None → least_front d (mode_for ray) node ≤ front → blocks_of d.part ≤ front
front_over_floors d None node front none least = omega arith
front_over_floors d (Some ray) node front none least = absurd (cc)

-- ---- each event
floor_step : (d : Decomposition) (budget : ℕ) (t : State) (e : Event) → MayFollow d budget t e → AreFloorsFirst d t → AreFloorsFirst d (effect d t e)
floor_step d budget t (event.Floor block basis cut) may h = record {
  floors = λ k less. by k (below_next k (length t.floors) (subst (λ (n : ℕ). k < n) (length-append t.floors (t.entries ∷ []) ∙ plus) less));
  alone = λ none less.
      let more : length (t.cuts ++ cut ∷ []) ≡ length t.cuts + 1 = length-append t.cuts (cut ∷ []) in
      let longer : length (t.floors ++ t.entries ∷ []) ≡ length t.floors + 1 = length-append t.floors (t.entries ∷ []) in
      let same : length t.cuts ≡ length t.floors = before.cuts in
      record { cuts = omega arith; posts = before.posts };
}
  where
    plus : length t.floors + 1 ≡ suc (length t.floors)
    plus = omega arith

    missing : length t.floors < blocks_of d.part
    missing =
        let next : block ≡ suc (length t.floors) = may.next.next in
        let last : block ≤ blocks_of d.part = may.next.last in
        omega arith

    before : AreAlone t
    before = h.alone may.next.no_ray missing

    by : (k : ℕ) → (k < length t.floors) ⊎ (k ≡ length t.floors) → IsFloorAt (t.cuts ++ cut ∷ []) k
    by k (inl less) = floor_kept t.cuts cut k (h.floors k less)
    by k (inr same) =
        let place : length t.cuts ≡ k = before.cuts ∙ sym same in
        record {
          cut = cut;
          is_cut = subst (λ (i : ℕ). slice_get (t.cuts ++ cut ∷ []) i ≡ Some cut) place (at_end t.cuts cut);
          block = may.of_basis.made.block ∙ may.next.next ∙ ap suc (sym same);
          eta = may.of_basis.eta;
        }
floor_step d budget t (event.Ray block direction) may h = record {
  floors = h.floors;
  alone = λ none less. absurd (cc);
}
floor_step d budget t (event.Post number front point leaf) may h = record {
  floors = h.floors;
  alone = λ none less.
      let old : AreAlone t = h.alone none less in
      let over : blocks_of d.part ≤ front = front_over_floors d t.ray may.node front none may.front_is.at_least in
      let most : front ≤ length t.cuts = may.front_is.at_most in
      let same : length t.cuts ≡ length t.floors = old.cuts in
      absurd (omega arith);
}
floor_step d budget t (event.Append post basis cut) may h = record {
  floors = λ k less. floor_kept t.cuts cut k (h.floors k less);
  alone = λ none less.
      let within : post < length t.posts = slice_get_within t.posts post may.post may.is_post in
      let old : length t.posts ≡ 0 = (h.alone none less).posts in
      absurd (omega arith);
}
floor_step d budget t (event.Again post basis place) may h =
    same_floors d t (effect d t (event.Again post basis place)) refl refl refl (length-changed (ended_by t.entries) t.posts post) h
floor_step d budget t (event.Fill post block y) may h =
    same_floors d t (effect d t (event.Fill post block y)) refl refl refl (length-changed (filled_by t.entries block y) t.posts post) h
floor_step d budget t (event.Incumbent post) may h = same_floors d t (effect d t (event.Incumbent post)) refl refl refl refl h
floor_step d budget t (event.Close number w) may h =
    same_floors d t (effect d t (event.Close number w)) refl refl refl
    (length-changed_at (ended_by t.entries) t.posts (live_of (slice_get t.nodes number))) h
floor_step d budget t (event.Stop reason) may h = same_floors d t (effect d t (event.Stop reason)) refl refl refl refl h

pub floors_come_first : FloorsComeFirst
floors_come_first d budget root es t r = histories_grow d budget root (λ before u. AreFloorsFirst d u) begins
    (λ before u x replayed step old. floor_step d budget u x.event step.may old) es t r
  where
    begins : AreFloorsFirst d (opening root)
    begins = record {
      floors = λ k less. absurd (omega arith);
      alone = λ none less. record { cuts = refl; posts = refl };
    }
