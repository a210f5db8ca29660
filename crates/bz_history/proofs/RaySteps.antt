-- The direction of a legal history, and what it shows.
use Rattle.std.proofs.Common.{◌≡◌, refl, subst, ℕ, suc, ◌<◌, ◌≤◌, List, arith}
use Rattle.std.specs.Prelude.{Option, Some, None}
use Rattle.bz_model.specs.Parting.{blocks_of}
use Rattle.bz_model.specs.Splits.{Decomposition}
use Rattle.bz_cut.specs.declared.Mode.TheVariants as mode
use Rattle.bz_pass.proofs.PointsOfParts.{AreFeasible}
use Rattle.bz_pass.proofs.Rays.{ray_unbounded}
use Rattle.bz_event.specs.declared.events.Entry.{Entry}
use Rattle.bz_event.specs.declared.events.Event.{Event}
use Rattle.bz_event.specs.declared.events.Event.TheVariants as event
use Rattle.bz_event.specs.Floors.{IsFloorRay, placed}
use Rattle.bz_event.proofs.PlacedRays.{floor_ray_falls}
use Rattle.bz_history.specs.declared.state.FallingRay.{FallingRay}
use Rattle.bz_history.specs.declared.state.Post.{Post}
use Rattle.bz_history.specs.declared.state.Region.{Region}
use Rattle.bz_history.specs.Finished.{RaysAreTrue, parts_of}
use Rattle.bz_history.specs.Histories.{IsReplay}
use Rattle.bz_history.specs.States.{State, effect, mode_for, mode_of}
use Rattle.bz_history.specs.Steps.{IsAt, IsFilled, MayFollow}
use Rattle.bz_history.proofs.BestSteps.{best_is_filled}
use Rattle.bz_history.proofs.FinishedSearches.{post_feasible}
use Rattle.bz_history.proofs.Growing.{histories_grow}
use Rattle.bz_history.proofs.Lists.{at_one}
use Rattle.bz_history.proofs.PostSteps.{posts_are_right}
use Rattle.bz_history.proofs.TreeSteps.{trees_are_whole}

-- the direction is that of a floor's answer of its block
pub record IsRayOf (d : Decomposition) (ray : FallingRay) : Type 0 where
  pub first : 0 < ray.block
  pub last : ray.block ≤ blocks_of d.part
  pub is_ray : IsFloorRay d.model d.part ray.block ray.d

abbrev pub RayIsRight : Decomposition → State → Type 0
RayIsRight d t = (ray : FallingRay) → t.ray ≡ Some ray → IsRayOf d ray

ray_step : (d : Decomposition) (budget : ℕ) (t : State) (e : Event) → MayFollow d budget t e → RayIsRight d t → RayIsRight d (effect d t e)
ray_step d budget t (event.Floor block basis cut) may h = h
ray_step d budget t (event.Ray block direction) may h = new
  where
    own : IsRayOf d (record { block = block; d = direction; at = t.entries })
    own =
        let next : block ≡ suc _ = may.next.next in
        record { first = omega arith; last = may.next.last; is_ray = may.ray }

    new : (ray : FallingRay) → Some (record { block = block; d = direction; at = t.entries }) ≡ Some ray → IsRayOf d ray
    new ray is =
        let same : record { block = block; d = direction; at = t.entries } ≡ ray = cc in
        subst (IsRayOf d) same own
ray_step d budget t (event.Post node front point leaf) may h = h
ray_step d budget t (event.Append post basis cut) may h = h
ray_step d budget t (event.Again post basis place) may h = h
ray_step d budget t (event.Fill post block y) may h = h
ray_step d budget t (event.Incumbent post) may h = h
ray_step d budget t (event.Close number how) may h = h
ray_step d budget t (event.Stop reason) may h = h

pub ray_is_right : (d : Decomposition) (budget : ℕ) (root : Region) (es : List Entry) (t : State) → IsReplay d budget root es t → RayIsRight d t
ray_is_right d budget root es t r = histories_grow d budget root (λ es u. RayIsRight d u) (λ ray is. absurd (cc))
    (λ before u x replayed step old. ray_step d budget u x.event step.may old) es t r

-- in mode Point there is a direction
ray_of : (ray : Option FallingRay) → mode_for ray ≡ mode.Point → (r : FallingRay) × (ray ≡ Some r)
ray_of None h = absurd (cc)
ray_of (Some r) h = (r, refl)

pub rays_are_true : RaysAreTrue
rays_are_true d budget root es t dec r way post best =
    let ray : (x : FallingRay) × (t.ray ≡ Some x) = ray_of t.ray way in
    let own : IsRayOf d ray.0 = ray_is_right d budget root es t r ray.0 ray.1 in
    let b : (x : Post) × IsAt t.posts best.0 x × IsFilled x = best_is_filled d budget root es t r best.0 best.1 in
    let filled : IsFilled post = subst IsFilled (at_one t.posts best.0 b.0 post b.1 best.2) b.2 in
    let parts : AreFeasible d.model d.part (parts_of post) = post_feasible d root (mode_of t) t post (trees_are_whole d budget root es t r) r.root_is.is_root (posts_are_right d budget root es t r best.0 post best.2) filled in
    ray_unbounded d.model d.part (parts_of post) (placed d.part ray.0.block ray.0.d) dec
    (record {
      shape = parts.shape.point;
      master = parts.master;
      root = parts.root;
      is_root = parts.is_root;
      integers = parts.integers;
      blocks = parts.rows;
      falls = floor_ray_falls d.model d.part ray.0.block ray.0.d dec own.first own.last own.is_ray;
    })
