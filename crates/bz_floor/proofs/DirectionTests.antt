-- The tests of a direction along which every feasible point stays feasible: only a wide sum fails them.
use Rattle.std.specs.Prelude.{ℕ, ℤ, List, [], ◌∷◌, ◌++◌}
use Rattle.std.specs.List.{AllByRecursion, enumerate_from}
use Rattle.std.proofs.Common.{inl, inr}
use Rattle.bz_first.specs.Tests.{each_of}
use Rattle.bz_model.specs.declared.Column.{Column}
use Rattle.bz_model.specs.declared.Model.{Model}
use Rattle.bz_model.specs.Points.{coordinate}
use Rattle.bz_model.specs.Rays.{ColumnAllows, IsFallingRay, RowAllows}
use Rattle.bz_judge.specs.declared.faults.CheckFault.{CheckFault}
use Rattle.bz_judge.specs.declared.faults.CheckFault.TheVariants as fault
use Rattle.bz_judge.specs.PointTests.{Tests}
use Rattle.bz_judge.specs.RayTests.{ray_bound_tests, ray_cost_tests, ray_integer_tests, ray_row_tests, ray_tests}
use Rattle.bz_event.specs.Failing.{Fails, OthersHold}
use Rattle.bz_event.specs.Stops.{direction_tests}
use Rattle.bz_event.proofs.OnlyWide.{fails_behind, fails_front, fails_where, others_joined, others_numbered}

-- the tests of each item
others_each : {X : Type 0} (tests : X → Tests) (P : X → Type 0) (xs : List X) → ((x : X) → P x → OthersHold (tests x)) → AllByRecursion P xs → OthersHold (each_of tests xs)
others_each tests P [] f h = tt
others_each tests P (x ∷ xs) f h = others_joined (tests x) (each_of tests xs) (f x h.0) (others_each tests P xs f h.1)

-- tests that never answer f
none_each : {X : Type 0} (tests : X → Tests) (f : CheckFault) (xs : List X) → ((x : X) → Fails (tests x) f → ⊥) → Fails (each_of tests xs) f → ⊥
none_each tests f [] h k = k
none_each tests f (x ∷ xs) h k = elim (fails_where (tests x) (each_of tests xs) f k) [
  | inl g ↦ h x g
  | inr g ↦ none_each tests f xs h g
]

module _ (m : Model) (ray : List ℤ) where
  abbrev stays : Tests
  stays = each_of (ray_integer_tests ray) (enumerate_from 0 m.columns)

  abbrev rows : Tests
  rows = each_of (ray_row_tests ray) (enumerate_from 0 m.rows)

  abbrev bounds : Tests
  bounds = each_of (ray_bound_tests ray) (enumerate_from 0 m.columns)

  pub ray_others : IsFallingRay m ray → OthersHold (ray_tests m ray)
  ray_others r = others_joined (stays ++ rows ++ bounds) (ray_cost_tests m ray)
      (others_joined (stays ++ rows) bounds
      (others_joined stays rows
      (others_each (ray_integer_tests ray) (λ e. ColumnAllows e.1 (coordinate ray e.0)) (enumerate_from 0 m.columns) (λ e g. (inr g.integer, tt)) r.columns)
      (others_numbered (ray_row_tests ray) (RowAllows ray) 0 m.rows (λ e g. (inl tt, (inr g, tt))) r.rows))
      (others_each (ray_bound_tests ray) (λ e. ColumnAllows e.1 (coordinate ray e.0)) (enumerate_from 0 m.columns) (λ e g. (inr (g.at_least, g.at_most), tt)) r.columns))
      (inl tt, (inr r.cost, tt))

  -- ---- which sums may be wide
  no_stay : (list at : ℕ) (e : ℕ × Column) → Fails (ray_integer_tests ray e) (fault.Wide list at) → ⊥
  no_stay list at e (inl h) = absurd cc
  no_stay list at e (inr h) = h

  no_bound : (list at : ℕ) (e : ℕ × Column) → Fails (ray_bound_tests ray e) (fault.Wide list at) → ⊥
  no_bound list at e (inl h) = absurd cc
  no_bound list at e (inr h) = h

  pub wide_direction : (list at : ℕ) → Fails (ray_tests m ray) (fault.Wide list at) → Fails (direction_tests m ray) (fault.Wide list at)
  wide_direction list at h = elim (fails_where (stays ++ rows ++ bounds) (ray_cost_tests m ray) (fault.Wide list at) h) [
    | inr k ↦ fails_behind rows (ray_cost_tests m ray) (fault.Wide list at) k
    | inl k ↦ elim (fails_where (stays ++ rows) bounds (fault.Wide list at) k) [
      | inr g ↦ absurd (none_each (ray_bound_tests ray) (fault.Wide list at) (enumerate_from 0 m.columns) (no_bound list at) g)
      | inl g ↦ elim (fails_where stays rows (fault.Wide list at) g) [
        | inl t ↦ absurd (none_each (ray_integer_tests ray) (fault.Wide list at) (enumerate_from 0 m.columns) (no_stay list at) t)
        | inr t ↦ fails_front rows (ray_cost_tests m ray) (fault.Wide list at) t
      ]
    ]
  ]
