-- What the answers of a floor's program make, and what is carried.
use Rattle.std.specs.Prelude.{ℕ, ◌*◌, ◌<◌, ◌≤◌, ◌≡◌, ℤ, pos, ◌≤ℤ◌, List, length, None, Result, Ok, Err, IfOk, IfErr, false}
use Rattle.std.specs.Result.{IsErrAnd}
use Rattle.std.proofs.Common.{refl, sym, subst, arith}
use Rattle.std.proofs.lemmas.Int.{ints}
use Rattle.std.proofs.lemmas.List.{length-map}
use Rattle.bz_first.specs.Tests.{AllHold, IsFirstFault}
use Rattle.bz_num.specs.Dense.{AreNarrow, entry}
use Rattle.bz_model.specs.declared.Model.{Model}
use Rattle.bz_model.specs.Decomposed.{IsDecomposed}
use Rattle.bz_model.specs.Parting.{blocks_of, inequalities_of, width_of}
use Rattle.bz_cut.specs.declared.Cut.{Cut}
use Rattle.bz_judge.specs.declared.faults.CheckFault.{CheckFault}
use Rattle.bz_judge.specs.declared.faults.CheckFault.TheVariants as fault
use Rattle.bz_judge.specs.RayTests.{ray_tests}
use Rattle.bz_judge.proofs.PointsTold.{ray_cost_fits, ray_rows_fit}
use Rattle.bz_tableau.specs.Answers.{IsLeast, IsRay}
use Rattle.bz_tableau.specs.Programs.{program_of}
use Rattle.bz_tableau.specs.Stops.{IsTrueStop, IsTrueWide}
use Rattle.bz_tableau.specs.declared.answers.LpStop.{LpStop}
use Rattle.bz_tableau.specs.declared.answers.LpStop.TheVariants.{Wide, OutOfMemory}
use Rattle.bz_tableau.specs.declared.answers.Vals.{Vals}
use Rattle.bz_tableau.specs.declared.answers.WideAt.{WideAt}
use Rattle.bz_tableau.specs.declared.answers.WideAt.TheVariants.{Build, Pivot, Den, Fold}
use Rattle.bz_tableau.specs.declared.programs.Lp.{Lp}
use Rattle.bz_std.specs.declared.making.MakeStop.{MakeStop}
use Rattle.bz_std.specs.declared.making.MakeStop.TheVariants as make
use Rattle.bz_std.specs.CutsFrom.{BalancesCost, IsNoCut}
use Rattle.bz_std.specs.Fitting.{IsFittingCut, StopsFitting}
use Rattle.bz_std.specs.Meanings.{IsFallAlong, IsLeastAt, differences}
use Rattle.bz_std.specs.Posed.{IsPosed, IsProgramOf, Posed}
use Rattle.bz_std.specs.Tasks.{falling_line, floor}
use Rattle.bz_std.proofs.Crossing.{least_crosses, ray_crosses}
use Rattle.bz_std.proofs.CutsMade.{floor_balances, floor_has_eta}
use Rattle.bz_std.proofs.Lines.{has_lines}
use Rattle.bz_std.proofs.PosedTasks.{floor_posed}
use Rattle.bz_event.specs.declared.answers.FloorAnswer.{FloorAnswer}
use Rattle.bz_event.specs.declared.tasks.TaskName.TheVariants as name
use Rattle.bz_event.specs.Carried.{carried}
use Rattle.bz_event.specs.Failing.{IsNoBrokenTest, IsWideFault}
use Rattle.bz_event.specs.Floors.{IsFloorCut, IsFloorRay, SolvesFloor, placed}
use Rattle.bz_event.specs.Stops.{EndsFloor, IsPrimitiveOf, IsWideInFloor}
use Rattle.bz_event.proofs.OnlyWide.{first_fails, only_wide}
use Rattle.bz_floor.specs.Outcomes.{Answers, Directs, cut_answered, ray_answered}
use Rattle.bz_floor.proofs.DirectionTests.{ray_others, wide_direction}
use Rattle.bz_event.proofs.PlacedRays.{is_falling_ray}
use Rattle.bz_floor.proofs.Primitives.{falls_divided}

-- ---- the cut
module _ (m : Model) (part : List ℕ) (d : IsDecomposed m part) (b : ℕ) (lp : Lp) (h : IsProgramOf (floor m part b) lp) where
  abbrev q : Posed
  q = floor m part b

  posed : IsPosed q
  posed = floor_posed m part d b

  module _ (basis : List ℕ) (z y : Vals) (l : IsLeast false (program_of lp) basis z y) where
    least : IsLeastAt q (differences (entry z.num)) z.den (entry y.num) y.den
    least = least_crosses q lp h posed basis z y l

    pub balances : BalancesCost m part b (entry y.num) y.den
    balances = floor_balances m part b _ _ _ _ least

    pub multipliers_count : length (inequalities_of m part b) ≤ length y.num
    multipliers_count = omega (arith, l.multipliers, (has_lines q lp h).count, length-map (inequalities_of m part b) falling_line)

    pub makes_some : IsNoCut m part b (entry y.num) y.den → ⊥
    makes_some n = omega (arith, ints, n.eta, y.den_positive)

    pub is_floor_cut : (cut : Cut) → IsFittingCut m part b (entry y.num) y.den cut → IsFloorCut m part b lp basis cut
    is_floor_cut cut c = record {
      z = z;
      y = y;
      least = l;
      made = c.made;
      valid = c.valid;
      eta = floor_has_eta m part b _ _ _ _ cut least c.made;
      fits = c.fits;
    }

    pub cut_answers : (made : Result Cut MakeStop) → IfOk made (IsFittingCut m part b (entry y.num) y.den) → IfErr made (StopsFitting m part b (entry y.num) y.den) → Answers m part b lp (cut_answered basis made)
    cut_answers (Ok cut) c k = is_floor_cut cut c
    cut_answers (Err make.Wide) c k = (refl, record { z = z; y = y; least = l; list_is = refl; at_is = refl; wide = k })
    cut_answers (Err make.OutOfMemory) c k = tt

  -- ---- the ray
  module _ (basis : List ℕ) (column : ℕ) (z : Vals) (ray : List ℤ) (r : IsRay (program_of lp) basis column z ray) where
    pub ray_falls : IsFallAlong q (differences (entry ray))
    ray_falls = ray_crosses q lp h posed basis column z ray r

    pub ray_count : 2 * width_of part b ≤ length ray
    ray_count = omega (arith, r.moves, h.columns)

    pub ray_nonnegative : (j : ℕ) → j < length ray → (pos 0) ≤ℤ (entry ray j)
    ray_nonnegative j l = r.falls.columns j (omega (arith, r.moves))

    pub ray_answers : (made : Result (List ℤ) CheckFault) → Directs m part b (differences (entry ray)) made → Answers m part b lp (ray_answered basis column made)
    ray_answers (Ok direction) k = k
    ray_answers (Err (fault.Wide list at)) k = (refl, record { z = z; ray = ray; falls = r; d = k.d; direction = k.direction; wide = k.wide })
    ray_answers (Err fault.OutOfMemory) k = tt
    ray_answers (Err fault.Shape) k = absurd k
    ray_answers (Err (fault.Point p at)) k = absurd k
    ray_answers (Err (fault.Cost block)) k = absurd k
    ray_answers (Err fault.Value) k = absurd k
    ray_answers (Err fault.Ray) k = absurd k
    ray_answers (Err (fault.Cut i)) k = absurd k
    ray_answers (Err (fault.Cover node)) k = absurd k
    ray_answers (Err (fault.Leaf node)) k = absurd k

-- ---- a direction that is judged
module _ (m : Model) (part : List ℕ) (s : IsDecomposed m part) (b : ℕ) (first : 0 < b) (last : b ≤ blocks_of part) (f : ℕ → ℤ)
    (falls : IsFallAlong (floor m part b) f) (d : List ℤ) (p : IsPrimitiveOf (width_of part b) f d) where
  divided_falls : IsFallAlong (floor m part b) (entry d)
  divided_falls = falls_divided m part s b f d p falls

  pub is_floor_ray : AreNarrow d → AllHold (ray_tests m (placed part b d)) → IsFloorRay m part b d
  is_floor_ray narrow h = record {
    numbers = p.count;
    narrow = narrow;
    primitive = p.primitive;
    falls = divided_falls;
    fits = record { rows = ray_rows_fit m (placed part b d) h; cost = ray_cost_fits m (placed part b d) h };
  }

  fault_is : (g : CheckFault) → IsWideFault g → IsFirstFault (ray_tests m (placed part b d)) g → Directs m part b f (Err g)
  fault_is (fault.Wide list at) w h = record {
    d = d;
    direction = p;
    wide = wide_direction m (placed part b d) list at (first_fails (ray_tests m (placed part b d)) (fault.Wide list at) h);
  }
  fault_is fault.Shape w h = absurd w
  fault_is (fault.Point p at) w h = absurd w
  fault_is (fault.Cost block) w h = absurd w
  fault_is fault.Value w h = absurd w
  fault_is fault.Ray w h = absurd w
  fault_is (fault.Cut i) w h = absurd w
  fault_is (fault.Cover node) w h = absurd w
  fault_is (fault.Leaf node) w h = absurd w
  fault_is fault.OutOfMemory w h = absurd w

  pub is_wide_ray : (g : CheckFault) → IsFirstFault (ray_tests m (placed part b d)) g → Directs m part b f (Err g)
  is_wide_ray g h = fault_is g (only_wide (ray_tests m (placed part b d)) g (ray_others m (placed part b d) (is_falling_ray m part s b first last d divided_falls)) h) h

pub directs_passed : (m : Model) (part : List ℕ) (b : ℕ) (f : ℕ → ℤ) (g : CheckFault) (result : Result (List ℤ) CheckFault) → IsErrAnd result (λ k. k ≡ g) → Directs m part b f (Err g) → Directs m part b f result
directs_passed m part b f g (Ok d) told h = absurd told
directs_passed m part b f g (Err k) told h = subst (λ (e : CheckFault). Directs m part b f (Err e)) (sym told) h

no_broken : (m : Model) (part : List ℕ) (b : ℕ) (f : ℕ → ℤ) (g : CheckFault) → Directs m part b f (Err g) → IsNoBrokenTest g
no_broken m part b f (fault.Wide list at) h = tt
no_broken m part b f fault.OutOfMemory h = tt
no_broken m part b f fault.Shape h = h
no_broken m part b f (fault.Point p at) h = h
no_broken m part b f (fault.Cost block) h = h
no_broken m part b f fault.Value h = h
no_broken m part b f fault.Ray h = h
no_broken m part b f (fault.Cut i) h = h
no_broken m part b f (fault.Cover node) h = h
no_broken m part b f (fault.Leaf node) h = h

pub none_broken : (m : Model) (part : List ℕ) (b : ℕ) (f : ℕ → ℤ) (made : Result (List ℤ) CheckFault) → Directs m part b f made → IfErr made IsNoBrokenTest
none_broken m part b f (Ok d) h = tt
none_broken m part b f (Err g) h = no_broken m part b f g h

-- ---- what is passed on, and carried
module _ (m : Model) (part : List ℕ) (b : ℕ) (lp : Lp) where
  true_stop : (at : WideAt) → IsTrueWide lp at → IsWideInFloor m part b lp at
  true_stop (Build row) h = absurd h
  true_stop (Pivot relaxed basis goal row pivot_row column) h = h
  true_stop (Den relaxed basis at) h = h
  true_stop (Fold relaxed basis column list at) h = absurd h

  stop_is : (stop : LpStop) → IsTrueStop lp stop → Answers m part b lp (Err stop)
  stop_is (Wide at) h = true_stop at h
  stop_is OutOfMemory h = tt

  pub stop_passed : (stop : LpStop) (result : Result FloorAnswer LpStop) → IsErrAnd result (λ g. g ≡ stop) → IsTrueStop lp stop → Answers m part b lp result
  stop_passed stop (Ok a) told h = absurd told
  stop_passed stop (Err g) told h = subst (λ (e : LpStop). Answers m part b lp (Err e)) (sym told) (stop_is stop h)

  module _ (first : 0 < b) (last : b ≤ blocks_of part) (program : IsProgramOf (floor m part b) lp) where
    pub carried_solves : (found : Result FloorAnswer LpStop) → Answers m part b lp found → IfOk (carried (name.Floor b) None lp found) (SolvesFloor m part b)
    carried_solves (Ok a) h = record { task = refl; first = first; last = last; point_is = refl; program = program; answer = h }
    carried_solves (Err (Wide at)) h = tt
    carried_solves (Err OutOfMemory) h = tt

    pub carried_ends : (found : Result FloorAnswer LpStop) → Answers m part b lp found → IfErr (carried (name.Floor b) None lp found) (EndsFloor m part b)
    carried_ends (Ok a) h = tt
    carried_ends (Err (Wide at)) h = record { task = refl; first = first; last = last; point_is = refl; program = program; wide = h }
    carried_ends (Err OutOfMemory) h = tt
