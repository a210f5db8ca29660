-- What the answers of a node's program give.
use Rattle.std.specs.Prelude.{ℕ, ◌<◌, ◌≡◌, ℤ, pos, List, Option, Some, None, true, false}
use Rattle.std.specs.List.{AllByRecursion}
use Rattle.std.proofs.Common.{refl, subst, arith, inl, inr}
use Rattle.std.proofs.lemmas.Int.{ints}
use Rattle.bz_algebra.specs.Sums.{dot}
use Rattle.bz_num.specs.Dense.{entry}
use Rattle.bz_model.specs.Parting.{width_of}
use Rattle.bz_cut.specs.declared.Mode.{Mode}
use Rattle.bz_cut.specs.declared.Mode.TheVariants as mode
use Rattle.bz_tree.specs.declared.Leaf.{Leaf}
use Rattle.bz_tree.specs.Integers.{positions_of}
use Rattle.bz_first.proofs.Lists.{all_weaker}
use Rattle.bz_judge.proofs.BetweenTests.{positions_within}
use Rattle.bz_tableau.specs.Answers.{IsEmpty, IsLeast, IsRay}
use Rattle.bz_tableau.specs.Programs.{program_of}
use Rattle.bz_tableau.specs.Stops.{IsTrueStop}
use Rattle.bz_tableau.specs.declared.answers.LpStop.{LpStop}
use Rattle.bz_tableau.specs.declared.answers.LpStop.TheVariants as lp_stop
use Rattle.bz_tableau.specs.declared.answers.Vals.{Vals}
use Rattle.bz_tableau.specs.declared.answers.WideAt.TheVariants.{Build, Pivot, Den, Fold}
use Rattle.bz_std.specs.Fitting.{IsWideLeaf}
use Rattle.bz_std.specs.LeavesFrom.{IsLeafFrom}
use Rattle.bz_std.specs.Meanings.{IsEmptyBy, IsFallAlong, IsLeastAt, IsPossible, differences}
use Rattle.bz_std.specs.Posed.{IsPosed}
use Rattle.bz_std.specs.Tasks.{node_cost}
use Rattle.bz_std.specs.declared.making.MakeStop.{MakeStop}
use Rattle.bz_std.specs.declared.making.MakeStop.TheVariants as make_stop
use Rattle.bz_std.proofs.Combined.{empty_excludes}
use Rattle.bz_std.proofs.Crossing.{empty_crosses, least_crosses, ray_crosses}
use Rattle.bz_std.proofs.LeavesMade.{empty_leaf, least_bound, least_delta, least_leaf}
use Rattle.bz_std.proofs.NodeFloors.{node_never_falls, points_never_fall}
use Rattle.bz_std.proofs.PosedTasks.{node_posed}
use Rattle.bz_event.specs.Nodes.{HasLeafOfValue, IsEmptyNode, IsReady}
use Rattle.bz_node.specs.declared.programs.NodeProgram.{NodeProgram}
use Rattle.bz_node.specs.LeafStops.{leaf_stopped}
use Rattle.bz_node.specs.NodePrograms.{AreLeafNumbers, HasCostLeaf, IsFittingLeaf, IsNodeProgram, StopsCostLeaf, StopsFitting, StopsProgram, cuts_of, mode_of, model_of, part_of, posed_in, posed_of, region_of, variables_of}
use Rattle.bz_node.specs.PointSteps.{StopsPoint}

-- only in mode Cost there is a leaf that is wide
wide_in_cost : (n : NodeProgram) (way : Mode) (y : Vals) → StopsCostLeaf n way y make_stop.Wide → (way ≡ mode.Cost) × IsWideLeaf (model_of n) (part_of n) (region_of n) (cuts_of n) (entry y.num) y.den
wide_in_cost n mode.Cost y w = (refl, w)
wide_in_cost n mode.Point y w = absurd w

module _ (n : NodeProgram) (p : IsNodeProgram n) where
  posed : IsPosed (posed_of n)
  posed = node_posed (model_of n) (part_of n) p.decomposed (region_of n) (cuts_of n) p.of_split (mode_of n)

  -- the positions of the integer columns are those of variables
  pub positions_inside : (k : ℕ) → k ≡ variables_of n → AllByRecursion (λ p. p < k) n.positions.now
  positions_inside k e = rw p.positions_are (all_weaker (λ j. j < width_of (part_of n) 0) (λ j. j < k) (positions_of (model_of n) (part_of n)) (λ j l. omega arith) (positions_within (model_of n) (part_of n) p.decomposed))

  -- ---- no point
  module _ (basis : List ℕ) (y : List ℤ) (e : IsEmpty (program_of n.lp.now) basis y) where
    empty_by : IsEmptyBy (posed_of n) (entry y)
    empty_by = empty_crosses (posed_of n) n.lp.now p.program posed basis y e

    pub empty_numbers : AreLeafNumbers n y (pos 0)
    empty_numbers = record {
      count = e.multipliers;
      multipliers = e.nonnegative;
      nonnegative = omega (arith, ints);
      holds = λ leaf l. empty_leaf (model_of n) (part_of n) p.decomposed (region_of n) (cuts_of n) p.of_split (mode_of n) (entry y) leaf empty_by l;
    }

    pub empty_is : (leaf : Leaf) → IsFittingLeaf n (mode_of n) (entry y) (pos 0) leaf → IsEmptyNode (model_of n) (part_of n) (region_of n) (cuts_of n) (mode_of n) leaf
    empty_is leaf l = record {
      holds = l.holds;
      delta = l.made.delta;
      fits = l.fits;
      impossible = empty_excludes (posed_of n) (entry y) posed empty_by;
    }

    pub empty_stops : (s : MakeStop) → StopsFitting n (entry y) (pos 0) s → StopsProgram n (leaf_stopped s true basis)
    empty_stops make_stop.Wide w = (refl, record { y = y; empty = e; list_is = refl; at_is = refl; wide = w })
    empty_stops make_stop.OutOfMemory w = tt

  -- ---- a least point
  module _ (basis : List ℕ) (z y : Vals) (l : IsLeast false (program_of n.lp.now) basis z y) where
    pub least_at : IsLeastAt (posed_of n) (differences (entry z.num)) z.den (entry y.num) y.den
    least_at = least_crosses (posed_of n) n.lp.now p.program posed basis z y l

    -- in mode Cost its multipliers make a leaf that holds
    pub least_numbers : mode_of n ≡ mode.Cost → AreLeafNumbers n y.num y.den
    least_numbers e = record {
      count = l.multipliers;
      multipliers = l.bounds.multipliers;
      nonnegative = omega (arith, ints, least_at.by_positive);
      holds = λ leaf made. least_leaf (model_of n) (part_of n) p.decomposed (region_of n) (cuts_of n) p.of_split (differences (entry z.num)) z.den (entry y.num) y.den leaf
          (subst (λ (way : Mode). IsLeastAt (posed_in n way) (differences (entry z.num)) z.den (entry y.num) y.den) e least_at)
          (subst (λ (way : Mode). IsLeafFrom (posed_in n way) (entry y.num) y.den leaf) e made);
    }

    pub leaf_stops : (s : MakeStop) → StopsCostLeaf n (mode_of n) y s → StopsProgram n (leaf_stopped s false basis)
    leaf_stops make_stop.Wide w =
        let told = wide_in_cost n (mode_of n) y w in
        (refl, record { z = z; y = y; least = l; sum = inl (record { mode_is = told.0; list_is = refl; at_is = refl; wide = told.1 }) })
    leaf_stops make_stop.OutOfMemory w = tt

    pub point_stops : (s : LpStop) → StopsPoint (model_of n) (part_of n) (mode_of n) z basis s → StopsProgram n s
    point_stops (lp_stop.Wide (Build row)) h = absurd h
    point_stops (lp_stop.Wide (Pivot relaxed at goal row pivot_row column)) h = absurd h
    point_stops (lp_stop.Wide (Den relaxed at place)) h = absurd h
    point_stops (lp_stop.Wide (Fold relaxed at column list place)) h =
        rw (h.0, h.1) (h.2, record { z = z; y = y; least = l; sum = inr h.3 })
    point_stops lp_stop.OutOfMemory h = tt

    pub possible : IsPossible (posed_of n)
    possible = record { v = differences (entry z.num); den = z.den; positive = least_at.den_positive; meets = least_at.meets }

  -- ---- other ends
  -- where the solution stops
  pub true_stops : (s : LpStop) → IsTrueStop n.lp.now s → StopsProgram n s
  true_stops (lp_stop.Wide (Build row)) h = absurd h
  true_stops (lp_stop.Wide (Pivot relaxed at goal row pivot_row column)) h = h
  true_stops (lp_stop.Wide (Den relaxed at place)) h = h
  true_stops (lp_stop.Wide (Fold relaxed at column list place)) h = absurd h
  true_stops lp_stop.OutOfMemory h = tt

  never_falls : (way : Mode) (d : ℕ → ℤ) → IsReady (part_of n) (cuts_of n) way → IsFallAlong (posed_in n way) d → ⊥
  never_falls mode.Cost d r f = node_never_falls (model_of n) (part_of n) (region_of n) (cuts_of n) d p.decomposed p.of_split r f
  never_falls mode.Point d r f = points_never_fall (model_of n) (part_of n) (region_of n) (cuts_of n) d f

  pub no_ray : (basis : List ℕ) (column : ℕ) (z : Vals) (d : List ℤ) → IsReady (part_of n) (cuts_of n) (mode_of n) → IsRay (program_of n.lp.now) basis column z d → ⊥
  no_ray basis column z d r h = never_falls (mode_of n) (differences (entry d)) r (ray_crosses (posed_of n) n.lp.now p.program posed basis column z d h)

-- the leaf of a least point bounds its cost
pub cost_leaf_is : (n : NodeProgram) (way : Mode) (v : ℕ → ℤ) (den : ℤ) (y : Vals) (leaf : Option Leaf) → IsLeastAt (posed_in n way) v den (entry y.num) y.den → HasCostLeaf n way y leaf → HasLeafOfValue (model_of n) (part_of n) (region_of n) (cuts_of n) way (dot (node_cost (model_of n) (part_of n) mode.Cost) v) den leaf
cost_leaf_is n mode.Cost v den y (Some leaf) l h = record {
  holds = h.holds;
  fits = h.fits;
  delta = least_delta (model_of n) (part_of n) (region_of n) (cuts_of n) v den (entry y.num) y.den leaf l h.made;
  bound = least_bound (model_of n) (part_of n) (region_of n) (cuts_of n) v den (entry y.num) y.den leaf l h.made;
}
cost_leaf_is n mode.Cost v den y None l h = absurd h
cost_leaf_is n mode.Point v den y leaf l h = h
