-- What a point of a separation's program makes of a completion.
use Rattle.std.specs.Prelude.{ℕ, suc, ◌*◌, ◌≡◌, ℤ, pos, List, [], ◌∷◌, length, Result, Ok, Err, IfErr, true}
use Rattle.std.specs.List.{AllByRecursion}
use Rattle.std.proofs.Common.{refl, sym, subst, ◌∙◌, arith, inl, inr}
use Rattle.std.specs.Result.{IsErrAnd}
use Rattle.bz_algebra.specs.Numbers.{IsNarrow}
use Rattle.bz_first.specs.Tests.{AllHold, IsFirstFault, Judges}
use Rattle.bz_first.proofs.Chains.{passed_on, stopped}
use Rattle.bz_first.proofs.TestLemmas.{all_behind, all_front}
use Rattle.bz_num.specs.Dense.{AreNarrow, entry}
use Rattle.bz_model.specs.declared.BlockPart.{BlockPart}
use Rattle.bz_model.specs.declared.Master.{Master}
use Rattle.bz_model.specs.declared.Model.{Model}
use Rattle.bz_model.specs.Decomposed.{IsDecomposed}
use Rattle.bz_model.specs.Parting.{inequalities_of, width_of}
use Rattle.bz_model.specs.PartPoints.{BlockHolds, HoldsInBlock}
use Rattle.bz_cut.specs.declared.Mode.{Mode}
use Rattle.bz_cut.specs.declared.Mode.TheVariants as mode
use Rattle.bz_judge.specs.declared.faults.CheckFault.{CheckFault}
use Rattle.bz_judge.specs.declared.faults.CheckFault.TheVariants as fault
use Rattle.bz_judge.specs.PointTests.{block_tests, in_block_tests}
use Rattle.bz_judge.specs.ValueTests.{cost_tests}
use Rattle.bz_judge.proofs.PointsTold.{block_fits, cost_fits}
use Rattle.bz_tableau.specs.Answers.{IsLeast}
use Rattle.bz_tableau.specs.Programs.{program_of}
use Rattle.bz_tableau.specs.declared.answers.Vals.{Vals}
use Rattle.bz_tableau.specs.declared.programs.Lp.{Lp}
use Rattle.bz_std.specs.LowestForms.{IsLowestOf}
use Rattle.bz_std.specs.Meanings.{MeetsWithin, differences}
use Rattle.bz_std.specs.NumberLists.{HasNumbers}
use Rattle.bz_std.specs.Tasks.{IsSeparationLp, separation}
use Rattle.bz_std.proofs.LowestForms.{block_holds, low_positive, rows_hold}
use Rattle.bz_event.specs.Failing.{IsNoBrokenTest, IsWideFault, OthersHold}
use Rattle.bz_event.specs.Separations.{CompletesCost, IsFillAnswer}
use Rattle.bz_event.specs.Stops.{fill_tests}
use Rattle.bz_event.proofs.OnlyWide.{first_fails, only_wide, others_joined, others_numbered}
use Rattle.bz_sep.specs.Outcomes.{Answers, Fills, fill_answered}

-- a list of narrow numbers
pub all_narrow : (xs : List ℤ) → AreNarrow xs → AllByRecursion IsNarrow xs
all_narrow [] h = tt
all_narrow (x ∷ xs) h = (h 0 (omega arith), all_narrow xs (λ j l. h (suc j) (omega arith)))

module _ (m : Model) (part : List ℕ) (d : IsDecomposed m part) (b : ℕ) (point : Master) (z : Vals) (fill : BlockPart)
    (l : IsLowestOf (width_of part b) z.den (differences (entry z.num)) fill.times fill.y) where
  -- ---- what holds however wide the sums are
  block_others : AllByRecursion (HoldsInBlock point fill) (inequalities_of m part b) → OthersHold (block_tests m part point (b, fill))
  block_others h = (
    inl tt,
    others_numbered (in_block_tests point b fill) (HoldsInBlock point fill) 0 (inequalities_of m part b)
        (λ e k. (inl tt, (inl tt, (inl tt, (inl tt, (inr k, tt)))))) h,
  )

  cost_others : BlockHolds m part point b fill → OthersHold (cost_tests m part point (b, fill))
  cost_others h = (inl tt, (inl tt, (inr h.cost, tt)))

  pub fill_others : (way : Mode) → MeetsWithin (separation m part point b way) (differences (entry z.num)) z.den (pos 0) → OthersHold (fill_tests m part b point way fill)
  fill_others mode.Cost h =
      let k = block_holds m part d point b _ _ fill l h in
      others_joined (block_tests m part point (b, fill)) (cost_tests m part point (b, fill)) (block_others k.rows) (cost_others k)
  fill_others mode.Point h = block_others (rows_hold m part d point b _ _ fill l mode.Point h)

  -- ---- the fill
  fits_of : (way : Mode) → AllHold (fill_tests m part b point way fill) → AllHold (block_tests m part point (b, fill))
  fits_of mode.Cost h = all_front (block_tests m part point (b, fill)) (cost_tests m part point (b, fill)) h
  fits_of mode.Point h = h

  cost_of : (way : Mode) → MeetsWithin (separation m part point b way) (differences (entry z.num)) z.den (pos 0) → AllHold (fill_tests m part b point way fill) → CompletesCost m part b point way fill
  cost_of mode.Cost k h = (
    block_holds m part d point b _ _ fill l k,
    cost_fits m part point (b, fill) (all_behind (block_tests m part point (b, fill)) (cost_tests m part point (b, fill)) h),
  )
  cost_of mode.Point k h = tt

  module _ (way : Mode) (k : MeetsWithin (separation m part point b way) (differences (entry z.num)) z.den (pos 0)) where
    pub is_fill : AllHold (fill_tests m part b point way fill) → IsFillAnswer m part b point way fill
    is_fill h = record {
      shape = (low_positive _ _ _ _ _ l z.den_positive, l.count);
      lowest = λ g at_times at_y. l.lowest g at_times (λ j i. at_y j (omega (arith, l.count)));
      rows = rows_hold m part d point b _ _ fill l way k;
      fits = block_fits m part point (b, fill) (fits_of way h);
      cost = cost_of way k h;
      possible = record { v = differences (entry z.num); den = z.den; positive = z.den_positive; meets = k };
    }

    -- the first fault of its tests names a wide number
    fault_is : (f : CheckFault) → IsWideFault f → (entry z.num (2 * width_of part b) ≡ pos 0) → IsFirstFault (fill_tests m part b point way fill) f → Fills m part b point way z (Err f)
    fault_is (fault.Wide list at) w stays h = record { stays = stays; fill = fill; lowest = l; wide = first_fails (fill_tests m part b point way fill) (fault.Wide list at) h }
    fault_is fault.Shape w stays h = absurd w
    fault_is (fault.Point p at) w stays h = absurd w
    fault_is (fault.Cost block) w stays h = absurd w
    fault_is fault.Value w stays h = absurd w
    fault_is fault.Ray w stays h = absurd w
    fault_is (fault.Cut i) w stays h = absurd w
    fault_is (fault.Cover node) w stays h = absurd w
    fault_is (fault.Leaf node) w stays h = absurd w
    fault_is fault.OutOfMemory w stays h = absurd w

    pub is_wide_fill : (f : CheckFault) → (entry z.num (2 * width_of part b) ≡ pos 0) → IsFirstFault (fill_tests m part b point way fill) f → Fills m part b point way z (Err f)
    is_wide_fill f stays h = fault_is f (only_wide (fill_tests m part b point way fill) f (fill_others way k) h) stays h

-- ---- what is passed on
pub fills_passed : (m : Model) (part : List ℕ) (b : ℕ) (point : Master) (way : Mode) (z : Vals) (f : CheckFault) (result : Result BlockPart CheckFault) → IsErrAnd result (λ g. g ≡ f) → Fills m part b point way z (Err f) → Fills m part b point way z result
fills_passed m part b point way z f (Ok fill) told h = absurd told
fills_passed m part b point way z f (Err g) told h = subst (λ (e : CheckFault). Fills m part b point way z (Err e)) (sym told) h

-- ---- the answer
no_broken : (m : Model) (part : List ℕ) (b : ℕ) (point : Master) (way : Mode) (z : Vals) (f : CheckFault) → Fills m part b point way z (Err f) → IsNoBrokenTest f
no_broken m part b point way z (fault.Wide list at) h = tt
no_broken m part b point way z fault.OutOfMemory h = tt
no_broken m part b point way z fault.Shape h = h
no_broken m part b point way z (fault.Point p at) h = h
no_broken m part b point way z (fault.Cost block) h = h
no_broken m part b point way z fault.Value h = h
no_broken m part b point way z fault.Ray h = h
no_broken m part b point way z (fault.Cut i) h = h
no_broken m part b point way z (fault.Cover node) h = h
no_broken m part b point way z (fault.Leaf node) h = h

pub none_broken : (m : Model) (part : List ℕ) (b : ℕ) (point : Master) (way : Mode) (z : Vals) (filled : Result BlockPart CheckFault) → Fills m part b point way z filled → IfErr filled IsNoBrokenTest
none_broken m part b point way z (Ok fill) h = tt
none_broken m part b point way z (Err f) h = no_broken m part b point way z f h

module _ (m : Model) (part : List ℕ) (b : ℕ) (point : Master) (way : Mode) (lp : Lp) (s : IsSeparationLp m part point b way lp)
    (basis : List ℕ) (z y : Vals) (l : IsLeast true (program_of lp) basis z y) where
  pub fill_answers : (filled : Result BlockPart CheckFault) → Fills m part b point way z filled → Answers m part b point way lp (fill_answered basis filled)
  fill_answers (Ok fill) h = (s, h)
  fill_answers (Err (fault.Wide list at)) h = ((s, refl, refl, record { z = z; y = y; least = l; sum = inr h }), tt)
  fill_answers (Err fault.OutOfMemory) h = tt
  fill_answers (Err fault.Shape) h = absurd h
  fill_answers (Err (fault.Point p at)) h = absurd h
  fill_answers (Err (fault.Cost block)) h = absurd h
  fill_answers (Err fault.Value) h = absurd h
  fill_answers (Err fault.Ray) h = absurd h
  fill_answers (Err (fault.Cut i)) h = absurd h
  fill_answers (Err (fault.Cover node)) h = absurd h
  fill_answers (Err (fault.Leaf node)) h = absurd h

-- ---- the tests of a fill
-- a fault of the block's tests
pub block_stopped : (m : Model) (part : List ℕ) (b : ℕ) (point : Master) (fill : BlockPart) (way : Mode) {T : Type 0} (f : CheckFault) (result : Result T CheckFault) → IsErrAnd result (λ g. g ≡ f) → IsFirstFault (block_tests m part point (b, fill)) f → Judges (fill_tests m part b point way fill) result
block_stopped m part b point fill mode.Cost f result told h = stopped (block_tests m part point (b, fill)) (cost_tests m part point (b, fill)) f result told h
block_stopped m part b point fill mode.Point f result told h = passed_on (block_tests m part point (b, fill)) f result told h

-- the lowest form of the first numbers of a function
pub lowest_of : (n : ℕ) (f : ℕ → ℤ) (den : ℤ) (values : List ℤ) (low : ℤ) (lowest : List ℤ) → HasNumbers n f values → IsLowestOf (length values) den (entry values) low lowest → IsLowestOf n den f low lowest
lowest_of n f den values low lowest h l = record {
  count = l.count ∙ h.width;
  times = l.times;
  positive = l.positive;
  den_is = l.den_is;
  values_are = λ j i. l.values_are j (omega (arith, h.width)) ∙ h.numbers j i;
  lowest = λ d g all. l.lowest d g (λ j i. all j (omega (arith, h.width)));
}
