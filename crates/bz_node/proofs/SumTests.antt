-- Of the tests of a point at which the master's inequalities hold, only those fail that a number isn't wide.
use Rattle.std.specs.Prelude.{ℕ, ◌≡◌, List, None, Result}
use Rattle.std.specs.List.{AllByRecursion, enumerate_from}
use Rattle.std.proofs.Common.{refl, inl, inr, subst}
use Rattle.std.specs.Result.{IsErrAnd}
use Rattle.bz_first.specs.Tests.{AllHold, IsFirstFault, Judges, each_of}
use Rattle.bz_first.proofs.Chains.{passed_on, stopped}
use Rattle.bz_first.proofs.TestLemmas.{all_behind, all_front}
use Rattle.bz_model.specs.declared.Master.{Master}
use Rattle.bz_model.specs.declared.Model.{Model}
use Rattle.bz_model.specs.Parting.{inequalities_of}
use Rattle.bz_model.specs.PartPoints.{HoldsInMaster}
use Rattle.bz_cut.specs.declared.Mode.{Mode}
use Rattle.bz_cut.specs.declared.Mode.TheVariants as mode
use Rattle.bz_judge.specs.declared.faults.CheckFault.{CheckFault}
use Rattle.bz_judge.specs.declared.faults.CheckFault.TheVariants as fault
use Rattle.bz_judge.specs.PointTests.{Tests, in_master_tests}
use Rattle.bz_judge.specs.ValueTests.{value_tests}
use Rattle.bz_judge.proofs.PointsTold.{rows_fit}
use Rattle.bz_event.specs.Failing.{Fails, IsWideFault, OthersHold}
use Rattle.bz_event.specs.Nodes.{value_of}
use Rattle.bz_event.specs.Stops.{master_tests}
use Rattle.bz_event.proofs.OnlyWide.{first_fails, only_wide, others_joined, others_numbered}
use Rattle.bz_node.specs.PointSteps.{FindsWideSum}

module _ (m : Model) (part : List ℕ) (point : Master) where
  abbrev pub rows : Tests
  rows = each_of (in_master_tests point) (enumerate_from 0 (inequalities_of m part 0))

  abbrev pub values : Tests
  values = value_tests m part point (value_of m part point)

  others : (way : Mode) → AllByRecursion (HoldsInMaster point) (inequalities_of m part 0) → OthersHold (master_tests m part way point)
  others mode.Cost h = others_joined rows values
      (others_numbered (in_master_tests point) (HoldsInMaster point) 0 (inequalities_of m part 0) (λ e k. (inl tt, (inl tt, (inr k, tt)))) h)
      (inl tt, (inr refl, (inl tt, (inl tt, tt))))
  others mode.Point h = others_numbered (in_master_tests point) (HoldsInMaster point) 0 (inequalities_of m part 0) (λ e k. (inl tt, (inl tt, (inr k, tt)))) h

  -- a fault names a wide number
  pub fault_is_wide : (way : Mode) (f : CheckFault) → AllByRecursion (HoldsInMaster point) (inequalities_of m part 0) → IsFirstFault (master_tests m part way point) f → IsWideFault f
  fault_is_wide way f h g = only_wide (master_tests m part way point) f (others way h) g

  pub wide_fails : (way : Mode) (f : CheckFault) (list at : ℕ) → f ≡ fault.Wide list at → IsFirstFault (master_tests m part way point) f → Fails (master_tests m part way point) (fault.Wide list at)
  wide_fails way f list at e g = subst (Fails (master_tests m part way point)) e (first_fails (master_tests m part way point) f g)

  -- a fault of the inequalities, which come first
  pub rows_fault : {T : Type 0} (way : Mode) (f : CheckFault) (result : Result T CheckFault) → IsErrAnd result (λ g. g ≡ f) → IsFirstFault rows f → Judges (master_tests m part way point) result
  rows_fault mode.Cost f result told h = stopped rows values f result told h
  rows_fault mode.Point f result told h = passed_on rows f result told h

  -- where all hold no sum is wide
  pub none_is_wide : (way : Mode) → AllHold (master_tests m part way point) → FindsWideSum m part way point None
  none_is_wide mode.Cost h =
      let v = all_behind rows values h in
      (rows_fit point (inequalities_of m part 0) (all_front rows values h), (v.0, record { sum = v.1.1.0; product = v.1.1.1.0 }))
  none_is_wide mode.Point h = (rows_fit point (inequalities_of m part 0) h, tt)
