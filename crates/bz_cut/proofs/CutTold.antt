-- The tests of a cut all hold exactly where it is valid and fits.
use Rattle.std.proofs.Common.{◌<◌, ℕ, List, ◌++◌, ◌↔◌}
use Rattle.bz_model.specs.declared.Model.{Model}
use Rattle.bz_model.specs.Parting.{width_of}
use Rattle.bz_cut.specs.declared.faults.CutFault.{CutFault}
use Rattle.bz_cut.specs.declared.records.Cut.{Cut}
use Rattle.bz_cut.specs.Cuts.{IsValid}
use Rattle.bz_cut.specs.CutTests.{cut_tests, form_tests, master_tests, own_tests, rhs_tests, sum_tests}
use Rattle.bz_cut.specs.Fits.{FitsCut}
use Rattle.bz_first.specs.Tests.{AllHold, Test, each_below}
use Rattle.bz_first.proofs.TestLemmas.{all_behind, all_below_hold, all_front, all_joined, each_below_holds}

module _ (m : Model) (part : List ℕ) (cut : Cut) where
  abbrev own : List (Test CutFault)
  own = each_below (width_of part cut.block) (own_tests m part cut)

  abbrev master : List (Test CutFault)
  master = each_below (width_of part 0) (master_tests m part cut)

  module _ (h : AllHold (cut_tests m part cut)) where
    form_holds : AllHold (form_tests m part cut)
    form_holds = all_front (form_tests m part cut) (sum_tests m part cut) h

    sums_hold : AllHold (sum_tests m part cut)
    sums_hold = all_behind (form_tests m part cut) (sum_tests m part cut) h

    own_holds : (i : ℕ) → i < width_of part cut.block → AllHold (own_tests m part cut i)
    own_holds = each_below_holds (width_of part cut.block) (own_tests m part cut) (all_front own master (all_front (own ++ master) (rhs_tests m part cut) sums_hold.1))

    master_holds : (i : ℕ) → i < width_of part 0 → AllHold (master_tests m part cut i)
    master_holds = each_below_holds (width_of part 0) (master_tests m part cut) (all_behind own master (all_front (own ++ master) (rhs_tests m part cut) sums_hold.1))

    rhs_holds : AllHold (rhs_tests m part cut)
    rhs_holds = all_behind (own ++ master) (rhs_tests m part cut) sums_hold.1

    valid : IsValid m part cut
    valid = record {
      block = form_holds.0;
      alpha = form_holds.1.0;
      mu = form_holds.1.1.0;
      gcd = form_holds.1.1.1.0;
      p0 = form_holds.1.1.1.1.0;
      own = λ i l. (own_holds i l).1.1.0;
      master = λ i l. (master_holds i l).1.1.0;
      rhs = rhs_holds.1.1.0;
    }

    fits : FitsCut m part cut
    fits = record {
      factor = sums_hold.0;
      own = λ i l. record { sum = (own_holds i l).0; other = (own_holds i l).1.0 };
      master = λ i l. record { sum = (master_holds i l).0; other = (master_holds i l).1.0 };
      rhs = record { sum = rhs_holds.0; other = rhs_holds.1.0 };
    }

  holds : IsValid m part cut → FitsCut m part cut → AllHold (cut_tests m part cut)
  holds v f = all_joined (form_tests m part cut) (sum_tests m part cut) (v.block, (v.alpha, (v.mu, (v.gcd, (v.p0, tt))))) (
    f.factor,
    all_joined (own ++ master) (rhs_tests m part cut) (all_joined own master
        (all_below_hold (width_of part cut.block) (own_tests m part cut) (λ i l. ((f.own i l).sum, ((f.own i l).other, (v.own i l, tt)))))
        (all_below_hold (width_of part 0) (master_tests m part cut) (λ i l. ((f.master i l).sum, ((f.master i l).other, (v.master i l, tt))))))
        (f.rhs.sum, (f.rhs.other, (v.rhs, tt))),
  )

pub cut_told : (m : Model) (part : List ℕ) (cut : Cut) → AllHold (cut_tests m part cut) ↔ (IsValid m part cut × FitsCut m part cut)
cut_told m part cut = (λ h. (valid m part cut h, fits m part cut h), λ g. holds m part cut g.0 g.1)
