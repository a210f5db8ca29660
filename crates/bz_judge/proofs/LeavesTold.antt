-- The tests of a leaf all hold exactly where it holds over its box and fits.
use Rattle.std.specs.Prelude.{ℕ, ◌<◌, List, ◌++◌}
use Rattle.bz_model.specs.declared.Model.{Model}
use Rattle.bz_model.specs.Parting.{blocks_of, width_of}
use Rattle.bz_cut.specs.declared.Cut.{Cut}
use Rattle.bz_first.specs.Tests.{AllHold, each_below}
use Rattle.bz_first.proofs.TestLemmas.{all_behind, all_below_hold, all_front, all_joined, each_below_holds}
use Rattle.bz_tree.specs.declared.Leaf.{Leaf}
use Rattle.bz_tree.specs.Boxes.{Box}
use Rattle.bz_tree.specs.Leaves.{LeafHolds, sides_of}
use Rattle.bz_tree.specs.TreeFits.{FitsLeaf}
use Rattle.bz_judge.specs.LeafTests.{leaf_bound_tests, leaf_eta_tests, leaf_form_tests, leaf_master_tests, leaf_rhs_tests, leaf_tests}
use Rattle.bz_judge.specs.PointTests.{Tests}

module _ (m : Model) (part : List ℕ) (cuts : List Cut) (box : Box) (node : ℕ) (leaf : Leaf) where
  abbrev form : Tests
  form = leaf_form_tests (sides_of m part box cuts) node leaf

  abbrev masters : Tests
  masters = each_below (width_of part 0) (leaf_master_tests m part (sides_of m part box cuts) node leaf)

  abbrev etas : Tests
  etas = each_below (blocks_of part) (leaf_eta_tests (sides_of m part box cuts) node leaf)

  abbrev rhs : Tests
  rhs = leaf_rhs_tests (sides_of m part box cuts) node leaf

  abbrev bounds : Tests
  bounds = leaf_bound_tests node leaf

  module _ (h : AllHold (leaf_tests m part (sides_of m part box cuts) node leaf)) where
    before_bounds : AllHold (form ++ masters ++ etas ++ rhs)
    before_bounds = all_front (form ++ masters ++ etas ++ rhs) bounds h

    before_rhs : AllHold (form ++ masters ++ etas)
    before_rhs = all_front (form ++ masters ++ etas) rhs before_bounds

    before_etas : AllHold (form ++ masters)
    before_etas = all_front (form ++ masters) etas before_rhs

    form_holds : AllHold form
    form_holds = all_front form masters before_etas

    bounds_hold : AllHold bounds
    bounds_hold = all_behind (form ++ masters ++ etas ++ rhs) bounds h

    rhs_holds : AllHold rhs
    rhs_holds = all_behind (form ++ masters ++ etas) rhs before_bounds

    master_holds : (i : ℕ) → i < width_of part 0 → AllHold (leaf_master_tests m part (sides_of m part box cuts) node leaf i)
    master_holds = each_below_holds (width_of part 0) (leaf_master_tests m part (sides_of m part box cuts) node leaf) (all_behind form masters before_etas)

    eta_holds : (b : ℕ) → b < blocks_of part → AllHold (leaf_eta_tests (sides_of m part box cuts) node leaf b)
    eta_holds = each_below_holds (blocks_of part) (leaf_eta_tests (sides_of m part box cuts) node leaf) (all_behind (form ++ masters) etas before_rhs)

    pub leaf_told : LeafHolds m part box cuts leaf
    leaf_told = record {
      lambda = form_holds.0;
      delta = form_holds.1.0;
      master = λ i l. (master_holds i l).1.1.0;
      etas = λ b l. (eta_holds b l).1.0;
      rhs = rhs_holds.1.0;
      empty = bounds_hold.0;
    }

    pub leaf_fits : FitsLeaf m part box cuts leaf
    leaf_fits = record {
      master = λ i l. record { sum = (master_holds i l).0; other = (master_holds i l).1.0 };
      etas = λ b l. (eta_holds b l).0;
      rhs = rhs_holds.0;
    }

  pub leaf_tested : LeafHolds m part box cuts leaf → FitsLeaf m part box cuts leaf → AllHold (leaf_tests m part (sides_of m part box cuts) node leaf)
  leaf_tested h f = all_joined (form ++ masters ++ etas ++ rhs) bounds
      (all_joined (form ++ masters ++ etas) rhs
      (all_joined (form ++ masters) etas
      (all_joined form masters (h.lambda, (h.delta, tt)) (all_below_hold (width_of part 0) (leaf_master_tests m part (sides_of m part box cuts) node leaf) (λ i l. ((f.master i l).sum, ((f.master i l).other, (h.master i l, tt))))))
      (all_below_hold (blocks_of part) (leaf_eta_tests (sides_of m part box cuts) node leaf) (λ i l. (f.etas i l, (h.etas i l, tt)))))
      (f.rhs, (h.rhs, tt)))
      (h.empty, tt)
