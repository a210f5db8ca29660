-- The tests of a leaf over its sides, in their order.
use Rattle.std.specs.Prelude.{ℕ, pos, ◌≡◌, ◌*ℤ◌, ◌<ℤ◌, ◌≤ℤ◌, List, [], ◌∷◌, ◌++◌, length}
use Rattle.std.proofs.Math.IntN.{neg_ℤ}
use Rattle.bz_algebra.specs.Sums.{coef}
use Rattle.bz_model.specs.declared.Ineq.{Ineq}
use Rattle.bz_model.specs.declared.Model.{Model}
use Rattle.bz_model.specs.Parting.{blocks_of, inner_cost, terms_in, width_of}
use Rattle.bz_cut.specs.Rows.{AreMultipliers, master_at, own_at, rhs_at}
use Rattle.bz_cut.specs.SumTests.{equation, sum_is}
use Rattle.bz_first.specs.Tests.{each_below, test}
use Rattle.bz_tree.specs.declared.Leaf.{Leaf}
use Rattle.bz_judge.specs.declared.faults.CheckFault.TheVariants as fault
use Rattle.bz_judge.specs.PointTests.{Tests}
use Rattle.bz_judge.specs.WideLists.{leaf_sums}

-- the leaf at a node adds up on position i of the master, on the eta of block b + 1, and on the right sides
abbrev pub leaf_master_tests : Model → List ℕ → List Ineq → ℕ → Leaf → ℕ → Tests
leaf_master_tests m part sides node leaf i =
    equation (fault.Leaf node) (fault.Wide leaf_sums node) leaf.lambda (λ n. coef (master_at sides n) i)
    (leaf.delta *ℤ coef (terms_in part 0 (inner_cost m)) i)
    (neg_ℤ (leaf.delta *ℤ coef (terms_in part 0 (inner_cost m)) i))

abbrev pub leaf_eta_tests : List Ineq → ℕ → Leaf → ℕ → Tests
leaf_eta_tests sides node leaf b =
    sum_is (fault.Leaf node) (fault.Wide leaf_sums node) leaf.lambda (λ n. coef (own_at sides n) b) (neg_ℤ leaf.delta)

abbrev pub leaf_rhs_tests : List Ineq → ℕ → Leaf → Tests
leaf_rhs_tests sides node leaf =
    sum_is (fault.Leaf node) (fault.Wide leaf_sums node) leaf.lambda (rhs_at sides) (neg_ℤ leaf.bound)

-- all positions of the master, and all etas
abbrev pub leaf_masters_tests : Model → List ℕ → List Ineq → ℕ → Leaf → Tests
leaf_masters_tests m part sides node leaf = each_below (width_of part 0) (leaf_master_tests m part sides node leaf)

abbrev pub leaf_etas_tests : List ℕ → List Ineq → ℕ → Leaf → Tests
leaf_etas_tests part sides node leaf = each_below (blocks_of part) (leaf_eta_tests sides node leaf)

-- its multipliers are positive and at places of the sides, and its delta isn't negative
abbrev pub leaf_form_tests : List Ineq → ℕ → Leaf → Tests
leaf_form_tests sides node leaf =
    test (fault.Leaf node) (AreMultipliers (length sides) leaf.lambda)
    ∷ test (fault.Leaf node) (pos 0 ≤ℤ leaf.delta)
    ∷ []

-- its bound is positive where it is empty
abbrev pub leaf_bound_tests : ℕ → Leaf → Tests
leaf_bound_tests node leaf = test (fault.Leaf node) (leaf.delta ≡ pos 0 → pos 0 <ℤ leaf.bound) ∷ []

-- The leaf at a node over its sides: its multipliers and its delta, its sums, and then its bound.
abbrev pub leaf_tests : Model → List ℕ → List Ineq → ℕ → Leaf → Tests
leaf_tests m part sides node leaf =
    leaf_form_tests sides node leaf
    ++ leaf_masters_tests m part sides node leaf
    ++ leaf_etas_tests part sides node leaf
    ++ leaf_rhs_tests sides node leaf
    ++ leaf_bound_tests node leaf
