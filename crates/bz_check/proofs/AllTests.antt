-- All tests of a certificate hold exactly where it passes and fits, and it has one fault at most.
use Rattle.std.specs.Prelude.{ℕ, ℤ, ◌≡◌, ◌↔◌, List, [], ◌∷◌, ◌++◌, length, Option, Some, None}
use Rattle.std.specs.List.{AllByRecursion, enumerate_from}
use Rattle.std.proofs.Common.{refl, subst}
use Rattle.bz_algebra.specs.Fractions.{IsSameNumber}
use Rattle.bz_model.specs.declared.Model.{Model}
use Rattle.bz_model.specs.declared.Parts.{Parts}
use Rattle.bz_model.specs.Parting.{integers_of}
use Rattle.bz_model.specs.Points.{objective, IsInfeasible, IsOptimal, IsUnbounded}
use Rattle.bz_first.specs.Tests.{AllHold, IsFirstFault, each_of, test}
use Rattle.bz_first.proofs.TestLemmas.{all_behind, all_front, all_joined, none_where_all, one_fault}
use Rattle.bz_tree.specs.declared.Leaf.{Leaf}
use Rattle.bz_tree.specs.Boxes.{Box, IsRootBox}
use Rattle.bz_tree.specs.Trees.{EachLeaf, HoldsOver, IsEmpty, IsTreeOf, Reaches, Tree}
use Rattle.bz_tree.proofs.OneTree.{tree_of_nodes}
use Rattle.bz_model.specs.Decomposed.{IsDecomposed}
use Rattle.bz_model.specs.PartPoints.{HasPointShape, HasShape, IsPointOf}
use Rattle.bz_tree.specs.Integers.{IntegerHolds}
use Rattle.bz_tree.specs.Verdicts.{PassesInfeasible, PassesOptimal, PassesUnbounded}
use Rattle.bz_model.specs.Stated.{objective_of}
use Rattle.bz_pass.proofs.Judging.{some_point, tree_optimal, tree_refutes}
use Rattle.bz_pass.proofs.Rays.{ray_unbounded}
use Rattle.bz_cert.specs.declared.Certificate.{Certificate}
use Rattle.bz_cert.specs.declared.Verdict.{Verdict}
use Rattle.bz_cert.specs.declared.Verdict.TheVariants.{Optimal, Infeasible, Unbounded}
use Rattle.bz_judge.specs.declared.CheckFault.{CheckFault}
use Rattle.bz_judge.specs.declared.CheckFault.TheVariants as fault
use Rattle.bz_judge.specs.PointTests.{Tests, point_tests}
use Rattle.bz_check.specs.CheckTests.{check_tests, cuts_tests, infeasible_tests, optimal_tests, tests_as, tree_tests, unbounded_tests, HasTree, IsCheckFault}
use Rattle.bz_judge.specs.ValueTests.{cost_tests, value_tests}
use Rattle.bz_judge.specs.RayTests.{ray_tests}
use Rattle.bz_cert.specs.Fits.{Fits, FitsAs, FitsBound, FitsOptimal, FitsUnbounded}
use Rattle.bz_tree.specs.TreeFits.{FitsTree}
use Rattle.bz_cert.specs.Passing.{Passes, PassesAs}
use Rattle.bz_judge.specs.PointHolds.{PointHolds}
use Rattle.bz_judge.proofs.PointsTold.{costs_fit, costs_tested, costs_told, point_fits, point_tested, point_told, ray_cost_fits, ray_rows_fit, ray_tested, ray_told, rows_of_blocks}
use Rattle.bz_tree.proofs.OneRoot.{one_root}
use Rattle.bz_check.proofs.AllTestsTrees.{cuts_fit, cuts_tested, cuts_told, leaves_told, tree_fits, tree_tested, tree_told}

-- ---- an optimum
module _ (m : Model) (part : List ℕ) (root : Box) (tree : Tree) (parts : Parts) (c : Certificate) where
  abbrev shape : Tests
  shape = test fault.Shape (HasShape m part parts) ∷ []

  abbrev point : Tests
  point = point_tests m part root parts

  abbrev costs : Tests
  costs = each_of (cost_tests m part parts.master) (enumerate_from 1 parts.blocks)

  abbrev worth : Tests
  worth = value_tests m part parts.master c.value

  abbrev pool : Tests
  pool = cuts_tests m part c.cuts

  abbrev nodes : Tests
  nodes = tree_tests m part c.cuts (Reaches c.value parts.master.den) root 0 tree

  module _ (h : AllHold (optimal_tests m part root tree parts c)) where
    before_nodes : AllHold (shape ++ point ++ costs ++ worth ++ pool)
    before_nodes = all_front (shape ++ point ++ costs ++ worth ++ pool) nodes h

    before_pool : AllHold (shape ++ point ++ costs ++ worth)
    before_pool = all_front (shape ++ point ++ costs ++ worth) pool before_nodes

    before_worth : AllHold (shape ++ point ++ costs)
    before_worth = all_front (shape ++ point ++ costs) worth before_pool

    before_costs : AllHold (shape ++ point)
    before_costs = all_front (shape ++ point) costs before_worth

    nodes_hold : AllHold nodes
    nodes_hold = all_behind (shape ++ point ++ costs ++ worth ++ pool) nodes h

    pool_holds : AllHold pool
    pool_holds = all_behind (shape ++ point ++ costs ++ worth) pool before_nodes

    worth_holds : AllHold worth
    worth_holds = all_behind (shape ++ point ++ costs) worth before_pool

    costs_hold : AllHold costs
    costs_hold = all_behind (shape ++ point) costs before_worth

    point_holds : AllHold point
    point_holds = all_behind shape point before_costs

    optimal_told : IsRootBox m root → IsTreeOf c.tree tree → PassesOptimal m part parts c.value c.cuts c.tree
    optimal_told r t = let p : PointHolds m part root parts = point_told m part root parts point_holds in record {
      shape = before_costs.0;
      master = p.master;
      root = root;
      is_root = r;
      integers = p.integers;
      blocks = costs_told m part root parts costs_hold p;
      value = worth_holds.1.0;
      cuts = cuts_told m part c.cuts pool_holds;
      tree = tree;
      is_tree = t;
      holds = tree_told m part c.cuts (Reaches c.value parts.master.den) root 0 tree nodes_hold;
      bounds = leaves_told m part c.cuts (Reaches c.value parts.master.den) root 0 tree nodes_hold;
    }

    optimal_fits : IsRootBox m root → IsTreeOf c.tree tree → FitsOptimal m part parts c
    optimal_fits r t = record {
      point = point_fits m part root parts point_holds;
      costs = costs_fit m part root parts costs_hold;
      value = worth_holds.0;
      stated = record { sum = worth_holds.1.1.0; product = worth_holds.1.1.1.0 };
      bound = record {
        cuts = cuts_fit m part c.cuts pool_holds;
        root = root;
        is_root = r;
        tree = tree;
        is_tree = t;
        leaves = tree_fits m part c.cuts (Reaches c.value parts.master.den) root 0 tree nodes_hold;
      };
    }

module _ (m : Model) (part : List ℕ) (root : Box) (tree : Tree) (c : Certificate) (d : IsDecomposed m part) (r : IsRootBox m root) (t : IsTreeOf c.tree tree) where
  -- a tree that holds over a box of the whole model, and one that fits there
  over_root : (P : Box → Tree → Type 0) (other : Box) (others : Tree) → IsRootBox m other → IsTreeOf c.tree others → P other others → P root tree
  over_root P other others s u h =
      let box : other ≡ root = one_root m part d other root s r in
      let one : others ≡ tree = tree_of_nodes c.tree others tree u t in
      subst (λ (x : Tree). P root x) one (subst (λ (b : Box). P b others) box h)

  optimal_tested : (parts : Parts) → PassesOptimal m part parts c.value c.cuts c.tree → FitsOptimal m part parts c → AllHold (optimal_tests m part root tree parts c)
  optimal_tested parts p f =
      let box : p.root ≡ root = one_root m part d p.root root p.is_root r in
      let bounds : Leaf → Type 0 = Reaches c.value parts.master.den in
      let integers : AllByRecursion (IntegerHolds part root parts.master) (enumerate_from 0 (integers_of m)) = subst (λ (b : Box). AllByRecursion (IntegerHolds part b parts.master) (enumerate_from 0 (integers_of m))) box p.integers in
      all_joined (shape m part root tree parts c ++ point m part root tree parts c ++ costs m part root tree parts c ++ worth m part root tree parts c ++ pool m part root tree parts c) (nodes m part root tree parts c)
      (all_joined (shape m part root tree parts c ++ point m part root tree parts c ++ costs m part root tree parts c ++ worth m part root tree parts c) (pool m part root tree parts c)
      (all_joined (shape m part root tree parts c ++ point m part root tree parts c ++ costs m part root tree parts c) (worth m part root tree parts c)
      (all_joined (shape m part root tree parts c ++ point m part root tree parts c) (costs m part root tree parts c)
      (p.shape, point_tested m part root parts (record { master = p.master; integers = integers; blocks = rows_of_blocks m part root parts p.blocks }) f.point)
      (costs_tested m part root parts p.blocks f.costs))
      (f.value, (p.value, (f.stated.sum, (f.stated.product, tt)))))
      (cuts_tested m part c.cuts p.cuts f.bound.cuts))
      (tree_tested m part c.cuts bounds d root 0 tree
      (over_root (HoldsOver m part c.cuts) p.root p.tree p.is_root p.is_tree p.holds)
      (over_root (λ b x. EachLeaf bounds x) p.root p.tree p.is_root p.is_tree p.bounds)
      (over_root (λ b x. FitsTree m part c.cuts b x) f.bound.root f.bound.tree f.bound.is_root f.bound.is_tree f.bound.leaves))

  infeasible_tested : PassesInfeasible m part c.cuts c.tree → FitsBound m part c → AllHold (infeasible_tests m part root tree c)
  infeasible_tested p f = all_joined (cuts_tests m part c.cuts) (tree_tests m part c.cuts IsEmpty root 0 tree)
      (cuts_tested m part c.cuts p.cuts f.cuts)
      (tree_tested m part c.cuts IsEmpty d root 0 tree
      (over_root (HoldsOver m part c.cuts) p.root p.tree p.is_root p.is_tree p.holds)
      (over_root (λ b x. EachLeaf IsEmpty x) p.root p.tree p.is_root p.is_tree p.empty)
      (over_root (λ b x. FitsTree m part c.cuts b x) f.root f.tree f.is_root f.is_tree f.leaves))

-- ---- no feasible point
module _ (m : Model) (part : List ℕ) (root : Box) (tree : Tree) (c : Certificate) (h : AllHold (infeasible_tests m part root tree c)) (r : IsRootBox m root) (t : IsTreeOf c.tree tree) where
  empties : AllHold (tree_tests m part c.cuts IsEmpty root 0 tree)
  empties = all_behind (cuts_tests m part c.cuts) (tree_tests m part c.cuts IsEmpty root 0 tree) h

  refuted : AllHold (cuts_tests m part c.cuts)
  refuted = all_front (cuts_tests m part c.cuts) (tree_tests m part c.cuts IsEmpty root 0 tree) h

  infeasible_told : PassesInfeasible m part c.cuts c.tree
  infeasible_told = record {
    cuts = cuts_told m part c.cuts refuted;
    root = root;
    is_root = r;
    tree = tree;
    is_tree = t;
    holds = tree_told m part c.cuts IsEmpty root 0 tree empties;
    empty = leaves_told m part c.cuts IsEmpty root 0 tree empties;
  }

  infeasible_fits : FitsBound m part c
  infeasible_fits = record {
    cuts = cuts_fit m part c.cuts refuted;
    root = root;
    is_root = r;
    tree = tree;
    is_tree = t;
    leaves = tree_fits m part c.cuts IsEmpty root 0 tree empties;
  }

-- ---- no least objective
module _ (m : Model) (part : List ℕ) (root : Box) (parts : Parts) (c : Certificate) where
  abbrev lengths : Tests
  lengths = test fault.Shape (HasPointShape m part parts × (length c.ray ≡ length m.columns)) ∷ []

  module _ (h : AllHold (unbounded_tests m part root parts c)) where
    before_ray : AllHold (lengths ++ point_tests m part root parts)
    before_ray = all_front (lengths ++ point_tests m part root parts) (ray_tests m c.ray) h

    ray_holds : AllHold (ray_tests m c.ray)
    ray_holds = all_behind (lengths ++ point_tests m part root parts) (ray_tests m c.ray) h

    unbounded_told : IsRootBox m root → PassesUnbounded m part parts c.ray
    unbounded_told r = let p : PointHolds m part root parts = point_told m part root parts before_ray.1 in record {
      shape = before_ray.0.0;
      master = p.master;
      root = root;
      is_root = r;
      integers = p.integers;
      blocks = p.blocks;
      falls = ray_told m c.ray ray_holds before_ray.0.1;
    }

    unbounded_fits : FitsUnbounded m part parts c.ray
    unbounded_fits = record {
      point = point_fits m part root parts before_ray.1;
      rows = ray_rows_fit m c.ray ray_holds;
      cost = ray_cost_fits m c.ray ray_holds;
    }

  unbounded_tested : IsDecomposed m part → IsRootBox m root → PassesUnbounded m part parts c.ray → FitsUnbounded m part parts c.ray → AllHold (unbounded_tests m part root parts c)
  unbounded_tested d r p f =
      let box : p.root ≡ root = one_root m part d p.root root p.is_root r in
      let integers : AllByRecursion (IntegerHolds part root parts.master) (enumerate_from 0 (integers_of m)) = subst (λ (b : Box). AllByRecursion (IntegerHolds part b parts.master) (enumerate_from 0 (integers_of m))) box p.integers in
      all_joined (lengths ++ point_tests m part root parts) (ray_tests m c.ray)
      ((p.shape, p.falls.numbers), point_tested m part root parts (record { master = p.master; integers = integers; blocks = p.blocks }) f.point)
      (ray_tested m c.ray p.falls f.rows f.cost)

-- ---- by the verdict
module _ (m : Model) (part : List ℕ) (root : Box) (tree : Tree) (c : Certificate) (r : IsRootBox m root) where
  told_as : (verdict : Verdict) (parts : Option Parts) → HasTree c verdict tree → AllHold (tests_as m part root tree c verdict parts) → PassesAs m part c verdict parts × FitsAs m part c verdict parts
  told_as Optimal (Some parts) t h = (optimal_told m part root tree parts c h r t, optimal_fits m part root tree parts c h r t)
  told_as Optimal None t h = absurd h.0
  told_as Infeasible parts t h = (infeasible_told m part root tree c h r t, infeasible_fits m part root tree c h r t)
  told_as Unbounded (Some parts) t h = (unbounded_told m part root parts c h r, unbounded_fits m part root parts c h)
  told_as Unbounded None t h = absurd h.0

  tested_as : IsDecomposed m part → (verdict : Verdict) (parts : Option Parts) → HasTree c verdict tree → PassesAs m part c verdict parts → FitsAs m part c verdict parts → AllHold (tests_as m part root tree c verdict parts)
  tested_as d Optimal (Some parts) t p f = optimal_tested m part root tree c d r t parts p f
  tested_as d Optimal None t p f = absurd p
  tested_as d Infeasible parts t p f = infeasible_tested m part root tree c d r t p f
  tested_as d Unbounded (Some parts) t p f = unbounded_tested m part root parts c d r p f
  tested_as d Unbounded None t p f = absurd p

pub tests_tell : (m : Model) (part : List ℕ) (root : Box) (tree : Tree) (c : Certificate) → IsDecomposed m part → IsRootBox m root → HasTree c c.verdict tree → AllHold (check_tests m part root tree c) ↔ (Passes m part c × Fits m part c)
tests_tell m part root tree c d r t = (
  λ h. let both = told_as m part root tree c r c.verdict c.parts t h in (record { as_its_verdict = both.0 }, record { as_its_verdict = both.1 }),
  λ g. tested_as m part root tree c r d c.verdict c.parts t g.0.as_its_verdict g.1.as_its_verdict,
)

-- ---- the fault
-- the tests are the same over each box and tree of the certificate
same_as : (m : Model) (part : List ℕ) (c : Certificate) (root : Box) (tree tree' : Tree) (verdict : Verdict) (parts : Option Parts) → HasTree c verdict tree → HasTree c verdict tree' → tests_as m part root tree c verdict parts ≡ tests_as m part root tree' c verdict parts
same_as m part c root tree tree' Optimal (Some parts) t u = rw (tree_of_nodes c.tree tree tree' t u) refl
same_as m part c root tree tree' Optimal None t u = refl
same_as m part c root tree tree' Infeasible parts t u = rw (tree_of_nodes c.tree tree tree' t u) refl
same_as m part c root tree tree' Unbounded (Some parts) t u = refl
same_as m part c root tree tree' Unbounded None t u = refl

pub fault_is_one : (m : Model) (part : List ℕ) (c : Certificate) (f g : CheckFault) → IsDecomposed m part → IsCheckFault m part c f → IsCheckFault m part c g → f ≡ g
fault_is_one m part c f g d h k =
    let box : h.root ≡ k.root = one_root m part d h.root k.root h.is_root k.is_root in
    let first : IsFirstFault (check_tests m part k.root h.tree c) f = subst (λ (b : Box). IsFirstFault (check_tests m part b h.tree c) f) box h.first in
    let same : check_tests m part k.root h.tree c ≡ check_tests m part k.root k.tree c = same_as m part c k.root h.tree k.tree c.verdict c.parts h.is_tree k.is_tree in
    one_fault (check_tests m part k.root k.tree c) f g (subst (λ (ts : Tests). IsFirstFault ts f) same first) k.first

pub fault_fails : (m : Model) (part : List ℕ) (c : Certificate) (f : CheckFault) → IsDecomposed m part → IsCheckFault m part c f → (Passes m part c × Fits m part c) → ⊥
fault_fails m part c f d h g = none_where_all (check_tests m part h.root h.tree c) f ((tests_tell m part h.root h.tree c d h.is_root h.is_tree).1 g) h.first

-- ---- what it proves
pub optimal_means : (m : Model) (part : List ℕ) (c : Certificate) (parts : Parts) (p : List ℤ) (q : ℤ) → IsDecomposed m part → Passes m part c → c.verdict ≡ Optimal → c.parts ≡ Some parts → IsPointOf m part parts p q → IsOptimal m p q × IsSameNumber (objective m p q) (objective_of m c.value parts.master.den)
optimal_means m part c parts p q d h v e = tree_optimal m part parts c.value c.cuts c.tree p q d (rw (v, e) at h.as_its_verdict)

pub has_point : (m : Model) (part : List ℕ) (c : Certificate) → IsDecomposed m part → Passes m part c → c.verdict ≡ Optimal → (parts : Parts) × (c.parts ≡ Some parts) × (p : List ℤ) × (q : ℤ) × IsPointOf m part parts p q
has_point m part c d h v = of_parts c.parts refl (rw v at h.as_its_verdict)
  where
    of_parts : (parts : Option Parts) → c.parts ≡ parts → PassesAs m part c Optimal parts → (parts' : Parts) × (c.parts ≡ Some parts') × (p : List ℤ) × (q : ℤ) × IsPointOf m part parts' p q
    of_parts (Some parts) e h =
        let s : HasPointShape m part parts = h.shape.point in
        let point = some_point m part parts d s in
        (parts, e, point.0, point.1, point.2)
    of_parts None e h = absurd h

pub infeasible_means : (m : Model) (part : List ℕ) (c : Certificate) → IsDecomposed m part → Passes m part c → c.verdict ≡ Infeasible → IsInfeasible m
infeasible_means m part c d h v = tree_refutes m part c.cuts c.tree d (rw v at h.as_its_verdict)

pub unbounded_means : (m : Model) (part : List ℕ) (c : Certificate) → IsDecomposed m part → Passes m part c → c.verdict ≡ Unbounded → IsUnbounded m
unbounded_means m part c d h v = of_parts c.parts (rw v at h.as_its_verdict)
  where
    of_parts : (parts : Option Parts) → PassesAs m part c Unbounded parts → IsUnbounded m
    of_parts (Some parts) h = ray_unbounded m part parts c.ray d h
    of_parts None h = absurd h
