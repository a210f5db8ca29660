-- The tests of a certificate are decided: it passes and fits, or it has a first fault.
use Rattle.std.specs.Prelude.{ℕ, ℤ, pos, ◌≡◌, ◌+◌, ◌+ℤ◌, ◌*ℤ◌, ◌⊎◌, List, [], ◌∷◌, ◌++◌, length, Option, Some, None, slice_get}
use Rattle.std.specs.List.{enumerate_from}
use Rattle.std.proofs.Common.{ap, inl, inr, refl, sym, ◌∙◌}
use Rattle.bz_first.specs.Tests.{answered, each_of, test}
use Rattle.bz_first.proofs.Deciding.{AllTold, HoldOrFault, Told, all_told, at_most_told_z, both, equal_told, equal_told_z, hold_or_fault, less_told_z, then_told, told_answered, told_as, told_each, told_joined}
use Rattle.bz_model.specs.declared.BlockPart.{BlockPart}
use Rattle.bz_model.specs.declared.Column.{Column}
use Rattle.bz_model.specs.declared.Master.{Master}
use Rattle.bz_model.specs.declared.Model.{Model}
use Rattle.bz_model.specs.declared.Parts.{Parts}
use Rattle.bz_model.specs.Decomposed.{IsDecomposed}
use Rattle.bz_model.specs.Parting.{blocks_of, integers_of, position_of, width_of}
use Rattle.bz_model.specs.PartPoints.{HasBlockShape, HasMasterShape, HasPointShape, HasShape}
use Rattle.bz_cut.specs.declared.Cut.{Cut}
use Rattle.bz_cut.specs.CutTests.{cut_tests}
use Rattle.bz_cut.proofs.CutDecided.{cut_tests_told}
use Rattle.bz_tree.specs.declared.Leaf.{Leaf}
use Rattle.bz_tree.specs.Boxes.{Box, IsRootBox}
use Rattle.bz_tree.specs.Integers.{integer_at}
use Rattle.bz_tree.specs.Leaves.{sides_of}
use Rattle.bz_tree.specs.Trees.{IsEmpty, IsSplitOf, Reaches, Tree, preorder, with_lower, with_upper}
use Rattle.bz_cert.specs.declared.Certificate.{Certificate}
use Rattle.bz_cert.specs.declared.Verdict.{Verdict}
use Rattle.bz_cert.specs.declared.Verdict.TheVariants.{Optimal, Infeasible, Unbounded}
use Rattle.bz_cert.specs.Fits.{Fits}
use Rattle.bz_cert.specs.Passing.{Passes}
use Rattle.bz_judge.specs.declared.CheckFault.{CheckFault}
use Rattle.bz_judge.specs.declared.CheckFault.TheVariants as fault
use Rattle.bz_judge.specs.LeafTests.{leaf_tests}
use Rattle.bz_judge.specs.PointTests.{Tests, point_tests}
use Rattle.bz_judge.specs.RayTests.{ray_tests}
use Rattle.bz_judge.specs.ValueTests.{cost_tests, value_tests}
use Rattle.bz_judge.proofs.Decided.{cost_decided, leaf_decided, point_decided, ray_decided, value_decided}
use Rattle.bz_check.specs.CheckTests.{HasTree, IsCheckFault, check_tests, cuts_tests, fault_of_cut, infeasible_tests, optimal_tests, tests_as, tree_tests, unbounded_tests}
use Rattle.bz_check.proofs.AllTests.{tests_tell}

-- ---- shapes
block_shape_told : (part : List ℕ) (e : ℕ × BlockPart) → Told (HasBlockShape part e)
block_shape_told part e = both (less_told_z (pos 0) e.1.times) (λ l. equal_told (length e.1.y) (width_of part e.0))

master_shape_told : (part : List ℕ) (master : Master) → Told (HasMasterShape part master)
master_shape_told part master = told_as (λ h. record { den = h.0; x = h.1 }) (λ h. (h.den, h.x))
    (both (less_told_z (pos 0) master.den) (λ l. equal_told (length master.x) (width_of part 0)))

point_shape_told : (m : Model) (part : List ℕ) (parts : Parts) → Told (HasPointShape m part parts)
point_shape_told m part parts = told_as (λ h. record { master = h.0; blocks = h.1.0; each = h.1.1 }) (λ h. (h.master, (h.blocks, h.each)))
    (both (master_shape_told part parts.master) (λ h. both (equal_told (length parts.blocks) (blocks_of part)) (λ l. all_told (HasBlockShape part) (enumerate_from 1 parts.blocks) (block_shape_told part))))

shape_told : (m : Model) (part : List ℕ) (parts : Parts) → Told (HasShape m part parts)
shape_told m part parts = told_as (λ h. record { point = h.0; eta = h.1 }) (λ h. (h.point, h.eta))
    (both (point_shape_told m part parts) (λ h. equal_told (length parts.master.eta) (blocks_of part)))

-- ---- the cuts and the tree
cuts_decided : (m : Model) (part : List ℕ) (cuts : List Cut) → AllTold (cuts_tests m part cuts)
cuts_decided m part cuts = told_each (λ e. answered (fault_of_cut e.0) (cut_tests m part e.1)) (enumerate_from 0 cuts) (λ e. told_answered (fault_of_cut e.0) (cut_tests m part e.1) (cut_tests_told m part e.1))

split_by : (m : Model) (part : List ℕ) (k position : ℕ) (left right : ℤ) (o : Option (ℕ × Column)) → slice_get (integers_of m) k ≡ o → Told (IsSplitOf m part k position left right)
split_by m part k position left right None e = inr (λ s. let there = s.is_column in absurd cc)
split_by m part k position left right (Some column) e = told_as
    (λ h. record { column = column; is_column = e; at_position = h.0; next = h.1 })
    (λ s. let there = s.is_column in let same : s.column ≡ column = cc in (ap (λ (x : ℕ × Column). position_of part x.0) (sym same) ∙ s.at_position, s.next))
    (both (equal_told (position_of part column.0) position) (λ h. equal_told_z right (left +ℤ pos 1)))

split_told : (m : Model) (part : List ℕ) (k position : ℕ) (left right : ℤ) → Told (IsSplitOf m part k position left right)
split_told m part k position left right = split_by m part k position left right (slice_get (integers_of m) k) refl

module _ (m : Model) (part : List ℕ) (cuts : List Cut) (Bounds : Leaf → Type 0) (told : (leaf : Leaf) → Told (Bounds leaf)) where
  tree_decided : (box : Box) (node : ℕ) (tree : Tree) → AllTold (tree_tests m part cuts Bounds box node tree)
  tree_decided box node (Tree.tip leaf) = told_joined (leaf_tests m part (sides_of m part box cuts) node leaf) (test (fault.Leaf node) (Bounds leaf) ∷ [])
      (leaf_decided m part (sides_of m part box cuts) node leaf) (λ h. (told leaf, λ b. tt))
  tree_decided box node (Tree.fork position left right below above) = (
    split_told m part (integer_at m part position) position left right,
    λ s. told_joined (tree_tests m part cuts Bounds (with_upper (integer_at m part position) left box) (node + 1) below) (tree_tests m part cuts Bounds (with_lower (integer_at m part position) right box) (node + 1 + length (preorder below)) above)
        (tree_decided (with_upper (integer_at m part position) left box) (node + 1) below)
        (λ h. tree_decided (with_lower (integer_at m part position) right box) (node + 1 + length (preorder below)) above),
  )

reaches_told : (value den : ℤ) (leaf : Leaf) → Told (Reaches value den leaf)
reaches_told value den leaf = then_told (less_told_z (pos 0) leaf.delta) (at_most_told_z (value *ℤ leaf.delta) (leaf.bound *ℤ den))

empty_told : (leaf : Leaf) → Told (IsEmpty leaf)
empty_told leaf = equal_told_z leaf.delta (pos 0)

-- ---- the whole certificate
module _ (m : Model) (part : List ℕ) (root : Box) (tree : Tree) (c : Certificate) where
  optimal_decided : (parts : Parts) → AllTold (optimal_tests m part root tree parts c)
  optimal_decided parts =
      let shape : Tests = test fault.Shape (HasShape m part parts) ∷ [] in
      let point : Tests = point_tests m part root parts in
      let costs : Tests = each_of (cost_tests m part parts.master) (enumerate_from 1 parts.blocks) in
      let worth : Tests = value_tests m part parts.master c.value in
      let pool : Tests = cuts_tests m part c.cuts in
      let nodes : Tests = tree_tests m part c.cuts (Reaches c.value parts.master.den) root 0 tree in
      told_joined (shape ++ point ++ costs ++ worth ++ pool) nodes
      (told_joined (shape ++ point ++ costs ++ worth) pool
      (told_joined (shape ++ point ++ costs) worth
      (told_joined (shape ++ point) costs
      (shape_told m part parts, λ h. point_decided m part root parts h.point.master.den)
      (λ h. told_each (cost_tests m part parts.master) (enumerate_from 1 parts.blocks) (cost_decided m part parts.master)))
      (λ h. value_decided m part parts.master c.value))
      (λ h. cuts_decided m part c.cuts))
      (λ h. tree_decided m part c.cuts (Reaches c.value parts.master.den) (reaches_told c.value parts.master.den) root 0 tree)

  infeasible_decided : AllTold (infeasible_tests m part root tree c)
  infeasible_decided = told_joined (cuts_tests m part c.cuts) (tree_tests m part c.cuts IsEmpty root 0 tree) (cuts_decided m part c.cuts) (λ h. tree_decided m part c.cuts IsEmpty empty_told root 0 tree)

  unbounded_decided : (parts : Parts) → AllTold (unbounded_tests m part root parts c)
  unbounded_decided parts =
      let lengths : Tests = test fault.Shape (HasPointShape m part parts × (length c.ray ≡ length m.columns)) ∷ [] in
      told_joined (lengths ++ point_tests m part root parts) (ray_tests m c.ray)
      (both (point_shape_told m part parts) (λ h. equal_told (length c.ray) (length m.columns)), λ h. point_decided m part root parts h.0.master.den)
      (λ h. ray_decided m c.ray)

  decided_as : (verdict : Verdict) (parts : Option Parts) → AllTold (tests_as m part root tree c verdict parts)
  decided_as Optimal (Some parts) = optimal_decided parts
  decided_as Optimal None = (inr (λ h. h), λ h. absurd h)
  decided_as Infeasible parts = infeasible_decided
  decided_as Unbounded (Some parts) = unbounded_decided parts
  decided_as Unbounded None = (inr (λ h. h), λ h. absurd h)

-- it passes and fits, or it has a first fault
pub passes_or_fault : (m : Model) (part : List ℕ) (root : Box) (tree : Tree) (c : Certificate) → IsDecomposed m part → IsRootBox m root → HasTree c c.verdict tree → (Passes m part c × Fits m part c) ⊎ ((f : CheckFault) × IsCheckFault m part c f)
passes_or_fault m part root tree c d r t = by (hold_or_fault (check_tests m part root tree c) (decided_as m part root tree c c.verdict c.parts))
  where
    by : HoldOrFault (check_tests m part root tree c) → (Passes m part c × Fits m part c) ⊎ ((f : CheckFault) × IsCheckFault m part c f)
    by (inl h) = inl ((tests_tell m part root tree c d r t).0 h)
    by (inr g) = inr (g.0, record { root = root; is_root = r; tree = tree; is_tree = t; first = g.1 })
