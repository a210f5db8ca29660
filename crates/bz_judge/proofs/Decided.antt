-- The tests of a point, a cost, a value, a direction and a leaf are decided.
use Rattle.std.specs.Prelude.{ℕ, ℤ, pos, ◌≡◌, ◌*ℤ◌, ◌+ℤ◌, ◌<ℤ◌, ◌≤ℤ◌, List, ◌++◌, length}
use Rattle.std.specs.Int.RustNames.{unsigned_abs}
use Rattle.std.specs.List.{enumerate_from}
use Rattle.std.proofs.Common.{ap, arith, inl, inr, sym, ◌∙◌}
use Rattle.std.proofs.Math.Decide.{dec_dvd}
use Rattle.std.proofs.Math.IntN.{*ℤ_comm, neg_ℤ}
use Rattle.std.proofs.lemmas.Int.{ints}
use Rattle.bz_algebra.specs.Sums.{coef, dot}
use Rattle.bz_algebra.proofs.Divisors.{divides_multiple, part as share, part_is}
use Rattle.bz_first.specs.Tests.{each_below, each_of}
use Rattle.bz_first.proofs.Deciding.{AllTold, Told, at_most_told_z, both, equal_told_z, less_told_z, some_told, then_told, told_as, told_below, told_each, told_joined, true_told}
use Rattle.bz_model.specs.declared.BlockPart.{BlockPart}
use Rattle.bz_model.specs.declared.Column.{Column}
use Rattle.bz_model.specs.declared.Ineq.{Ineq}
use Rattle.bz_model.specs.declared.Master.{Master}
use Rattle.bz_model.specs.declared.Model.{Model}
use Rattle.bz_model.specs.declared.Parts.{Parts}
use Rattle.bz_model.specs.declared.Row.{Row}
use Rattle.bz_model.specs.Parting.{blocks_of, inequalities_of, inner_cost, integers_of, position_of, terms_in, width_of}
use Rattle.bz_model.specs.PartPoints.{eta_of, total}
use Rattle.bz_model.specs.Points.{IsWhole, coordinate}
use Rattle.bz_model.specs.PointSums.{joined_pairs, row_pairs, stated_pairs, value_pairs}
use Rattle.bz_model.specs.Rays.{RowAllows}
use Rattle.bz_cut.specs.Rows.{master_at, own_at, rhs_at}
use Rattle.bz_cut.proofs.CutDecided.{equation_told, multipliers_told, narrow_told, sum_is_told, sum_told}
use Rattle.bz_tree.specs.declared.Leaf.{Leaf}
use Rattle.bz_tree.specs.Boxes.{Box}
use Rattle.bz_judge.specs.declared.faults.CheckFault.TheVariants as fault
use Rattle.bz_judge.specs.LeafTests.{leaf_bound_tests, leaf_eta_tests, leaf_form_tests, leaf_master_tests, leaf_rhs_tests, leaf_tests}
use Rattle.bz_judge.specs.PointTests.{block_tests, in_block_tests, in_master_tests, integer_tests, point_tests}
use Rattle.bz_judge.specs.RayTests.{ray_bound_tests, ray_cost_tests, ray_integer_tests, ray_row_tests, ray_tests}
use Rattle.bz_judge.specs.ValueTests.{cost_tests, value_tests}
use Rattle.bz_judge.specs.WideLists.{leaf_sums}

-- ---- whether a fraction is whole
size_is : (z : ℤ) → pos 0 <ℤ z → pos (unsigned_abs z) ≡ z
size_is z l = omega (arith, ints)

pub whole_told : (x den : ℤ) → pos 0 <ℤ den → Told (IsWhole x den)
whole_told x den l = elim (dec_dvd (unsigned_abs den) (unsigned_abs x)) [
  | yes h ↦ inl (share (unsigned_abs den) x, part_is (unsigned_abs den) x h ∙ ap (λ (d : ℤ). d *ℤ share (unsigned_abs den) x) (size_is den l) ∙ *ℤ_comm den (share (unsigned_abs den) x))
  | no n ↦ inr (λ w. n (divides_multiple (unsigned_abs den) x w.0 (w.1 ∙ *ℤ_comm w.0 den ∙ ap (λ (d : ℤ). d *ℤ w.0) (sym (size_is den l)))))
]

-- ---- a point
in_master_told : (master : Master) (e : ℕ × Ineq) → AllTold (in_master_tests master e)
in_master_told master e = (sum_told (row_pairs e.1.own master.x), λ s. (narrow_told (e.1.rhs *ℤ master.den), λ n. (at_most_told_z (dot e.1.own (coordinate master.x)) (e.1.rhs *ℤ master.den), λ h. tt)))

integer_told : (part : List ℕ) (box : Box) (master : Master) (sides : ℕ) → pos 0 <ℤ master.den → (e : ℕ × (ℕ × Column)) → AllTold (integer_tests part box master sides e)
integer_told part box master sides l e = (whole_told (coordinate master.x (position_of part e.1.0)) master.den l, λ w. (at_most_told_z (coordinate master.x (position_of part e.1.0)) (coordinate box.upper e.0 *ℤ master.den), λ u. (at_most_told_z (coordinate box.lower e.0 *ℤ master.den) (coordinate master.x (position_of part e.1.0)), λ d. tt)))

in_block_told : (master : Master) (b : ℕ) (block : BlockPart) (e : ℕ × Ineq) → AllTold (in_block_tests master b block e)
in_block_told master b block e = (
  sum_told (row_pairs e.1.master master.x),
  λ s. (
    sum_told (row_pairs e.1.own block.y),
    λ t. (
      sum_told (joined_pairs block.times (dot e.1.master (coordinate master.x)) (dot e.1.own (coordinate block.y))),
      λ u. (
        narrow_told (e.1.rhs *ℤ (master.den *ℤ block.times)),
        λ n. (at_most_told_z ((block.times *ℤ dot e.1.master (coordinate master.x)) +ℤ dot e.1.own (coordinate block.y)) (e.1.rhs *ℤ (master.den *ℤ block.times)), λ h. tt),
      ),
    ),
  ),
)

pub block_told : (m : Model) (part : List ℕ) (master : Master) (e : ℕ × BlockPart) → AllTold (block_tests m part master e)
block_told m part master e = (narrow_told (master.den *ℤ e.1.times), λ n. told_each (in_block_tests master e.0 e.1) (enumerate_from 0 (inequalities_of m part e.0)) (in_block_told master e.0 e.1))

pub point_decided : (m : Model) (part : List ℕ) (root : Box) (parts : Parts) → pos 0 <ℤ parts.master.den → AllTold (point_tests m part root parts)
point_decided m part root parts l =
    let sides : ℕ = length (inequalities_of m part 0) in
    told_joined (each_of (in_master_tests parts.master) (enumerate_from 0 (inequalities_of m part 0)) ++ each_of (integer_tests part root parts.master sides) (enumerate_from 0 (integers_of m))) (each_of (block_tests m part parts.master) (enumerate_from 1 parts.blocks))
    (told_joined (each_of (in_master_tests parts.master) (enumerate_from 0 (inequalities_of m part 0))) (each_of (integer_tests part root parts.master sides) (enumerate_from 0 (integers_of m)))
    (told_each (in_master_tests parts.master) (enumerate_from 0 (inequalities_of m part 0)) (in_master_told parts.master))
    (λ h. told_each (integer_tests part root parts.master sides) (enumerate_from 0 (integers_of m)) (integer_told part root parts.master sides l)))
    (λ h. told_each (block_tests m part parts.master) (enumerate_from 1 parts.blocks) (block_told m part parts.master))

-- ---- the costs and the value
pub cost_decided : (m : Model) (part : List ℕ) (master : Master) (e : ℕ × BlockPart) → AllTold (cost_tests m part master e)
cost_decided m part master e = (
  sum_told (row_pairs (terms_in part e.0 (inner_cost m)) e.1.y),
  λ s. (
    narrow_told (eta_of master e.0 *ℤ e.1.times),
    λ n. (at_most_told_z (dot (terms_in part e.0 (inner_cost m)) (coordinate e.1.y)) (eta_of master e.0 *ℤ e.1.times), λ h. tt),
  ),
)

pub value_decided : (m : Model) (part : List ℕ) (master : Master) (value : ℤ) → AllTold (value_tests m part master value)
value_decided m part master value = (
  sum_told (value_pairs (terms_in part 0 (inner_cost m)) master),
  λ s. (equal_told_z value (dot (terms_in part 0 (inner_cost m)) (coordinate master.x) +ℤ total master.eta), λ v. (sum_told (stated_pairs m value master.den), λ t. (narrow_told (m.scale *ℤ master.den), λ n. tt))),
)

-- ---- the direction
row_told : (ray : List ℤ) (row : Row) → Told (RowAllows ray row)
row_told ray row = told_as (λ h. record { at_least = h.0; at_most = h.1 }) (λ h. (h.at_least, h.at_most))
    (both (some_told (λ l. pos 0 ≤ℤ dot row.terms (coordinate ray)) row.lower (λ l. at_most_told_z (pos 0) (dot row.terms (coordinate ray))))
    (λ h. some_told (λ u. dot row.terms (coordinate ray) ≤ℤ pos 0) row.upper (λ u. at_most_told_z (dot row.terms (coordinate ray)) (pos 0))))

bound_told : (ray : List ℤ) (e : ℕ × Column) → AllTold (ray_bound_tests ray e)
bound_told ray e = (
  both (some_told (λ f. pos 0 ≤ℤ coordinate ray e.0) e.1.lower (λ f. at_most_told_z (pos 0) (coordinate ray e.0)))
      (λ l. some_told (λ f. coordinate ray e.0 ≤ℤ pos 0) e.1.upper (λ f. at_most_told_z (coordinate ray e.0) (pos 0))),
  λ a. tt,
)

pub ray_decided : (m : Model) (ray : List ℤ) → AllTold (ray_tests m ray)
ray_decided m ray =
    told_joined (each_of (ray_integer_tests ray) (enumerate_from 0 m.columns) ++ each_of (ray_row_tests ray) (enumerate_from 0 m.rows) ++ each_of (ray_bound_tests ray) (enumerate_from 0 m.columns)) (ray_cost_tests m ray)
    (told_joined (each_of (ray_integer_tests ray) (enumerate_from 0 m.columns) ++ each_of (ray_row_tests ray) (enumerate_from 0 m.rows)) (each_of (ray_bound_tests ray) (enumerate_from 0 m.columns))
    (told_joined (each_of (ray_integer_tests ray) (enumerate_from 0 m.columns)) (each_of (ray_row_tests ray) (enumerate_from 0 m.rows))
    (told_each (ray_integer_tests ray) (enumerate_from 0 m.columns) (λ e. (true_told e.1.integer (coordinate ray e.0 ≡ pos 0) (equal_told_z (coordinate ray e.0) (pos 0)), λ h. tt)))
    (λ h. told_each (ray_row_tests ray) (enumerate_from 0 m.rows) (λ e. (sum_told (row_pairs e.1.terms ray), λ s. (row_told ray e.1, λ a. tt)))))
    (λ h. told_each (ray_bound_tests ray) (enumerate_from 0 m.columns) (bound_told ray)))
    (λ h. (sum_told (row_pairs (inner_cost m) ray), λ s. (less_told_z (dot (inner_cost m) (coordinate ray)) (pos 0), λ a. tt)))

-- ---- a leaf
pub leaf_decided : (m : Model) (part : List ℕ) (sides : List Ineq) (node : ℕ) (leaf : Leaf) → AllTold (leaf_tests m part sides node leaf)
leaf_decided m part sides node leaf =
    told_joined (leaf_form_tests sides node leaf ++ each_below (width_of part 0) (leaf_master_tests m part sides node leaf) ++ each_below (blocks_of part) (leaf_eta_tests sides node leaf) ++ leaf_rhs_tests sides node leaf) (leaf_bound_tests node leaf)
    (told_joined (leaf_form_tests sides node leaf ++ each_below (width_of part 0) (leaf_master_tests m part sides node leaf) ++ each_below (blocks_of part) (leaf_eta_tests sides node leaf)) (leaf_rhs_tests sides node leaf)
    (told_joined (leaf_form_tests sides node leaf ++ each_below (width_of part 0) (leaf_master_tests m part sides node leaf)) (each_below (blocks_of part) (leaf_eta_tests sides node leaf))
    (told_joined (leaf_form_tests sides node leaf) (each_below (width_of part 0) (leaf_master_tests m part sides node leaf))
    (multipliers_told (length sides) leaf.lambda, λ a. (at_most_told_z (pos 0) leaf.delta, λ d. tt))
    (λ h. told_below (width_of part 0) (leaf_master_tests m part sides node leaf) (λ i. equation_told (fault.Leaf node) (fault.Wide leaf_sums node) leaf.lambda (λ n. coef (master_at sides n) i) (leaf.delta *ℤ coef (terms_in part 0 (inner_cost m)) i) (neg_ℤ (leaf.delta *ℤ coef (terms_in part 0 (inner_cost m)) i)))))
    (λ h. told_below (blocks_of part) (leaf_eta_tests sides node leaf) (λ b. sum_is_told (fault.Leaf node) (fault.Wide leaf_sums node) leaf.lambda (λ n. coef (own_at sides n) b) (neg_ℤ leaf.delta))))
    (λ h. sum_is_told (fault.Leaf node) (fault.Wide leaf_sums node) leaf.lambda (rhs_at sides) (neg_ℤ leaf.bound)))
    (λ h. (then_told (equal_told_z leaf.delta (pos 0)) (less_told_z (pos 0) leaf.bound), λ a. tt))
