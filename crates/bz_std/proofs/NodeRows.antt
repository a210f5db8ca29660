-- The rows of a node's program in the making.
use Rattle.std.proofs.Common.{◌≡◌, refl, sym, ◌∙◌, ap, subst, ℕ, zero, suc, ◌+◌, ◌*◌, ◌<◌, ◌≤◌, ◌^◌, List, [], ◌∷◌, ◌++◌, length, drop, get_or, map, arith, ℤ, pos, negsuc, neg_ℤ, add-one, append_assoc, append-nil}
use Rattle.std.specs.List.{AllByRecursion, enumerate_from, flat_map}
use Rattle.std.proofs.lemmas.List.{length-map, map-append}
use Rattle.bz_algebra.specs.Numbers.{IsNarrow}
use Rattle.bz_algebra.specs.Sums.{AllBelow}
use Rattle.bz_num.specs.Row.{entry_at}
use Rattle.bz_model.specs.declared.Ineq.{Ineq}
use Rattle.bz_model.specs.declared.Model.{Model}
use Rattle.bz_model.specs.Decomposed.{IsDecomposed}
use Rattle.bz_model.specs.Limits.{list_limit}
use Rattle.bz_model.specs.Parting.{blocks_of, inequalities_of, integers_of, position_of, width_of}
use Rattle.bz_model.specs.Points.{coordinate}
use Rattle.bz_model.specs.Splits.{Decomposition, FitsPart, IsSplit}
use Rattle.bz_model.specs.Strict.{size_of}
use Rattle.bz_model.proofs.BoundedIntegers.{IsBoundedInMaster, integers_bounded}
use Rattle.bz_model.proofs.InnerCosts.{decomposed}
use Rattle.bz_model.proofs.Sparse.{left_at}
use Rattle.bz_cut.specs.declared.Cut.{Cut}
use Rattle.bz_cut.specs.declared.Mode.{Mode}
use Rattle.bz_tableau.specs.declared.programs.LpRow.{LpRow}
use Rattle.bz_tree.specs.Boxes.{Box}
use Rattle.bz_tree.specs.Integers.{positions_of}
use Rattle.bz_tree.specs.Leaves.{side_of_cut, side_of_master, sides_of}
use Rattle.bz_tree.specs.LeafSides.{sides_among, sides_at}
use Rattle.bz_tree.proofs.LeafSides.{length-sides, sides_same}
use Rattle.bz_std.specs.NodeLines.{box_lines, cut_lines, end_lines, master_lines}
use Rattle.bz_std.specs.Posed.{Line, line_of, line_over_columns, over_columns}
use Rattle.bz_std.specs.Tasks.{IsCutOfSplit, node, ones, side_line}
use Rattle.bz_std.proofs.Widths.{width_few}

-- ---- the cost
ones_snoc : (n k : ℕ) → ones n (suc k) ≡ ones n k ++ (n + k, pos 1) ∷ []
ones_snoc n zero = let same : n + 0 ≡ n = omega arith in rw same refl
ones_snoc n (suc k) = let same : n + suc k ≡ suc n + k = omega arith in rw same (ap (λ (es : List (ℕ × ℤ)). (n, pos 1) ∷ es) (ones_snoc (suc n) k))

pub ones_next : (n k : ℕ) → ones n (k + 1) ≡ ones n k ++ (n + k, pos 1) ∷ []
ones_next n k = rw add-one (ones_snoc n k)

-- ---- the box
-- one more column's ends, with what is still to come
pub ends_next : (n : ℕ) (box : Box) (ps : List ℕ) (k : ℕ) (rows new : List LpRow) (whole : List Line) → k < length ps → map line_of new ≡ map line_of rows ++ map line_over_columns (end_lines (get_or ps k 0) (coordinate box.lower k) (coordinate box.upper k)) → map line_of rows ++ map line_over_columns (map (side_line n) (flat_map (sides_at box) (enumerate_from k (drop k ps)))) ≡ whole → map line_of new ++ map line_over_columns (map (side_line n) (flat_map (sides_at box) (enumerate_from (k + 1) (drop (k + 1) ps)))) ≡ whole
ends_next n box ps k rows new whole l made h =
    let coming : drop k ps ≡ get_or ps k 0 ∷ drop (k + 1) ps = left_at ps k 0 l in
    let rest : enumerate_from k (drop k ps) ≡ (k, get_or ps k 0) ∷ enumerate_from (k + 1) (drop (k + 1) ps) = ap (enumerate_from k) coming in
    rw made (append_assoc (map line_of rows) _ _)
    ∙ ap (λ (es : List (ℕ × ℕ)). map line_of rows ++ map line_over_columns (map (side_line n) (flat_map (sides_at box) es))) (sym rest)
    ∙ h

-- ---- what the parts of the list fit
pub positions_few : (d : Decomposition) → IsSplit d → AllByRecursion (λ p. p < list_limit) (positions_of d.model d.part)
positions_few d s = each (integers_of d.model) (integers_bounded d.model d.part (decomposed d s))
  where
    each : (es : List (ℕ × _)) → AllByRecursion (IsBoundedInMaster d.part) es → AllByRecursion (λ p. p < list_limit) (map (λ e. position_of d.part e.0) es)
    each [] h = tt
    each (e ∷ es) h =
        let few : width_of d.part 0 < list_limit = width_few d 0 s in
        (omega (arith, h.0.position), each es h.1)

pub sides_narrow : (part : List ℕ) (b : ℕ) (is : List Ineq) → AllByRecursion (FitsPart part b) is → AllByRecursion (λ i. IsNarrow i.rhs) is
sides_narrow part b [] h = tt
sides_narrow part b (i ∷ is) h = (h.0.rhs, sides_narrow part b is h.1)

pub blocks_within : (part : List ℕ) (cuts : List Cut) → blocks_of part ≤ 256 → AllByRecursion (IsCutOfSplit part) cuts → AllByRecursion (λ cut. (0 < cut.block) × (cut.block ≤ 256)) cuts
blocks_within part [] l h = tt
blocks_within part (cut ∷ cuts) l h = ((h.0.first, omega (arith, h.0.last)), blocks_within part cuts l h.1)

pub alpha_within : (part : List ℕ) (cuts : List Cut) → AllByRecursion (IsCutOfSplit part) cuts → AllByRecursion (λ cut. AllBelow (width_of part 0) cut.alpha) cuts
alpha_within part [] h = tt
alpha_within part (cut ∷ cuts) h = (h.0.alpha, alpha_within part cuts h.1)

-- ---- the whole
-- the three lists of rows, one after the other, are the node's
pub node_rows : (m : Model) (part : List ℕ) (box : Box) (cuts : List Cut) (way : Mode) (first second third : List LpRow) → map line_of first ≡ map line_over_columns (master_lines (width_of part 0) (inequalities_of m part 0)) → map line_of second ≡ map line_of first ++ map line_over_columns (box_lines (width_of part 0) (positions_of m part) box) → map line_of third ≡ map line_of second ++ map line_over_columns (cut_lines (width_of part 0) cuts) → map line_of third ≡ map line_over_columns (node m part box cuts way).rows
node_rows m part box cuts way first second third a b c =
    let n : ℕ = width_of part 0 in
    let master : List Ineq = map side_of_master (inequalities_of m part 0) in
    let ends : List Ineq = flat_map (sides_at box) (enumerate_from 0 (positions_of m part)) in
    let over : List Ineq → List Line = λ is. map line_over_columns (map (side_line n) is) in
    let two : map line_of second ≡ over (master ++ ends) = b ∙ ap (λ (ls : List Line). ls ++ over ends) a ∙ sym (ap (map line_over_columns) (map-append (side_line n) master ends) ∙ map-append line_over_columns (map (side_line n) master) (map (side_line n) ends)) in
    c
    ∙ ap (λ (ls : List Line). ls ++ over (map side_of_cut cuts)) two
    ∙ sym (ap (map line_over_columns) (map-append (side_line n) (master ++ ends) (map side_of_cut cuts)) ∙ map-append line_over_columns (map (side_line n) (master ++ ends)) (map (side_line n) (map side_of_cut cuts)))
    ∙ ap over (sides_same m part box cuts)

pub node_rows_few : (d : Decomposition) (box : Box) (cuts : List Cut) (way : Mode) → IsSplit d → length cuts + 1024 < list_limit → length (node d.model d.part box cuts way).rows < 2 ^ 28
node_rows_few d box cuts way s few =
    let small : size_of d.model d.part 0 ≤ 1024 = s.strict.small 0 (omega arith) in
    let mapped : length (map (side_line (width_of d.part 0)) (sides_of d.model d.part box cuts)) ≡ length (sides_of d.model d.part box cuts) = length-map (sides_of d.model d.part box cuts) (side_line (width_of d.part 0)) in
    let sides : length (sides_of d.model d.part box cuts) ≡ length (inequalities_of d.model d.part 0) + 2 * length (positions_of d.model d.part) + length cuts = ap length (sym (sides_same d.model d.part box cuts)) ∙ length-sides (inequalities_of d.model d.part 0) (positions_of d.model d.part) box cuts in
    let count : length (positions_of d.model d.part) ≡ length (integers_of d.model) = length-map (integers_of d.model) (λ e. position_of d.part e.0) in
    omega arith
