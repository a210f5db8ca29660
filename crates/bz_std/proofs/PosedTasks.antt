-- The rows of the three programs speak of their variables.
use Rattle.std.specs.Prelude.{ℕ, zero, suc, ◌+◌, ◌<◌, ◌≤◌, ℤ, pos, negsuc, List, [], ◌∷◌, ◌++◌, map}
use Rattle.std.specs.List.{AllByRecursion, enumerate_from, flat_map}
use Rattle.std.proofs.Common.{arith}
use Rattle.bz_algebra.specs.Sums.{AllBelow}
use Rattle.bz_num.specs.Row.{entry_at}
use Rattle.bz_model.specs.declared.Ineq.{Ineq}
use Rattle.bz_model.specs.declared.Master.{Master}
use Rattle.bz_model.specs.declared.Model.{Model}
use Rattle.bz_model.specs.Decomposed.{IsDecomposed}
use Rattle.bz_model.specs.Parting.{blocks_of, inequalities_of, inner_cost, integers_of, terms_in, width_of}
use Rattle.bz_model.specs.Splits.{FitsPart}
use Rattle.bz_model.proofs.BoundedIntegers.{IsBoundedInMaster, integers_bounded}
use Rattle.bz_model.proofs.Inequalities.{inequalities_fit}
use Rattle.bz_model.proofs.InnerCosts.{cost_terms_within}
use Rattle.bz_model.proofs.MeetingParts.{all_append, all_flat, all_then}
use Rattle.bz_model.proofs.Numbered.{all_mapped, all_numbered}
use Rattle.bz_cut.specs.declared.Cut.{Cut}
use Rattle.bz_cut.specs.declared.Mode.{Mode}
use Rattle.bz_cut.specs.declared.Mode.TheVariants as mode
use Rattle.bz_tree.specs.Boxes.{Box}
use Rattle.bz_tree.specs.Leaves.{side_of_cut, side_of_master, sides_of, sides_of_box}
use Rattle.bz_std.specs.Posed.{IsPosed, Line}
use Rattle.bz_std.specs.Tasks.{IsCutOfSplit, cost_lines, falling_line, floor, moved, node, node_cost, ones, own_line, separation, side_line}

-- ---- lists of terms
pub below_append : (n : ℕ) (es gs : List (ℕ × ℤ)) → AllBelow n es → AllBelow n gs → AllBelow n (es ++ gs)
below_append n [] gs h k = k
below_append n (e ∷ es) gs h k = (h.0, below_append n es gs h.1 k)

pub below_more : (n m : ℕ) (es : List (ℕ × ℤ)) → AllBelow n es → n ≤ m → AllBelow m es
below_more n m [] h l = tt
below_more n m (e ∷ es) h l = (omega (arith, h.0), below_more n m es h.1 l)

pub entry_below : (n j : ℕ) (z : ℤ) → j < n → AllBelow n (entry_at j z)
entry_below n j (pos zero) l = tt
entry_below n j (pos (suc k)) l = (l, tt)
entry_below n j (negsuc k) l = (l, tt)

pub moved_below : (n k : ℕ) (es : List (ℕ × ℤ)) → AllBelow k es → AllBelow (n + k) (moved n es)
moved_below n k [] h = tt
moved_below n k (e ∷ es) h = below_append (n + k) (entry_at (n + e.0) e.1) (moved n es) (entry_below (n + k) (n + e.0) e.1 (omega (arith, h.0))) (moved_below n k es h.1)

pub ones_below : (m n k : ℕ) → n + k ≤ m → AllBelow m (ones n k)
ones_below m n zero l = tt
ones_below m n (suc k) l = (omega arith, ones_below m (suc n) k (omega arith))

module _ (m : Model) (part : List ℕ) (d : IsDecomposed m part) where
  -- what the inequalities of a part speak of
  pub part_fits : (b : ℕ) → AllByRecursion (FitsPart part b) (inequalities_of m part b)
  part_fits b = inequalities_fit m part b d.columns d.partition.numbers

  -- ---- a block's programs
  module _ (b : ℕ) where
    abbrev OfBlock : Line → Type 0
    OfBlock row = AllBelow (width_of part b) row.terms

    cost_lines_posed : (point : Master) (way : Mode) → AllByRecursion OfBlock (cost_lines m part point b way)
    cost_lines_posed point mode.Cost = (cost_terms_within m part b d, tt)
    cost_lines_posed point mode.Point = tt

    pub separation_posed : (point : Master) (way : Mode) → IsPosed (separation m part point b way)
    separation_posed point way = record {
      rows = all_append OfBlock (map (own_line point) (inequalities_of m part b)) (cost_lines m part point b way)
          (all_mapped OfBlock (own_line point) (inequalities_of m part b) (all_then (FitsPart part b) _ (inequalities_of m part b) (part_fits b) (λ i f. f.own)))
          (cost_lines_posed point way);
      cost = tt;
    }

    pub floor_posed : IsPosed (floor m part b)
    floor_posed = record {
      rows = all_mapped OfBlock falling_line (inequalities_of m part b) (all_then (FitsPart part b) _ (inequalities_of m part b) (part_fits b) (λ i f. f.own));
      cost = cost_terms_within m part b d;
    }

  -- ---- a node's program
  -- a side speaks of the master's positions and of the etas
  pub record IsSide (i : Ineq) : Type 0 where
    pub own : AllBelow (blocks_of part) i.own
    pub master : AllBelow (width_of part 0) i.master

  pub node_cost_below : (way : Mode) → AllBelow (width_of part 0 + blocks_of part) (node_cost m part way)
  node_cost_below mode.Cost = below_append (width_of part 0 + blocks_of part) (terms_in part 0 (inner_cost m)) (ones (width_of part 0) (blocks_of part))
      (below_more (width_of part 0) _ (terms_in part 0 (inner_cost m)) (cost_terms_within m part 0 d) (omega arith))
      (ones_below _ (width_of part 0) (blocks_of part) (omega arith))
  node_cost_below mode.Point = tt

  module _ (box : Box) (cuts : List Cut) (of_split : AllByRecursion (IsCutOfSplit part) cuts) where
    cut_side : (cut : Cut) → IsCutOfSplit part cut → IsSide (side_of_cut cut)
    cut_side cut c = let l : 0 < cut.block = c.first in let u : cut.block ≤ blocks_of part = c.last in record { own = (omega arith, tt); master = c.alpha }

    pub sides_fit : AllByRecursion IsSide (sides_of m part box cuts)
    sides_fit = all_append IsSide (map side_of_master (inequalities_of m part 0) ++ flat_map (sides_of_box part box) (enumerate_from 0 (integers_of m))) (map side_of_cut cuts)
        (all_append IsSide (map side_of_master (inequalities_of m part 0)) (flat_map (sides_of_box part box) (enumerate_from 0 (integers_of m)))
        (all_mapped IsSide side_of_master (inequalities_of m part 0) (all_then (FitsPart part 0) _ (inequalities_of m part 0) (part_fits 0) (λ i f. record { own = tt; master = f.own })))
        (all_flat IsSide (sides_of_box part box) (enumerate_from 0 (integers_of m)) (all_then (λ e. IsBoundedInMaster part e.1) _ (enumerate_from 0 (integers_of m)) (all_numbered (IsBoundedInMaster part) 0 (integers_of m) (integers_bounded m part d)) (λ e b. (record { own = tt; master = (b.position, tt) }, (record { own = tt; master = (b.position, tt) }, tt))))))
        (all_mapped IsSide side_of_cut cuts (all_then (IsCutOfSplit part) _ cuts of_split cut_side))

    abbrev OfNode : Line → Type 0
    OfNode row = AllBelow (width_of part 0 + blocks_of part) row.terms

    pub node_posed : (way : Mode) → IsPosed (node m part box cuts way)
    node_posed way = record {
      rows = all_mapped OfNode (side_line (width_of part 0)) (sides_of m part box cuts) (all_then IsSide _ (sides_of m part box cuts) sides_fit (λ i f.
          below_append _ i.master (moved (width_of part 0) i.own)
          (below_more (width_of part 0) _ i.master f.master (omega arith))
          (moved_below (width_of part 0) (blocks_of part) i.own f.own)));
      cost = node_cost_below way;
    }
