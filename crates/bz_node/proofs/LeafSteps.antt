-- Leaves that hold, and whether they fit.
use Rattle.std.specs.Prelude.{ℕ, ◌≡◌, ℤ, ◌*ℤ◌, List, length, Result, Ok, Err, MatchBool, is_ok}
use Rattle.std.proofs.Common.{sym, subst}
use Rattle.std.proofs.lemmas.List.{length-map}
use Rattle.bz_algebra.specs.Numbers.{IsNarrow}
use Rattle.bz_algebra.specs.Sums.{coef}
use Rattle.bz_first.specs.Tests.{Judges}
use Rattle.bz_first.proofs.TestLemmas.{none_where_all}
use Rattle.bz_model.specs.declared.Model.{Model}
use Rattle.bz_model.specs.Parting.{inner_cost, terms_in, width_of}
use Rattle.bz_cut.specs.declared.Cut.{Cut}
use Rattle.bz_cut.specs.declared.Mode.{Mode}
use Rattle.bz_cut.specs.Fits.{FitsEquation}
use Rattle.bz_cut.specs.Rows.{master_at}
use Rattle.bz_tree.specs.declared.Leaf.{Leaf}
use Rattle.bz_tree.specs.Boxes.{Box}
use Rattle.bz_tree.specs.Leaves.{LeafHolds, sides_of}
use Rattle.bz_tree.specs.TreeFits.{FitsLeaf}
use Rattle.bz_judge.specs.declared.faults.CheckFault.{CheckFault}
use Rattle.bz_judge.specs.LeafTests.{leaf_tests}
use Rattle.bz_judge.proofs.LeavesTold.{leaf_fits, leaf_tested}
use Rattle.bz_std.specs.CutsFrom.{AreEntries}
use Rattle.bz_std.specs.Fitting.{IsWideLeaf, unbounded_leaf}
use Rattle.bz_std.specs.LeavesFrom.{IsLeafFrom}
use Rattle.bz_std.specs.Making.{HasWideSide, StopsLeaf}
use Rattle.bz_std.specs.declared.making.MakeStop.{MakeStop}
use Rattle.bz_std.specs.declared.making.MakeStop.TheVariants as stop
use Rattle.bz_std.specs.Tasks.{node, side_line}
use Rattle.bz_std.proofs.LeafNumbers.{leaf_narrow}
use Rattle.bz_node.specs.declared.programs.NodeProgram.{NodeProgram}
use Rattle.bz_node.specs.NodePrograms.{IsNodeProgram, StopsFitting, cuts_of, mode_of, model_of, part_of, posed_of, region_of}

module _ (m : Model) (part : List ℕ) (box : Box) (cuts : List Cut) where
  -- where a leaf holds its tests tell whether it fits
  pub fits_told : {T : Type 0} (leaf : Leaf) (r : Result T CheckFault) → LeafHolds m part box cuts leaf → Judges (leaf_tests m part (sides_of m part box cuts) 0 leaf) r → MatchBool (is_ok r) (FitsLeaf m part box cuts leaf) (FitsLeaf m part box cuts leaf → ⊥)
  fits_told leaf (Ok t) h j = leaf_fits m part cuts box 0 leaf j
  fits_told leaf (Err f) h j = λ fits. none_where_all (leaf_tests m part (sides_of m part box cuts) 0 leaf) f (leaf_tested m part cuts box 0 leaf h fits) j

  module _ (way : Mode) (y : ℕ → ℤ) (by : ℤ) (narrow : IsNarrow by) where
    of_sides : (lambda : List (ℕ × ℤ)) → AreEntries (length (node m part box cuts way).rows) y lambda → AreEntries (length (sides_of m part box cuts)) y lambda
    of_sides lambda e = subst (λ (n : ℕ). AreEntries n y lambda) (length-map (sides_of m part box cuts) (side_line (width_of part 0))) e

    -- the sum of the right sides is wide
    pub side_is_wide : HasWideSide (node m part box cuts way) y → IsWideLeaf m part box cuts y by
    side_is_wide w = record {
      lambda = w.lambda;
      entries = of_sides w.lambda w.entries;
      narrow = narrow;
      wide = λ f. w.wide (leaf_narrow m part box cuts way (unbounded_leaf w.lambda by narrow) f);
    }

    -- a leaf fits or doesn't whatever its bound is
    whatever_bound : (leaf : Leaf) → leaf.delta ≡ by → FitsLeaf m part box cuts (unbounded_leaf leaf.lambda by narrow) → FitsLeaf m part box cuts leaf
    whatever_bound leaf e f = record {
      master = λ i l. subst (λ (d : ℤ). FitsEquation leaf.lambda (λ n. coef (master_at (sides_of m part box cuts) n) i) (d *ℤ coef (terms_in part 0 (inner_cost m)) i)) (sym e) (f.master i l);
      etas = f.etas;
      rhs = f.rhs;
    }

    -- the leaf doesn't fit
    pub unfit_is_wide : (leaf : Leaf) → IsLeafFrom (node m part box cuts way) y by leaf → (FitsLeaf m part box cuts leaf → ⊥) → IsWideLeaf m part box cuts y by
    unfit_is_wide leaf made n = record {
      lambda = leaf.lambda;
      entries = of_sides leaf.lambda made.lambda;
      narrow = narrow;
      wide = λ f. n (whatever_bound leaf made.delta f);
    }

-- no leaf was made
pub made_stops : (n : NodeProgram) → IsNodeProgram n → (y : ℕ → ℤ) (by : ℤ) → IsNarrow by → (s : MakeStop) → StopsLeaf n.lp.now y s → StopsFitting n y by s
made_stops n p y by narrow stop.Wide h = side_is_wide (model_of n) (part_of n) (region_of n) (cuts_of n) (mode_of n) y by narrow (h (posed_of n) p.program)
made_stops n p y by narrow stop.OutOfMemory h = tt
