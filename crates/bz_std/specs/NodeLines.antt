-- The rows of a node's program, by where they come from.
use Rattle.std.specs.Prelude.{ℕ, ℤ, pos, negsuc, List, [], ◌∷◌, ◌++◌, map}
use Rattle.std.specs.List.{enumerate_from, flat_map}
use Rattle.std.proofs.Math.IntN.{neg_ℤ}
use Rattle.bz_model.specs.declared.Ineq.{Ineq}
use Rattle.bz_model.specs.declared.Model.{Model}
use Rattle.bz_model.specs.Parting.{inequalities_of, width_of}
use Rattle.bz_cut.specs.declared.Cut.{Cut}
use Rattle.bz_tree.specs.Boxes.{Box}
use Rattle.bz_tree.specs.Integers.{positions_of}
use Rattle.bz_tree.specs.Leaves.{side_of_cut, side_of_master}
use Rattle.bz_tree.specs.LeafSides.{sides_at}
use Rattle.bz_tableau.specs.declared.programs.LpRow.{LpRow}
use Rattle.bz_std.specs.Posed.{AreAdded, Line}
use Rattle.bz_std.specs.Tasks.{side_line}

-- those of the master's inequalities, over n positions
abbrev pub master_lines : ℕ → List Ineq → List Line
master_lines n is = map (side_line n) (map side_of_master is)

-- the upper and the lower end of the integer column at a position
abbrev pub end_lines : ℕ → ℤ → ℤ → List Line
end_lines position lower upper =
    record { terms = (position, pos 1) ∷ []; rhs = upper }
    ∷ record { terms = (position, negsuc 0) ∷ []; rhs = neg_ℤ lower }
    ∷ []

-- those of the box
abbrev pub box_lines : ℕ → List ℕ → Box → List Line
box_lines n positions box = map (side_line n) (flat_map (sides_at box) (enumerate_from 0 positions))

-- those of the box with these ends
abbrev pub ends_lines : ℕ → List ℕ → List ℤ → List ℤ → List Line
ends_lines n positions lower upper = box_lines n positions (record { lower = lower; upper = upper })

-- those of the cuts
abbrev pub cut_lines : ℕ → List Cut → List Line
cut_lines n cuts = map (side_line n) (map side_of_cut cuts)

-- the new rows are the old ones, followed by those of the box with these ends
abbrev pub AreEndsAdded : List LpRow → List LpRow → ℕ → List ℕ → List ℤ → List ℤ → Type 0
AreEndsAdded old new n positions lower upper = AreAdded old new (ends_lines n positions lower upper)

-- those of the master's inequalities, and then those of the box
abbrev pub side_lines : Model → List ℕ → Box → List Line
side_lines m part box =
    master_lines (width_of part 0) (inequalities_of m part 0) ++ box_lines (width_of part 0) (positions_of m part) box
