-- The lines of parts one after another.
use Rattle.std.proofs.Common.{◌≡◌, ◌∙◌, ℕ, ◌+◌, ◌<◌, ◌≤◌, List, [], ◌∷◌, ◌++◌, length, get_or, drop, ap}
use Rattle.std.specs.Prelude.{codes}
use Rattle.bz_model.proofs.Sparse.{left_at, none_left}
use Rattle.bz_model.specs.Parting.{width_of}
use Rattle.bz_model.specs.Splits.{Decomposition}
use Rattle.bz_model.specs.Strict.{size_of}
use Rattle.bz_text.specs.Texts.{line, number}
use Rattle.bz_top.specs.Texts.{part_line, parts_from}
use Rattle.bz_top.proofs.LineTexts.{part_pieces}

-- the pieces of a part's line are its line
pub part_text : (d : Decomposition) (p columns rows size : ℕ) → columns ≡ width_of d.part p → size ≡ size_of d.model d.part p
    → codes "part " ++ (number p ++ (codes " columns " ++ (number columns ++ (codes " rows " ++ (number rows ++ (codes " inequalities " ++ (number size ++ 10 ∷ []))))))) ≡ part_line d p rows
part_text d p columns rows size ec es =
    part_pieces (codes "part ") (number p) (codes " columns ") (number columns) (codes " rows ") (number rows) (codes " inequalities ") (number size)
    ∙ ap (λ (w : ℕ). line (codes "part " ++ number p ++ codes " columns " ++ number w ++ codes " rows " ++ number rows ++ codes " inequalities " ++ number size)) ec
    ∙ ap (λ (s : ℕ). line (codes "part " ++ number p ++ codes " columns " ++ number (width_of d.part p) ++ codes " rows " ++ number rows ++ codes " inequalities " ++ number s)) es

-- the text of what is left of some parts
pub parts_next : (d : Decomposition) (rows : List ℕ) (i k : ℕ) → i < length rows → parts_from d i (drop i rows) ≡ part_line d i (get_or rows i k) ++ parts_from d (i + 1) (drop (i + 1) rows)
parts_next d rows i k l = ap (parts_from d i) (left_at rows i k l)

pub parts_none : (d : Decomposition) (rows : List ℕ) (i : ℕ) → length rows ≤ i → parts_from d i (drop i rows) ≡ []
parts_none d rows i l = ap (parts_from d i) (none_left rows i l)
