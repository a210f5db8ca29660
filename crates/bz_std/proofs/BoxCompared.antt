-- The rows of a box's ends, tested column by column.
use Rattle.std.proofs.Common.{◌≡◌, ◌<◌, ◌≤◌, refl, sym, ◌∙◌, ap, subst, ℕ, zero, suc, ◌+◌, ◌*◌, ℤ, pos, negsuc, neg_ℤ, List, [], ◌∷◌, ◌++◌, length, drop, get_or, map, arith, true, false, append_assoc}
use Rattle.std.specs.List.{enumerate_from, flat_map}
use Rattle.std.proofs.lemmas.List.{length-append}
use Rattle.bz_model.specs.declared.Column.{Column}
use Rattle.bz_model.specs.Parting.{column_at, columns_of}
use Rattle.bz_model.specs.Points.{coordinate}
use Rattle.bz_model.specs.Splits.{Decomposition, IsSplit}
use Rattle.bz_model.proofs.Sparse.{left_at, none_left}
use Rattle.bz_tree.specs.Boxes.{Box}
use Rattle.bz_tree.specs.Integers.{positions_of}
use Rattle.bz_tree.specs.LeafSides.{sides_at}
use Rattle.bz_tree.proofs.IntegerPositions.{so_far-end, so_far-less, so_far-more, so_far-start, with_rest}
use Rattle.bz_tableau.specs.declared.programs.LpRow.{LpRow}
use Rattle.bz_std.specs.Compared.{AreEndsOf, AreRowsOfEach}
use Rattle.bz_std.specs.NodeLines.{box_lines}
use Rattle.bz_std.specs.Posed.{IsRowOf, Line}
use Rattle.bz_std.specs.Tasks.{side_line}

-- the ends of the integer columns from the k-th on
abbrev later_lines : ℕ → List ℕ → Box → ℕ → List Line
later_lines n ps box k = map (side_line n) (flat_map (sides_at box) (enumerate_from k (drop k ps)))

-- After k integer columns among the master's first i columns, what is left of the rows is that of the later columns
-- exactly where all are those of all columns.
pub record StillBox (d : Decomposition) (n : ℕ) (box : Box) (rows : List LpRow) (k i : ℕ) : Type 0 where
  pub positions : List ℕ
  pub count : length positions ≡ k
  pub so_far : with_rest d i positions ≡ positions_of d.model d.part
  pub up : AreRowsOfEach (later_lines n (positions_of d.model d.part) box k) (drop (2 * k) rows) → AreRowsOfEach (box_lines n (positions_of d.model d.part) box) rows
  pub down : AreRowsOfEach (box_lines n (positions_of d.model d.part) box) rows → AreRowsOfEach (later_lines n (positions_of d.model d.part) box k) (drop (2 * k) rows)

pub box_start : (d : Decomposition) (n : ℕ) (box : Box) (rows : List LpRow) → IsSplit d → StillBox d n box rows 0 0
box_start d n box rows s = record { positions = []; count = refl; so_far = so_far-start d s; up = λ h. h; down = λ h. h }

at_end : (xs : List ℕ) (x : ℕ) (ys : List ℕ) (k : ℕ) → length xs ≡ k → get_or (xs ++ x ∷ ys) k 0 ≡ x
at_end [] x ys zero e = refl
at_end [] x ys (suc k) e = absurd (omega (arith, e))
at_end (z ∷ xs) x ys zero e = absurd (omega (arith, e))
at_end (z ∷ xs) x ys (suc k) e = at_end xs x ys k (omega (arith, e))

-- the column is the i-th of the master's
pub record IsMastersColumn (d : Decomposition) (i : ℕ) (column : Column) : Type 0 where
  pub within : i < length (columns_of d.part 0)
  pub known : column ≡ get_or d.model.columns (column_at d.part 0 i) column

pub masters_column : (d : Decomposition) (i : ℕ) (column : Column) (numbers : List ℕ) (columns : List Column) → numbers ≡ columns_of d.part 0 → columns ≡ d.model.columns → i < length numbers → column ≡ get_or columns (get_or numbers i 0) column → IsMastersColumn d i column
masters_column d i column numbers columns a b l at = record { within = rw a at l; known = rw (a, b) at at }

module _ (d : Decomposition) (n : ℕ) (box : Box) (rows : List LpRow) (k i : ℕ) (s : IsSplit d) (column : Column) (here : IsMastersColumn d i column) where
  abbrev all : List ℕ
  all = positions_of d.model d.part

  -- a column that is no integer
  pub box_less : column.integer ≡ false → StillBox d n box rows k i → StillBox d n box rows k (i + 1)
  box_less f h = record {
    positions = h.positions;
    count = h.count;
    so_far = so_far-less d i column h.positions s here.within here.known f h.so_far;
    up = h.up;
    down = h.down;
  }

  module _ (t : column.integer ≡ true) (h : StillBox d n box rows k i) where
    next : with_rest d (i + 1) (h.positions ++ i ∷ []) ≡ all
    next = so_far-more d i column h.positions s here.within here.known t h.so_far

    abbrev after : List ℕ
    after = with_rest d (i + 1) []

    whole : h.positions ++ i ∷ after ≡ all
    whole = sym (append_assoc h.positions (i ∷ []) after) ∙ next

    pub box_inside : k < length all
    box_inside = omega (arith, h.count, sym (length-append h.positions (i ∷ after)) ∙ ap length whole)

    position_here : get_or all k 0 ≡ i
    position_here = ap (λ (ps : List ℕ). get_or ps k 0) (sym whole) ∙ at_end h.positions i after k h.count

    -- the two ends of this column come first
    lines : later_lines n all box k ≡ record { terms = (i, pos 1) ∷ []; rhs = coordinate box.upper k } ∷ record { terms = (i, negsuc 0) ∷ []; rhs = neg_ℤ (coordinate box.lower k) } ∷ later_lines n all box (k + 1)
    lines = ap (λ (ps : List ℕ). map (side_line n) (flat_map (sides_at box) (enumerate_from k ps))) (left_at all k 0 box_inside)
        ∙ ap (λ (p : ℕ). map (side_line n) (flat_map (sides_at box) (enumerate_from k (p ∷ drop (k + 1) all)))) position_here

    module _ (upper lower : LpRow) (r : 2 * k + 1 < length rows) (u : upper ≡ get_or rows (2 * k) upper) (v : lower ≡ get_or rows (2 * k + 1) lower) where
      two : drop (2 * k) rows ≡ upper ∷ lower ∷ drop (2 * (k + 1)) rows
      two =
          let further : 2 * k + 1 + 1 ≡ 2 * (k + 1) = omega arith in
          left_at rows (2 * k) upper (omega arith)
          ∙ ap (λ (x : LpRow). x ∷ drop (2 * k + 1) rows) (sym u)
          ∙ ap (λ (xs : List LpRow). upper ∷ xs) (left_at rows (2 * k + 1) lower r ∙ ap (λ (x : LpRow). x ∷ drop (2 * k + 1 + 1) rows) (sym v))
          ∙ ap (λ (t : ℕ). upper ∷ lower ∷ drop t rows) further

      pub box_next : AreEndsOf i (coordinate box.lower k) (coordinate box.upper k) upper lower → StillBox d n box rows (k + 1) (i + 1)
      box_next e = record {
        positions = h.positions ++ i ∷ [];
        count = omega (arith, h.count, length-append h.positions (i ∷ []));
        so_far = next;
        up = λ rest. h.up (rw (lines, two) (e.upper_end, (e.lower_end, rest)));
        down = λ b. (rw (lines, two) at (h.down b)).1.1;
      }

      pub box_fail : (AreEndsOf i (coordinate box.lower k) (coordinate box.upper k) upper lower → ⊥) → AreRowsOfEach (box_lines n all box) rows → ⊥
      box_fail f b = let both = rw (lines, two) at (h.down b) in f (record { upper_end = both.0; lower_end = both.1.0 })

pub box_end : (d : Decomposition) (n : ℕ) (box : Box) (rows : List LpRow) (k i : ℕ) → length (columns_of d.part 0) ≤ i → length rows ≡ 2 * length (positions_of d.model d.part) → StillBox d n box rows k i → AreRowsOfEach (box_lines n (positions_of d.model d.part) box) rows
box_end d n box rows k i l c h =
    let all : h.positions ≡ positions_of d.model d.part = so_far-end d i h.positions l h.so_far in
    let most : length (positions_of d.model d.part) ≤ k = omega (arith, h.count, ap length all) in
    let none : later_lines n (positions_of d.model d.part) box k ≡ [] = ap (λ (ps : List ℕ). map (side_line n) (flat_map (sides_at box) (enumerate_from k ps))) (none_left (positions_of d.model d.part) k most) in
    h.up (rw (none, none_left rows (2 * k) (omega arith)) tt)
