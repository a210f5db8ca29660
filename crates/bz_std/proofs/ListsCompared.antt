-- Two lists compared place by place, and the rows of programs.
use Rattle.std.proofs.Common.{◌≡◌, ◌<◌, ◌≤◌, refl, sym, ◌∙◌, ap, subst, ℕ, zero, suc, ◌+◌, ◌*◌, List, [], ◌∷◌, ◌++◌, length, drop, take, get_or, map, arith}
use Rattle.std.specs.List.{AllByRecursion, enumerate_from, flat_map}
use Rattle.std.proofs.lemmas.List.{length-append, length-map, map-append}
use Rattle.bz_num.specs.Fold.{IsNarrowSum}
use Rattle.bz_model.specs.declared.Ineq.{Ineq}
use Rattle.bz_model.specs.declared.Master.{Master}
use Rattle.bz_model.specs.declared.Model.{Model}
use Rattle.bz_model.specs.Parting.{inequalities_of, width_of}
use Rattle.bz_model.proofs.Sparse.{left_at, none_left}
use Rattle.bz_cut.specs.declared.Cut.{Cut}
use Rattle.bz_cut.specs.declared.Mode.{Mode}
use Rattle.bz_tree.specs.Boxes.{Box}
use Rattle.bz_tree.specs.Integers.{positions_of}
use Rattle.bz_tree.specs.LeafSides.{sides_at}
use Rattle.bz_tree.specs.Leaves.{side_of_cut, side_of_master, sides_of}
use Rattle.bz_tree.proofs.LeafSides.{sides_same}
use Rattle.bz_tableau.specs.declared.programs.LpRow.{LpRow}
use Rattle.bz_std.specs.Compared.{AreNodeRows, AreRowsOfEach, AreSeparationRows, IsOwnRow, Pairwise}
use Rattle.bz_std.specs.NodeLines.{box_lines, cut_lines, master_lines, side_lines}
use Rattle.bz_std.specs.Posed.{AreRowsOf, IsRowOf, Line, line_of, line_over_columns}
use Rattle.bz_std.specs.Tasks.{cost_lines, own_line, right_pairs, separation, side_line}
use Rattle.bz_std.proofs.OnePosed.{first_or, rest_of}

module _ {X Y : Type 0} (R : X → Y → Type 0) where
  pub pairwise_length : (xs : List X) (ys : List Y) → Pairwise R xs ys → length xs ≡ length ys
  pairwise_length [] [] h = refl
  pairwise_length [] (y ∷ ys) h = absurd h
  pairwise_length (x ∷ xs) [] h = absurd h
  pairwise_length (x ∷ xs) (y ∷ ys) h = ap suc (pairwise_length xs ys h.1)

  -- ---- one list after another
  pub pairwise_joined : (xs more : List X) (ys : List Y) → Pairwise R xs (take (length xs) ys) → Pairwise R more (drop (length xs) ys) → Pairwise R (xs ++ more) ys
  pairwise_joined [] more ys h k = k
  pairwise_joined (x ∷ xs) more [] h k = absurd h
  pairwise_joined (x ∷ xs) more (y ∷ ys) h k = (h.0, pairwise_joined xs more ys h.1 k)

  pub pairwise_front : (xs more : List X) (ys : List Y) → Pairwise R (xs ++ more) ys → Pairwise R xs (take (length xs) ys)
  pairwise_front [] more ys h = tt
  pairwise_front (x ∷ xs) more [] h = absurd h
  pairwise_front (x ∷ xs) more (y ∷ ys) h = (h.0, pairwise_front xs more ys h.1)

  pub pairwise_back : (xs more : List X) (ys : List Y) → Pairwise R (xs ++ more) ys → Pairwise R more (drop (length xs) ys)
  pairwise_back [] more ys h = h
  pairwise_back (x ∷ xs) more [] h = absurd h
  pairwise_back (x ∷ xs) more (y ∷ ys) h = pairwise_back xs more ys h.1

  -- ---- lists that are tested place by place
  -- what is left of both is related exactly where they are
  pub record StillPairwise (xs : List X) (ys : List Y) (i : ℕ) : Type 0 where
    pub up : Pairwise R (drop i xs) (drop i ys) → Pairwise R xs ys
    pub down : Pairwise R xs ys → Pairwise R (drop i xs) (drop i ys)

  pub pairwise_start : (xs : List X) (ys : List Y) → StillPairwise xs ys 0
  pairwise_start xs ys = record { up = λ h. h; down = λ h. h }

  module _ (xs : List X) (ys : List Y) (i : ℕ) (x : X) (y : Y) (l : i < length xs) (k : i < length ys) (at : x ≡ get_or xs i x) (also : y ≡ get_or ys i y) where
    coming : Pairwise R (drop i xs) (drop i ys) ≡ (R x y × Pairwise R (drop (i + 1) xs) (drop (i + 1) ys))
    coming =
        let first : drop i xs ≡ x ∷ drop (i + 1) xs = left_at xs i x l ∙ ap (λ (z : X). z ∷ drop (i + 1) xs) (sym at) in
        let second : drop i ys ≡ y ∷ drop (i + 1) ys = left_at ys i y k ∙ ap (λ (z : Y). z ∷ drop (i + 1) ys) (sym also) in
        rw (first, second) refl

    pub pairwise_next : R x y → StillPairwise xs ys i → StillPairwise xs ys (i + 1)
    pairwise_next r s = record {
      up = λ h. s.up (rw coming (r, h));
      down = λ h. (rw coming at (s.down h)).1;
    }

    pub pairwise_fail : (R x y → ⊥) → StillPairwise xs ys i → Pairwise R xs ys → ⊥
    pairwise_fail n s h = n (rw coming at (s.down h)).0

  pub pairwise_end : (xs : List X) (ys : List Y) (i : ℕ) → length xs ≤ i → length ys ≤ i → StillPairwise xs ys i → Pairwise R xs ys
  pairwise_end xs ys i l k s = s.up (rw (none_left xs i l, none_left ys i k) tt)

-- ---- what a list is made of
module _ {X Y Z : Type 0} (R : X → Y → Type 0) (f : Z → X) where
  pub pairwise_mapped : (zs : List Z) (ys : List Y) → Pairwise (λ z. R (f z)) zs ys → Pairwise R (map f zs) ys
  pairwise_mapped [] [] h = tt
  pairwise_mapped [] (y ∷ ys) h = absurd h
  pairwise_mapped (z ∷ zs) [] h = absurd h
  pairwise_mapped (z ∷ zs) (y ∷ ys) h = (h.0, pairwise_mapped zs ys h.1)

  pub pairwise_from_mapped : (zs : List Z) (ys : List Y) → Pairwise R (map f zs) ys → Pairwise (λ z. R (f z)) zs ys
  pairwise_from_mapped [] [] h = tt
  pairwise_from_mapped [] (y ∷ ys) h = absurd h
  pairwise_from_mapped (z ∷ zs) [] h = absurd h
  pairwise_from_mapped (z ∷ zs) (y ∷ ys) h = (h.0, pairwise_from_mapped zs ys h.1)

-- ---- rows of lines
pub rows_of_each : (lines : List Line) (rows : List LpRow) → AreRowsOfEach lines rows → AreRowsOf lines rows
rows_of_each [] [] h = refl
rows_of_each [] (row ∷ rows) h = absurd h
rows_of_each (line ∷ lines) [] h = absurd h
rows_of_each (line ∷ lines) (row ∷ rows) h = let rest = rows_of_each lines rows h.1 in λ k. h.0 k ∷ rest k

pub each_of_rows : (lines : List Line) (rows : List LpRow) → AreRowsOf lines rows → AreRowsOfEach lines rows
each_of_rows [] [] h = tt
each_of_rows [] (row ∷ rows) h = absurd (omega (arith, ap length h))
each_of_rows (line ∷ lines) [] h = absurd (omega (arith, ap length h))
each_of_rows (line ∷ lines) (row ∷ rows) h = (ap (first_or (line_of row)) h, each_of_rows lines rows (ap rest_of h))

-- ---- of a separation
own_lines : (point : Master) (is : List Ineq) (rows : List LpRow) → Pairwise (IsOwnRow point) is rows → AreRowsOfEach (map (own_line point) is) rows
own_lines point [] [] h = tt
own_lines point [] (row ∷ rows) h = absurd h
own_lines point (i ∷ is) [] h = absurd h
own_lines point (i ∷ is) (row ∷ rows) h = (h.0.line, own_lines point is rows h.1)

own_narrow : (point : Master) (is : List Ineq) (rows : List LpRow) → Pairwise (IsOwnRow point) is rows → AllByRecursion (λ i. IsNarrowSum (right_pairs point i)) is
own_narrow point [] rows h = tt
own_narrow point (i ∷ is) [] h = absurd h
own_narrow point (i ∷ is) (row ∷ rows) h = (h.0.narrow, own_narrow point is rows h.1)

own_both : (point : Master) (is : List Ineq) (rows : List LpRow) → AreRowsOfEach (map (own_line point) is) rows → AllByRecursion (λ i. IsNarrowSum (right_pairs point i)) is → Pairwise (IsOwnRow point) is rows
own_both point [] [] h n = tt
own_both point [] (row ∷ rows) h n = absurd h
own_both point (i ∷ is) [] h n = absurd h
own_both point (i ∷ is) (row ∷ rows) h n = (record { line = h.0; narrow = n.0 }, own_both point is rows h.1 n.1)

module _ (m : Model) (part : List ℕ) (point : Master) (b : ℕ) (way : Mode) (rows : List LpRow) where
  abbrev of_block : List Ineq
  of_block = inequalities_of m part b

  abbrev own : List Line
  own = map (own_line point) of_block

  own_count : length own ≡ length of_block
  own_count = length-map of_block (own_line point)

  pub separation_made : Pairwise (IsOwnRow point) of_block (take (length of_block) rows) → AreRowsOfEach (cost_lines m part point b way) (drop (length of_block) rows) → AreSeparationRows m part point b way rows
  separation_made h k = record {
    lines = rows_of_each (own ++ cost_lines m part point b way) rows
        (pairwise_joined IsRowOf own (cost_lines m part point b way) rows
        (subst (λ (n : ℕ). AreRowsOfEach own (take n rows)) (sym own_count) (own_lines point of_block (take (length of_block) rows) h))
        (subst (λ (n : ℕ). AreRowsOfEach (cost_lines m part point b way) (drop n rows)) (sym own_count) k));
    narrow = own_narrow point of_block (take (length of_block) rows) h;
  }

  module _ (s : AreSeparationRows m part point b way rows) where
    each : AreRowsOfEach (own ++ cost_lines m part point b way) rows
    each = each_of_rows (own ++ cost_lines m part point b way) rows s.lines

    pub separation_own : Pairwise (IsOwnRow point) of_block (take (length of_block) rows)
    separation_own = own_both point of_block (take (length of_block) rows)
        (subst (λ (n : ℕ). AreRowsOfEach own (take n rows)) own_count (pairwise_front IsRowOf own (cost_lines m part point b way) rows each)) s.narrow

    pub separation_costs : AreRowsOfEach (cost_lines m part point b way) (drop (length of_block) rows)
    separation_costs = subst (λ (n : ℕ). AreRowsOfEach (cost_lines m part point b way) (drop n rows)) own_count (pairwise_back IsRowOf own (cost_lines m part point b way) rows each)

    pub separation_long : length of_block ≤ length rows
    separation_long = omega (arith, own_count, sym (length-append own (cost_lines m part point b way)) ∙ pairwise_length IsRowOf (own ++ cost_lines m part point b way) rows each)

-- ---- of a node
ends_count : (box : Box) (k : ℕ) (ps : List ℕ) → length (flat_map (sides_at box) (enumerate_from k ps)) ≡ 2 * length ps
ends_count box k [] = refl
ends_count box k (p ∷ ps) = let rest : length (flat_map (sides_at box) (enumerate_from (k + 1) ps)) ≡ 2 * length ps = ends_count box (k + 1) ps in omega (arith, rest)

box_count : (n : ℕ) (ps : List ℕ) (box : Box) → length (box_lines n ps box) ≡ 2 * length ps
box_count n ps box = length-map (flat_map (sides_at box) (enumerate_from 0 ps)) (side_line n) ∙ ends_count box 0 ps

pub box_length : (n : ℕ) (ps : List ℕ) (box : Box) (rows : List LpRow) → AreRowsOfEach (box_lines n ps box) rows → length rows ≡ 2 * length ps
box_length n ps box rows h = sym (pairwise_length IsRowOf (box_lines n ps box) rows h) ∙ box_count n ps box

module _ (m : Model) (part : List ℕ) (box : Box) (rows : List LpRow) where
  abbrev n : ℕ
  n = width_of part 0

  abbrev of_master : List Ineq
  of_master = inequalities_of m part 0

  abbrev first : List Line
  first = master_lines n of_master

  abbrev second : List Line
  second = box_lines n (positions_of m part) box

  first_count : length first ≡ length of_master
  first_count = length-map (map side_of_master of_master) (side_line n) ∙ length-map of_master side_of_master

  sides_count : length (side_lines m part box) ≡ length of_master + 2 * length (positions_of m part)
  sides_count = length-append first second ∙ omega (arith, first_count, box_count n (positions_of m part) box)

  -- the rows of the sides
  pub sides_made : Pairwise (λ i. IsRowOf (side_line n (side_of_master i))) of_master (take (length of_master) rows) → AreRowsOfEach second (drop (length of_master) rows) → AreRowsOfEach (side_lines m part box) rows
  sides_made h k = pairwise_joined IsRowOf first second rows
      (subst (λ (t : ℕ). AreRowsOfEach first (take t rows)) (sym first_count)
      (pairwise_mapped IsRowOf (side_line n) (map side_of_master of_master) _ (pairwise_mapped (λ i. IsRowOf (side_line n i)) side_of_master of_master _ h)))
      (subst (λ (t : ℕ). AreRowsOfEach second (drop t rows)) (sym first_count) k)

  module _ (h : AreRowsOfEach (side_lines m part box) rows) where
    pub sides_master : Pairwise (λ i. IsRowOf (side_line n (side_of_master i))) of_master (take (length of_master) rows)
    sides_master = pairwise_from_mapped (λ i. IsRowOf (side_line n i)) side_of_master of_master _
        (pairwise_from_mapped IsRowOf (side_line n) (map side_of_master of_master) _
        (subst (λ (t : ℕ). AreRowsOfEach first (take t rows)) first_count (pairwise_front IsRowOf first second rows h)))

    pub sides_box : AreRowsOfEach second (drop (length of_master) rows)
    sides_box = subst (λ (t : ℕ). AreRowsOfEach second (drop t rows)) first_count (pairwise_back IsRowOf first second rows h)

    pub sides_long : length of_master ≤ length rows
    sides_long = omega (arith, sides_count, pairwise_length IsRowOf (side_lines m part box) rows h)

  -- and of the cuts
  module _ (cuts : List Cut) (s : ℕ) (count : s ≡ length of_master + 2 * length (positions_of m part)) where
    abbrev third : List Line
    third = cut_lines n cuts

    node_lines : map (side_line n) (sides_of m part box cuts) ≡ side_lines m part box ++ third
    node_lines = ap (map (side_line n)) (sym (sides_same m part box cuts))
        ∙ map-append (side_line n) (map side_of_master of_master ++ flat_map (sides_at box) (enumerate_from 0 (positions_of m part))) (map side_of_cut cuts)
        ∙ ap (λ (ls : List Line). ls ++ third) (map-append (side_line n) (map side_of_master of_master) (flat_map (sides_at box) (enumerate_from 0 (positions_of m part))))

    same_count : length (side_lines m part box) ≡ s
    same_count = sides_count ∙ sym count

    pub node_made : AreRowsOfEach (side_lines m part box) (take s rows) → Pairwise (λ cut. IsRowOf (side_line n (side_of_cut cut))) cuts (drop s rows) → AreNodeRows m part box cuts rows
    node_made h c = rows_of_each (map (side_line n) (sides_of m part box cuts)) rows
        (rw node_lines (pairwise_joined IsRowOf (side_lines m part box) third rows
        (subst (λ (t : ℕ). AreRowsOfEach (side_lines m part box) (take t rows)) (sym same_count) h)
        (subst (λ (t : ℕ). AreRowsOfEach third (drop t rows)) (sym same_count)
        (pairwise_mapped IsRowOf (side_line n) (map side_of_cut cuts) _ (pairwise_mapped (λ i. IsRowOf (side_line n i)) side_of_cut cuts _ c)))))

    module _ (h : AreNodeRows m part box cuts rows) where
      each_line : AreRowsOfEach (side_lines m part box ++ third) rows
      each_line = rw node_lines at (each_of_rows (map (side_line n) (sides_of m part box cuts)) rows h)

      pub node_sides : AreRowsOfEach (side_lines m part box) (take s rows)
      node_sides = subst (λ (t : ℕ). AreRowsOfEach (side_lines m part box) (take t rows)) same_count (pairwise_front IsRowOf (side_lines m part box) third rows each_line)

      pub node_cuts : Pairwise (λ cut. IsRowOf (side_line n (side_of_cut cut))) cuts (drop s rows)
      node_cuts = pairwise_from_mapped (λ i. IsRowOf (side_line n i)) side_of_cut cuts _
          (pairwise_from_mapped IsRowOf (side_line n) (map side_of_cut cuts) _
          (subst (λ (t : ℕ). AreRowsOfEach third (drop t rows)) same_count (pairwise_back IsRowOf (side_lines m part box) third rows each_line)))

      pub node_long : s ≤ length rows
      node_long = omega (arith, same_count, sym (length-append (side_lines m part box) third) ∙ pairwise_length IsRowOf (side_lines m part box ++ third) rows each_line)
