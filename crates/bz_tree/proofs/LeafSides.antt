-- The sides of a leaf by their numbers.
use Rattle.std.proofs.Common.{◌≡◌, refl, ◌∙◌, ap, ℕ, zero, suc, ◌+◌, ◌*◌, ◌<◌, List, [], ◌∷◌, ◌++◌, length, map, get_or, arith, pos, negsuc, neg_ℤ, length-append}
use Rattle.std.proofs.lemmas.List.{length-map}
use Rattle.std.specs.List.{enumerate_from, flat_map}
use Rattle.bz_algebra.specs.Sums.{coef}
use Rattle.bz_model.specs.declared.Column.{Column}
use Rattle.bz_model.specs.declared.Ineq.{Ineq}
use Rattle.bz_model.specs.declared.Model.{Model}
use Rattle.bz_model.specs.Parting.{inequalities_of, integers_of, position_of}
use Rattle.bz_model.specs.Points.{coordinate}
use Rattle.bz_cut.specs.declared.Cut.{Cut}
use Rattle.bz_cut.specs.Rows.{master_at, own_at, rhs_at}
use Rattle.bz_tree.specs.Boxes.{Box}
use Rattle.bz_tree.specs.Leaves.{side_of_cut, side_of_master, sides_of, sides_of_box}
use Rattle.bz_tree.specs.declared.leaf_sides.Side.{Side}
use Rattle.bz_tree.specs.declared.leaf_sides.Side.TheVariants as side
use Rattle.bz_tree.specs.LeafSides.{IsNumbered, sides_among, sides_at}
use Rattle.bz_tree.specs.Integers.{positions_of}

-- the inequality at a place of a list
abbrev pub side_at : List Ineq → ℕ → Ineq
side_at [] n = record { own = []; master = []; rhs = pos 0 }
side_at (x ∷ xs) zero = x
side_at (x ∷ xs) (suc n) = side_at xs n

pub own_is : (xs : List Ineq) (n : ℕ) → (side_at xs n).own ≡ own_at xs n
own_is [] n = refl
own_is (x ∷ xs) zero = refl
own_is (x ∷ xs) (suc n) = own_is xs n

pub master_is : (xs : List Ineq) (n : ℕ) → (side_at xs n).master ≡ master_at xs n
master_is [] n = refl
master_is (x ∷ xs) zero = refl
master_is (x ∷ xs) (suc n) = master_is xs n

pub rhs_is : (xs : List Ineq) (n : ℕ) → (side_at xs n).rhs ≡ rhs_at xs n
rhs_is [] n = refl
rhs_is (x ∷ xs) zero = refl
rhs_is (x ∷ xs) (suc n) = rhs_is xs n

-- ---- the lists, one behind another
in_front : (xs ys : List Ineq) (n : ℕ) → n < length xs → side_at (xs ++ ys) n ≡ side_at xs n
in_front [] ys n l = absurd (omega arith)
in_front (x ∷ xs) ys zero l = refl
in_front (x ∷ xs) ys (suc n) l = in_front xs ys n (omega arith)

behind : (xs ys : List Ineq) (n k : ℕ) → n ≡ length xs + k → side_at (xs ++ ys) n ≡ side_at ys k
behind [] ys n k e = let same : n ≡ k = omega arith in ap (side_at ys) same
behind (x ∷ xs) ys zero k e = absurd (omega arith)
behind (x ∷ xs) ys (suc n) k e = behind xs ys n k (omega arith)

mapped : {X : Type 0} (f : X → Ineq) (xs : List X) (n : ℕ) (d : X) → n < length xs → side_at (map f xs) n ≡ f (get_or xs n d)
mapped f [] n d l = absurd (omega arith)
mapped f (x ∷ xs) zero d l = refl
mapped f (x ∷ xs) (suc n) d l = mapped f xs n d (omega arith)

-- the sides of the box at place k
abbrev upper_side : Box → ℕ → ℕ → Ineq
upper_side box k position = record { own = []; master = (position, pos 1) ∷ []; rhs = coordinate box.upper k }

abbrev lower_side : Box → ℕ → ℕ → Ineq
lower_side box k position = record { own = []; master = (position, negsuc 0) ∷ []; rhs = neg_ℤ (coordinate box.lower k) }

in_box_upper : (box : Box) (j n k : ℕ) (positions : List ℕ) → n ≡ 2 * k → k < length positions → side_at (flat_map (sides_at box) (enumerate_from j positions)) n ≡ upper_side box (j + k) (get_or positions k 0)
in_box_upper box j n k [] e l = absurd (omega arith)
in_box_upper box j zero k (p ∷ positions) e l = let none : k ≡ 0 = omega arith in let same : j ≡ j + 0 = omega arith in rw none (ap (λ (i : ℕ). upper_side box i p) same)
in_box_upper box j (suc zero) k (p ∷ positions) e l = absurd (omega arith)
in_box_upper box j (suc (suc n)) zero (p ∷ positions) e l = absurd (omega arith)
in_box_upper box j (suc (suc n)) (suc k) (p ∷ positions) e l =
    let same : j + 1 + k ≡ j + suc k = omega arith in
    in_box_upper box (j + 1) n k positions (omega arith) (omega arith) ∙ ap (λ (i : ℕ). upper_side box i (get_or positions k 0)) same

in_box_lower : (box : Box) (j n k : ℕ) (positions : List ℕ) → n ≡ 2 * k + 1 → k < length positions → side_at (flat_map (sides_at box) (enumerate_from j positions)) n ≡ lower_side box (j + k) (get_or positions k 0)
in_box_lower box j n k [] e l = absurd (omega arith)
in_box_lower box j zero k (p ∷ positions) e l = absurd (omega arith)
in_box_lower box j (suc zero) k (p ∷ positions) e l = let none : k ≡ 0 = omega arith in let same : j ≡ j + 0 = omega arith in rw none (ap (λ (i : ℕ). lower_side box i p) same)
in_box_lower box j (suc (suc n)) zero (p ∷ positions) e l = absurd (omega arith)
in_box_lower box j (suc (suc n)) (suc k) (p ∷ positions) e l =
    let same : j + 1 + k ≡ j + suc k = omega arith in
    in_box_lower box (j + 1) n k positions (omega arith) (omega arith) ∙ ap (λ (i : ℕ). lower_side box i (get_or positions k 0)) same

length-box : (box : Box) (j : ℕ) (positions : List ℕ) → length (flat_map (sides_at box) (enumerate_from j positions)) ≡ 2 * length positions
length-box box j [] = refl
length-box box j (p ∷ positions) = let more : length (flat_map (sides_at box) (enumerate_from (j + 1) positions)) ≡ 2 * length positions = length-box box (j + 1) positions in omega arith

-- ---- all sides
length-front : (rows : List Ineq) (positions : List ℕ) (box : Box) → length (map side_of_master rows ++ flat_map (sides_at box) (enumerate_from 0 positions)) ≡ length rows + 2 * length positions
length-front rows positions box =
    let a = length-append (map side_of_master rows) (flat_map (sides_at box) (enumerate_from 0 positions)) in
    let r = length-map rows side_of_master in
    let m = length-box box 0 positions in
    omega arith

pub length-sides : (rows : List Ineq) (positions : List ℕ) (box : Box) (cuts : List Cut) → length (sides_among rows positions box cuts) ≡ length rows + 2 * length positions + length cuts
length-sides rows positions box cuts =
    let a = length-append (map side_of_master rows ++ flat_map (sides_at box) (enumerate_from 0 positions)) (map side_of_cut cuts) in
    let f = length-front rows positions box in
    let c = length-map cuts side_of_cut in
    omega arith

front_at : (rows : List Ineq) (positions : List ℕ) (box : Box) (cuts : List Cut) (n : ℕ) → n < length rows + 2 * length positions → side_at (sides_among rows positions box cuts) n ≡ side_at (map side_of_master rows ++ flat_map (sides_at box) (enumerate_from 0 positions)) n
front_at rows positions box cuts n l =
    let f = length-front rows positions box in
    in_front (map side_of_master rows ++ flat_map (sides_at box) (enumerate_from 0 positions)) (map side_of_cut cuts) n (omega arith)

pub row_at : (rows : List Ineq) (positions : List ℕ) (box : Box) (cuts : List Cut) (n i : ℕ) (d : Ineq) → (n ≡ i) × (i < length rows) → side_at (sides_among rows positions box cuts) n ≡ side_of_master (get_or rows i d)
row_at rows positions box cuts n i d h =
    let r = length-map rows side_of_master in
    ap (side_at (sides_among rows positions box cuts)) h.0
    ∙ front_at rows positions box cuts i (omega (arith, h.1))
    ∙ in_front (map side_of_master rows) (flat_map (sides_at box) (enumerate_from 0 positions)) i (omega (arith, h.1))
    ∙ mapped side_of_master rows i d h.1

box_at : (rows : List Ineq) (positions : List ℕ) (box : Box) (cuts : List Cut) (n k : ℕ) → n ≡ length rows + k → k < 2 * length positions → side_at (sides_among rows positions box cuts) n ≡ side_at (flat_map (sides_at box) (enumerate_from 0 positions)) k
box_at rows positions box cuts n k e l =
    let r = length-map rows side_of_master in
    front_at rows positions box cuts n (omega arith)
    ∙ behind (map side_of_master rows) (flat_map (sides_at box) (enumerate_from 0 positions)) n k (omega arith)

pub upper_at : (rows : List Ineq) (positions : List ℕ) (box : Box) (cuts : List Cut) (n k : ℕ) → (n ≡ length rows + 2 * k) × (k < length positions) → side_at (sides_among rows positions box cuts) n ≡ upper_side box k (get_or positions k 0)
upper_at rows positions box cuts n k h =
    let same : 0 + k ≡ k = omega arith in
    box_at rows positions box cuts n (2 * k) h.0 (omega (arith, h.1))
    ∙ in_box_upper box 0 (2 * k) k positions refl h.1
    ∙ ap (λ (i : ℕ). upper_side box i (get_or positions k 0)) same

pub lower_at : (rows : List Ineq) (positions : List ℕ) (box : Box) (cuts : List Cut) (n k : ℕ) → (n ≡ length rows + 2 * k + 1) × (k < length positions) → side_at (sides_among rows positions box cuts) n ≡ lower_side box k (get_or positions k 0)
lower_at rows positions box cuts n k h =
    let same : 0 + k ≡ k = omega arith in
    box_at rows positions box cuts n (2 * k + 1) (omega (arith, h.0)) (omega (arith, h.1))
    ∙ in_box_lower box 0 (2 * k + 1) k positions refl h.1
    ∙ ap (λ (i : ℕ). lower_side box i (get_or positions k 0)) same

pub cut_at : (rows : List Ineq) (positions : List ℕ) (box : Box) (cuts : List Cut) (n i : ℕ) (d : Cut) → (n ≡ length rows + 2 * length positions + i) × (i < length cuts) → side_at (sides_among rows positions box cuts) n ≡ side_of_cut (get_or cuts i d)
cut_at rows positions box cuts n i d h =
    let f = length-front rows positions box in
    behind (map side_of_master rows ++ flat_map (sides_at box) (enumerate_from 0 positions)) (map side_of_cut cuts) n i (omega (arith, h.0))
    ∙ mapped side_of_cut cuts i d h.1

-- a side that is no cut has no etas
pub no_etas : (rows : List Ineq) (positions : List ℕ) (box : Box) (cuts : List Cut) (n b : ℕ) (kind : Side) → IsNumbered (length rows) (length positions) (length cuts) n kind → ((i : ℕ) → kind ≡ side.OfCut i → ⊥) → pos 0 ≡ coef (own_at (sides_among rows positions box cuts) n) b
no_etas rows positions box cuts n b (side.Row i) h other = rw (← own_is (sides_among rows positions box cuts) n, row_at rows positions box cuts n i (record { own = []; master = []; rhs = pos 0 }) h) refl
no_etas rows positions box cuts n b (side.Upper k) h other = rw (← own_is (sides_among rows positions box cuts) n, upper_at rows positions box cuts n k h) refl
no_etas rows positions box cuts n b (side.Lower k) h other = rw (← own_is (sides_among rows positions box cuts) n, lower_at rows positions box cuts n k h) refl
no_etas rows positions box cuts n b (side.OfCut i) h other = absurd (other i refl)

-- ---- the sides of a model's leaf
box_same : (part : List ℕ) (box : Box) (j : ℕ) (es : List (ℕ × Column)) → flat_map (sides_at box) (enumerate_from j (map (λ e. position_of part e.0) es)) ≡ flat_map (sides_of_box part box) (enumerate_from j es)
box_same part box j [] = refl
box_same part box j (e ∷ es) = ap (λ (is : List Ineq). sides_of_box part box (j, e) ++ is) (box_same part box (j + 1) es)

pub sides_same : (m : Model) (part : List ℕ) (box : Box) (cuts : List Cut) → sides_among (inequalities_of m part 0) (positions_of m part) box cuts ≡ sides_of m part box cuts
sides_same m part box cuts = ap (λ (is : List Ineq). (map side_of_master (inequalities_of m part 0) ++ is) ++ map side_of_cut cuts) (box_same part box 0 (integers_of m))
