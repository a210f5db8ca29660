-- The two sides of a region, and the place of the integer column that splits it.
use Rattle.std.proofs.Common.{◌≡◌, ◌∙◌, ap, subst, sym, ℕ, ◌<◌, ◌≤◌, ◌^◌, List, length, arith}
use Rattle.std.proofs.lemmas.Bool.{lt-ltb}
use Rattle.std.proofs.lemmas.List.{length-map}
use Rattle.std.proofs.lemmas.List.FromFn.{length-enumerate_from}
use Rattle.std.proofs.lemmas.List.Sums.{count_by-le-length, length-filter}
use Rattle.std.specs.Prelude.{◌==◌, Option, Some, ℤ, pos, ◌+ℤ◌, ◌≤ℤ◌, ◌<ℤ◌}
use Rattle.std.specs.List.{enumerate_from, position, position_or_len}
use Rattle.bz_model.specs.declared.Column.{Column}
use Rattle.bz_model.specs.declared.Model.{Model}
use Rattle.bz_model.specs.Parting.{integers_of, position_of}
use Rattle.bz_model.specs.Points.{coordinate}
use Rattle.bz_tree.specs.Boxes.{Box}
use Rattle.bz_tree.specs.Integers.{integer_at, positions_of}
use Rattle.bz_tree.specs.Trees.{with_lower, with_upper}
use Rattle.bz_tree.proofs.SplitColumns.{place_is}
use Rattle.bz_history.specs.declared.state.Region.{Region}
use Rattle.bz_history.specs.States.{above, below, box_of}

-- ---- places
pub place_found : (m : Model) (part : List ℕ) (p : ℕ) → integer_at m part p < length (integers_of m)
    → position (λ n. n == p) (positions_of m part) ≡ Some (integer_at m part p)
place_found m part p inside =
    let same : position_or_len (λ n. n == p) (positions_of m part) ≡ integer_at m part p = place_is m part p in
    let count : length (positions_of m part) ≡ length (integers_of m) = length-map (integers_of m) (λ e. position_of part e.0) in
    let less : position_or_len (λ n. n == p) (positions_of m part) < length (positions_of m part) = omega (arith, same, count, inside) in
    rw (lt-ltb (position_or_len (λ n. n == p) (positions_of m part)) (length (positions_of m part)) less) (ap Some same)

pub place_is_found : (m : Model) (part : List ℕ) (p : ℕ) (positions : List ℕ) (found : Option ℕ) (place : ℕ) → integer_at m part p < length (integers_of m)
    → positions ≡ positions_of m part → found ≡ position (λ n. n == p) positions → found ≡ Some place → place ≡ integer_at m part p
place_is_found m part p positions found place inside of_split is there =
    let own : found ≡ Some (integer_at m part p) = is ∙ ap (position (λ n. n == p)) of_split ∙ place_found m part p inside in
    cc

pub places_are_few : (m : Model) (k : ℕ) → k < length (integers_of m) → k < 2 ^ 32
places_are_few m k inside =
    let all : length (integers_of m) ≤ length m.columns = omega (
      arith,
      length-filter (λ (e : ℕ × Column). e.1.integer) (enumerate_from 0 m.columns),
      count_by-le-length (λ (e : ℕ × Column). e.1.integer) (enumerate_from 0 m.columns),
      length-enumerate_from 0 m.columns,
    ) in
    omega (arith, all, inside, m.few_columns)

-- ---- ends
pub at_least_held : (region : Region) (own : Box) (k place : ℕ) (value : ℤ) → place ≡ k → own ≡ box_of region → coordinate region.lower k ≤ℤ value → coordinate own.lower place ≤ℤ value
at_least_held region own k place value at is h = subst (λ (b : Box). coordinate b.lower place ≤ℤ value) (sym is) (subst (λ (i : ℕ). coordinate region.lower i ≤ℤ value) (sym at) h)

pub below_held : (region : Region) (own : Box) (k place : ℕ) (value : ℤ) → place ≡ k → own ≡ box_of region → value <ℤ coordinate region.upper k → value <ℤ coordinate own.upper place
below_held region own k place value at is h = subst (λ (b : Box). value <ℤ coordinate b.upper place) (sym is) (subst (λ (i : ℕ). value <ℤ coordinate region.upper i) (sym at) h)

-- ---- sides
region_in : Box → Region
region_in box = record { lower = box.lower; upper = box.upper }

pub left_side : (region side : Region) (box own : Box) (k place : ℕ) (value : ℤ) → place ≡ k → box_of side ≡ box → box ≡ with_upper place value own → own ≡ box_of region
    → side ≡ below k value region
unfolding region_in
left_side region side box own k place value at of_side is of_region =
    ap region_in (of_side ∙ is ∙ ap (with_upper place value) of_region) ∙ ap (λ (i : ℕ). below i value region) at

pub right_side : (region side : Region) (box own : Box) (k place : ℕ) (value : ℤ) → place ≡ k → box_of side ≡ box → box ≡ with_lower place (value +ℤ pos 1) own → own ≡ box_of region
    → side ≡ above k value region
unfolding region_in
right_side region side box own k place value at of_side is of_region =
    ap region_in (of_side ∙ is ∙ ap (with_lower place (value +ℤ pos 1)) of_region) ∙ ap (λ (i : ℕ). above i value region) at
