-- The ends of the box at a point that meets a node's program: a number that is rounded down there lies between them.
use Rattle.std.proofs.Common.{◌≡◌, subst, ℕ, zero, suc, ◌+◌, List, [], ◌∷◌, ◌++◌, map, arith}
use Rattle.std.proofs.lemmas.Int.{by_lt_z, ints}
use Rattle.std.specs.Prelude.{Some, ℤ, pos, ◌+ℤ◌, ◌*ℤ◌, ◌≤ℤ◌, ◌<ℤ◌}
use Rattle.std.specs.List.{AllByRecursion, enumerate_from, flat_map, slice_get}
use Rattle.bz_algebra.specs.Sums.{dot}
use Rattle.bz_algebra.proofs.Ring.{cancel_lt_right, neg_mul}
use Rattle.bz_model.specs.declared.Column.{Column}
use Rattle.bz_model.specs.declared.Model.{Model}
use Rattle.bz_model.specs.Parting.{inequalities_of, integers_of, position_of, width_of}
use Rattle.bz_model.specs.Points.{IsWhole, coordinate}
use Rattle.bz_model.proofs.MeetingParts.{all_back, all_from_flat, all_front, all_then}
use Rattle.bz_cut.specs.declared.Cut.{Cut}
use Rattle.bz_cut.specs.declared.Mode.{Mode}
use Rattle.bz_tree.specs.Boxes.{Box}
use Rattle.bz_tree.specs.Integers.{integer_at}
use Rattle.bz_tree.specs.Leaves.{side_of_cut, side_of_master, sides_of, sides_of_box}
use Rattle.bz_tree.specs.Trees.{IsSplitOf}
use Rattle.bz_std.specs.Meanings.{MeetsWithin}
use Rattle.bz_std.specs.Posed.{Line}
use Rattle.bz_std.specs.Tasks.{node, side_line}
use Rattle.bz_std.proofs.ListFacts.{all_from_mapped}

-- what all numbered items have, the one at a place has
pub numbered_at : {X : Type 0} (P : ℕ × X → Type 0) (n : ℕ) (xs : List X) (k : ℕ) (x : X) → AllByRecursion P (enumerate_from n xs) → slice_get xs k ≡ Some x → P (n + k, x)
numbered_at P n [] k x h at = absurd (cc)
numbered_at P n (y ∷ ys) zero x h at =
    let same : y ≡ x = cc in
    let place : n + 0 ≡ n = omega arith in
    rw place (subst (λ z. P (n, z)) same h.0)
numbered_at P n (y ∷ ys) (suc k) x h at =
    let place : n + suc k ≡ (n + 1) + k = omega arith in
    rw place (numbered_at P (n + 1) ys k x h.1 at)

module _ (m : Model) (part : List ℕ) (box : Box) (cuts : List Cut) (way : Mode) (v : ℕ → ℤ) (den : ℤ) where
  -- the line holds at v / den
  abbrev pub LineHolds : Line → Type 0
  LineHolds row = (dot row.terms v) ≤ℤ ((row.rhs *ℤ den) +ℤ (pos 0))

  -- v / den lies between the ends of an integer column
  pub record IsBetween (e : ℕ × (ℕ × Column)) : Type 0 where
    pub at_least : (coordinate box.lower e.0 *ℤ den) ≤ℤ v (position_of part e.1.0)
    pub at_most : v (position_of part e.1.0) ≤ℤ (coordinate box.upper e.0 *ℤ den)

  of_sides : (e : ℕ × (ℕ × Column)) → AllByRecursion (λ i. LineHolds (side_line (width_of part 0) i)) (sides_of_box part box e) → IsBetween e
  of_sides e k = record {
    at_least = omega (arith, ints, k.1.0, neg_mul (coordinate box.lower e.0) den);
    at_most = omega (arith, ints, k.0);
  }

  pub between : MeetsWithin (node m part box cuts way) v den (pos 0) → AllByRecursion IsBetween (enumerate_from 0 (integers_of m))
  between h =
      let sides : AllByRecursion (λ i. LineHolds (side_line (width_of part 0) i)) (sides_of m part box cuts) = all_from_mapped LineHolds (side_line (width_of part 0)) (sides_of m part box cuts) h in
      let front : AllByRecursion (λ i. LineHolds (side_line (width_of part 0) i)) (map side_of_master (inequalities_of m part 0) ++ flat_map (sides_of_box part box) (enumerate_from 0 (integers_of m))) =
      all_front (λ i. LineHolds (side_line (width_of part 0) i)) (map side_of_master (inequalities_of m part 0) ++ flat_map (sides_of_box part box) (enumerate_from 0 (integers_of m))) (map side_of_cut cuts) sides in
      all_then (λ e. AllByRecursion (λ i. LineHolds (side_line (width_of part 0) i)) (sides_of_box part box e)) IsBetween (enumerate_from 0 (integers_of m))
      (all_from_flat (λ i. LineHolds (side_line (width_of part 0) i)) (sides_of_box part box) (enumerate_from 0 (integers_of m))
      (all_back (λ i. LineHolds (side_line (width_of part 0) i)) (map side_of_master (inequalities_of m part 0)) (flat_map (sides_of_box part box) (enumerate_from 0 (integers_of m))) front))
      of_sides

  module _ (met : MeetsWithin (node m part box cuts way) v den (pos 0)) (positive : (pos 0) <ℤ den) (position : ℕ) (value : ℤ)
      (split : IsSplitOf m part (integer_at m part position) position value (value +ℤ pos 1))
      (at_most : (value *ℤ den) ≤ℤ v position) (above : v position <ℤ ((value +ℤ pos 1) *ℤ den)) (fractional : ¬ IsWhole (v position) den) where
    ends : IsBetween (integer_at m part position, split.column)
    ends =
        let place : 0 + integer_at m part position ≡ integer_at m part position = omega arith in
        subst (λ (j : ℕ). IsBetween (j, split.column)) place (numbered_at IsBetween 0 (integers_of m) (integer_at m part position) split.column (between met) split.is_column)

    pub lower_end : coordinate box.lower (integer_at m part position) ≤ℤ value
    lower_end =
        let low : (coordinate box.lower (integer_at m part position) *ℤ den) ≤ℤ v position = subst (λ (p : ℕ). (coordinate box.lower (integer_at m part position) *ℤ den) ≤ℤ v p) split.at_position ends.at_least in
        let less : coordinate box.lower (integer_at m part position) <ℤ (value +ℤ pos 1) = cancel_lt_right (coordinate box.lower (integer_at m part position)) (value +ℤ pos 1) den (omega (arith, ints, positive)) (omega (arith, ints, low, above)) in
        omega (arith, ints, less)

    pub upper_end : value <ℤ coordinate box.upper (integer_at m part position)
    upper_end =
        let high : v position ≤ℤ (coordinate box.upper (integer_at m part position) *ℤ den) = subst (λ (p : ℕ). v p ≤ℤ (coordinate box.upper (integer_at m part position) *ℤ den)) split.at_position ends.at_most in
        let strict : (value *ℤ den) <ℤ v position = by_lt_z (value *ℤ den) (v position) (λ l. l) (λ g.
        let same : v position ≡ value *ℤ den = omega (arith, ints, g, at_most) in
        absurd (fractional (value, same))) in
        cancel_lt_right value (coordinate box.upper (integer_at m part position)) den (omega (arith, ints, positive)) (omega (arith, ints, high, strict))
