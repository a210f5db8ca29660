-- Why the cost of a node doesn't fall without bound. This is the one place that knows it: each position of the master
-- has two bounds, so that nothing moves there along a direction, and each eta has a floor.
use Rattle.std.specs.Prelude.{ℕ, zero, suc, ◌+◌, ◌-◌, ◌<◌, ◌≤◌, ◌≡◌, true, false, not, ◌&&◌, ◌==◌, ℤ, pos, negsuc, ◌+ℤ◌, ◌*ℤ◌, neg_ℤ, ◌≤ℤ◌, List, [], ◌∷◌, ◌++◌, map, Option, Some, None, IsSome}
use Rattle.std.specs.List.{AllByRecursion, enumerate_from, flat_map}
use Rattle.std.proofs.Common.{refl, ap, subst, ◌∙◌, arith, inl, inr}
use Rattle.std.proofs.lemmas.Bool.{cases_Bool, and_from, both_ways, eq-eqb, not_from_false}
use Rattle.std.proofs.lemmas.Int.{ints}
use Rattle.bz_algebra.specs.Sums.{dot, AllBelow}
use Rattle.bz_algebra.proofs.Ring.{cancel_le_left, le_antisym, mul_zero, neg_mul}
use Rattle.bz_algebra.proofs.SumLemmas.{dot_append, dot_same_below, dot_zero}
use Rattle.bz_num.specs.Row.{entry_at}
use Rattle.bz_num.specs.declared.Frac.{Frac}
use Rattle.bz_model.specs.declared.Column.{Column}
use Rattle.bz_model.specs.declared.Ineq.{Ineq}
use Rattle.bz_model.specs.declared.Model.{Model}
use Rattle.bz_model.specs.Decomposed.{IsDecomposed}
use Rattle.bz_model.specs.Parting.{at_least, at_most, blocks_of, column_at, continuous_in, inequalities_of, inner_cost, integers_of, part_of, position_of, rows_in, sides_of_column, sides_of_row, terms_in, where_some, width_of}
use Rattle.bz_model.specs.Strict.{IsStrictColumn}
use Rattle.bz_model.proofs.InnerCosts.{cost_terms_within}
use Rattle.bz_model.proofs.MeetingParts.{all_back, all_both, all_front, all_from_flat, all_from_kept, all_then}
use Rattle.bz_model.proofs.Numbered.{all_from_numbered, each_number}
use Rattle.bz_model.proofs.PartSums.{terms_in-here}
use Rattle.bz_model.proofs.Positions.{column_at_is}
use Rattle.bz_cut.specs.declared.Cut.{Cut}
use Rattle.bz_cut.specs.declared.Mode.{Mode}
use Rattle.bz_cut.specs.declared.Mode.TheVariants as mode
use Rattle.bz_tree.specs.Boxes.{Box}
use Rattle.bz_tree.specs.Leaves.{side_of_cut, side_of_master, sides_of, sides_of_box}
use Rattle.bz_std.specs.Floored.{AreFloored}
use Rattle.bz_std.specs.Meanings.{IsFallAlong}
use Rattle.bz_std.specs.Tasks.{IsCutOfSplit, moved, node, ones, side_line}
use Rattle.bz_std.proofs.ListFacts.{all_at, all_from_mapped}

-- ---- sums
dot_entry : (k : ℕ) (z : ℤ) (f : ℕ → ℤ) → dot (entry_at k z) f ≡ z *ℤ f k
dot_entry k (pos zero) f = omega (arith, ints)
dot_entry k (pos (suc n)) f = omega (arith, ints)
dot_entry k (negsuc n) f = omega (arith, ints)

pub dot_moved : (n : ℕ) (es : List (ℕ × ℤ)) (f : ℕ → ℤ) → dot (moved n es) f ≡ dot es (λ k. f (n + k))
dot_moved n [] f = refl
dot_moved n (e ∷ es) f = dot_append (entry_at (n + e.0) e.1) (moved n es) f ∙ rw (dot_entry (n + e.0) e.1 f, dot_moved n es f) refl

ones_nonnegative : (n k : ℕ) (f : ℕ → ℤ) → ((j : ℕ) → n ≤ j → j < n + k → (pos 0) ≤ℤ (f j)) → (pos 0) ≤ℤ (dot (ones n k) f)
ones_nonnegative n zero f h = omega (arith, ints)
ones_nonnegative n (suc k) f h = omega (arith, ints, h n (omega arith) (omega arith), ones_nonnegative (suc n) k f (λ j l u. h j (omega arith) (omega arith)))

module _ (m : Model) (part : List ℕ) (s : IsDecomposed m part) (box : Box) (cuts : List Cut) (d : ℕ → ℤ) where
  abbrev width : ℕ
  width = width_of part 0

  -- along d the side doesn't rise
  Falls : Ineq → Type 0
  Falls i = (dot i.master d +ℤ dot i.own (λ k. d (width + k))) ≤ℤ (pos 0)

  sides_fall : (way : Mode) → IsFallAlong (node m part box cuts way) d → AllByRecursion Falls (sides_of m part box cuts)
  unfolding Falls
  sides_fall way f = all_then (λ i. (dot (side_line width i).terms d) ≤ℤ (pos 0)) Falls (sides_of m part box cuts)
      (all_from_mapped (λ row. (dot row.terms d) ≤ℤ (pos 0)) (side_line width) (sides_of m part box cuts) f.rows)
      (λ i l. subst (λ (t : ℤ). t ≤ℤ (pos 0)) (dot_append i.master (moved width i.own) d ∙ ap (λ (t : ℤ). dot i.master d +ℤ t) (dot_moved width i.own d)) l)

  module _ (f : AllByRecursion Falls (sides_of m part box cuts)) where
    abbrev of_master : List Ineq
    of_master = map side_of_master (inequalities_of m part 0)

    abbrev of_box : List Ineq
    of_box = flat_map (sides_of_box part box) (enumerate_from 0 (integers_of m))

    abbrev of_cuts : List Ineq
    of_cuts = map side_of_cut cuts

    -- ---- the columns of the master that are no integers
    Own : Ineq → Type 0
    Own i = (dot i.own d) ≤ℤ (pos 0)

    owns : AllByRecursion Own (inequalities_of m part 0)
    unfolding Falls Own
    owns = all_then (λ i. Falls (side_of_master i)) Own (inequalities_of m part 0)
        (all_from_mapped Falls side_of_master (inequalities_of m part 0) (all_front Falls of_master of_box (all_front Falls (of_master ++ of_box) of_cuts f)))
        (λ i l. omega (arith, ints, l))

    -- a bound of a column, on the column's position
    one_term : (j : ℕ) (c : ℤ) → part_of part j ≡ 0 → dot (terms_in part 0 ((j, c) ∷ [])) d ≡ c *ℤ d (position_of part j)
    one_term j c home = rw (terms_in-here part 0 (j, c) [] home) (omega (arith, ints))

    bounds_still : (e : ℕ × Column) → part_of part e.0 ≡ 0 → (lower upper : Option Frac) → IsSome lower → IsSome upper →
        AllByRecursion Own (where_some upper (λ f. at_most part 0 ((e.0, f.den) ∷ []) f.num)) →
        AllByRecursion Own (where_some lower (λ f. at_least part 0 ((e.0, f.den) ∷ []) f.num)) → d (position_of part e.0) ≡ pos 0
    unfolding Own
    bounds_still e home None u a b h k = absurd (both_ways false refl a)
    bounds_still e home (Some l) None a b h k = absurd (both_ways false refl b)
    bounds_still e home (Some l) (Some u) a b h k =
        let x = d (position_of part e.0) in
        let above : (u.den *ℤ x) ≤ℤ (pos 0) = subst (λ (t : ℤ). t ≤ℤ (pos 0)) (one_term e.0 u.den home) h.0 in
        let below : (neg_ℤ l.den *ℤ x) ≤ℤ (pos 0) = subst (λ (t : ℤ). t ≤ℤ (pos 0)) (one_term e.0 (neg_ℤ l.den) home) k.0 in
        le_antisym x (pos 0)
        (cancel_le_left u.den x (pos 0) u.positive (rw (mul_zero u.den) above))
        (cancel_le_left l.den (pos 0) x l.positive (rw (mul_zero l.den) (omega (arith, ints, below, neg_mul l.den x))))

    of_columns : AllByRecursion (λ e. ((part_of part e.0 == 0) && not e.1.integer) ≡ true → AllByRecursion Own (sides_of_column part 0 e)) (enumerate_from 0 m.columns)
    of_columns = all_from_kept (λ e. AllByRecursion Own (sides_of_column part 0 e)) (λ e. (part_of part e.0 == 0) && not e.1.integer) (enumerate_from 0 m.columns)
        (all_from_flat Own (sides_of_column part 0) (continuous_in m part 0)
        (all_back Own (flat_map (sides_of_row part 0) (rows_in m part 0)) (flat_map (sides_of_column part 0) (continuous_in m part 0)) owns))

    continuous_still : (e : ℕ × Column) → IsStrictColumn (part_of part e.0) e.1 → part_of part e.0 ≡ 0 → AllByRecursion Own (sides_of_column part 0 e) → d (position_of part e.0) ≡ pos 0
    continuous_still e c home h =
        let us = where_some e.1.upper (λ f. at_most part 0 ((e.0, f.den) ∷ []) f.num) in
        let ls = where_some e.1.lower (λ f. at_least part 0 ((e.0, f.den) ∷ []) f.num) in
        bounds_still e home e.1.lower e.1.upper (c.bounded home).0 (c.bounded home).1 (all_front Own us ls h) (all_back Own us ls h)

    -- ---- the integer columns
    integers_still : AllByRecursion (λ e. d (position_of part e.0) ≡ pos 0) (integers_of m)
    unfolding Falls
    integers_still = all_from_numbered (λ e. d (position_of part e.0) ≡ pos 0) 0 (integers_of m)
        (all_then (λ e. AllByRecursion Falls (sides_of_box part box e)) (λ e. d (position_of part e.1.0) ≡ pos 0) (enumerate_from 0 (integers_of m))
        (all_from_flat Falls (sides_of_box part box) (enumerate_from 0 (integers_of m)) (all_back Falls of_master of_box (all_front Falls (of_master ++ of_box) of_cuts f)))
        (λ e h. le_antisym (d (position_of part e.1.0)) (pos 0) (omega (arith, ints, h.0)) (omega (arith, ints, h.1.0))))

    of_integers : AllByRecursion (λ e. e.1.integer ≡ true → d (position_of part e.0) ≡ pos 0) (enumerate_from 0 m.columns)
    of_integers = all_from_kept (λ e. d (position_of part e.0) ≡ pos 0) (λ e. e.1.integer) (enumerate_from 0 m.columns) integers_still

    -- ---- all of them
    columns_still : AllByRecursion (λ e. part_of part e.0 ≡ 0 → d (position_of part e.0) ≡ pos 0) (enumerate_from 0 m.columns)
    columns_still = all_both _ _ _ (enumerate_from 0 m.columns)
        (all_both _ _ (λ e. part_of part e.0 ≡ 0 → e.1.integer ≡ false → d (position_of part e.0) ≡ pos 0) (enumerate_from 0 m.columns) s.strict.columns of_columns
        (λ e c h home t. continuous_still e c home (h (and_from (part_of part e.0 == 0) (not e.1.integer) (eq-eqb (part_of part e.0) 0 home) (not_from_false e.1.integer t)))))
        of_integers
        (λ e g h home. elim (cases_Bool e.1.integer) [ inl t ↦ h t | inr t ↦ g home t ])

    -- nothing moves at the master's positions
    positions_still : (i : ℕ) → i < width → d i ≡ pos 0
    positions_still i l =
        let c = column_at_is part 0 i l in
        subst (λ (k : ℕ). d k ≡ pos 0) c.position
        (each_number (λ j. part_of part j ≡ 0 → d (position_of part j) ≡ pos 0) 0 m.columns columns_still (column_at part 0 i) (omega arith) (omega (arith, c.within, s.partition.numbers)) c.part_is)

    no_move : (es : List (ℕ × ℤ)) → AllBelow width es → dot es d ≡ pos 0
    no_move es b = dot_same_below width es d (λ i. pos 0) b positions_still ∙ dot_zero es

    -- ---- the etas
    module _ (of_split : AllByRecursion (IsCutOfSplit part) cuts) (floored : AreFloored (blocks_of part) cuts) where
      eta_at_least : (b : ℕ) → b < blocks_of part → (pos 0) ≤ℤ (d (width + b))
      unfolding Falls
      eta_at_least b l =
          let c = floored (suc b) (omega arith) (omega arith) in
          let fits = all_at (IsCutOfSplit part) cuts c.cut of_split c.among in
          let side : Falls (side_of_cut c.cut) = all_at (λ cut. Falls (side_of_cut cut)) cuts c.cut (all_from_mapped Falls side_of_cut cuts (all_back Falls (of_master ++ of_box) of_cuts f)) c.among in
          let place : c.cut.block - 1 ≡ b = rw c.block (omega arith) in
          let at : (dot c.cut.alpha d +ℤ ((neg_ℤ c.cut.p0 *ℤ d (width + b)) +ℤ (pos 0))) ≤ℤ (pos 0) = subst (λ (k : ℕ). (dot c.cut.alpha d +ℤ ((neg_ℤ c.cut.p0 *ℤ d (width + k)) +ℤ (pos 0))) ≤ℤ (pos 0)) place side in
          cancel_le_left c.cut.p0 (pos 0) (d (width + b)) c.eta (rw (mul_zero c.cut.p0) (omega (arith, ints, at, no_move c.cut.alpha fits.alpha, neg_mul c.cut.p0 (d (width + b)))))

      -- so the cost doesn't fall
      cost_stays : (pos 0) ≤ℤ (dot (terms_in part 0 (inner_cost m) ++ ones width (blocks_of part)) d)
      cost_stays = rw (dot_append (terms_in part 0 (inner_cost m)) (ones width (blocks_of part)) d, no_move (terms_in part 0 (inner_cost m)) (cost_terms_within m part 0 s))
          (omega (arith, ints, ones_nonnegative width (blocks_of part) d each))
        where
          each : (j : ℕ) → width ≤ j → j < width + blocks_of part → (pos 0) ≤ℤ (d j)
          each j l u = let e : width + (j - width) ≡ j = omega arith in subst (λ (k : ℕ). (pos 0) ≤ℤ (d k)) e (eta_at_least (j - width) (omega arith))

-- a node's cost falls along no direction
pub node_never_falls : (m : Model) (part : List ℕ) (box : Box) (cuts : List Cut) (d : ℕ → ℤ) → IsDecomposed m part → AllByRecursion (IsCutOfSplit part) cuts → AreFloored (blocks_of part) cuts → IsFallAlong (node m part box cuts mode.Cost) d → ⊥
node_never_falls m part box cuts d s of_split floored f = omega (arith, ints, f.cost, cost_stays m part s box cuts d (sides_fall m part s box cuts d mode.Cost f) of_split floored)

-- and there is none in mode Point
pub points_never_fall : (m : Model) (part : List ℕ) (box : Box) (cuts : List Cut) (d : ℕ → ℤ) → IsFallAlong (node m part box cuts mode.Point) d → ⊥
points_never_fall m part box cuts d f = omega (arith, ints, f.cost)
