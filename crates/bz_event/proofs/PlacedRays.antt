-- The direction of a block over all columns of the model: along it every feasible point stays feasible.
use Rattle.std.specs.Prelude.{ℕ, suc, ◌+◌, ◌<◌, ◌≤◌, ◌≡◌, ◌≢◌, true, false, not, ℤ, pos, ◌*ℤ◌, ◌≤ℤ◌, List, length, get_or, Option, Some, None, IfSome, if◌then◌else◌, ◌==◌, ◌&&◌}
use Rattle.std.specs.List.{AllByRecursion, enumerate_from, flat_map}
use Rattle.std.proofs.Common.{refl, ap, sym, subst, ◌∙◌, arith, inl, inr}
use Rattle.std.proofs.lemmas.Bool.{OnTrue_at, OnTrue_from, and_from, cases_Bool, cases_eq, eq-eqb, ne_eqb, not_from_false}
use Rattle.std.proofs.lemmas.Int.{ints}
use Rattle.std.proofs.lemmas.List.{get_or-map, length-map}
use Rattle.std.proofs.lemmas.List.FromFn.{get_or-enumerate_from, length-enumerate_from}
use Rattle.bz_algebra.specs.Sums.{AllBelow, dot}
use Rattle.bz_algebra.proofs.Ring.{cancel_le_left, mul_zero}
use Rattle.bz_algebra.proofs.SumLemmas.{dot_same_below, dot_zero, upto_only}
use Rattle.bz_num.specs.declared.Frac.{Frac}
use Rattle.bz_model.specs.declared.Column.{Column}
use Rattle.bz_model.specs.declared.Ineq.{Ineq}
use Rattle.bz_model.specs.declared.Model.{Model}
use Rattle.bz_model.specs.declared.Row.{Row}
use Rattle.bz_model.specs.Decomposed.{IsDecomposed}
use Rattle.bz_model.specs.Parting.{IneqHolds, blocks_of, column_at, continuous_in, home_of, inequalities_of, inner_cost, part_of, position_of, rows_in, sides_of_column, sides_of_row, terms_in, width_of}
use Rattle.bz_model.specs.Points.{RowHolds, coordinate}
use Rattle.bz_model.specs.Rays.{ColumnAllows, IsFallingRay, RowAllows}
use Rattle.bz_model.specs.Splits.{FitsPart}
use Rattle.bz_model.specs.Strict.{IsInOneBlock, IsStrictColumn}
use Rattle.bz_model.proofs.InnerCosts.{cost_terms_within, cost_within}
use Rattle.bz_model.proofs.MeetingParts.{all_at_home, all_back, all_both, all_from_flat, all_from_kept, all_front, all_then, column_sides, home_within, numbers_within, row_sides}
use Rattle.bz_model.proofs.PartSums.{at_part, dot_by_parts}
use Rattle.bz_model.proofs.Positions.{column_at_is, part_within_blocks}
use Rattle.bz_std.specs.Meanings.{IsFallAlong}
use Rattle.bz_std.specs.Tasks.{falling_line, floor}
use Rattle.bz_std.proofs.ListFacts.{all_from_mapped}
use Rattle.bz_std.proofs.PosedTasks.{part_fits}
use Rattle.bz_event.specs.Floors.{placed}
use Rattle.bz_event.specs.Laws.{RaysFallInTheModel}

-- ---- the numbers of the placed direction
abbrev pub number_of : List ℕ → ℕ → List ℤ → ℕ × ℕ → ℤ
number_of part b d = λ e. (if e.1 == b then coordinate d (position_of part e.0) else pos 0)

pub length-placed : (part : List ℕ) (b : ℕ) (d : List ℤ) → length (placed part b d) ≡ length part
length-placed part b d = length-map (enumerate_from 0 part) (number_of part b d) ∙ length-enumerate_from 0 part

pub placed_at : (part : List ℕ) (b : ℕ) (d : List ℤ) (j : ℕ) → j < length part → coordinate (placed part b d) j ≡ number_of part b d (j, part_of part j)
placed_at part b d j l = get_or-map (number_of part b d) (enumerate_from 0 part) j (0, 0) (pos 0) (omega (arith, l, length-enumerate_from 0 part)) ∙ ap (number_of part b d) (get_or-enumerate_from 0 part j (0, 0) l ∙ pair)
  where
    same : 0 + j ≡ j
    same = omega arith

    pair : ◌≡◌ {A = ℕ × ℕ} (0 + j, get_or part j 0) (j, part_of part j)
    pair = λ i. (same i, part_of part j)

pub placed_here : (part : List ℕ) (b : ℕ) (d : List ℤ) (j : ℕ) → j < length part → part_of part j ≡ b → coordinate (placed part b d) j ≡ coordinate d (position_of part j)
placed_here part b d j l e = placed_at part b d j l ∙ rw (eq-eqb (part_of part j) b e) refl

pub placed_there : (part : List ℕ) (b : ℕ) (d : List ℤ) (j : ℕ) → j < length part → part_of part j ≢ b → coordinate (placed part b d) j ≡ pos 0
placed_there part b d j l e = placed_at part b d j l ∙ rw (ne_eqb (part_of part j) b e) refl

-- by parts: the block's numbers, and 0 elsewhere
pub at_block : (part : List ℕ) (b : ℕ) (d : List ℤ) (k : ℕ) → k < width_of part b → at_part part b (coordinate (placed part b d)) k ≡ coordinate d k
at_block part b d k l = let c = column_at_is part b k l in placed_here part b d (column_at part b k) c.within c.part_is ∙ ap (coordinate d) c.position

pub at_others : (part : List ℕ) (b other : ℕ) (d : List ℤ) (k : ℕ) → k < width_of part other → other ≢ b → at_part part other (coordinate (placed part b d)) k ≡ pos 0
at_others part b other d k l n = let c = column_at_is part other k l in placed_there part b d (column_at part other k) c.within (λ e. n (sym c.part_is ∙ e))

-- ---- sides without their numbers
where_there : {A : Type 0} (P Q : A → Type 0) (o : Option A) → ((a : A) → P a → Q a) → IfSome o P → IfSome o Q
where_there P Q None f h = tt
where_there P Q (Some a) f h = f a h

row_allows : (ray : List ℤ) (row : Row) → RowHolds row ray (pos 0) → RowAllows ray row
row_allows ray row h = record {
  at_least = where_there (λ l. (l *ℤ pos 0) ≤ℤ dot row.terms (coordinate ray)) (λ l. (pos 0) ≤ℤ dot row.terms (coordinate ray)) row.lower (λ l k. rw (mul_zero l) at k) h.at_least;
  at_most = where_there (λ u. dot row.terms (coordinate ray) ≤ℤ (u *ℤ pos 0)) (λ u. dot row.terms (coordinate ray) ≤ℤ (pos 0)) row.upper (λ u k. rw (mul_zero u) at k) h.at_most;
}

not_below : (f : Frac) (x : ℤ) → (f.num *ℤ pos 0) ≤ℤ (f.den *ℤ x) → (pos 0) ≤ℤ x
not_below f x h = cancel_le_left f.den (pos 0) x f.positive (omega (arith, ints, h, mul_zero f.num, mul_zero f.den))

not_above : (f : Frac) (x : ℤ) → (f.den *ℤ x) ≤ℤ (f.num *ℤ pos 0) → x ≤ℤ (pos 0)
not_above f x h = cancel_le_left f.den x (pos 0) f.positive (omega (arith, ints, h, mul_zero f.num, mul_zero f.den))

some_zero : {A : Type 0} (P : Type 0) (o : Option A) → P → IfSome o (λ a. P)
some_zero P None h = tt
some_zero P (Some a) h = h

module _ (m : Model) (part : List ℕ) (s : IsDecomposed m part) (b : ℕ) (first : 0 < b) (last : b ≤ blocks_of part) (d : List ℤ)
    (f : IsFallAlong (floor m part b) (coordinate d)) where
  abbrev ray : List ℤ
  ray = placed part b d

  abbrev Keeps : ℕ → Ineq → Type 0
  Keeps other i = IneqHolds part other ray (pos 0) i

  -- ---- no inequality of any part rises
  master_stays : (i : Ineq) → AllBelow (width_of part 0) i.master → dot i.master (at_part part 0 (coordinate ray)) ≡ pos 0
  master_stays i below = dot_same_below (width_of part 0) i.master _ (λ k. pos 0) below (λ k l. at_others part b 0 d k l (λ e. omega arith)) ∙ dot_zero i.master

  own_keeps : (i : Ineq) → FitsPart part b i → (dot i.own (coordinate d)) ≤ℤ (pos 0) → Keeps b i
  own_keeps i fits h = omega (arith, ints, h, master_stays i fits.master, dot_same_below (width_of part b) i.own (at_part part b (coordinate ray)) (coordinate d) fits.own (at_block part b d), mul_zero i.rhs)

  other_keeps : (other : ℕ) → other ≢ b → (i : Ineq) → FitsPart part other i → Keeps other i
  other_keeps other n i fits = omega (arith, ints, master_stays i fits.master, dot_same_below (width_of part other) i.own (at_part part other (coordinate ray)) (λ k. pos 0) fits.own (λ k l. at_others part b other d k l n), dot_zero i.own, mul_zero i.rhs)

  own_falls : AllByRecursion (λ i. (dot i.own (coordinate d)) ≤ℤ (pos 0)) (inequalities_of m part b)
  own_falls = all_from_mapped (λ row. (dot row.terms (coordinate d)) ≤ℤ (pos 0)) falling_line (inequalities_of m part b) f.rows

  of_block : AllByRecursion (Keeps b) (inequalities_of m part b)
  of_block = all_both _ _ (Keeps b) (inequalities_of m part b) (part_fits m part s b) own_falls own_keeps

  keeps : (other : ℕ) → AllByRecursion (Keeps other) (inequalities_of m part other)
  keeps other = elim (cases_eq other b) [
    | inl e ↦ subst (λ (k : ℕ). AllByRecursion (Keeps k) (inequalities_of m part k)) (sym e) of_block
    | inr n ↦ all_then _ (Keeps other) (inequalities_of m part other) (part_fits m part s other) (other_keeps other n)
  ]

  -- ---- nor does any row, or a bound
  abbrev of_rows : ℕ → List Ineq
  of_rows other = flat_map (sides_of_row part other) (rows_in m part other)

  abbrev of_columns : ℕ → List Ineq
  of_columns other = flat_map (sides_of_column part other) (continuous_in m part other)

  row_at_home : (row : Row) → AllBelow (length m.columns) row.terms → IsInOneBlock part row.terms → AllByRecursion (Keeps (home_of part row.terms)) (sides_of_row part (home_of part row.terms) row) → RowAllows ray row
  row_at_home row within one sides = row_allows ray row ((row_sides part (home_of part row.terms) ray (pos 0) row (subst (λ (n : ℕ). AllBelow n row.terms) (sym s.partition.numbers) within) one).1 sides)

  sides_at_home : AllByRecursion (λ row. AllByRecursion (Keeps (home_of part row.terms)) (sides_of_row part (home_of part row.terms) row)) m.rows
  sides_at_home = all_at_home (λ other row. AllByRecursion (Keeps other) (sides_of_row part other row)) (λ row. home_of part row.terms) (blocks_of part) m.rows (λ row. home_within part row.terms)
      (λ other l. all_then _ _ m.rows (all_from_kept (λ row. AllByRecursion (Keeps other) (sides_of_row part other row)) (λ row. home_of part row.terms == other) m.rows (all_from_flat (Keeps other) (sides_of_row part other) (rows_in m part other) (all_front (Keeps other) (of_rows other) (of_columns other) (keeps other))))
      (λ row g e. g (eq-eqb (home_of part row.terms) other e)))

  rows_allow : AllByRecursion (RowAllows ray) m.rows
  rows_allow = all_both _ _ (RowAllows ray) m.rows
      (all_both _ _ (λ row. AllBelow (length m.columns) row.terms × IsInOneBlock part row.terms) m.rows s.columns.rows s.strict.rows (λ row g h. (g, h)))
      sides_at_home
      (λ row g sides. row_at_home row g.0 g.1 sides)

  abbrev numbered : List (ℕ × Column)
  numbered = enumerate_from 0 m.columns

  bounds_at_home : AllByRecursion (λ e. e.1.integer ≡ false → AllByRecursion (Keeps (part_of part e.0)) (sides_of_column part (part_of part e.0) e)) numbered
  bounds_at_home = all_at_home (λ other e. e.1.integer ≡ false → AllByRecursion (Keeps other) (sides_of_column part other e)) (λ e. part_of part e.0) (blocks_of part) numbered (λ e. part_within_blocks part e.0)
      (λ other l. all_then _ _ numbered (all_from_kept (λ e. AllByRecursion (Keeps other) (sides_of_column part other e)) (λ e. (part_of part e.0 == other) && not e.1.integer) numbered (all_from_flat (Keeps other) (sides_of_column part other) (continuous_in m part other) (all_back (Keeps other) (of_rows other) (of_columns other) (keeps other))))
      (λ e g at i. g (and_from (part_of part e.0 == other) (not e.1.integer) (eq-eqb (part_of part e.0) other at) (not_from_false e.1.integer i))))

  continuous_allows : (e : ℕ × Column) → e.0 < length part → e.1.integer ≡ false → AllByRecursion (Keeps (part_of part e.0)) (sides_of_column part (part_of part e.0) e) → ColumnAllows e.1 (coordinate ray e.0)
  continuous_allows e l i sides = let w = (column_sides part (part_of part e.0) ray (pos 0) e l refl).1 sides in record {
    at_least = where_there (λ g. (g.num *ℤ pos 0) ≤ℤ (g.den *ℤ coordinate ray e.0)) (λ g. (pos 0) ≤ℤ coordinate ray e.0) e.1.lower (λ g k. not_below g (coordinate ray e.0) k) w.at_least;
    at_most = where_there (λ g. (g.den *ℤ coordinate ray e.0) ≤ℤ (g.num *ℤ pos 0)) (λ g. coordinate ray e.0 ≤ℤ (pos 0)) e.1.upper (λ g k. not_above g (coordinate ray e.0) k) w.at_most;
    integer = OnTrue_from e.1.integer (coordinate ray e.0 ≡ pos 0) (λ t. absurd cc);
  }

  -- an integer column is one of the master
  integer_allows : (e : ℕ × Column) → e.0 < length part → IsStrictColumn (part_of part e.0) e.1 → e.1.integer ≡ true → ColumnAllows e.1 (coordinate ray e.0)
  integer_allows e l h t =
      let home : part_of part e.0 ≡ 0 = OnTrue_at t h.integer in
      let stays : coordinate ray e.0 ≡ pos 0 = placed_there part b d e.0 l (λ k. omega arith) in
      record {
        at_least = some_zero ((pos 0) ≤ℤ coordinate ray e.0) e.1.lower (omega (arith, ints, stays));
        at_most = some_zero (coordinate ray e.0 ≤ℤ (pos 0)) e.1.upper (omega (arith, ints, stays));
        integer = OnTrue_from e.1.integer (coordinate ray e.0 ≡ pos 0) (λ k. stays);
      }

  column_allows : (e : ℕ × Column) → (e.0 < length part) × IsStrictColumn (part_of part e.0) e.1 → (e.1.integer ≡ false → AllByRecursion (Keeps (part_of part e.0)) (sides_of_column part (part_of part e.0) e)) → ColumnAllows e.1 (coordinate ray e.0)
  column_allows e g sides = elim (cases_Bool e.1.integer) [
    | inl t ↦ integer_allows e g.0 g.1 t
    | inr i ↦ continuous_allows e g.0 i (sides i)
  ]

  columns_allow : AllByRecursion (λ e. ColumnAllows e.1 (coordinate ray e.0)) numbered
  columns_allow = all_both _ _ (λ e. ColumnAllows e.1 (coordinate ray e.0)) numbered
      (all_both (λ e. e.0 < length part) (λ e. IsStrictColumn (part_of part e.0) e.1) (λ e. (e.0 < length part) × IsStrictColumn (part_of part e.0) e.1) numbered (numbers_within 0 (length part) m.columns (omega (arith, s.partition.numbers))) s.strict.columns (λ e l h. (l, h)))
      bounds_at_home column_allows

  -- ---- the cost falls
  cost_is : dot (inner_cost m) (coordinate ray) ≡ dot (terms_in part b (inner_cost m)) (coordinate d)
  cost_is = dot_by_parts part (inner_cost m) (coordinate ray) (cost_within m part s)
      ∙ upto_only (suc (blocks_of part)) b (λ k. dot (terms_in part k (inner_cost m)) (at_part part k (coordinate ray))) (omega arith)
      (λ k l n. dot_same_below (width_of part k) (terms_in part k (inner_cost m)) _ (λ j. pos 0) (cost_terms_within m part k s) (λ j i. at_others part b k d j i n) ∙ dot_zero (terms_in part k (inner_cost m)))
      ∙ dot_same_below (width_of part b) (terms_in part b (inner_cost m)) _ (coordinate d) (cost_terms_within m part b s) (at_block part b d)

  pub is_falling_ray : IsFallingRay m ray
  is_falling_ray = record {
    numbers = length-placed part b d ∙ s.partition.numbers;
    rows = rows_allow;
    columns = columns_allow;
    cost = omega (arith, ints, f.cost, cost_is);
  }

pub floor_ray_falls : RaysFallInTheModel
floor_ray_falls m part b d s first last h = is_falling_ray m part s b first last d h.falls
