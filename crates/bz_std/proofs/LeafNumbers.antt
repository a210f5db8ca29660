-- The right sides of a program's rows are those of the program that is posed; and a leaf's bound is their sum.
use Rattle.std.proofs.Common.{◌≡◌, refl, sym, ap, subst, ◌∙◌, ℕ, zero, suc, ◌<◌, List, [], ◌∷◌, length, get_or, map, arith, ℤ, Ok, Err, Result}
use Rattle.std.proofs.lemmas.List.{length-map}
use Rattle.std.specs.Result.{IsErrAnd, IfErr}
use Rattle.bz_num.specs.declared.WideSum.{WideSum}
use Rattle.bz_num.specs.Fold.{IsNarrowSum, fold_of, pairs_at}
use Rattle.bz_num.proofs.NarrowSums.{dot_where_ok, narrow_where_ok, wide_where_err}
use Rattle.bz_model.specs.declared.Ineq.{Ineq}
use Rattle.bz_model.specs.declared.Model.{Model}
use Rattle.bz_model.specs.Parting.{width_of}
use Rattle.bz_cut.specs.declared.Cut.{Cut}
use Rattle.bz_cut.specs.declared.Mode.{Mode}
use Rattle.bz_cut.specs.Rows.{rhs_at}
use Rattle.bz_tree.specs.declared.Leaf.{Leaf}
use Rattle.bz_tree.specs.Boxes.{Box}
use Rattle.bz_tree.specs.Leaves.{sides_of}
use Rattle.bz_tree.specs.TreeFits.{FitsLeaf}
use Rattle.bz_tableau.specs.declared.programs.Lp.{Lp}
use Rattle.bz_tableau.specs.declared.programs.LpRow.{LpRow}
use Rattle.bz_std.specs.declared.making.MakeStop.{MakeStop}
use Rattle.bz_std.specs.declared.making.MakeStop.TheVariants as stop
use Rattle.bz_std.specs.CutsFrom.{AreEntries}
use Rattle.bz_std.specs.Making.{HasNarrowSide, HasWideSide}
use Rattle.bz_std.specs.Meanings.{right_at, sum_right}
use Rattle.bz_std.specs.Posed.{IsProgramOf, Line, Posed, line_of, line_over_columns}
use Rattle.bz_std.specs.Tasks.{node, side_line}
use Rattle.bz_std.proofs.Entries.{entries_sum}

-- a wide sum that is passed on
pub stops_wide : {A : Type 0} (P : MakeStop → Type 0) (result : Result A MakeStop) → IsErrAnd result (λ e. e ≡ stop.Wide) → P stop.Wide → IfErr result P
stops_wide P (Ok a) told h = absurd told
stops_wide P (Err e) told h = subst P (sym told) h

-- a stop that is passed on
pub stops_passed : {A : Type 0} (P : MakeStop → Type 0) (s : MakeStop) (result : Result A MakeStop) → IsErrAnd result (λ e. e ≡ s) → P s → IfErr result P
stops_passed P s (Ok a) told h = absurd told
stops_passed P s (Err e) told h = subst P (sym told) h

-- ---- right sides
pub right_at_is : (rows : List LpRow) (n : ℕ) (d : LpRow) → n < length rows → (get_or rows n d).rhs ≡ right_at (map line_of rows) n
right_at_is [] n d l = absurd (omega arith)
right_at_is (r ∷ rows) zero d l = refl
right_at_is (r ∷ rows) (suc n) d l = right_at_is rows n d (omega arith)

right_over : (rows : List Line) (i : ℕ) → right_at (map line_over_columns rows) i ≡ right_at rows i
right_over [] i = refl
right_over (r ∷ rows) zero = refl
right_over (r ∷ rows) (suc i) = right_over rows i

module _ (q : Posed) (lp : Lp) (h : IsProgramOf q lp) where
  right_sides : right_at (map line_of lp.rows) ≡ right_at q.rows
  right_sides = λ k i. (ap (λ (rows : List Line). right_at rows i) h.rows ∙ right_over q.rows i) k

  rows_count : length lp.rows ≡ length q.rows
  rows_count = sym (length-map lp.rows line_of) ∙ ap (λ (rows : List Line). length rows) h.rows ∙ length-map q.rows line_over_columns

  module _ (y : ℕ → ℤ) (lambda : List (ℕ × ℤ)) (e : AreEntries (length lp.rows) y lambda) where
    pub entries_posed : AreEntries (length q.rows) y lambda
    entries_posed = subst (λ (n : ℕ). AreEntries n y lambda) rows_count e

    pub bound_is : (z : ℤ) → Ok z ≡ fold_of (pairs_at lambda (right_at (map line_of lp.rows))) → sum_right q y ≡ z
    bound_is z same = sym (entries_sum (length q.rows) y (right_at q.rows) lambda entries_posed)
        ∙ dot_where_ok lambda (right_at q.rows) (Ok z) z (same ∙ ap (λ (f : ℕ → ℤ). fold_of (pairs_at lambda f)) right_sides) refl

    pub bound_narrow : (z : ℤ) → Ok z ≡ fold_of (pairs_at lambda (right_at (map line_of lp.rows))) → IsNarrowSum (pairs_at lambda (right_at q.rows))
    bound_narrow z same = narrow_where_ok (pairs_at lambda (right_at q.rows)) (Ok z) z (same ∙ ap (λ (f : ℕ → ℤ). fold_of (pairs_at lambda f)) right_sides) refl

    pub bound_wide : (w : WideSum) → Err w ≡ fold_of (pairs_at lambda (right_at (map line_of lp.rows))) → HasWideSide q y
    bound_wide w same = record {
      lambda = lambda;
      entries = entries_posed;
      wide = wide_where_err (pairs_at lambda (right_at q.rows)) (Err w) w (same ∙ ap (λ (g : ℕ → ℤ). fold_of (pairs_at lambda g)) right_sides) refl;
    }

-- ---- leaves that fit
right_of_sides : (n : ℕ) (sides : List Ineq) (i : ℕ) → right_at (map (side_line n) sides) i ≡ rhs_at sides i
right_of_sides n [] i = refl
right_of_sides n (s ∷ sides) zero = refl
right_of_sides n (s ∷ sides) (suc i) = right_of_sides n sides i

pub leaf_narrow : (m : Model) (part : List ℕ) (box : Box) (cuts : List Cut) (way : Mode) (leaf : Leaf) → FitsLeaf m part box cuts leaf → HasNarrowSide (node m part box cuts way) leaf.lambda
leaf_narrow m part box cuts way leaf f =
    let same : rhs_at (sides_of m part box cuts) ≡ right_at (map (side_line (width_of part 0)) (sides_of m part box cuts)) = λ k i. sym (right_of_sides (width_of part 0) (sides_of m part box cuts) i) k in
    subst (λ (g : ℕ → ℤ). IsNarrowSum (pairs_at leaf.lambda g)) same f.rhs
