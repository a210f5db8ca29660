-- Lists of ends of integer columns: while they grow, when they are complete, and as a box.
use Rattle.std.specs.Prelude.{ℕ, suc, ◌+◌, ◌≤◌, ◌≡◌, Bool, true, false, cond, ℤ, List, [], ◌∷◌, ◌++◌, length, filter, map, drop}
use Rattle.std.specs.List.{AllByRecursion, enumerate_from}
use Rattle.std.proofs.Common.{refl, ap, sym, subst, ◌∙◌, arith, append-nil}
use Rattle.bz_algebra.specs.Numbers.{IsNarrow}
use Rattle.bz_model.specs.declared.Column.{Column}
use Rattle.bz_model.specs.declared.Model.{Model}
use Rattle.bz_model.specs.Parting.{integers_of}
use Rattle.bz_model.specs.Points.{coordinate}
use Rattle.bz_model.proofs.MeetingParts.{all_both}
use Rattle.bz_model.proofs.Sparse.{none_left}
use Rattle.bz_tree.specs.Boxes.{IsRootBox}
use Rattle.bz_tree.specs.Ends.{AreEnds, IsLowerEnd, IsUpperEnd, integers_among}

-- the ends so far, followed by those of the columns that are left, are those of all columns
abbrev pub SoFar : (Column → ℤ → Type 0) → List Column → List Column → List ℤ → Type 0
SoFar IsEnd columns rest ends = (more : List ℤ) → AreEnds IsEnd (integers_among rest) more → AreEnds IsEnd (integers_among columns) (ends ++ more)

pub all_ends : (IsEnd : Column → ℤ → Type 0) (columns : List Column) (i : ℕ) (ends : List ℤ) → length columns ≤ i → SoFar IsEnd columns (drop i columns) ends → AreEnds IsEnd (integers_among columns) ends
all_ends IsEnd columns i ends l so = rw append-nil at (so [] (rw (none_left columns i l) tt))

-- ---- the ends as a side of a box
-- the integer columns with and without their numbers
kept_alike : (b : Bool) (n : ℕ) (c : Column) (es : List (ℕ × Column)) (cs : List Column) → map (λ e. e.1) es ≡ cs → map (λ (e : ℕ × Column). e.1) (cond b ((n, c) ∷ es) es) ≡ cond b (c ∷ cs) cs
kept_alike true n c es cs h = ap (λ (ds : List Column). c ∷ ds) h
kept_alike false n c es cs h = h

without_numbers : (n : ℕ) (columns : List Column) → map (λ e. e.1) (filter (λ (e : ℕ × Column). e.1.integer) (enumerate_from n columns)) ≡ integers_among columns
without_numbers n [] = refl
without_numbers n (c ∷ cs) = kept_alike c.integer n c _ _ (without_numbers (n + 1) cs)

module _ (IsEnd : Column → ℤ → Type 0) where
  count_same : (es : List (ℕ × Column)) (ends : List ℤ) → AreEnds IsEnd (map (λ e. e.1) es) ends → length ends ≡ length es
  count_same [] [] h = refl
  count_same [] (z ∷ zs) h = absurd h
  count_same (e ∷ es) [] h = absurd h
  count_same (e ∷ es) (z ∷ zs) h = ap suc (count_same es zs h.1)

  -- each number of the list is an end of the integer column with its number
  each_end : (all : List ℤ) (k : ℕ) (es : List (ℕ × Column)) (ends : List ℤ) → AreEnds IsEnd (map (λ e. e.1) es) ends → ((i : ℕ) → coordinate all (k + i) ≡ coordinate ends i) → AllByRecursion (λ e. IsEnd e.1.1 (coordinate all e.0)) (enumerate_from k es)
  each_end all k [] ends h at = tt
  each_end all k (e ∷ es) [] h at = absurd h
  each_end all k (e ∷ es) (z ∷ zs) h at = (
    subst (IsEnd e.1) (sym (ap (coordinate all) (let n : k ≡ k + 0 = omega arith in n) ∙ at 0)) h.0,
    each_end all (k + 1) es zs h.1 (λ i. ap (coordinate all) (let n : k + 1 + i ≡ k + suc i = omega arith in n) ∙ at (suc i)),
  )

  -- what each end is, each number of the list is
  pub each_is : (P : ℤ → Type 0) (columns : List Column) (ends : List ℤ) → ((c : Column) (z : ℤ) → IsEnd c z → P z) → AreEnds IsEnd columns ends → AllByRecursion P ends
  each_is P [] [] f h = tt
  each_is P [] (z ∷ zs) f h = absurd h
  each_is P (c ∷ cs) [] f h = absurd h
  each_is P (c ∷ cs) (z ∷ zs) f h = (f c z h.0, each_is P cs zs f h.1)

numbered : (IsEnd : Column → ℤ → Type 0) (m : Model) (ends : List ℤ) → AreEnds IsEnd (integers_among m.columns) ends → AreEnds IsEnd (map (λ e. e.1) (integers_of m)) ends
numbered IsEnd m ends h = subst (λ (cs : List Column). AreEnds IsEnd cs ends) (sym (without_numbers 0 m.columns)) h

-- the ends make the box of the whole model
pub ends_are_root : (m : Model) (lower upper : List ℤ) → AreEnds IsLowerEnd (integers_among m.columns) lower → AreEnds IsUpperEnd (integers_among m.columns) upper → IsRootBox m (record { lower = lower; upper = upper })
ends_are_root m lower upper l u = record {
  lowers = count_same IsLowerEnd (integers_of m) lower (numbered IsLowerEnd m lower l);
  uppers = count_same IsUpperEnd (integers_of m) upper (numbered IsUpperEnd m upper u);
  rounded = all_both _ _ _ (enumerate_from 0 (integers_of m))
      (each_end IsLowerEnd lower 0 (integers_of m) lower (numbered IsLowerEnd m lower l) (λ i. ap (coordinate lower) (let n : 0 + i ≡ i = omega arith in n)))
      (each_end IsUpperEnd upper 0 (integers_of m) upper (numbered IsUpperEnd m upper u) (λ i. ap (coordinate upper) (let n : 0 + i ≡ i = omega arith in n)))
      (λ e h g. (h.rounded, g.rounded));
}

-- no end is wide
pub ends_are_narrow : (columns : List Column) (lower upper : List ℤ) → AreEnds IsLowerEnd columns lower → AreEnds IsUpperEnd columns upper → AllByRecursion IsNarrow lower × AllByRecursion IsNarrow upper
ends_are_narrow columns lower upper l u = (each_is IsLowerEnd IsNarrow columns lower (λ c z h. h.narrow) l, each_is IsUpperEnd IsNarrow columns upper (λ c z h. h.narrow) u)
