-- Each feasible point in a box lies in one of the two boxes of a split of it.
use Rattle.std.specs.Prelude.{ℕ, zero, suc, ◌+◌, ◌≡◌, ◌⊎◌, ℤ, pos, ◌*ℤ◌, ◌≤ℤ◌, ◌<ℤ◌, List, [], ◌∷◌, length, Option, Some, IfSome, set, slice_get, nat_lt}
use Rattle.std.specs.List.{AllByRecursion, enumerate_from}
use Rattle.std.proofs.Common.{ap, sym, subst, ◌∙◌, arith, inl, inr}
use Rattle.std.proofs.Math.Seq.{set_out}
use Rattle.std.proofs.lemmas.Bool.{cases_Bool, cases_eq, ltb-true, ltb-false, OnTrue_at}
use Rattle.std.proofs.lemmas.Int.{ints, by_lt_z}
use Rattle.std.proofs.lemmas.List.{get_or-set_same, get_or-set_other}
use Rattle.bz_algebra.proofs.Ring.{mul_le_right}
use Rattle.bz_model.specs.declared.Model.{Model}
use Rattle.bz_model.specs.Parting.{integers_of}
use Rattle.bz_model.specs.Points.{coordinate, IsFeasible, IsWhole}
use Rattle.bz_model.proofs.MeetingParts.{all_both, all_then, all_kept}
use Rattle.bz_tree.specs.Boxes.{Box, LiesIn}
use Rattle.bz_tree.specs.Trees.{IsSplitOf, with_upper, with_lower}

-- ---- lists
-- what holds of all holds of the one at a place
all_at : {X : Type 0} (P : X → Type 0) (xs : List X) (k : ℕ) (x : X) → AllByRecursion P xs → slice_get xs k ≡ Some x → P x
all_at P [] k x h e = absurd cc
all_at P (y ∷ ys) zero x h e = let same : y ≡ x = cc in subst P same h.0
all_at P (y ∷ ys) (suc k) x h e = all_at P ys k x h.1 e

-- each element is at its number
at_numbers : {X : Type 0} (f : ℕ → Option X) (n : ℕ) (xs : List X) → ((i : ℕ) → f (n + i) ≡ slice_get xs i) → AllByRecursion (λ e. f e.0 ≡ Some e.1) (enumerate_from n xs)
at_numbers f n [] h = tt
at_numbers f n (x ∷ xs) h = (ap f (let z : n ≡ n + 0 = omega arith in z) ∙ h 0, at_numbers f (n + 1) xs (λ i. ap f (let z : n + 1 + i ≡ n + suc i = omega arith in z) ∙ h (suc i)))

-- a number of a list of which one is replaced is the new one or the old one
after_set : (P : ℤ → Type 0) (xs : List ℤ) (k j : ℕ) (v : ℤ) → (j ≡ k → P v) → P (coordinate xs j) → P (coordinate (set xs k v) j)
after_set P xs k j v h g = elim (cases_eq j k) [
  | inl e ↦ elim (cases_Bool (nat_lt k (length xs))) [
    | inl t ↦ subst P (sym (ap (coordinate (set xs k v)) e ∙ get_or-set_same xs k v (pos 0) (ltb-true k (length xs) t))) (h e)
    | inr t ↦ subst (λ (ys : List ℤ). P (coordinate ys j)) (sym (set_out xs k v (ltb-false k (length xs) t))) g
  ]
  | inr d ↦ subst P (sym (get_or-set_other xs k j v (pos 0) d)) g
]

-- ---- the two sides of a split
module _ (m : Model) (part : List ℕ) (box : Box) (k position : ℕ) (left right : ℤ) (p : List ℤ) (q : ℤ) (s : IsSplitOf m part k position left right) (l : LiesIn m box p q) where
  -- what holds of the split's column holds of the integer column with its number
  at_column : (P : ℕ → Type 0) (e : ℕ × _) → slice_get (integers_of m) e.0 ≡ Some e.1 → e.0 ≡ k → P s.column.0 → P e.1.0
  at_column P e f same h = subst (λ (o : Option _). IfSome o (λ c. P c.0)) (sym s.is_column ∙ ap (slice_get (integers_of m)) (sym same) ∙ f) h

  lies_below : (coordinate p s.column.0) ≤ℤ (left *ℤ q) → LiesIn m (with_upper k left box) p q
  lies_below h = all_both _ _ _ (enumerate_from 0 (integers_of m)) (at_numbers (slice_get (integers_of m)) 0 (integers_of m) (λ i. ap (slice_get (integers_of m)) (let z : 0 + i ≡ i = omega arith in z))) l
      (λ e f g. (g.0, after_set (λ (v : ℤ). (coordinate p e.1.0) ≤ℤ (v *ℤ q)) box.upper k e.0 left (λ same. at_column (λ (j : ℕ). (coordinate p j) ≤ℤ (left *ℤ q)) e f same h) g.1))

  lies_above : (right *ℤ q) ≤ℤ (coordinate p s.column.0) → LiesIn m (with_lower k right box) p q
  lies_above h = all_both _ _ _ (enumerate_from 0 (integers_of m)) (at_numbers (slice_get (integers_of m)) 0 (integers_of m) (λ i. ap (slice_get (integers_of m)) (let z : 0 + i ≡ i = omega arith in z))) l
      (λ e f g. (after_set (λ (v : ℤ). (v *ℤ q) ≤ℤ (coordinate p e.1.0)) box.lower k e.0 right (λ same. at_column (λ (j : ℕ). (right *ℤ q) ≤ℤ (coordinate p j)) e f same h) g.0, g.1))

  -- a whole number is at most the one number or at least the next
  whole_side : pos 0 <ℤ q → IsWhole (coordinate p s.column.0) q → LiesIn m (with_upper k left box) p q ⊎ LiesIn m (with_lower k right box) p q
  whole_side some w = by_lt_z left w.0
      (λ (more : left <ℤ w.0). inr (lies_above (rw w.1 (mul_le_right right w.0 q (omega (arith, ints)) (omega (arith, ints, s.next))))))
      (λ (less : w.0 ≤ℤ left). inl (lies_below (rw w.1 (mul_le_right w.0 left q (omega (arith, ints)) less))))

-- each feasible point of the box is in one of the two boxes
pub in_a_side : (m : Model) (part : List ℕ) (box : Box) (k position : ℕ) (left right : ℤ) (p : List ℤ) (q : ℤ) → IsSplitOf m part k position left right → IsFeasible m p q → LiesIn m box p q → LiesIn m (with_upper k left box) p q ⊎ LiesIn m (with_lower k right box) p q
in_a_side m part box k position left right p q s f l = whole_side m part box k position left right p q s l f.positive
    (all_at (λ e. IsWhole (coordinate p e.0) q) (integers_of m) k s.column
    (all_kept (λ e. IsWhole (coordinate p e.0) q) _ (enumerate_from 0 m.columns) (all_then _ _ (enumerate_from 0 m.columns) f.columns (λ e c i. OnTrue_at i c.integer)))
    s.is_column)
