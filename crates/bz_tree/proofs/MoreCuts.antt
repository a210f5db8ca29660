-- A leaf that holds and fits still does when cuts are appended.
use Rattle.std.specs.Prelude.{ℕ, zero, suc, ◌<◌, ◌≤◌, ◌≡◌, ℤ, ◌*ℤ◌, List, [], ◌∷◌, ◌++◌, length, map}
use Rattle.std.specs.List.{enumerate_from, flat_map}
use Rattle.std.proofs.Common.{refl, ap, sym, subst, ◌∙◌, ◌+◌, arith, append_assoc}
use Rattle.std.proofs.Math.IntN.{neg_ℤ}
use Rattle.std.proofs.lemmas.List.{length-append, map-append}
use Rattle.bz_algebra.specs.Sums.{AllBelow, coef, dot}
use Rattle.bz_algebra.proofs.SumLemmas.{dot_same_below}
use Rattle.bz_model.specs.declared.Ineq.{Ineq}
use Rattle.bz_model.specs.declared.Model.{Model}
use Rattle.bz_model.specs.Parting.{inequalities_of, inner_cost, integers_of, terms_in}
use Rattle.bz_cut.specs.declared.Cut.{Cut}
use Rattle.bz_cut.specs.Rows.{AreMultipliers, master_at, own_at, rhs_at}
use Rattle.bz_cut.proofs.Steps.{multipliers_below}
use Rattle.bz_tree.specs.Boxes.{Box}
use Rattle.bz_tree.specs.Laws.{LeavesKeep}
use Rattle.bz_num.specs.Fold.{IsNarrowSum, pairs_at}
use Rattle.bz_tree.specs.TreeFits.{FitsLeaf}
use Rattle.bz_tree.specs.declared.records.Leaf.{Leaf}
use Rattle.bz_tree.specs.Leaves.{LeafHolds, side_of_cut, side_of_master, sides_of, sides_of_box}

-- ---- a list with more behind it has the same at its places
own_kept : (xs ys : List Ineq) (n : ℕ) → n < length xs → own_at (xs ++ ys) n ≡ own_at xs n
own_kept [] ys n l = absurd (omega arith)
own_kept (x ∷ xs) ys zero l = refl
own_kept (x ∷ xs) ys (suc n) l = own_kept xs ys n (omega arith)

master_kept : (xs ys : List Ineq) (n : ℕ) → n < length xs → master_at (xs ++ ys) n ≡ master_at xs n
master_kept [] ys n l = absurd (omega arith)
master_kept (x ∷ xs) ys zero l = refl
master_kept (x ∷ xs) ys (suc n) l = master_kept xs ys n (omega arith)

rhs_kept : (xs ys : List Ineq) (n : ℕ) → n < length xs → rhs_at (xs ++ ys) n ≡ rhs_at xs n
rhs_kept [] ys n l = absurd (omega arith)
rhs_kept (x ∷ xs) ys zero l = refl
rhs_kept (x ∷ xs) ys (suc n) l = rhs_kept xs ys n (omega arith)

multipliers_kept : (n m : ℕ) (es : List (ℕ × ℤ)) → n ≤ m → AreMultipliers n es → AreMultipliers m es
multipliers_kept n m [] l h = tt
multipliers_kept n m (e ∷ es) l h = ((omega (arith, h.0.0), h.0.1), multipliers_kept n m es l h.1)

-- the sides with more cuts
more_sides : (m : Model) (part : List ℕ) (box : Box) (cuts more : List Cut) → sides_of m part box (cuts ++ more) ≡ sides_of m part box cuts ++ map side_of_cut more
more_sides m part box cuts more =
    let front : List Ineq = map side_of_master (inequalities_of m part 0) ++ flat_map (sides_of_box part box) (enumerate_from 0 (integers_of m)) in
    ap (λ (t : List Ineq). front ++ t) (map-append side_of_cut cuts more) ∙ sym (append_assoc front (map side_of_cut cuts) (map side_of_cut more))

holds_keep : (m : Model) (part : List ℕ) (box : Box) (cuts more : List Cut) (leaf : Leaf) → LeafHolds m part box cuts leaf → LeafHolds m part box (cuts ++ more) leaf
holds_keep m part box cuts more leaf h =
    let old : List Ineq = sides_of m part box cuts in
    let new : List Ineq = map side_of_cut more in
    let same : sides_of m part box (cuts ++ more) ≡ old ++ new = more_sides m part box cuts more in
    let below : AllBelow (length old) leaf.lambda = multipliers_below (length old) leaf.lambda h.lambda in
    let longer : length (old ++ new) ≡ length old + length new = length-append old new in
    record {
      lambda = subst (λ (s : List Ineq). AreMultipliers (length s) leaf.lambda) (sym same) (multipliers_kept (length old) (length (old ++ new)) leaf.lambda (omega (arith, longer)) h.lambda);
      delta = h.delta;
      master = λ i b. subst (λ (s : List Ineq). dot leaf.lambda (λ n. coef (master_at s n) i) ≡ neg_ℤ (leaf.delta *ℤ coef (terms_in part 0 (inner_cost m)) i)) (sym same)
          (dot_same_below (length old) leaf.lambda _ _ below (λ n l. ap (λ (es : List (ℕ × ℤ)). coef es i) (master_kept old new n l)) ∙ h.master i b);
      etas = λ i b. subst (λ (s : List Ineq). dot leaf.lambda (λ n. coef (own_at s n) i) ≡ neg_ℤ leaf.delta) (sym same)
          (dot_same_below (length old) leaf.lambda _ _ below (λ n l. ap (λ (es : List (ℕ × ℤ)). coef es i) (own_kept old new n l)) ∙ h.etas i b);
      rhs = subst (λ (s : List Ineq). dot leaf.lambda (rhs_at s) ≡ neg_ℤ leaf.bound) (sym same) (dot_same_below (length old) leaf.lambda _ _ below (λ n l. rhs_kept old new n l) ∙ h.rhs);
      empty = h.empty;
    }

-- ---- the products of the sums
same_pairs : (n : ℕ) (es : List (ℕ × ℤ)) (f g : ℕ → ℤ) → AllBelow n es → ((k : ℕ) → k < n → f k ≡ g k) → pairs_at es f ≡ pairs_at es g
same_pairs n [] f g below same = refl
same_pairs n (e ∷ es) f g below same =
    let first : f e.0 ≡ g e.0 = same e.0 below.0 in
    rw first (ap (λ (ps : List (ℤ × ℤ)). (e.1, g e.0) ∷ ps) (same_pairs n es f g below.1 same))

fits_keep : (m : Model) (part : List ℕ) (box : Box) (cuts more : List Cut) (leaf : Leaf) → AreMultipliers (length (sides_of m part box cuts)) leaf.lambda → FitsLeaf m part box cuts leaf → FitsLeaf m part box (cuts ++ more) leaf
fits_keep m part box cuts more leaf lambda fits =
    let old : List Ineq = sides_of m part box cuts in
    let new : List Ineq = map side_of_cut more in
    let same : sides_of m part box (cuts ++ more) ≡ old ++ new = more_sides m part box cuts more in
    let below : AllBelow (length old) leaf.lambda = multipliers_below (length old) leaf.lambda lambda in
    record {
      master = λ i b.
          let kept : pairs_at leaf.lambda (λ n. coef (master_at (old ++ new) n) i) ≡ pairs_at leaf.lambda (λ n. coef (master_at old n) i) =
          same_pairs (length old) leaf.lambda _ _ below (λ n l. ap (λ (es : List (ℕ × ℤ)). coef es i) (master_kept old new n l)) in
          let narrow : IsNarrowSum (pairs_at leaf.lambda (λ n. coef (master_at (old ++ new) n) i)) = rw kept (fits.master i b).sum in
          record {
            sum = subst (λ (s : List Ineq). IsNarrowSum (pairs_at leaf.lambda (λ n. coef (master_at s n) i))) (sym same) narrow;
            other = (fits.master i b).other;
          };
      etas = λ i b.
          let kept : pairs_at leaf.lambda (λ n. coef (own_at (old ++ new) n) i) ≡ pairs_at leaf.lambda (λ n. coef (own_at old n) i) =
          same_pairs (length old) leaf.lambda _ _ below (λ n l. ap (λ (es : List (ℕ × ℤ)). coef es i) (own_kept old new n l)) in
          let narrow : IsNarrowSum (pairs_at leaf.lambda (λ n. coef (own_at (old ++ new) n) i)) = rw kept (fits.etas i b) in
          subst (λ (s : List Ineq). IsNarrowSum (pairs_at leaf.lambda (λ n. coef (own_at s n) i))) (sym same) narrow;
      rhs =
          let kept : pairs_at leaf.lambda (rhs_at (old ++ new)) ≡ pairs_at leaf.lambda (rhs_at old) =
          same_pairs (length old) leaf.lambda _ _ below (λ n l. rhs_kept old new n l) in
          let narrow : IsNarrowSum (pairs_at leaf.lambda (rhs_at (old ++ new))) = rw kept fits.rhs in
          subst (λ (s : List Ineq). IsNarrowSum (pairs_at leaf.lambda (rhs_at s))) (sym same) narrow;
    }

pub leaves_keep : LeavesKeep
leaves_keep = record { holds = holds_keep; fits = fits_keep }
