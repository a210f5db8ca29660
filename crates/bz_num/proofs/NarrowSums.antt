-- The sum that a fold gives is narrow.
use Rattle.std.proofs.Common.{◌≡◌, ◌↔◌, refl, sym, ◌∙◌, ap, subst, ℕ, ◌+◌, false, List, [], ◌∷◌, arith, ℤ, pos, ◌+ℤ◌, ◌*ℤ◌, Result, Ok, Err, IfOk, IsOk, inl, inr}
use Rattle.std.proofs.lemmas.Bool.{cases_Bool}
use Rattle.std.proofs.lemmas.Bool.Decides.{nat_tests}
use Rattle.bz_algebra.specs.Numbers.{IsNarrow}
use Rattle.bz_num.specs.declared.products.WideSum.{WideSum}
use Rattle.bz_algebra.specs.Sums.{dot}
use Rattle.bz_num.specs.Fold.{IsNarrowSum, fold_from, fold_of, goes_wide, pairs_at, products}
use Rattle.bz_num.proofs.Folds.{fold-from_narrow, narrow-from_fold, products-pairs_at, sum-from_fold}

narrow_next : (sum : ℤ) (p : ℤ × ℤ) → goes_wide sum p ≡ false → IsNarrow (sum +ℤ (p.0 *ℤ p.1))
narrow_next sum p h = grind (arith, nat_tests)

-- the sum that a fold gives
pub fold_narrow : (at : ℕ) (sum : ℤ) (ps : List (ℤ × ℤ)) → IsNarrow sum → IfOk (fold_from at sum ps) IsNarrow
fold_narrow at sum [] h = h
fold_narrow at sum (p ∷ ps) h = elim (cases_Bool (goes_wide sum p)) [
  | inl t ↦ rw t tt
  | inr t ↦ rw t (fold_narrow (at + 1) (sum +ℤ (p.0 *ℤ p.1)) ps (narrow_next sum p t))
]

pub fold_of_narrow : (ps : List (ℤ × ℤ)) → IfOk (fold_of ps) IsNarrow
fold_of_narrow ps = fold_narrow 0 (pos 0) ps (omega arith)

pub narrow_from : (ps : List (ℤ × ℤ)) (r : Result ℤ WideSum) → r ≡ fold_of ps → IfOk r IsNarrow
narrow_from ps r h = rw h (fold_of_narrow ps)

pub narrow_for : (ps : List (ℤ × ℤ)) (r : Result ℤ WideSum) → r ≡ fold_of ps → (x : ℤ) → r ≡ Ok x → IsNarrow x
narrow_for ps r h x e = let P : Result ℤ WideSum → Type 0 = λ s. IfOk s IsNarrow in subst P e (narrow_from ps r h)

pub result_narrow : (ps : List (ℤ × ℤ)) (z : ℤ) → fold_of ps ≡ Ok z → IsNarrow z
result_narrow ps z h = narrow_for ps (fold_of ps) refl z h

-- a fold gives the sum where no pair is wide
pub fold_gives : (ps : List (ℤ × ℤ)) (z : ℤ) → IsNarrowSum ps → products ps ≡ z → fold_of ps ≡ Ok z
fold_gives ps z n e = fold-from_narrow ps n ∙ ap Ok e

-- the same of a row
pub row_gives : (es : List (ℕ × ℤ)) (f : ℕ → ℤ) (z : ℤ) → IsNarrowSum (pairs_at es f) → dot es f ≡ z → fold_of (pairs_at es f) ≡ Ok z
row_gives es f z n e = fold_gives (pairs_at es f) z n (products-pairs_at es f ∙ e)

ok_from : (ps : List (ℤ × ℤ)) (r : Result ℤ WideSum) → fold_of ps ≡ r → IsOk r → IsNarrowSum ps
ok_from ps (Ok z) e h = narrow-from_fold ps z e
ok_from ps (Err w) e h = absurd cc

-- the fold is a number exactly where no pair is wide
pub ok_is_narrow : (ps : List (ℤ × ℤ)) (r : Result ℤ WideSum) → r ≡ fold_of ps → IsOk r ↔ IsNarrowSum ps
ok_is_narrow ps r same = (ok_from ps r (sym same), λ n. rw (same, fold-from_narrow ps n) refl)

-- what a fold that is a number says, and one that is none
pub narrow_where_ok : (ps : List (ℤ × ℤ)) (r : Result ℤ WideSum) (z : ℤ) → r ≡ fold_of ps → r ≡ Ok z → IsNarrowSum ps
narrow_where_ok ps r z same h = narrow-from_fold ps z (sym same ∙ h)

pub wide_where_err : (ps : List (ℤ × ℤ)) (r : Result ℤ WideSum) (w : WideSum) → r ≡ fold_of ps → r ≡ Err w → IsNarrowSum ps → ⊥
wide_where_err ps r w same h n = let e : fold_of ps ≡ Ok (products ps) = fold-from_narrow ps n in absurd cc

-- the sum of a row
pub dot_where_ok : (es : List (ℕ × ℤ)) (f : ℕ → ℤ) (r : Result ℤ WideSum) (z : ℤ) → r ≡ fold_of (pairs_at es f) → r ≡ Ok z → dot es f ≡ z
dot_where_ok es f r z same h = sym (sum-from_fold (pairs_at es f) z (sym same ∙ h) ∙ products-pairs_at es f)
