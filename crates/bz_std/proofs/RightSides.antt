-- What is taken of a right side's sum, with what is still to come, is the whole.
use Rattle.std.proofs.Common.{◌≡◌, refl, sym, ◌∙◌, ap, ℕ, ◌+◌, ◌<◌, List, [], ◌∷◌, length, drop, get_or, ℤ, pos, ◌+ℤ◌, ◌*ℤ◌, neg_ℤ, Result, Ok, Err, true, false}
use Rattle.std.specs.Result.{IsErrAnd}
use Rattle.bz_num.specs.declared.WideSum.{WideSum}
use Rattle.bz_num.specs.Fold.{fold_from, goes_wide, pairs_at}
use Rattle.bz_num.proofs.Folds.{fold_from-step, fold_from-stop}
use Rattle.bz_model.specs.Parting.{negated}
use Rattle.bz_model.proofs.Sparse.{left_at}

coming : (es : List (ℕ × ℤ)) (i : ℕ) (f : ℕ → ℤ) (at : ℕ) (sum : ℤ) → i < length es → fold_from at sum (pairs_at (negated (drop i es)) f) ≡ fold_from at sum ((neg_ℤ (get_or es i (0, pos 0)).1, f (get_or es i (0, pos 0)).0) ∷ pairs_at (negated (drop (i + 1) es)) f)
coming es i f at sum l = ap (λ (ts : List (ℕ × ℤ)). fold_from at sum (pairs_at ts f)) (ap negated (left_at es i (0, pos 0) l))

pub next_taken : (es : List (ℕ × ℤ)) (i : ℕ) (f : ℕ → ℤ) (at : ℕ) (sum : ℤ) (all : Result ℤ WideSum) → i < length es → goes_wide sum (neg_ℤ (get_or es i (0, pos 0)).1, f (get_or es i (0, pos 0)).0) ≡ false → fold_from at sum (pairs_at (negated (drop i es)) f) ≡ all → fold_from (at + 1) (sum +ℤ (neg_ℤ (get_or es i (0, pos 0)).1 *ℤ f (get_or es i (0, pos 0)).0)) (pairs_at (negated (drop (i + 1) es)) f) ≡ all
next_taken es i f at sum all l narrow h = sym (coming es i f at sum l ∙ fold_from-step at sum (neg_ℤ (get_or es i (0, pos 0)).1, f (get_or es i (0, pos 0)).0) (pairs_at (negated (drop (i + 1) es)) f) narrow) ∙ h

pub next_wide : (es : List (ℕ × ℤ)) (i : ℕ) (f : ℕ → ℤ) (at : ℕ) (sum : ℤ) (all : Result ℤ WideSum) (wide : WideSum) (result : Result ℤ WideSum) → IsErrAnd result (λ w. w ≡ wide) → wide.at ≡ at → i < length es → goes_wide sum (neg_ℤ (get_or es i (0, pos 0)).1, f (get_or es i (0, pos 0)).0) ≡ true → fold_from at sum (pairs_at (negated (drop i es)) f) ≡ all → result ≡ all
next_wide es i f at sum all wide (Ok z) told here l goes h = absurd told
next_wide es i f at sum all wide (Err w) told here l goes h =
    let place : w.at ≡ at = ap (λ (v : WideSum). v.at) told ∙ here in
    rw place (sym (coming es i f at sum l ∙ fold_from-stop at sum (neg_ℤ (get_or es i (0, pos 0)).1, f (get_or es i (0, pos 0)).0) (pairs_at (negated (drop (i + 1) es)) f) goes) ∙ h)
