-- The etas behind the inner cost, one by one.
use Rattle.std.proofs.Common.{◌≡◌, sym, ◌∙◌, ap, ℕ, ◌+◌, ◌<◌, true, false, List, ◌∷◌, length, map, get_or, drop, ℤ, pos, ◌+ℤ◌, ◌*ℤ◌, Result, Ok, Err}
use Rattle.std.specs.Result.{IsErrAnd}
use Rattle.bz_num.specs.declared.WideSum.{WideSum}
use Rattle.bz_num.specs.Fold.{fold_from, goes_wide}
use Rattle.bz_num.proofs.Folds.{fold_from-step, fold_from-stop}
use Rattle.bz_model.proofs.Sparse.{left_at}
use Rattle.bz_model.specs.PointSums.{times_one}

next : (etas : List ℤ) (i : ℕ) (d : ℤ) → i < length etas → map times_one (drop i etas) ≡ (pos 1, get_or etas i d) ∷ map times_one (drop (i + 1) etas)
next etas i d l = ap (map times_one) (left_at etas i d l)

pub eta_step : (etas : List ℤ) (i : ℕ) (d : ℤ) (count after_count : ℕ) (sum after_sum : ℤ) (whole : Result ℤ WideSum) → i < length etas →
    goes_wide sum (pos 1, get_or etas i d) ≡ false → after_sum ≡ sum +ℤ (pos 1 *ℤ get_or etas i d) → after_count ≡ count + 1 →
    fold_from count sum (map times_one (drop i etas)) ≡ whole → fold_from after_count after_sum (map times_one (drop (i + 1) etas)) ≡ whole
eta_step etas i d count after_count sum after_sum whole l narrow s c h =
    rw (s, c) (sym (fold_from-step count sum (pos 1, get_or etas i d) (map times_one (drop (i + 1) etas)) narrow) ∙ ap (fold_from count sum) (sym (next etas i d l)) ∙ h)

pub eta_stop : (etas : List ℤ) (i : ℕ) (d : ℤ) (count : ℕ) (sum : ℤ) (wide : WideSum) (result whole : Result ℤ WideSum) → IsErrAnd result (λ w. w ≡ wide) →
    i < length etas → goes_wide sum (pos 1, get_or etas i d) ≡ true → wide.at ≡ count →
    fold_from count sum (map times_one (drop i etas)) ≡ whole → result ≡ whole
eta_stop etas i d count sum wide (Ok y) whole told l goes at h = absurd told
eta_stop etas i d count sum wide (Err w) whole told l goes at h =
    let here : w ≡ record { at = count } = told ∙ ap (λ (k : ℕ). let r : WideSum = record { at = k } in r) at in
    ap Err here ∙ sym (fold_from-stop count sum (pos 1, get_or etas i d) (map times_one (drop (i + 1) etas)) goes) ∙ ap (fold_from count sum) (sym (next etas i d l)) ∙ h
