-- The inner cost along a direction, entry by entry.
use Rattle.std.proofs.Common.{◌≡◌, refl, sym, ◌∙◌, ap, ℕ, ◌+◌, ◌<◌, Bool, true, false, cond, List, ◌∷◌, length, get_or, drop, ℤ, ◌+ℤ◌, ◌*ℤ◌, neg_ℤ, Result, Ok, Err}
use Rattle.std.specs.List.{AllByRecursion}
use Rattle.std.specs.Result.{IsErrAnd}
use Rattle.bz_algebra.specs.Sums.{AllBelow}
use Rattle.bz_num.specs.declared.WideSum.{WideSum}
use Rattle.bz_num.specs.Fold.{fold_from, goes_wide}
use Rattle.bz_num.proofs.Folds.{fold_from-step, fold_from-stop}
use Rattle.bz_model.specs.declared.Model.{Model}
use Rattle.bz_model.specs.Parting.{negated}
use Rattle.bz_model.specs.Points.{coordinate}
use Rattle.bz_model.specs.Strict.{HasItsColumns}
use Rattle.bz_model.proofs.Sparse.{left_at}
use Rattle.bz_model.specs.PointSums.{row_pairs}

-- the entries, the other way round where b says so
abbrev pub turned : Bool → List (ℕ × ℤ) → List (ℕ × ℤ)
turned b es = cond b (negated es) es

first : (b : Bool) (e : ℕ × ℤ) (es : List (ℕ × ℤ)) (x : List ℤ) → row_pairs (turned b (e ∷ es)) x ≡ (cond b (neg_ℤ e.1) e.1, coordinate x e.0) ∷ row_pairs (turned b es) x
first true e es x = refl
first false e es x = refl

next : (b : Bool) (es : List (ℕ × ℤ)) (x : List ℤ) (i : ℕ) (d : ℕ × ℤ) (z : ℤ) → i < length es → z ≡ cond b (neg_ℤ (get_or es i d).1) (get_or es i d).1 → row_pairs (turned b (drop i es)) x ≡ (z, coordinate x (get_or es i d).0) ∷ row_pairs (turned b (drop (i + 1) es)) x
next b es x i d z l e =
    ap (λ (ys : List (ℕ × ℤ)). row_pairs (turned b ys) x) (left_at es i d l)
    ∙ first b (get_or es i d) (drop (i + 1) es) x
    ∙ ap (λ (y : ℤ). (y, coordinate x (get_or es i d).0) ∷ row_pairs (turned b (drop (i + 1) es)) x) (sym e)

pub ray_step : (b : Bool) (es : List (ℕ × ℤ)) (x : List ℤ) (i : ℕ) (d : ℕ × ℤ) (z : ℤ) (count after_count : ℕ) (sum after_sum : ℤ) (whole : Result ℤ WideSum) → i < length es → z ≡ cond b (neg_ℤ (get_or es i d).1) (get_or es i d).1 → goes_wide sum (z, coordinate x (get_or es i d).0) ≡ false → after_sum ≡ sum +ℤ (z *ℤ coordinate x (get_or es i d).0) → after_count ≡ count + 1 → fold_from count sum (row_pairs (turned b (drop i es)) x) ≡ whole → fold_from after_count after_sum (row_pairs (turned b (drop (i + 1) es)) x) ≡ whole
ray_step b es x i d z count after_count sum after_sum whole l e narrow s c h =
    rw (s, c) (sym (fold_from-step count sum (z, coordinate x (get_or es i d).0) (row_pairs (turned b (drop (i + 1) es)) x) narrow) ∙ ap (fold_from count sum) (sym (next b es x i d z l e)) ∙ h)

pub ray_stop : (b : Bool) (es : List (ℕ × ℤ)) (x : List ℤ) (i : ℕ) (d : ℕ × ℤ) (z : ℤ) (count : ℕ) (sum : ℤ) (wide : WideSum) (result whole : Result ℤ WideSum) → IsErrAnd result (λ w. w ≡ wide) → i < length es → z ≡ cond b (neg_ℤ (get_or es i d).1) (get_or es i d).1 → goes_wide sum (z, coordinate x (get_or es i d).0) ≡ true → wide.at ≡ count → fold_from count sum (row_pairs (turned b (drop i es)) x) ≡ whole → result ≡ whole
ray_stop b es x i d z count sum wide (Ok y) whole told l e goes at h = absurd told
ray_stop b es x i d z count sum wide (Err w) whole told l e goes at h =
    let here : w ≡ record { at = count } = told ∙ ap (λ (k : ℕ). let r : WideSum = record { at = k } in r) at in
    ap Err here ∙ sym (fold_from-stop count sum (z, coordinate x (get_or es i d).0) (row_pairs (turned b (drop (i + 1) es)) x) goes) ∙ ap (fold_from count sum) (sym (next b es x i d z l e)) ∙ h

-- the rows of a model speak of its columns
pub rows_within : (m : Model) (n : ℕ) → HasItsColumns m → n ≡ length m.columns → AllByRecursion (λ row. AllBelow n row.terms) m.rows
rows_within m n h e = rw e h.rows
