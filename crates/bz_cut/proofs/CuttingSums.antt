-- The sum that tells whether a point breaks a cut: a row's products, and two more.
use Rattle.std.proofs.Common.{◌≡◌, refl, sym, ◌∙◌, ap, ℕ, suc, ◌+◌, List, [], ◌∷◌, ◌++◌, length, ℤ, pos, ◌+ℤ◌, ◌-ℤ◌, ◌*ℤ◌, ◌<ℤ◌, neg_ℤ, Result, Ok, Err, arith}
use Rattle.std.proofs.lemmas.Int.{ints}
use Rattle.std.specs.Result.{IsErrAnd, IfErr}
use Rattle.bz_algebra.specs.Sums.{dot}
use Rattle.bz_algebra.proofs.Ring.{neg_mul}
use Rattle.bz_num.specs.declared.WideSum.{WideSum}
use Rattle.bz_num.specs.Fold.{IsFirstWide, fold_from, fold_of, pairs_at, products}
use Rattle.bz_num.proofs.Folds.{fold_from-append_ok, fold_from-append_err, first-from_fold, products-pairs_at, sum-from_fold}
use Rattle.bz_model.specs.declared.Master.{Master}
use Rattle.bz_model.specs.PartPoints.{eta_of}
use Rattle.bz_model.specs.Points.{coordinate}
use Rattle.bz_cut.specs.declared.records.Cut.{Cut}
use Rattle.bz_cut.specs.Points.{CutsOff, cutting_pairs}

length-pairs_at : (es : List (ℕ × ℤ)) (f : ℕ → ℤ) → length (pairs_at es f) ≡ length es
length-pairs_at [] f = refl
length-pairs_at (e ∷ es) f = ap suc (length-pairs_at es f)

-- the row's sum is wide
pub row_wide : (es : List (ℕ × ℤ)) (f : ℕ → ℤ) (qs : List (ℤ × ℤ)) (e : WideSum) (result : Result ℤ WideSum) → IsErrAnd result (λ w. w ≡ e) → Err e ≡ fold_of (pairs_at es f) → result ≡ fold_of (pairs_at es f ++ qs)
row_wide es f qs e (Ok z) told h = absurd told
row_wide es f qs e (Err w) told h = rw told (sym (fold_from-append_err 0 (pos 0) (pairs_at es f) qs e (sym h)))

-- the row's sum, and what is taken after it
after_row : (es : List (ℕ × ℤ)) (f : ℕ → ℤ) (qs : List (ℤ × ℤ)) (s : ℤ) → Ok s ≡ fold_of (pairs_at es f) → fold_of (pairs_at es f ++ qs) ≡ fold_from (length es) s qs
after_row es f qs s h =
    let count : 0 + length (pairs_at es f) ≡ length es = omega (arith, length-pairs_at es f) in
    fold_from-append_ok 0 (pos 0) (pairs_at es f) qs s (sym h) ∙ ap (λ (n : ℕ). fold_from n s qs) count

pub second_wide : (es : List (ℕ × ℤ)) (f : ℕ → ℤ) (p q : ℤ × ℤ) (s : ℤ) (e : WideSum) (result : Result ℤ WideSum) → IsErrAnd result (λ w. w ≡ e) → Ok s ≡ fold_of (pairs_at es f) → Err e ≡ fold_from (length es) s (p ∷ []) → result ≡ fold_of (pairs_at es f ++ p ∷ q ∷ [])
second_wide es f p q s e (Ok z) told h i = absurd told
second_wide es f p q s e (Err w) told h i = rw told (sym (after_row es f (p ∷ q ∷ []) s h ∙ fold_from-append_err (length es) s (p ∷ []) (q ∷ []) e (sym i)))

pub third_is : (es : List (ℕ × ℤ)) (f : ℕ → ℤ) (p q : ℤ × ℤ) (s t : ℤ) (result : Result ℤ WideSum) → Ok s ≡ fold_of (pairs_at es f) → Ok t ≡ fold_from (length es) s (p ∷ []) → result ≡ fold_from (length es + 1) t (q ∷ []) → result ≡ fold_of (pairs_at es f ++ p ∷ q ∷ [])
third_is es f p q s t result h i j = j ∙ sym (after_row es f (p ∷ q ∷ []) s h ∙ fold_from-append_ok (length es) s (p ∷ []) (q ∷ []) t (sym i))

products-append : (ps qs : List (ℤ × ℤ)) → products (ps ++ qs) ≡ products ps +ℤ products qs
products-append [] qs = omega (arith, ints)
products-append (p ∷ ps) qs = rw (products-append ps qs) (omega (arith, ints))

-- the sum of all
excess_is : (cut : Cut) (point : Master) → products (cutting_pairs cut point) ≡ (dot cut.alpha (coordinate point.x) -ℤ (cut.p0 *ℤ eta_of point cut.block)) -ℤ (cut.beta *ℤ point.den)
excess_is cut point =
    rw (products-append (pairs_at cut.alpha (coordinate point.x)) ((neg_ℤ cut.p0, eta_of point cut.block) ∷ (neg_ℤ cut.beta, point.den) ∷ []), products-pairs_at cut.alpha (coordinate point.x), neg_mul cut.p0 (eta_of point cut.block), neg_mul cut.beta point.den)
    (omega (arith, ints))

-- it is positive exactly where the point breaks the cut
pub breaks : (cut : Cut) (point : Master) (sum : ℤ) → Ok sum ≡ fold_of (cutting_pairs cut point) → (pos 0) <ℤ sum → CutsOff cut point
breaks cut point sum h positive =
    let whole : sum ≡ products (cutting_pairs cut point) = sum-from_fold (cutting_pairs cut point) sum (sym h) in
    omega (arith, ints, excess_is cut point)

pub breaks_only : (cut : Cut) (point : Master) (sum : ℤ) → Ok sum ≡ fold_of (cutting_pairs cut point) → CutsOff cut point → (pos 0) <ℤ sum
breaks_only cut point sum h off =
    let whole : sum ≡ products (cutting_pairs cut point) = sum-from_fold (cutting_pairs cut point) sum (sym h) in
    omega (arith, ints, excess_is cut point)

-- where it has no sum, the place is its first wide one
pub first_place : {A : Type 0} (ps : List (ℤ × ℤ)) (e : WideSum) (result : Result A WideSum) → IsErrAnd result (λ w. w ≡ e) → Err e ≡ fold_of ps → IfErr result (λ wide. IsFirstWide ps wide.at)
first_place ps e (Ok a) told h = tt
first_place ps e (Err w) told h = rw told (first-from_fold ps e (sym h))
