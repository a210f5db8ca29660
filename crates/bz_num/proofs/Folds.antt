-- Sums of products as a function and as a relation.
use Rattle.std.proofs.Common.{◌≡◌, refl, sym, ap, subst, ℕ, zero, suc, ◌+◌, ◌<◌, ◌⊎◌, inl, inr, Bool, true, false, cond, List, [], ◌∷◌, ◌++◌, length, arith, ℤ, pos, ◌+ℤ◌, ◌*ℤ◌, Result, Ok, Err, MatchBool, IfErr, ◌∙◌, add-zero}
use Rattle.std.proofs.lemmas.Int.{ints}
use Rattle.std.proofs.lemmas.Bool.Decides.{nat_tests}
use Rattle.bz_algebra.specs.Numbers.{IsWide}
use Rattle.bz_num.specs.declared.products.WideSum.{WideSum}
use Rattle.bz_num.specs.Fold.{product_at, partial, products, IsWideAt, IsFirstWide, goes_wide, fold_from, fold_of, pairs_at}
use Rattle.bz_algebra.specs.Sums.{dot}

-- what the test tells
pub goes_wide-cases : (sum : ℤ) (p : ℤ × ℤ) → MatchBool (goes_wide sum p) (IsWide (p.0 *ℤ p.1) ⊎ IsWide (sum +ℤ (p.0 *ℤ p.1))) ((IsWide (p.0 *ℤ p.1) ⊎ IsWide (sum +ℤ (p.0 *ℤ p.1))) → ⊥)
goes_wide-cases sum p = grind (arith, nat_tests)

-- after `sum`: there is a pair at k, and its product or the sum with it is wide
pub record IsWideAfter (sum : ℤ) (ps : List (ℤ × ℤ)) (k : ℕ) : Type 0 where
  pub inside : k < length ps
  pub wide : IsWide (product_at ps k) ⊎ IsWide (sum +ℤ partial ps (suc k))

pub partial-cons : (p : ℤ × ℤ) (ps : List (ℤ × ℤ)) (k : ℕ) → partial (p ∷ ps) (suc k) ≡ (p.0 *ℤ p.1) +ℤ partial ps k
partial-cons p ps zero = omega (arith, ints)
partial-cons p ps (suc k) =
    let before : partial (p ∷ ps) (suc k) ≡ (p.0 *ℤ p.1) +ℤ partial ps k = partial-cons p ps k in
    rw before (omega (arith, ints))

partial-after : (sum : ℤ) (p : ℤ × ℤ) (ps : List (ℤ × ℤ)) (k : ℕ) → sum +ℤ partial (p ∷ ps) (suc k) ≡ (sum +ℤ (p.0 *ℤ p.1)) +ℤ partial ps k
partial-after sum p ps k = rw (partial-cons p ps k) (omega (arith, ints))

-- the first place, wide or not
here-is : (sum : ℤ) (p : ℤ × ℤ) (ps : List (ℤ × ℤ)) → IsWide (p.0 *ℤ p.1) ⊎ IsWide (sum +ℤ (p.0 *ℤ p.1)) → IsWideAfter sum (p ∷ ps) 0
here-is sum p ps (inl product) = record { inside = omega arith; wide = inl product }
here-is sum p ps (inr whole) =
    let same : sum +ℤ partial (p ∷ ps) 1 ≡ sum +ℤ (p.0 *ℤ p.1) = omega (arith, ints) in
    record { inside = omega arith; wide = inr (rw same whole) }

here-was : (sum : ℤ) (p : ℤ × ℤ) (ps : List (ℤ × ℤ)) → IsWideAfter sum (p ∷ ps) 0 → IsWide (p.0 *ℤ p.1) ⊎ IsWide (sum +ℤ (p.0 *ℤ p.1))
here-was sum p ps h =
    let same : sum +ℤ partial (p ∷ ps) 1 ≡ sum +ℤ (p.0 *ℤ p.1) = omega (arith, ints) in
    elim h.wide [ inl product ↦ inl product | inr whole ↦ inr (rw same at whole) ]

-- a later place
later-is : (sum : ℤ) (p : ℤ × ℤ) (ps : List (ℤ × ℤ)) (k : ℕ) → IsWideAfter (sum +ℤ (p.0 *ℤ p.1)) ps k → IsWideAfter sum (p ∷ ps) (suc k)
later-is sum p ps k h = record {
  inside = omega (arith, h.inside);
  wide = elim h.wide [ inl product ↦ inl product | inr whole ↦ inr (rw (partial-after sum p ps (suc k)) whole) ];
}

later-was : (sum : ℤ) (p : ℤ × ℤ) (ps : List (ℤ × ℤ)) (k : ℕ) → IsWideAfter sum (p ∷ ps) (suc k) → IsWideAfter (sum +ℤ (p.0 *ℤ p.1)) ps k
later-was sum p ps k h = record {
  inside = omega (arith, h.inside);
  wide = elim h.wide [ inl product ↦ inl product | inr whole ↦ inr (rw (partial-after sum p ps (suc k)) at whole) ];
}

none-after : (sum : ℤ) (p : ℤ × ℤ) (ps : List (ℤ × ℤ)) → (IsWide (p.0 *ℤ p.1) ⊎ IsWide (sum +ℤ (p.0 *ℤ p.1)) → ⊥) → ((k : ℕ) → IsWideAfter (sum +ℤ (p.0 *ℤ p.1)) ps k → ⊥) → (k : ℕ) → IsWideAfter sum (p ∷ ps) k → ⊥
none-after sum p ps here later zero h = here (here-was sum p ps h)
none-after sum p ps here later (suc k) h = later k (later-was sum p ps k h)

first-after : (sum : ℤ) (p : ℤ × ℤ) (ps : List (ℤ × ℤ)) (k : ℕ) → (IsWide (p.0 *ℤ p.1) ⊎ IsWide (sum +ℤ (p.0 *ℤ p.1)) → ⊥) → ((i : ℕ) → i < k → IsWideAfter (sum +ℤ (p.0 *ℤ p.1)) ps i → ⊥) → (i : ℕ) → i < suc k → IsWideAfter sum (p ∷ ps) i → ⊥
first-after sum p ps k here later zero below h = here (here-was sum p ps h)
first-after sum p ps k here later (suc i) below h = later i (omega arith) (later-was sum p ps i h)

-- what the function answers from `at` and `sum` on
pub record IsFoldAfter (at : ℕ) (sum : ℤ) (ps : List (ℤ × ℤ)) (s : ℤ) : Type 0 where
  pub whole : s ≡ sum +ℤ products ps
  pub none : (k : ℕ) → IsWideAfter sum ps k → ⊥

pub record IsWideFrom (at : ℕ) (sum : ℤ) (ps : List (ℤ × ℤ)) (place k : ℕ) : Type 0 where
  pub place_is : place ≡ at + k
  pub here : IsWideAfter sum ps k
  pub first : (i : ℕ) → i < k → IsWideAfter sum ps i → ⊥

abbrev pub FoldTells : ℕ → ℤ → List (ℤ × ℤ) → Result ℤ WideSum → Type 0
FoldTells at sum ps (Ok s) = IsFoldAfter at sum ps s
FoldTells at sum ps (Err e) = (k : ℕ) × IsWideFrom at sum ps e.at k

step-tells : (at : ℕ) (sum : ℤ) (p : ℤ × ℤ) (ps : List (ℤ × ℤ)) → (IsWide (p.0 *ℤ p.1) ⊎ IsWide (sum +ℤ (p.0 *ℤ p.1)) → ⊥) → (r : Result ℤ WideSum) → FoldTells (at + 1) (sum +ℤ (p.0 *ℤ p.1)) ps r → FoldTells at sum (p ∷ ps) r
step-tells at sum p ps here (Ok s) h =
    let whole : s ≡ (sum +ℤ (p.0 *ℤ p.1)) +ℤ products ps = h.whole in
    record { whole = omega (arith, ints); none = none-after sum p ps here h.none }
step-tells at sum p ps here (Err e) (k, h) = (
  suc k,
  record {
    place_is = omega (arith, h.place_is);
    here = later-is sum p ps k h.here;
    first = first-after sum p ps k here h.first;
  },
)

by_goes_wide : (at : ℕ) (sum : ℤ) (p : ℤ × ℤ) (ps : List (ℤ × ℤ)) (b : Bool) → MatchBool b (IsWide (p.0 *ℤ p.1) ⊎ IsWide (sum +ℤ (p.0 *ℤ p.1))) ((IsWide (p.0 *ℤ p.1) ⊎ IsWide (sum +ℤ (p.0 *ℤ p.1))) → ⊥) → (r : Result ℤ WideSum) → FoldTells (at + 1) (sum +ℤ (p.0 *ℤ p.1)) ps r → FoldTells at sum (p ∷ ps) (cond b (Err (record { at = at })) r)
by_goes_wide at sum p ps true wide r rest = (0, record { place_is = omega arith; here = here-is sum p ps wide; first = λ i below. absurd (omega arith) })
by_goes_wide at sum p ps false narrow r rest = step-tells at sum p ps narrow r rest

pub fold_from-tells : (at : ℕ) (sum : ℤ) (ps : List (ℤ × ℤ)) → FoldTells at sum ps (fold_from at sum ps)
fold_from-tells at sum [] = record { whole = omega (arith, ints); none = λ k h. absurd (omega (arith, h.inside)) }
fold_from-tells at sum (p ∷ ps) =
    by_goes_wide at sum p ps (goes_wide sum p) (goes_wide-cases sum p) (fold_from (at + 1) (sum +ℤ (p.0 *ℤ p.1)) ps) (fold_from-tells (at + 1) (sum +ℤ (p.0 *ℤ p.1)) ps)

-- from 0 and no pair on, the relation is the one of the whole list
to-wide_at : (ps : List (ℤ × ℤ)) (k : ℕ) → IsWideAfter (pos 0) ps k → IsWideAt ps k
to-wide_at ps k h =
    let same : pos 0 +ℤ partial ps (suc k) ≡ partial ps (suc k) = omega (arith, ints) in
    record { inside = h.inside; wide = elim h.wide [ inl product ↦ inl product | inr whole ↦ inr (rw same at whole) ] }

of-wide_at : (ps : List (ℤ × ℤ)) (k : ℕ) → IsWideAt ps k → IsWideAfter (pos 0) ps k
of-wide_at ps k h =
    let same : pos 0 +ℤ partial ps (suc k) ≡ partial ps (suc k) = omega (arith, ints) in
    record { inside = h.inside; wide = elim h.wide [ inl product ↦ inl product | inr whole ↦ inr (rw same whole) ] }

-- a fold that gives a number: the sum of all products, and no place is wide
pub sum-from_fold : (ps : List (ℤ × ℤ)) (s : ℤ) → fold_of ps ≡ Ok s → s ≡ products ps
sum-from_fold ps s e =
    let tells : IsFoldAfter 0 (pos 0) ps s = subst (FoldTells 0 (pos 0) ps) e (fold_from-tells 0 (pos 0) ps) in
    let whole : s ≡ pos 0 +ℤ products ps = tells.whole in
    omega (arith, ints)

pub narrow-from_fold : (ps : List (ℤ × ℤ)) (s : ℤ) → fold_of ps ≡ Ok s → (k : ℕ) → IsWideAt ps k → ⊥
narrow-from_fold ps s e k h =
    let tells : IsFoldAfter 0 (pos 0) ps s = subst (FoldTells 0 (pos 0) ps) e (fold_from-tells 0 (pos 0) ps) in
    tells.none k (of-wide_at ps k h)

first-wide : (ps : List (ℤ × ℤ)) (e : WideSum) → FoldTells 0 (pos 0) ps (Err e) → IsFirstWide ps e.at
first-wide ps e (k, h) =
    let same : k ≡ e.at = omega (arith, h.place_is) in
    let at_k : IsFirstWide ps k = record { here = to-wide_at ps k h.here; first = λ i below wide. h.first i below (of-wide_at ps i wide) } in
    subst (IsFirstWide ps) same at_k

-- a fold that gives a place: the first wide one
pub first-from_fold : (ps : List (ℤ × ℤ)) (e : WideSum) → fold_of ps ≡ Err e → IsFirstWide ps e.at
first-from_fold ps e same = first-wide ps e (subst (FoldTells 0 (pos 0) ps) same (fold_from-tells 0 (pos 0) ps))

narrow-gives : (ps : List (ℤ × ℤ)) → ((k : ℕ) → IsWideAt ps k → ⊥) → (r : Result ℤ WideSum) → FoldTells 0 (pos 0) ps r → r ≡ Ok (products ps)
narrow-gives ps none (Ok s) h =
    let whole : s ≡ pos 0 +ℤ products ps = h.whole in
    let same : s ≡ products ps = omega (arith, ints) in
    ap Ok same
narrow-gives ps none (Err e) (k, h) = absurd (none k (to-wide_at ps k h.here))

-- where no place is wide the fold gives the sum
pub fold-from_narrow : (ps : List (ℤ × ℤ)) → ((k : ℕ) → IsWideAt ps k → ⊥) → fold_of ps ≡ Ok (products ps)
fold-from_narrow ps none = narrow-gives ps none (fold_of ps) (fold_from-tells 0 (pos 0) ps)

first-gives : (ps : List (ℤ × ℤ)) (k : ℕ) → IsFirstWide ps k → (r : Result ℤ WideSum) → FoldTells 0 (pos 0) ps r → r ≡ Err (record { at = k })
first-gives ps k first (Ok s) h = absurd (h.none k (of-wide_at ps k first.here))
first-gives ps k first (Err e) (j, h) =
    let not_before : j < k → ⊥ = λ before. first.first j before (to-wide_at ps j h.here) in
    let not_after : k < j → ⊥ = λ after. h.first k after (of-wide_at ps k first.here) in
    let same : e.at ≡ k = omega (arith, h.place_is) in
    ap (λ (n : ℕ). Err (record { at = n })) same

-- the first wide place is what the fold gives
pub fold-from_first : (ps : List (ℤ × ℤ)) (k : ℕ) → IsFirstWide ps k → fold_of ps ≡ Err (record { at = k })
fold-from_first ps k h = first-gives ps k h (fold_of ps) (fold_from-tells 0 (pos 0) ps)

-- one more pair, which does not go wide
pub fold_from-step : (at : ℕ) (sum : ℤ) (p : ℤ × ℤ) (ps : List (ℤ × ℤ)) → goes_wide sum p ≡ false → fold_from at sum (p ∷ ps) ≡ fold_from (at + 1) (sum +ℤ (p.0 *ℤ p.1)) ps
fold_from-step at sum p ps narrow = rw narrow refl

-- one more pair, which goes wide
pub fold_from-stop : (at : ℕ) (sum : ℤ) (p : ℤ × ℤ) (ps : List (ℤ × ℤ)) → goes_wide sum p ≡ true → fold_from at sum (p ∷ ps) ≡ Err (record { at = at })
fold_from-stop at sum p ps wide = rw wide refl

-- an error that the fold gives is at the first wide place
pub first-from_result : (ps : List (ℤ × ℤ)) (r : Result ℤ WideSum) → r ≡ fold_of ps → IfErr r (λ e. IsFirstWide ps e.at)
first-from_result ps (Ok s) same = tt
first-from_result ps (Err e) same = first-from_fold ps e (sym same)

-- the sum of a row's products with what f gives is the row at f
pub products-pairs_at : (es : List (ℕ × ℤ)) (f : ℕ → ℤ) → products (pairs_at es f) ≡ dot es f
products-pairs_at [] f = refl
products-pairs_at (e ∷ es) f = ap (λ (rest : ℤ). (e.1 *ℤ f e.0) +ℤ rest) (products-pairs_at es f)

under-ok : (b : Bool) (x : WideSum) (r whole other : Result ℤ WideSum) (s : ℤ) → cond b (Err x) r ≡ Ok s → (r ≡ Ok s → whole ≡ other) → cond b (Err x) whole ≡ other
under-ok true x r whole other s h step = absurd cc
under-ok false x r whole other s h step = step h

-- one list after another, where the first gives a sum
pub fold_from-append_ok : (at : ℕ) (sum : ℤ) (ps qs : List (ℤ × ℤ)) (s : ℤ) → fold_from at sum ps ≡ Ok s → fold_from at sum (ps ++ qs) ≡ fold_from (at + length ps) s qs
fold_from-append_ok at sum [] qs s h =
    let same : sum ≡ s = cc in
    rw same (rw add-zero refl)
fold_from-append_ok at sum (p ∷ ps) qs s h =
    under-ok (goes_wide sum p) (record { at = at }) (fold_from (at + 1) (sum +ℤ (p.0 *ℤ p.1)) ps) _ _ s h (λ rest.
    let later : fold_from (at + 1) (sum +ℤ (p.0 *ℤ p.1)) (ps ++ qs) ≡ fold_from ((at + 1) + length ps) s qs = fold_from-append_ok (at + 1) (sum +ℤ (p.0 *ℤ p.1)) ps qs s rest in
    let place : (at + 1) + length ps ≡ at + length (p ∷ ps) = omega arith in
    later ∙ ap (λ (n : ℕ). fold_from n s qs) place)

under-err : (b : Bool) (x e : WideSum) (r whole : Result ℤ WideSum) → cond b (Err x) r ≡ Err e → (r ≡ Err e → whole ≡ Err e) → cond b (Err x) whole ≡ Err e
under-err true x e r whole h step = h
under-err false x e r whole h step = step h

-- one list after another, where the first goes wide
pub fold_from-append_err : (at : ℕ) (sum : ℤ) (ps qs : List (ℤ × ℤ)) (e : WideSum) → fold_from at sum ps ≡ Err e → fold_from at sum (ps ++ qs) ≡ Err e
fold_from-append_err at sum [] qs e h = absurd cc
fold_from-append_err at sum (p ∷ ps) qs e h =
    under-err (goes_wide sum p) (record { at = at }) e (fold_from (at + 1) (sum +ℤ (p.0 *ℤ p.1)) ps) _ h (fold_from-append_err (at + 1) (sum +ℤ (p.0 *ℤ p.1)) ps qs e)
