-- Lists with a changed item, and with one more.
use Rattle.std.proofs.Common.{◌≡◌, ◌<◌, refl, sym, ap, subst, ℕ, zero, suc, ◌+◌, List, [], ◌∷◌, ◌++◌, length, inl, inr, arith}
use Rattle.std.specs.Prelude.{◌⊎◌, Some, drop}
use Rattle.std.specs.List.{AllByRecursion, slice_get}
use Rattle.bz_history.specs.States.{changed}

pub length-changed : {X : Type 0} (f : X → X) (xs : List X) (i : ℕ) → length (changed f xs i) ≡ length xs
length-changed f [] i = refl
length-changed f (x ∷ xs) zero = refl
length-changed f (x ∷ xs) (suc i) = ap suc (length-changed f xs i)

-- an item at a place has what all have
pub all_at : {X : Type 0} (P : X → Type 0) (xs : List X) (i : ℕ) (x : X) → AllByRecursion P xs → slice_get xs i ≡ Some x → P x
all_at P [] i x h is = absurd (cc)
all_at P (y ∷ ys) zero x h is =
    let same : y ≡ x = cc in
    subst P same h.0
all_at P (y ∷ ys) (suc i) x h is = all_at P ys i x h.1 is

-- the item at a place of a list with one more is one of the old ones, or the new one
pub at_more : {X : Type 0} (xs : List X) (x : X) (k : ℕ) (e : X) → slice_get (xs ++ x ∷ []) k ≡ Some e
    → (slice_get xs k ≡ Some e) ⊎ ((x ≡ e) × (k ≡ length xs))
at_more [] x zero e h =
    let same : x ≡ e = cc in
    inr (same, refl)
at_more [] x (suc k) e h = absurd (cc)
at_more (y ∷ ys) x zero e h = inl h
at_more (y ∷ ys) x (suc k) e h = later (at_more ys x k e h)
  where
    later : (slice_get ys k ≡ Some e) ⊎ ((x ≡ e) × (k ≡ length ys)) → (slice_get ys k ≡ Some e) ⊎ ((x ≡ e) × (suc k ≡ suc (length ys)))
    later (inl g) = inl g
    later (inr g) = inr (g.0, ap suc g.1)

-- one item stands at a place
pub at_one : {X : Type 0} (xs : List X) (k : ℕ) (a b : X) → slice_get xs k ≡ Some a → slice_get xs k ≡ Some b → a ≡ b
at_one xs k a b h g = cc

-- what stands at a place stays there with one more
pub at_kept : {X : Type 0} (xs ys : List X) (k : ℕ) (e : X) → slice_get xs k ≡ Some e → slice_get (xs ++ ys) k ≡ Some e
at_kept [] ys k e h = absurd (cc)
at_kept (x ∷ xs) ys zero e h = h
at_kept (x ∷ xs) ys (suc k) e h = at_kept xs ys k e h

pub at_end : {X : Type 0} (xs : List X) (x : X) → slice_get (xs ++ x ∷ []) (length xs) ≡ Some x
at_end [] x = refl
at_end (y ∷ ys) x = at_end ys x

-- ---- one item changed
-- an item of the changed list is the one at its place before, or what is made of it where it is the place
pub at_changed : {X : Type 0} (f : X → X) (xs : List X) (i k : ℕ) (y : X) → slice_get (changed f xs i) k ≡ Some y
    → (x : X) × (slice_get xs k ≡ Some x) × ((y ≡ x) ⊎ ((k ≡ i) × (y ≡ f x)))
at_changed f [] i k y h = absurd (cc)
at_changed f (x ∷ xs) zero zero y h =
    let same : f x ≡ y = cc in
    (x, refl, inr (refl, sym same))
at_changed f (x ∷ xs) zero (suc k) y h = (y, h, inl refl)
at_changed f (x ∷ xs) (suc i) zero y h =
    let same : x ≡ y = cc in
    (x, refl, inl (sym same))
at_changed f (x ∷ xs) (suc i) (suc k) y h = later (at_changed f xs i k y h)
  where
    later : ((z : _) × (slice_get xs k ≡ Some z) × ((y ≡ z) ⊎ ((k ≡ i) × (y ≡ f z)))) → (z : _) × (slice_get xs k ≡ Some z) × ((y ≡ z) ⊎ ((suc k ≡ suc i) × (y ≡ f z)))
    later (z, at, inl e) = (z, at, inl e)
    later (z, at, inr e) = (z, at, inr (ap suc e.0, e.1))

-- what stands at a place stands there still, or what is made of it where it is the place
pub changed_item : {X : Type 0} (f : X → X) (xs : List X) (i k : ℕ) (x : X) → slice_get xs k ≡ Some x
    → (y : X) × (slice_get (changed f xs i) k ≡ Some y) × ((y ≡ x) ⊎ ((k ≡ i) × (y ≡ f x)))
changed_item f [] i k x h = absurd (cc)
changed_item f (x' ∷ xs) zero zero x h =
    let same : x' ≡ x = cc in
    (f x', refl, inr (refl, ap f same))
changed_item f (x' ∷ xs) zero (suc k) x h = (x, h, inl refl)
changed_item f (x' ∷ xs) (suc i) zero x h = (x, h, inl refl)
changed_item f (x' ∷ xs) (suc i) (suc k) x h = later (changed_item f xs i k x h)
  where
    later : ((z : _) × (slice_get (changed f xs i) k ≡ Some z) × ((z ≡ x) ⊎ ((k ≡ i) × (z ≡ f x)))) → (z : _) × (slice_get (changed f xs i) k ≡ Some z) × ((z ≡ x) ⊎ ((suc k ≡ suc i) × (z ≡ f x)))
    later (z, at, inl e) = (z, at, inl e)
    later (z, at, inr e) = (z, at, inr (ap suc e.0, e.1))

-- the changed item stands at the place
pub changed_here : {X : Type 0} (f : X → X) (xs : List X) (i : ℕ) (x : X) → slice_get xs i ≡ Some x → slice_get (changed f xs i) i ≡ Some (f x)
changed_here f [] i x h = absurd (cc)
changed_here f (y ∷ ys) zero x h =
    let same : y ≡ x = cc in
    ap (λ z. Some (f z)) same
changed_here f (y ∷ ys) (suc i) x h = changed_here f ys i x h

-- ---- lists after lists
-- an item of two lists together is one of the first, or one of the second at what is left of its place
pub at_either : {X : Type 0} (xs ys : List X) (k : ℕ) (e : X) → slice_get (xs ++ ys) k ≡ Some e → (slice_get xs k ≡ Some e) ⊎ ((j : ℕ) × (k ≡ length xs + j) × (slice_get ys j ≡ Some e))
at_either [] ys k e h =
    let place : k ≡ 0 + k = omega arith in
    inr (k, place, h)
at_either (x ∷ xs) ys zero e h = inl h
at_either (x ∷ xs) ys (suc k) e h = later (at_either xs ys k e h)
  where
    later : (slice_get xs k ≡ Some e) ⊎ ((j : ℕ) × (k ≡ length xs + j) × (slice_get ys j ≡ Some e)) → (slice_get xs k ≡ Some e) ⊎ ((j : ℕ) × (suc k ≡ suc (length xs) + j) × (slice_get ys j ≡ Some e))
    later (inl g) = inl g
    later (inr (j, place, at)) =
        let next : suc k ≡ suc (length xs) + j = omega arith in
        inr (j, next, at)

pub at_after : {X : Type 0} (xs ys : List X) (j : ℕ) (e : X) → slice_get ys j ≡ Some e → slice_get (xs ++ ys) (length xs + j) ≡ Some e
at_after [] ys j e h =
    let place : j ≡ 0 + j = omega arith in
    subst (λ (k : ℕ). slice_get ys k ≡ Some e) place h
at_after (x ∷ xs) ys j e h =
    let rest : slice_get (xs ++ ys) (length xs + j) ≡ Some e = at_after xs ys j e h in
    let place : suc (length xs) + j ≡ suc (length xs + j) = omega arith in
    subst (λ (k : ℕ). slice_get (x ∷ (xs ++ ys)) k ≡ Some e) (sym place) rest

-- ---- other items
-- at another place an item stays as it is
pub changed_there : {X : Type 0} (f : X → X) (xs : List X) (i k : ℕ) → (k ≡ i → ⊥) → slice_get (changed f xs i) k ≡ slice_get xs k
changed_there f [] i k other = refl
changed_there f (x ∷ xs) zero zero other = absurd (other refl)
changed_there f (x ∷ xs) zero (suc k) other = refl
changed_there f (x ∷ xs) (suc i) zero other = refl
changed_there f (x ∷ xs) (suc i) (suc k) other = changed_there f xs i k (λ e. other (ap suc e))

-- what stands at the place was there before
pub before_changed : {X : Type 0} (f : X → X) (xs : List X) (i : ℕ) (y : X) → slice_get (changed f xs i) i ≡ Some y → (x : X) × (slice_get xs i ≡ Some x) × (y ≡ f x)
before_changed f [] i y h = absurd (cc)
before_changed f (x ∷ xs) zero y h =
    let same : f x ≡ y = cc in
    (x, refl, sym same)
before_changed f (x ∷ xs) (suc i) y h = before_changed f xs i y h

-- ---- numbers
-- a number below the next is below, or it
pub below_next : (k n : ℕ) → k < suc n → (k < n) ⊎ (k ≡ n)
below_next zero zero h = inr refl
below_next zero (suc n) h = inl (omega arith)
below_next (suc k) zero h = absurd (omega arith)
below_next (suc k) (suc n) h = later (below_next k n (omega arith))
  where
    later : (k < n) ⊎ (k ≡ n) → (suc k < suc n) ⊎ (suc k ≡ suc n)
    later (inl less) = inl (omega arith)
    later (inr same) = inr (ap suc same)

-- ---- all items, and the last ones
-- what stands at each place stands in the list
pub all_of_items : {X : Type 0} (P : X → Type 0) (xs : List X) → ((k : ℕ) (x : X) → slice_get xs k ≡ Some x → P x) → AllByRecursion P xs
all_of_items P [] h = tt
all_of_items P (x ∷ xs) h = (h 0 x refl, all_of_items P xs (λ k y at. h (suc k) y at))

-- an item of those after the first n stands n places later in the list
pub at_dropped : {X : Type 0} (n : ℕ) (xs : List X) (k : ℕ) (x : X) → slice_get (drop n xs) k ≡ Some x → slice_get xs (n + k) ≡ Some x
at_dropped zero xs k x h =
    let same : k ≡ 0 + k = omega arith in
    subst (λ (i : ℕ). slice_get xs i ≡ Some x) same h
at_dropped (suc n) [] k x h = absurd (cc)
at_dropped (suc n) (y ∷ ys) k x h =
    let next : suc (n + k) ≡ suc n + k = omega arith in
    subst (λ (i : ℕ). slice_get (y ∷ ys) i ≡ Some x) next (at_dropped n ys k x h)
