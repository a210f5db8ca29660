-- Facts of the items of a list, and what a loop that tests them one by one has left.
use Rattle.std.specs.Prelude.{ℕ, zero, suc, ◌≡◌, ◌+◌, ◌<◌, ◌≤◌, List, [], ◌∷◌, length, drop}
use Rattle.std.specs.List.{AllByRecursion, enumerate_from}
use Rattle.std.proofs.Common.{refl, ◌∙◌, subst, get_or, arith}
use Rattle.std.proofs.lemmas.List.{drop_more}
use Rattle.std.proofs.Math.ListN.{drop_of_length-le}
use Rattle.std.proofs.lemmas.List.FromFn.{get_or-enumerate_from, length-enumerate_from}

-- ---- facts of all items with their numbers
pub all_at : {X : Type 0} (P : X → Type 0) (xs : List X) (i : ℕ) (d : X) → AllByRecursion P xs → i < length xs → P (get_or xs i d)
all_at P [] i d h l = absurd (omega arith)
all_at P (x ∷ xs) zero d h l = h.0
all_at P (x ∷ xs) (suc i) d h l = all_at P xs i d h.1 (omega arith)

pub numbered_all : {X : Type 0} (P : ℕ × X → Type 0) (n : ℕ) (xs : List X) (i k : ℕ) (x : X) → i < length xs → k ≡ n + i → x ≡ get_or xs i x → AllByRecursion P (enumerate_from n xs) → P (k, x)
numbered_all P n xs i k x l e s h =
    let item : (n + i, get_or xs i x) ≡ (k, x) = rw (← e, ← s) refl in
    subst P (get_or-enumerate_from n xs i (0, x) l ∙ item) (all_at P (enumerate_from n xs) i (0, x) h (rw (length-enumerate_from n xs) l))

-- a fact of the items, said of them with their numbers
pub with_numbers : {X : Type 0} (P : X → Type 0) (n : ℕ) (xs : List X) → AllByRecursion P xs → AllByRecursion (λ e. P e.1) (enumerate_from n xs)
with_numbers P n [] h = tt
with_numbers P n (x ∷ xs) h = (h.0, with_numbers P (n + 1) xs h.1)

-- the numbers of items are at least the first and below their end, and so a fact of all items is one with these bounds
pub within_numbers : {X : Type 0} (P : ℕ × X → Type 0) (n : ℕ) (xs : List X) (low high : ℕ) → low ≤ n → n + length xs ≤ high → AllByRecursion P (enumerate_from n xs) → AllByRecursion (λ e. (low ≤ e.0) × (e.0 < high) × P e) (enumerate_from n xs)
within_numbers P n [] low high l g h = tt
within_numbers P n (x ∷ xs) low high l g h = ((l, omega (arith, g), h.0), within_numbers P (n + 1) xs low high (omega (arith, l)) (omega (arith, g)) h.1)

-- ---- facts that are tested one by one
-- all that is left passes exactly where all pass
pub record Remains {X : Type 0} (P : X → Type 0) (rest whole : List X) : Type 0 where
  pub up : AllByRecursion P rest → AllByRecursion P whole
  pub down : AllByRecursion P whole → AllByRecursion P rest

pub remains_start : {X : Type 0} (P : X → Type 0) (xs : List X) → Remains P (drop 0 xs) xs
remains_start P xs = record { up = λ h. h; down = λ h. h }

pub remains_next : {X : Type 0} (P : X → Type 0) (xs : List X) (i : ℕ) (d : X) → i < length xs → P (get_or xs i d) → Remains P (drop i xs) xs → Remains P (drop (i + 1) xs) xs
remains_next P xs i d l p r =
    let e : drop i xs ≡ get_or xs i d ∷ drop (i + 1) xs = drop_more xs i d l in
    record { up = λ h. r.up (rw e (p, h)); down = λ h. (rw e at (r.down h)).1 }

pub remains_fail : {X : Type 0} (P : X → Type 0) (xs : List X) (i : ℕ) (d : X) → i < length xs → (P (get_or xs i d) → ⊥) → Remains P (drop i xs) xs → AllByRecursion P xs → ⊥
remains_fail P xs i d l p r h =
    let e : drop i xs ≡ get_or xs i d ∷ drop (i + 1) xs = drop_more xs i d l in
    p (rw e at (r.down h)).0

pub remains_end : {X : Type 0} (P : X → Type 0) (xs : List X) (i : ℕ) → length xs ≤ i → Remains P (drop i xs) xs → AllByRecursion P xs
remains_end P xs i l r = r.up (rw (drop_of_length-le xs l) tt)

-- the same of items with their numbers
pub numbered_remains_next : {X : Type 0} (P : ℕ × X → Type 0) (n : ℕ) (xs : List X) (i k : ℕ) (x : X) (whole : List (ℕ × X)) → i < length xs → k ≡ n + i → x ≡ get_or xs i x → P (k, x) → Remains P (drop i (enumerate_from n xs)) whole → Remains P (drop (i + 1) (enumerate_from n xs)) whole
numbered_remains_next P n xs i k x whole l e s p r =
    let item : (n + i, get_or xs i x) ≡ (k, x) = rw (← e, ← s) refl in
    let here : get_or (enumerate_from n xs) i (0, x) ≡ (k, x) = get_or-enumerate_from n xs i (0, x) l ∙ item in
    let left : drop i (enumerate_from n xs) ≡ (k, x) ∷ drop (i + 1) (enumerate_from n xs) = rw here at (drop_more (enumerate_from n xs) i (0, x) (rw (length-enumerate_from n xs) l)) in
    record { up = λ h. r.up (rw left (p, h)); down = λ h. (rw left at (r.down h)).1 }

pub numbered_remains_fail : {X : Type 0} (P : ℕ × X → Type 0) (n : ℕ) (xs : List X) (i k : ℕ) (x : X) (whole : List (ℕ × X)) → i < length xs → k ≡ n + i → x ≡ get_or xs i x → (P (k, x) → ⊥) → Remains P (drop i (enumerate_from n xs)) whole → AllByRecursion P whole → ⊥
numbered_remains_fail P n xs i k x whole l e s p r h =
    let item : (n + i, get_or xs i x) ≡ (k, x) = rw (← e, ← s) refl in
    let here : get_or (enumerate_from n xs) i (0, x) ≡ (k, x) = get_or-enumerate_from n xs i (0, x) l ∙ item in
    let left : drop i (enumerate_from n xs) ≡ (k, x) ∷ drop (i + 1) (enumerate_from n xs) = rw here at (drop_more (enumerate_from n xs) i (0, x) (rw (length-enumerate_from n xs) l)) in
    p (rw left at (r.down h)).0

pub numbered_remains_end : {X : Type 0} (P : ℕ × X → Type 0) (n : ℕ) (xs : List X) (i : ℕ) (whole : List (ℕ × X)) → length xs ≤ i → Remains P (drop i (enumerate_from n xs)) whole → AllByRecursion P whole
numbered_remains_end P n xs i whole l r =
    let past : length (enumerate_from n xs) ≤ i = rw (length-enumerate_from n xs) l in
    r.up (rw (drop_of_length-le (enumerate_from n xs) past) tt)
