-- The first item of a list of which a fact does not hold.
use Rattle.std.proofs.Common.{◌≡◌, ◌∙◌, ℕ, zero, suc, ◌+◌, ◌<◌, ◌≤◌, ◌⊎◌, inl, inr, List, [], ◌∷◌, ◌++◌, length, map, take, drop, get_or, arith, ap, refl, subst, sym, zero-add}
use Rattle.std.specs.List.{AllByRecursion, enumerate_from}
use Rattle.std.proofs.lemmas.List.{length-take-le, map-append, length-map, take-append-drop, take_more}
use Rattle.std.proofs.lemmas.List.FromFn.{get_or-enumerate_from}
use Rattle.bz_model.proofs.MeetingParts.{all_append}
use Rattle.bz_model.proofs.Sparse.{left_at}
use Rattle.bz_split.specs.SplitFaults.{IsFirstNot}

same_head : {X : Type 0} (x y : X) (xs ys : List X) → x ∷ xs ≡ y ∷ ys → x ≡ y
same_head x y xs ys e = ap (λ l. get_or l 0 x) e

same_tail : {X : Type 0} (x y : X) (xs ys : List X) → x ∷ xs ≡ y ∷ ys → xs ≡ ys
same_tail x y xs ys e = ap (drop 1) e

-- ---- there is at most one
same_seam : {X : Type 0} (P : X → Type 0) (xs ys us vs : List X) (x y : X) → xs ++ x ∷ us ≡ ys ++ y ∷ vs →
    AllByRecursion P xs → AllByRecursion P ys → (P x → ⊥) → (P y → ⊥) → (length xs ≡ length ys) × (x ≡ y)
same_seam P [] [] us vs x y e p q a b = (refl, same_head x y us vs e)
same_seam P [] (z ∷ zs) us vs x y e p q a b = absurd (a (subst P (sym (same_head x z _ _ e)) q.0))
same_seam P (z ∷ zs) [] us vs x y e p q a b = absurd (b (subst P (same_head z y _ _ e) p.0))
same_seam P (x ∷ xs) (y ∷ ys) us vs u v e p q a b =
    let rest : (length xs ≡ length ys) × (u ≡ v) = same_seam P xs ys us vs u v (same_tail x y _ _ e) p.1 q.1 a b in
    (ap suc rest.0, rest.1)

pub same_first : {X : Type 0} (P : X → Type 0) (xs : List X) (i j : ℕ) (x y : X) →
    IsFirstNot P xs i x → IsFirstNot P xs j y → (i ≡ j) × (x ≡ y)
same_first P xs i j x y h k =
    let both : (length h.before ≡ length k.before) × (x ≡ y) =
    same_seam P h.before k.before h.after k.after x y (sym h.whole ∙ k.whole) h.others k.others h.fails k.fails in
    (sym h.place ∙ both.0 ∙ k.place, both.1)

-- ---- then the fact does not hold of all
seam_holds : {X : Type 0} (P : X → Type 0) (xs us : List X) (x : X) → AllByRecursion P (xs ++ x ∷ us) → P x
seam_holds P [] us x h = h.0
seam_holds P (z ∷ zs) us x h = seam_holds P zs us x h.1

pub not_all : {X : Type 0} (P : X → Type 0) (xs : List X) (i : ℕ) (x : X) → IsFirstNot P xs i x → AllByRecursion P xs → ⊥
not_all P xs i x h k = h.fails (seam_holds P h.before h.after x (subst (AllByRecursion P) h.whole k))

-- ---- where it can be tested, either it holds of all or there is such an item
first_behind : {X : Type 0} (P : X → Type 0) (x : X) (xs : List X) (i : ℕ) (y : X) → P x → IsFirstNot P xs i y → IsFirstNot P (x ∷ xs) (suc i) y
first_behind P x xs i y p h = record {
  before = x ∷ h.before;
  after = h.after;
  whole = ap (λ l. x ∷ l) h.whole;
  place = ap suc h.place;
  others = (p, h.others);
  fails = h.fails;
}

pub all_or_first : {X : Type 0} (P : X → Type 0) → ((x : X) → P x ⊎ (P x → ⊥)) → (xs : List X) →
    AllByRecursion P xs ⊎ ((i : ℕ) × (x : X) × IsFirstNot P xs i x)
all_or_first P d [] = inl tt
all_or_first P d (x ∷ xs) =
    elim (d x) [
      | inl p ↦
          elim (all_or_first P d xs) [
            | inl h ↦ inl (p, h)
            | inr h ↦ inr (suc h.0, h.1, first_behind P x xs h.0 h.1 p h.2)
          ]
      | inr n ↦ inr (0, x, record { before = []; after = xs; whole = refl; place = refl; others = tt; fails = n })
    ]

-- ---- what a loop has found
pub first_found : {X : Type 0} (P : X → Type 0) (xs : List X) (i : ℕ) (d : X) → i < length xs →
    AllByRecursion P (take i xs) → (P (get_or xs i d) → ⊥) → IsFirstNot P xs i (get_or xs i d)
first_found P xs i d l h n = record {
  before = take i xs;
  after = drop (i + 1) xs;
  whole = sym (take-append-drop i xs) ∙ ap (λ ys. take i xs ++ ys) (left_at xs i d l);
  place = length-take-le i xs (omega (arith, l));
  others = h;
  fails = n;
}

-- the same of the item that a loop over the list is at
pub first_item : {X : Type 0} (P : X → Type 0) (xs ys : List X) (i : ℕ) (x : X) → xs ≡ ys → x ≡ get_or xs i x → i < length xs →
    AllByRecursion P (take i xs) → (P x → ⊥) → IsFirstNot P ys i x
first_item P xs ys i x e is l h n =
    let found : IsFirstNot P xs i (get_or xs i x) = first_found P xs i x l h (λ p. n (subst P (sym is) p)) in
    subst (λ (zs : List _). IsFirstNot P zs i x) e (subst (λ (z : _). IsFirstNot P xs i z) (sym is) found)

pub one_more : {X : Type 0} (P : X → Type 0) (xs : List X) (i : ℕ) (d : X) → i < length xs →
    AllByRecursion P (take i xs) → P (get_or xs i d) → AllByRecursion P (take (i + 1) xs)
one_more P xs i d l h p = subst (AllByRecursion P) (sym (take_more xs i d l)) (all_append P (take i xs) _ h (p, tt))

pub all_taken : {X : Type 0} (P : X → Type 0) (xs : List X) (i : ℕ) → length xs ≤ i → AllByRecursion P (take i xs) → AllByRecursion P xs
all_taken P [] zero l h = tt
all_taken P [] (suc i) l h = tt
all_taken P (x ∷ xs) zero l h = absurd (omega (arith, l))
all_taken P (x ∷ xs) (suc i) l h = (h.0, all_taken P xs i (omega (arith, l)) h.1)

-- ---- lists of numbered items
pub numbered_at : {X : Type 0} (xs : List X) (i : ℕ) (x : X) → i < length xs → x ≡ get_or xs i x → (i, x) ≡ get_or (enumerate_from 0 xs) i (i, x)
numbered_at xs i x l is = sym (get_or-enumerate_from 0 xs i (i, x) l ∙ ap (λ (n : ℕ). (n, get_or xs i x)) (zero-add i) ∙ ap (λ (y : _). (i, y)) (sym is))

-- ---- lists that are made of others
pub all_mapped : {X Y : Type 0} (f : X → Y) (P : Y → Type 0) (xs : List X) → AllByRecursion (λ x. P (f x)) xs → AllByRecursion P (map f xs)
all_mapped f P [] h = tt
all_mapped f P (x ∷ xs) h = (h.0, all_mapped f P xs h.1)

pub all_before_map : {X Y : Type 0} (f : X → Y) (P : Y → Type 0) (xs : List X) → AllByRecursion P (map f xs) → AllByRecursion (λ x. P (f x)) xs
all_before_map f P [] h = tt
all_before_map f P (x ∷ xs) h = (h.0, all_before_map f P xs h.1)

pub first_mapped : {X Y : Type 0} (f : X → Y) (P : Y → Type 0) (xs : List X) (i : ℕ) (x : X) →
    IsFirstNot (λ z. P (f z)) xs i x → IsFirstNot P (map f xs) i (f x)
first_mapped f P xs i x h = record {
  before = map f h.before;
  after = map f h.after;
  whole = ap (map f) h.whole ∙ map-append f h.before (x ∷ h.after);
  place = length-map h.before f ∙ h.place;
  others = all_mapped f P h.before h.others;
  fails = h.fails;
}

place_from : {X : Type 0} (n : ℕ) (xs : List X) (before after : List (ℕ × X)) (e : ℕ × X) →
    enumerate_from n xs ≡ before ++ e ∷ after → e.0 ≡ n + length before
place_from n [] [] after e h = absurd (omega (arith, ap length h))
place_from n [] (z ∷ zs) after e h = absurd (omega (arith, ap length h))
place_from n (x ∷ xs) [] after e h = ap (λ (p : ℕ × _). p.0) (sym (same_head (n, x) e _ _ h)) ∙ omega arith
place_from n (x ∷ xs) (z ∷ zs) after e h = omega (arith, place_from (n + 1) xs zs after e (same_tail (n, x) z _ _ h))

-- an item of a list of numbered items has its place as its number
pub place_is : {X : Type 0} (P : ℕ × X → Type 0) (xs : List X) (i : ℕ) (e : ℕ × X) → IsFirstNot P (enumerate_from 0 xs) i e → e.0 ≡ i
place_is P xs i e h = omega (arith, place_from 0 xs h.before h.after e h.whole, h.place)
