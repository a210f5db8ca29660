-- Lemmas on lists.
use Rattle.std.proofs.Common.{Bool, false, IsTrue, ◌↔◌, ◌≡◌, ◌∙◌, List, [], ◌∷◌, ◌++◌, ap, drop, get_or, refl, subst, sym}
use Rattle.std.specs.List.{AllByRecursion}
use Rattle.bz_model.proofs.MeetingParts.{all_append, all_back, all_front}

-- P does not hold of the first item, where there is one
abbrev pub Stops : {X : Type 0} → (X → Type 0) → List X → Type 0
Stops P [] = Unit {0}
Stops P (x ∷ xs) = P x → ⊥

pub same_head : {X : Type 0} (x y : X) (xs ys : List X) → x ∷ xs ≡ y ∷ ys → x ≡ y
same_head x y xs ys e = ap (λ l. get_or l 0 x) e

pub same_tail : {X : Type 0} (x y : X) (xs ys : List X) → x ∷ xs ≡ y ∷ ys → xs ≡ ys
same_tail x y xs ys e = ap (drop 1) e

-- where P holds up to some place and not there, that place is known from the whole
pub same_until : {X : Type 0} (P : X → Type 0) (xs ys us vs : List X) → AllByRecursion P xs → AllByRecursion P ys →
    Stops P us → Stops P vs → xs ++ us ≡ ys ++ vs → (xs ≡ ys) × (us ≡ vs)
same_until P [] [] us vs p q a b e = (refl, e)
same_until P [] (y ∷ ys) us vs p q a b e = absurd (subst (Stops P) e a q.0)
same_until P (x ∷ xs) [] us vs p q a b e = absurd (subst (Stops P) (sym e) b p.0)
same_until P (x ∷ xs) (y ∷ ys) us vs p q a b e =
    let rest : (xs ≡ ys) × (us ≡ vs) = same_until P xs ys us vs p.1 q.1 a b (same_tail x y _ _ e) in
    (ap (λ z. z ∷ xs) (same_head x y _ _ e) ∙ ap (λ zs. y ∷ zs) rest.0, rest.1)

-- what holds of two lists joined holds of each
pub all_apart : {X : Type 0} (P : X → Type 0) (xs ys : List X) → AllByRecursion P (xs ++ ys) → AllByRecursion P xs × AllByRecursion P ys
all_apart P xs ys h = (all_front P xs ys h, all_back P xs ys h)

-- a test of two lists one after the other, where it holds of the first
pub also_second : {X : Type 0} (P : X → Type 0) (xs ys : List X) (b : Bool) → AllByRecursion P xs → (IsTrue b ↔ AllByRecursion P ys) →
    (IsTrue b ↔ AllByRecursion P (xs ++ ys))
also_second P xs ys b h k = (λ t. all_append P xs ys h (k.0 t), λ all. k.1 (all_apart P xs ys all).1)

-- a test of two lists one after the other, where it fails of the first
pub not_first : {X : Type 0} (P : X → Type 0) (xs ys : List X) (b : Bool) → b ≡ false → (IsTrue b ↔ AllByRecursion P xs) →
    (IsTrue b ↔ AllByRecursion P (xs ++ ys))
not_first P xs ys b f k = (λ t. absurd (cc (t, f)), λ all. k.1 (all_apart P xs ys all).0)
