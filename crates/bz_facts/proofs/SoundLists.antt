-- Lists that grow at their end, and what holds of their items.
use Rattle.std.proofs.Common.{ℕ, suc, ◌+◌, ◌<◌, ◌≤◌, ◌≡◌, refl, sym, ap, ◌∙◌, subst, arith, Bool, true, false, ◌||◌, ◌==◌, not, List, [], ◌∷◌, ◌++◌, length, map, flat_map, None, cond, append_assoc, append-nil}
use Rattle.std.specs.List.{AllByRecursion, IsDistinct, list_any, position_or_len}
use Rattle.std.proofs.lemmas.Bool.{eqb-true, eqb-false, eq-eqb, ne_eqb}
use Rattle.bz_lines.specs.FirstFault.{first_failing}
use Rattle.bz_facts.specs.declared.records.Entry.{Entry}
use Rattle.bz_facts.specs.LineTests.{repeats}
use Rattle.bz_facts.specs.SoundFacts.{NeverFallFrom}

pub all-append : {X : Type 0} (P : X → Type 0) (xs ys : List X) → AllByRecursion P xs → AllByRecursion P ys → AllByRecursion P (xs ++ ys)
all-append P [] ys h k = k
all-append P (x ∷ xs) ys h k = (h.0, all-append P xs ys h.1 k)

pub all-weaker : {X : Type 0} (P Q : X → Type 0) → ((x : X) → P x → Q x) → (xs : List X) → AllByRecursion P xs → AllByRecursion Q xs
all-weaker P Q f [] h = tt
all-weaker P Q f (x ∷ xs) h = (f x h.0, all-weaker P Q f xs h.1)

pub all-map : {X Y : Type 0} (P : X → Type 0) (Q : Y → Type 0) (f : X → Y) → ((x : X) → P x → Q (f x)) → (xs : List X) → AllByRecursion P xs → AllByRecursion Q (map f xs)
all-map P Q f g [] h = tt
all-map P Q f g (x ∷ xs) h = (g x h.0, all-map P Q f g xs h.1)

pub all-of : {X : Type 0} (P : X → Type 0) → ((x : X) → P x) → (xs : List X) → AllByRecursion P xs
all-of P f [] = tt
all-of P f (x ∷ xs) = (f x, all-of P f xs)

-- neither of two
pub or-none : (a b : Bool) → (a || b) ≡ false → (a ≡ false) × (b ≡ false)
or-none true b e = absurd cc
or-none false b e = (refl, e)

pub not-none : (a : Bool) → not a ≡ false → a ≡ true
not-none true e = refl
not-none false e = absurd cc

-- no item is equal to another, where equality goes both ways
pub distinct-push : {X : Type 0} (same : X → X → Bool) → ((x y : X) → same x y ≡ same y x) → (xs : List X) (y : X) → IsDistinct same xs → list_any (same y) xs ≡ false → IsDistinct same (xs ++ y ∷ [])
unfolding IsDistinct
distinct-push same turn [] y h e = (tt, tt)
distinct-push same turn (x ∷ xs) y h e =
    let both = or-none (same y x) (list_any (same y) xs) e in
    (all-append (λ z. same x z ≡ false) xs (y ∷ []) h.0 (turn x y ∙ both.0, tt), distinct-push same turn xs y h.1 both.1)

pub distinct-more : {X : Type 0} (same : X → X → Bool) → ((x y : X) → same x y ≡ same y x) → (xs ys : List X) → IsDistinct same xs → repeats same xs ys ≡ false → IsDistinct same (xs ++ ys)
distinct-more same turn xs [] h e = subst (IsDistinct same) (sym (append-nil xs)) h
distinct-more same turn xs (y ∷ ys) h e =
    let both = or-none (list_any (same y) xs) (repeats same (xs ++ y ∷ []) ys) e in
    subst (IsDistinct same) (append_assoc xs (y ∷ []) ys)
    (distinct-more same turn (xs ++ y ∷ []) ys (distinct-push same turn xs y h both.0) both.1)

pub equal-turned : (a b : ℕ) → (a == b) ≡ (b == a)
equal-turned a b = by (a == b) refl
  where
    by : (t : Bool) → (a == b) ≡ t → t ≡ (b == a)
    by true e = sym (eq-eqb b a (sym (eqb-true a b e)))
    by false e = sym (ne_eqb b a (λ s. eqb-false a b e (sym s)))

-- a name that is there is at a place
pub place-inside : {X : Type 0} (p : X → Bool) (xs : List X) → list_any p xs ≡ true → position_or_len p xs < length xs
place-inside p [] e = absurd cc
place-inside p (x ∷ xs) e = by (p x) (place-inside p xs) e
  where
    by : (b : Bool) → (list_any p xs ≡ true → position_or_len p xs < length xs) → (b || list_any p xs) ≡ true → cond (not b) (1 + position_or_len p xs) 0 < suc (length xs)
    by true rest e = omega arith
    by false rest e = let r = rest e in omega arith

-- and one that is not there would be behind all others
pub place-new : {X : Type 0} (p : X → Bool) (xs : List X) → list_any p xs ≡ false → position_or_len p xs ≡ length xs
place-new p [] e = refl
place-new p (x ∷ xs) e = by (p x) (place-new p xs) e
  where
    by : (b : Bool) → (list_any p xs ≡ false → position_or_len p xs ≡ length xs) → (b || list_any p xs) ≡ false → cond (not b) (1 + position_or_len p xs) 0 ≡ suc (length xs)
    by true rest e = absurd cc
    by false rest e = let r = rest e in omega arith

-- columns that do not fall, and more entries of one column that is not below any
never-fall : (low c : ℕ) (es more : List Entry) → NeverFallFrom low es → AllByRecursion (λ e. e.column ≤ c) es → low ≤ c → AllByRecursion (λ e. e.column ≡ c) more → NeverFallFrom low (es ++ more)
never-fall low c [] [] f a l m = tt
never-fall low c [] (e ∷ more) f a l m =
    (omega (arith, m.0), never-fall e.column c [] more tt tt (omega (arith, m.0)) m.1)
never-fall low c (e ∷ es) more f a l m = (f.0, never-fall e.column c es more f.1 a.1 a.0 m)

pub never-fall-more : (c : ℕ) (es more : List Entry) → NeverFallFrom 0 es → AllByRecursion (λ e. e.column ≤ c) es → AllByRecursion (λ e. e.column ≡ c) more → NeverFallFrom 0 (es ++ more)
never-fall-more c es more f a m = never-fall 0 c es more f a (omega arith) m

-- tests none of which fails, in two parts
front_next : {K : Type 0} (b : Bool) (k : K) (xs ys : List (Bool × K)) → (first_failing (xs ++ ys) ≡ None → (first_failing xs ≡ None) × (first_failing ys ≡ None)) → first_failing ((b, k) ∷ xs ++ ys) ≡ None → (first_failing ((b, k) ∷ xs) ≡ None) × (first_failing ys ≡ None)
front_next true k xs ys rest e = absurd cc
front_next false k xs ys rest e = rest e

pub front-none : {K : Type 0} (xs ys : List (Bool × K)) → first_failing (xs ++ ys) ≡ None → (first_failing xs ≡ None) × (first_failing ys ≡ None)
front-none [] ys e = (refl, e)
front-none (x ∷ xs) ys e = front_next x.0 x.1 xs ys (front-none xs ys) e

pub all-tested : {X K : Type 0} (tests : X → List (Bool × K)) (Q P : X → Type 0) → ((x : X) → Q x → first_failing (tests x) ≡ None → P x) → (xs : List X) → AllByRecursion Q xs → first_failing (flat_map tests xs) ≡ None → AllByRecursion P xs
all-tested tests Q P f [] h e = tt
all-tested tests Q P f (x ∷ xs) h e =
    let both = front-none (tests x) (flat_map tests xs) e in
    (f x h.0 both.0, all-tested tests Q P f xs h.1 both.1)

-- the place of an item behind others that do not pass
pub place-pushed : {X : Type 0} (p : X → Bool) (xs : List X) (y : X) → list_any p xs ≡ false → p y ≡ true → position_or_len p (xs ++ y ∷ []) ≡ length xs
place-pushed p [] y e t = ap (λ b. cond (not b) 1 0) t
place-pushed p (x ∷ xs) y e t = by (p x) (place-pushed p xs y) e
  where
    by : (b : Bool) → (list_any p xs ≡ false → p y ≡ true → position_or_len p (xs ++ y ∷ []) ≡ length xs) → (b || list_any p xs) ≡ false → cond (not b) (1 + position_or_len p (xs ++ y ∷ [])) 0 ≡ suc (length xs)
    by true rest e = absurd cc
    by false rest e = let r = rest e t in omega arith
