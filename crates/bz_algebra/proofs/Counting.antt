-- Bases with columns below N, no two of them with the same columns, are at most 2 ^ N.
use Rattle.std.specs.Prelude.{ℕ, zero, suc, ◌+◌, ◌^◌, ◌<◌, ◌≤◌, ◌≡◌, Bool, true, false, cond, eqb, List, [], ◌∷◌, length, map}
use Rattle.std.specs.List.{IsDistinct, list_any, AllByRecursion}
use Rattle.std.proofs.Common.{refl, ap, sym, ◌∙◌, arith, inl, inr}
use Rattle.std.proofs.lemmas.Bool.{cases_eq, cases_Bool, eq-eqb, ne_eqb}
use Rattle.std.proofs.lemmas.List.{length-map}
use Rattle.std.proofs.lemmas.Map.Steps.{length-le_from_distinct_below}
use Rattle.std.proofs.Math.Nat.{pow-suc}
use Rattle.bz_algebra.proofs.Bounded.{below_suc}
use Rattle.bz_algebra.specs.Tableaus.{IsWithin, AreAlike, IsNew, NoTwoAlike, AllWithinBound}

-- whether a column stands at one of the first n places
has : ℕ → (ℕ → ℕ) → ℕ → Bool
has zero basis j = false
has (suc n) basis j = cond (eqb (basis n) j) true (has n basis j)

has_at : (n : ℕ) (basis : ℕ → ℕ) (i : ℕ) → i < n → has n basis (basis i) ≡ true
unfolding has
has_at zero basis i b = absurd (omega arith)
has_at (suc n) basis i b = elim (cases_eq (basis n) (basis i)) [
  | inl e ↦ rw (eq-eqb (basis n) (basis i) e)
  | inr d ↦ rw (ne_eqb (basis n) (basis i) d) (has_at n basis i (earlier d))
]
  where
    earlier : (basis n ≡ basis i → ⊥) → i < n
    earlier d = elim (cases_eq i n) [ inl e ↦ absurd (d (ap basis (sym e))) | inr g ↦ omega arith ]

at_has : (n : ℕ) (basis : ℕ → ℕ) (j : ℕ) → has n basis j ≡ true → (k : ℕ) × (k < n) × (basis k ≡ j)
unfolding has
at_has zero basis j h = absurd (cc)
at_has (suc n) basis j h = elim (cases_eq (basis n) j) [
  | inl e ↦ (n, omega arith, e)
  | inr d ↦ let f = at_has n basis j (rw (ne_eqb (basis n) j d) at h) in (f.0, omega (arith, f.1), f.2)
]

-- the number in base 2 whose digit at j says whether the column j is there
number : ℕ → (ℕ → Bool) → ℕ
number zero f = 0
number (suc n) f = number n f + cond (f n) (2 ^ n) 0

doubled : (n : ℕ) → 2 ^ suc n ≡ 2 ^ n + 2 ^ n
doubled n = pow-suc 2 n ∙ omega arith

number_below : (n : ℕ) (f : ℕ → Bool) → number n f < 2 ^ n
unfolding number
number_below zero f = omega arith
number_below (suc n) f = elim (cases_Bool (f n)) [
  | inl e ↦ rw (e, doubled n) (omega (arith, number_below n f))
  | inr e ↦ rw (e, doubled n) (omega (arith, number_below n f))
]

digit : (x y p : ℕ) (a b : Bool) → x < p → y < p → x + cond a p 0 ≡ y + cond b p 0 → (x ≡ y) × (a ≡ b)
digit x y p true true h k e = (omega arith, refl)
digit x y p true false h k e = absurd (omega arith)
digit x y p false true h k e = absurd (omega arith)
digit x y p false false h k e = (omega arith, refl)

-- the number tells the digits
digits : (n : ℕ) (f g : ℕ → Bool) → number n f ≡ number n g → (j : ℕ) → j < n → f j ≡ g j
unfolding number
digits zero f g e = λ j b. absurd (omega arith)
digits (suc n) f g e = let d = digit (number n f) (number n g) (2 ^ n) (f n) (g n) (number_below n f) (number_below n g) e in below_suc n (λ j. f j ≡ g j) (digits n f g d.0) d.1

-- the number of a basis, by its columns at n places
code : ℕ → ℕ → (ℕ → ℕ) → ℕ
code bound n basis = number bound (has n basis)

code_below : (bound n : ℕ) (basis : ℕ → ℕ) → code bound n basis < 2 ^ bound
unfolding code
code_below bound n basis = number_below bound (has n basis)

within : (bound n : ℕ) (basis other : ℕ → ℕ) → ((i : ℕ) → i < n → basis i < bound) → code bound n basis ≡ code bound n other → IsWithin n basis other
unfolding code
within bound n basis other h e i b = at_has n other (basis i) (sym (digits bound (has n basis) (has n other) e (basis i) (h i b)) ∙ has_at n basis i b)

-- bases of one number are alike
alike : (bound n : ℕ) (basis other : ℕ → ℕ) → ((i : ℕ) → i < n → basis i < bound) → ((i : ℕ) → i < n → other i < bound) → code bound n basis ≡ code bound n other → AreAlike n basis other
alike bound n basis other h k e = record { there = within bound n basis other h e; back = within bound n other basis k (sym e) }

apart : (bound n : ℕ) (basis : ℕ → ℕ) (bases : List (ℕ → ℕ)) → ((i : ℕ) → i < n → basis i < bound) → AllWithinBound n bound bases → IsNew n basis bases → AllByRecursion (λ q. eqb (code bound n basis) q ≡ false) (map (code bound n) bases)
apart bound n basis [] h k m = tt
apart bound n basis (other ∷ bases) h k m = (ne_eqb _ _ (λ e. m.0 (alike bound n basis other h k.0 e)), apart bound n basis bases h k.1 m.1)

distinct : (bound n : ℕ) (bases : List (ℕ → ℕ)) → AllWithinBound n bound bases → NoTwoAlike n bases → IsDistinct eqb (map (code bound n) bases)
unfolding IsDistinct
distinct bound n [] k m = tt
distinct bound n (basis ∷ bases) k m = (apart bound n basis bases k.0 k.1 m.0, distinct bound n bases k.1 m.1)

all_below : (bound n : ℕ) (bases : List (ℕ → ℕ)) (q : ℕ) → list_any (eqb q) (map (code bound n) bases) ≡ true → q < 2 ^ bound
all_below bound n [] q h = absurd (cc)
all_below bound n (basis ∷ bases) q h = elim (cases_eq q (code bound n basis)) [
  | inl e ↦ rw e (code_below bound n basis)
  | inr d ↦ all_below bound n bases q (rw (ne_eqb q (code bound n basis) d) at h)
]

-- bases with columns below a bound, no two of them with the same columns, are at most 2 to the bound
pub count_bases : (bound n : ℕ) (bases : List (ℕ → ℕ)) → AllWithinBound n bound bases → NoTwoAlike n bases → length bases ≤ 2 ^ bound
count_bases bound n bases k m = rw (← (length-map bases (code bound n))) (length-le_from_distinct_below (map (code bound n) bases) (2 ^ bound) (distinct bound n bases k m) (all_below bound n bases))
