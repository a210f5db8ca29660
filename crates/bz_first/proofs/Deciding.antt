-- Tests that are decided: all hold, or there is a first that doesn't.
use Rattle.std.specs.Prelude.{ℕ, zero, suc, ℤ, ◌≡◌, ◌<◌, ◌≤◌, ◌<ℤ◌, ◌≤ℤ◌, ◌⊎◌, List, [], ◌∷◌, ◌++◌, Option, Some, None, IfSome, Bool, true, false}
use Rattle.std.specs.Bool.{OnTrue}
use Rattle.std.specs.List.{AllByRecursion}
use Rattle.std.proofs.Common.{arith, inl, inr, refl}
use Rattle.std.proofs.lemmas.Bool.{cases_eq, cases_lt}
use Rattle.std.proofs.lemmas.Int.{ints}
use Rattle.bz_first.specs.Tests.{AllHold, IsFirstFault, Test, answered, each_below, each_of}

-- it is so, or it is not
abbrev pub Told : Type 0 → Type 0
Told P = P ⊎ (P → ⊥)

beside : {P Q : Type 0} → P → Told Q → Told (P × Q)
beside p (inl r) = inl (p, r)
beside p (inr n) = inr (λ h. n h.1)

pub both : {P Q : Type 0} → Told P → (P → Told Q) → Told (P × Q)
both (inl p) q = beside p (q p)
both (inr n) q = inr (λ h. n h.0)

pub then_told : {P Q : Type 0} → Told P → Told Q → Told (P → Q)
then_told (inr n) q = inl (λ p. absurd (n p))
then_told (inl p) (inl q) = inl (λ h. q)
then_told (inl p) (inr n) = inr (λ f. n (f p))

-- said in another way
pub told_as : {P Q : Type 0} → (P → Q) → (Q → P) → Told P → Told Q
told_as there back (inl p) = inl (there p)
told_as there back (inr n) = inr (λ q. n (back q))

pub all_told : {X : Type 0} (P : X → Type 0) (xs : List X) → ((x : X) → Told (P x)) → Told (AllByRecursion P xs)
all_told P [] told = inl tt
all_told P (x ∷ xs) told = both (told x) (λ h. all_told P xs told)

pub some_told : {X : Type 0} (P : X → Type 0) (o : Option X) → ((x : X) → Told (P x)) → Told (IfSome o P)
some_told P None told = inl tt
some_told P (Some x) told = told x

pub true_told : (b : Bool) (P : Type 0) → Told P → Told (OnTrue b P)
true_told true P told = told
true_told false P told = inl tt

-- ---- numbers
pub equal_told : (m n : ℕ) → Told (m ≡ n)
equal_told m n = cases_eq m n

pub less_told : (m n : ℕ) → Told (m < n)
less_told m n = by (cases_lt m n)
  where
    by : (m < n) ⊎ (n ≤ m) → Told (m < n)
    by (inl l) = inl l
    by (inr g) = inr (λ l. absurd (omega (arith, l, g)))

pub at_most_told : (m n : ℕ) → Told (m ≤ n)
at_most_told m n = by (cases_lt n m)
  where
    by : (n < m) ⊎ (m ≤ n) → Told (m ≤ n)
    by (inl l) = inr (λ g. absurd (omega (arith, l, g)))
    by (inr g) = inl g

order_of : (a b : ℤ) → (a <ℤ b) ⊎ (b ≤ℤ a)
order_of a b = search (arith, ints)

pub less_told_z : (a b : ℤ) → Told (a <ℤ b)
less_told_z a b = by (order_of a b)
  where
    by : (a <ℤ b) ⊎ (b ≤ℤ a) → Told (a <ℤ b)
    by (inl l) = inl l
    by (inr g) = inr (λ l. absurd (omega (arith, ints, l, g)))

pub at_most_told_z : (a b : ℤ) → Told (a ≤ℤ b)
at_most_told_z a b = by (order_of b a)
  where
    by : (b <ℤ a) ⊎ (a ≤ℤ b) → Told (a ≤ℤ b)
    by (inl l) = inr (λ g. absurd (omega (arith, ints, l, g)))
    by (inr g) = inl g

pub equal_told_z : (a b : ℤ) → Told (a ≡ b)
equal_told_z a b = by (at_most_told_z a b) (at_most_told_z b a)
  where
    by : Told (a ≤ℤ b) → Told (b ≤ℤ a) → Told (a ≡ b)
    by (inl l) (inl g) = inl (omega (arith, ints, l, g))
    by (inl l) (inr n) = inr (λ e. n (omega (arith, ints, e)))
    by (inr n) g = inr (λ e. n (omega (arith, ints, e)))

-- ---- lists of tests
-- each test is decided where those before it hold
abbrev pub AllTold : {F : Type 0} → List (Test F) → Type 0
AllTold [] = Unit {0}
AllTold (t ∷ ts) = Told t.holds × (t.holds → AllTold ts)

pub told_joined : {F : Type 0} (xs ys : List (Test F)) → AllTold xs → (AllHold xs → AllTold ys) → AllTold (xs ++ ys)
told_joined [] ys h g = g tt
told_joined (x ∷ xs) ys h g = (h.0, λ p. told_joined xs ys (h.1 p) (λ a. g (p, a)))

pub told_each : {F X : Type 0} (tests : X → List (Test F)) (xs : List X) → ((x : X) → AllTold (tests x)) → AllTold (each_of tests xs)
told_each tests [] h = tt
told_each tests (x ∷ xs) h = told_joined (tests x) (each_of tests xs) (h x) (λ a. told_each tests xs h)

pub told_below : {F : Type 0} (n : ℕ) (tests : ℕ → List (Test F)) → ((i : ℕ) → AllTold (tests i)) → AllTold (each_below n tests)
told_below zero tests h = tt
told_below (suc n) tests h = told_joined (each_below n tests) (tests n) (told_below n tests h) (λ a. h n)

pub told_answered : {F G : Type 0} (h : F → G) (ts : List (Test F)) → AllTold ts → AllTold (answered h ts)
told_answered h [] t = tt
told_answered h (x ∷ xs) t = (t.0, λ p. told_answered h xs (t.1 p))

-- all hold, or there is a first fault
abbrev pub HoldOrFault : {F : Type 0} → List (Test F) → Type 0
HoldOrFault {F} ts = AllHold ts ⊎ ((f : F) × IsFirstFault ts f)

fault_later : {F : Type 0} (t : Test F) (ts : List (Test F)) → t.holds → HoldOrFault ts → HoldOrFault (t ∷ ts)
fault_later t ts p (inl a) = inl (p, a)
fault_later t ts p (inr g) = inr (g.0, inr (p, g.1))

fault_here : {F : Type 0} (t : Test F) (ts : List (Test F)) → Told t.holds → (t.holds → HoldOrFault ts) → HoldOrFault (t ∷ ts)
fault_here t ts (inl p) rest = fault_later t ts p (rest p)
fault_here t ts (inr n) rest = inr (t.answer, inl (n, refl))

pub hold_or_fault : {F : Type 0} (ts : List (Test F)) → AllTold ts → HoldOrFault ts
hold_or_fault [] h = inl tt
hold_or_fault (t ∷ ts) h = fault_here t ts h.0 (λ p. hold_or_fault ts (h.1 p))
