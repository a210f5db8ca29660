-- Tests in their order, and the first that fails.
use Rattle.std.specs.Prelude.{ℕ, zero, suc, ◌≡◌, ◌⊎◌, List, [], ◌∷◌, ◌++◌, Result, Ok, Err}

-- a test: what has to hold, and what is answered where it doesn't
pub record Test (F : Type 0) : Type 1 where
  pub answer : F
  pub holds : Type 0

-- each test holds
abbrev pub AllHold : {F : Type 0} → List (Test F) → Type 0
AllHold [] = Unit {0}
AllHold (t ∷ ts) = t.holds × AllHold ts

-- some test doesn't hold, and f is what the first of these answers
abbrev pub IsFirstFault : {F : Type 0} → List (Test F) → F → Type 0
IsFirstFault [] f = ⊥
IsFirstFault (t ∷ ts) f = ((t.holds → ⊥) × (t.answer ≡ f)) ⊎ (t.holds × IsFirstFault ts f)

-- the tests judge: all hold, or the first fault is answered
abbrev pub Judges : {F T : Type 0} → List (Test F) → Result T F → Type 0
Judges tests (Ok _) = AllHold tests
Judges tests (Err f) = IsFirstFault tests f

-- the same of tests that need memory: want of it is an answer of its own, which no test gives
abbrev pub JudgesUnless : {F T : Type 0} → F → List (Test F) → Result T F → Type 0
JudgesUnless want tests (Ok _) = AllHold tests
JudgesUnless want tests (Err f) = (f ≡ want) ⊎ IsFirstFault tests f

-- the tests with other answers
abbrev pub answered : {F G : Type 0} → (F → G) → List (Test F) → List (Test G)
answered h [] = []
answered h (t ∷ ts) = record { answer = h t.answer; holds = t.holds } ∷ answered h ts

-- one test
abbrev pub test : {F : Type 0} → F → Type 0 → Test F
test answer holds = record { answer = answer; holds = holds }

-- the tests of each number below a bound, rising
abbrev pub each_below : {F : Type 0} → ℕ → (ℕ → List (Test F)) → List (Test F)
each_below zero tests = []
each_below (suc n) tests = each_below n tests ++ tests n

-- the tests of each item, in order
abbrev pub each_of : {F X : Type 0} → (X → List (Test F)) → List X → List (Test F)
each_of tests [] = []
each_of tests (x ∷ xs) = tests x ++ each_of tests xs
