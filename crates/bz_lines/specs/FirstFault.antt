-- The first fault of some lines, each of which is tested by the lines before it.
use Rattle.std.specs.Prelude.{Bool, true, false, ◌≡◌, List, [], ◌∷◌, ◌++◌, Option, Some, None, if◌then◌else◌}
use Rattle.std.specs.List.{AllByRecursion}
use Rattle.bz_lines.specs.LinesBefore.{Follows}

-- A test is whether it fails, and the kind of the fault where it does. No test fails:
abbrev pub NoneFails : {K : Type 0} → List (Bool × K) → Type 0
NoneFails tests = AllByRecursion (λ t. t.0 ≡ false) tests

-- the kind is that of the first test that fails
pub record IsFirstFailing {K : Type 0} (tests : List (Bool × K)) (kind : K) : Type 0 where
  pub before : List (Bool × K)
  pub behind : List (Bool × K)
  pub are : tests ≡ before ++ (true, kind) ∷ behind
  pub passed : NoneFails before

-- no line fails, where some lines stand before all of them
abbrev pub NoLineFails : {L K : Type 0} → (List L → L → List (Bool × K)) → List L → List L → Type 0
NoLineFails tests seen ls = Follows (λ before l. NoneFails (tests before l)) seen ls

-- the line is the first that fails, where some lines stand before all of them, and the kind is that of its first failing test
pub record IsFirstFaultAfter {L K : Type 0} (tests : List L → L → List (Bool × K)) (seen ls : List L) (line : L) (kind : K) : Type 0 where
  pub before : List L
  pub behind : List L
  pub are : ls ≡ before ++ line ∷ behind
  pub passed : NoLineFails tests seen before
  pub failing : IsFirstFailing (tests (seen ++ before) line) kind

-- the same of whole texts
abbrev pub IsFirstFault : {L K : Type 0} → (List L → L → List (Bool × K)) → List L → L → K → Type 0
IsFirstFault tests ls line kind = IsFirstFaultAfter tests [] ls line kind

-- The first fault as a function.

-- the kind of the first test that fails
abbrev pub first_failing : {K : Type 0} → List (Bool × K) → Option K
first_failing [] = None
first_failing (t ∷ ts) = if t.0 then Some t.1 else first_failing ts

-- the fault of the line, where it has one, or else that of the rest
abbrev pub failing_or : {L K : Type 0} → L → Option K → Option (L × K) → Option (L × K)
failing_or line None rest = rest
failing_or line (Some kind) rest = Some (line, kind)

-- the first line that fails, with its kind, where the lines `seen` stand before all of them
abbrev pub first_fault : {L K : Type 0} → (List L → L → List (Bool × K)) → List L → List L → Option (L × K)
first_fault tests seen [] = None
first_fault tests seen (l ∷ ls) = failing_or l (first_failing (tests seen l)) (first_fault tests (seen ++ l ∷ []) ls)
