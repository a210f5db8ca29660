-- What a reader of a line, or of a part of it, answers by its tests.
use Rattle.std.specs.Prelude.{◌≡◌, Some, None, Result, Ok, Err}
use Rattle.bz_lines.specs.FirstFault.{first_failing}
use Rattle.bz_facts.specs.declared.faults.MpsKind.{MpsKind}
use Rattle.bz_facts.specs.declared.refusals.Refusal.{Refusal}
use Rattle.bz_facts.specs.declared.refusals.Refusal.TheVariants.{Fault, OutOfMemory}
use Rattle.bz_facts.specs.LineTests.{Tests}

-- no test fails and what is answered is so, or the answer is the kind of the first test that fails
abbrev pub Passes : {X : Type 0} → Tests → (X → Type 0) → Result X MpsKind → Type 0
Passes tests Is (Ok x) = (first_failing tests ≡ None) × Is x
Passes tests Is (Err kind) = first_failing tests ≡ Some kind

-- the same where memory may be wanting, which tells nothing of the tests
abbrev pub PassesLine : {X : Type 0} → Tests → (X → Type 0) → Result X Refusal → Type 0
PassesLine tests Is (Ok x) = (first_failing tests ≡ None) × Is x
PassesLine tests Is (Err (Fault kind)) = first_failing tests ≡ Some kind
PassesLine tests Is (Err OutOfMemory) = Unit {0}
