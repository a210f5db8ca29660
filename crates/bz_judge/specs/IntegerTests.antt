-- The tests of one integer column at the master's point, by its numbers.
use Rattle.std.specs.Prelude.{ℕ, ℤ, pos, ◌≡◌, ◌+◌, ◌*◌, ◌<◌, ◌^◌, ◌*ℤ◌, ◌<ℤ◌, ◌≤ℤ◌, length, List, [], ◌∷◌, Option, Some, None}
use Rattle.bz_model.specs.declared.Master.{Master}
use Rattle.bz_model.specs.Points.{IsWhole}
use Rattle.bz_tree.specs.Boxes.{Box}
use Rattle.bz_first.specs.Tests.{Test, test}
use Rattle.bz_judge.specs.declared.faults.CheckFault.{CheckFault}
use Rattle.bz_judge.specs.declared.faults.CheckFault.TheVariants as fault

-- x / den is whole, at most the upper end, and at least the lower one; the place of its upper side is `at`
abbrev pub between_tests : ℕ → ℤ → ℤ → ℤ → ℤ → List (Test CheckFault)
between_tests at x den lower upper =
    test (fault.Point 0 at) (IsWhole x den)
    ∷ test (fault.Point 0 at) (x ≤ℤ (upper *ℤ den))
    ∷ test (fault.Point 0 (at + 1)) ((lower *ℤ den) ≤ℤ x)
    ∷ []

-- x / den, where it is whole
abbrev pub IsWholeQuotient : ℤ → ℤ → Option ℤ → Type 0
IsWholeQuotient x den (Some quotient) = x ≡ quotient *ℤ den
IsWholeQuotient x den None = IsWhole x den → ⊥

-- the number of an integer column and its position in the master: the point has a number at the position, and the box
-- both ends
pub record IsIntegerOf (master : Master) (box : Box) (sides : ℕ) (e : ℕ × ℕ) : Type 0 where
  pub den : pos 0 <ℤ master.den
  pub place : sides + 2 * e.0 + 1 < 2 ^ 32
  pub position : e.1 < length master.x
  pub lower : e.0 < length box.lower
  pub upper : e.0 < length box.upper
