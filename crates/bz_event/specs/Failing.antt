-- Tests that fail, wherever they stand in their list.
use Rattle.std.specs.Prelude.{◌≡◌, ◌⊎◌, List, [], ◌∷◌}
use Rattle.bz_first.specs.Tests.{Test}
use Rattle.bz_judge.specs.declared.faults.CheckFault.{CheckFault}
use Rattle.bz_judge.specs.declared.faults.CheckFault.TheVariants as fault
use Rattle.bz_judge.specs.PointTests.{Tests}

-- some test of the list doesn't hold and answers f
abbrev pub Fails : {F : Type 0} → List (Test F) → F → Type 0
Fails [] f = ⊥
Fails (t ∷ ts) f = ((t.holds → ⊥) × (t.answer ≡ f)) ⊎ Fails ts f

-- a number is wide
abbrev pub IsWideFault : CheckFault → Type 0
IsWideFault (fault.Wide list at) = Unit {0}
IsWideFault _ = ⊥

-- a number is wide, or there is no memory: no test is broken
abbrev pub IsNoBrokenTest : CheckFault → Type 0
IsNoBrokenTest (fault.Wide list at) = Unit {0}
IsNoBrokenTest fault.OutOfMemory = Unit {0}
IsNoBrokenTest _ = ⊥

-- each test holds but, it may be, those that a number isn't wide
abbrev pub OthersHold : Tests → Type 0
OthersHold [] = Unit {0}
OthersHold (t ∷ ts) = (IsWideFault t.answer ⊎ t.holds) × OthersHold ts
